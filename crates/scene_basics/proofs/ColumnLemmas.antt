-- Parts of the five kinds in the values of a world.
use Rattle.std.proofs.Common.{◌≡◌, ℕ, ℤ, Bool, true, false, cond, eqb, List, [], ◌∷◌, map, length, Option, Some, None, Result, Ok, Err, is_some, refl, ap, sym, ◌∙◌, subst}
use Rattle.std.specs.Prelude.{IsSome, OnOk, option_map, slice_get}
use Rattle.std.specs.Option.{option_flatten}
use Rattle.std.specs.FinMap as slots
use Rattle.std.specs.FinSet as set
use Rattle.std.specs.Ordering.{nat_cmp}
use Rattle.std.proofs.lemmas.Bool.{true≢false, false≢true, eqb-true, eq-eqb}
use Rattle.shred_world.specs.declared.resource_id.ResourceId.{ResourceId}
use Rattle.shred_world.specs.ResourceIds.{same_id}
use Rattle.shred_world.specs.Worlds.{Slots, value_at}
use Rattle.shred_world.proofs.CallerLemmas.{ids_total}
use Rattle.specs_entity.specs.Life.{LifeAt}
use Rattle.specs_layouts.specs.Masked.{Agrees}
use Rattle.specs_layouts.specs.Parts.{Puts, HasNone}
use Rattle.scene_model.specs.Parts.{Name, is_among}
use Rattle.scene_world.specs.Changes.{but_at}
use Rattle.scene_world.specs.Putting.{named_in, part_read, each_there, AreReadAt, PutsIn, Registers}
use Rattle.scene_world.proofs.CallerLemmas.{HasColumn, each-same, each-none, each-mapped}
use Rattle.scene_basics.specs.Names.{bond_kind, hp_kind, owner_kind, pos_kind, vel_kind, reference_kinds}
use Rattle.scene_basics.specs.Numbers.{counting, referring, part_of}
use Rattle.scene_basics.specs.Values.{Numbers, Owners, whole_at, owner_at}
use Rattle.scene_basics.specs.Columns.{part_id, whole_stored, owner_stored, number_column, number_events, number_emits, owner_column, owner_events, owner_emits, basic_columns}
use Rattle.scene_basics.specs.Registering.{HasNumbers, HasOwners}
use Rattle.scene_basics.specs.Apart.{each-kind}
use Rattle.scene_basics.specs.declared.data.Datum.{Datum}
use Rattle.scene_basics.specs.declared.data.Datum.TheVariants.{Whole as DatumWhole}
use Rattle.scene_basics.specs.declared.values.Owner.{Owner}
use Rattle.scene_basics.specs.declared.values.Whole.{Whole}
use Rattle.scene_basics.specs.declared.values.Value.{Value}
use Rattle.scene_basics.specs.declared.values.Value.TheVariants.{NumbersValue, OwnersValue}

-- what is put at an index is there alone, whatever is made of it
put-at : {A B : Type 0} (f : A → B) (before after : ℕ → Option A) (index : ℕ) (part : A) → Puts before index (Some part) after
    → (at : ℕ) → option_map f (after at) ≡ but_at index (Some (f part)) (λ i. option_map f (before i)) at
put-at f before after index part puts at = by (eqb at index) refl
  where
    by : (b : Bool) → eqb at index ≡ b → option_map f (after at) ≡ cond (eqb at index) (Some (f part)) (option_map f (before at))
    by true e = ap (λ i. option_map f (after i)) (eqb-true at index e) ∙ ap (option_map f) puts.here ∙ sym (ap (λ b. cond b (Some (f part)) (option_map f (before at))) e)
    by false e = ap (option_map f) (puts.others at (λ same. true≢false (sym (eq-eqb at index same) ∙ e))) ∙ sym (ap (λ b. cond b (Some (f part)) (option_map f (before at))) e)

-- a list of one is its first
pub one-alone : {A : Type 0} (xs : List A) (x : A) → length xs ≡ 1 → Some x ≡ slice_get xs 0 → (x ∷ []) ≡ xs
one-alone [] x one first = cc
one-alone (y ∷ []) x one first = cc
one-alone (y ∷ z ∷ zs) x one first = cc

-- an owner that is put in names its entity, and its id is written for it
pub put-owner : (before after : Owners) (index id : ℕ) (entity : LifeAt) → Puts (owner_at before) index (Some (record { 0 = entity })) (owner_at after)
    → PutsIn owner_column index (referring id) (entity ∷ []) (OwnersValue before) (OwnersValue after)
put-owner before after index id entity puts = record {
  one = owner_stored (record { 0 = entity });
  is = record { names = refl; writes = refl };
  there = put-at owner_stored (owner_at before) (owner_at after) index (record { 0 = entity }) puts;
}

-- a number that is put in names nobody
pub put-number : (before after : Numbers) (index : ℕ) (number : ℤ) → Puts (whole_at before) index (Some (record { 0 = number })) (whole_at after)
    → PutsIn number_column index (counting number) [] (NumbersValue before) (NumbersValue after)
put-number before after index number puts = record {
  one = whole_stored (record { 0 = number });
  is = record { names = refl; writes = refl };
  there = put-at whole_stored (whole_at before) (whole_at after) index (record { 0 = number }) puts;
}

-- what follows where something was done
pub where-done : {T E P Q : Type 0} (outcome : Result T E) → (P → Q) → OnOk outcome P → OnOk outcome Q
where-done (Ok value) follows done = follows done
where-done (Err error) follows done = tt

-- storages of the five kinds that are put in one after the other are registered
module _ (w with_bonds with_hp with_owners with_pos later : Slots Value) (zero : HasOwners (part_id bond_kind) w with_bonds) (one : HasNumbers (part_id hp_kind) with_bonds with_hp)
    (two : HasOwners (part_id owner_kind) with_hp with_owners)
    (three : HasNumbers (part_id pos_kind) with_owners with_pos) (four : HasNumbers (part_id vel_kind) with_pos later) where
  -- what stands at an id after one more was put in
  with-one : (v : Value) (id : ResourceId) (was is : Slots Value) → is ≡ slots.insert was id (Some v) → (q : ResourceId) → slots.get is q ≡ cond (same_id q id) (Some (Some v)) (slots.get was q)
  with-one v id was is put q = ap (λ m. slots.get m q) put ∙ slots.get-insert ids_total was id (Some v) q

  abbrev last : ResourceId → Option (Option Value)
  last q = cond (same_id q (part_id vel_kind)) (Some (Some (NumbersValue four.numbers)))
      (cond (same_id q (part_id pos_kind)) (Some (Some (NumbersValue three.numbers)))
      (cond (same_id q (part_id owner_kind)) (Some (Some (OwnersValue two.owners)))
      (cond (same_id q (part_id hp_kind)) (Some (Some (NumbersValue one.numbers)))
      (cond (same_id q (part_id bond_kind)) (Some (Some (OwnersValue zero.owners))) (slots.get w q)))))

  stands : (q : ResourceId) → slots.get later q ≡ last q
  stands q =
      with-one (NumbersValue four.numbers) (part_id vel_kind) with_pos later four.put q
      ∙ ap (cond (same_id q (part_id vel_kind)) (Some (Some (NumbersValue four.numbers))))
      (with-one (NumbersValue three.numbers) (part_id pos_kind) with_owners with_pos three.put q
      ∙ ap (cond (same_id q (part_id pos_kind)) (Some (Some (NumbersValue three.numbers))))
      (with-one (OwnersValue two.owners) (part_id owner_kind) with_hp with_owners two.put q
      ∙ ap (cond (same_id q (part_id owner_kind)) (Some (Some (OwnersValue two.owners))))
      (with-one (NumbersValue one.numbers) (part_id hp_kind) with_bonds with_hp one.put q
      ∙ ap (cond (same_id q (part_id hp_kind)) (Some (Some (NumbersValue one.numbers))))
      (with-one (OwnersValue zero.owners) (part_id bond_kind) w with_bonds zero.put q))))

  -- what stands under a kind stores nothing
  empty-numbers : (kind : Name) → is_among kind reference_kinds ≡ false → (numbers : Numbers) → HasNone (whole_at numbers) → slots.get later (part_id kind) ≡ Some (Some (NumbersValue numbers))
      → (v : Value) → value_at later (part_id kind) ≡ Some v → (index : ℕ) → basic_columns.stored kind v index ≡ None
  empty-numbers kind other numbers none there v e index =
      let same : NumbersValue numbers ≡ v = let h : Some (NumbersValue numbers) ≡ Some v = sym (ap option_flatten there) ∙ e in cc in
      ap (λ b. cond b (owner_column v index) (number_column v index)) other
      ∙ subst (λ x. number_column x index ≡ None) same (ap (option_map whole_stored) (none index))

  empty-owners : (kind : Name) → is_among kind reference_kinds ≡ true → (owners : Owners) → HasNone (owner_at owners) → slots.get later (part_id kind) ≡ Some (Some (OwnersValue owners))
      → (v : Value) → value_at later (part_id kind) ≡ Some v → (index : ℕ) → basic_columns.stored kind v index ≡ None
  empty-owners kind refers owners none there v e index =
      let same : OwnersValue owners ≡ v = let h : Some (OwnersValue owners) ≡ Some v = sym (ap option_flatten there) ∙ e in cc in
      ap (λ b. cond b (owner_column v index) (number_column v index)) refers
      ∙ subst (λ x. owner_column x index ≡ None) same (ap (option_map owner_stored) (none index))

  abbrev IsThere : Name → Type 0
  IsThere kind = IsSome (value_at later (part_id kind))

  abbrev IsBare : Name → Type 0
  IsBare kind = (v : Value) → value_at later (part_id kind) ≡ Some v → (index : ℕ) → basic_columns.stored kind v index ≡ None

  there-at : (id : ResourceId) (v : Value) → slots.get later id ≡ Some (Some v) → IsSome (value_at later id)
  there-at id v e = subst (λ o. IsSome (option_flatten o)) (sym e) refl

  pub registers-all : Registers basic_columns w later
  registers-all = record {
    there = each-kind IsThere
        (there-at (part_id bond_kind) (OwnersValue zero.owners) (stands (part_id bond_kind)))
        (there-at (part_id hp_kind) (NumbersValue one.numbers) (stands (part_id hp_kind)))
        (there-at (part_id owner_kind) (OwnersValue two.owners) (stands (part_id owner_kind)))
        (there-at (part_id pos_kind) (NumbersValue three.numbers) (stands (part_id pos_kind)))
        (there-at (part_id vel_kind) (NumbersValue four.numbers) (stands (part_id vel_kind)));
    empty = λ kind v known. each-kind IsBare
        (empty-owners bond_kind refl zero.owners zero.none (stands (part_id bond_kind)))
        (empty-numbers hp_kind refl one.numbers one.none (stands (part_id hp_kind)))
        (empty-owners owner_kind refl two.owners two.none (stands (part_id owner_kind)))
        (empty-numbers pos_kind refl three.numbers three.none (stands (part_id pos_kind)))
        (empty-numbers vel_kind refl four.numbers four.none (stands (part_id vel_kind))) kind known v;
    others = λ id apart. stands id ∙ elsewhere id (same_id id (part_id vel_kind)) (same_id id (part_id pos_kind)) (same_id id (part_id owner_kind)) (same_id id (part_id hp_kind)) (same_id id (part_id bond_kind))
        (apart vel_kind refl) (apart pos_kind refl) (apart owner_kind refl) (apart hp_kind refl) (apart bond_kind refl);
  }
    where
      elsewhere : (id : ResourceId) (a b c d z : Bool) → a ≡ false → b ≡ false → c ≡ false → d ≡ false → z ≡ false
          → cond a (Some (Some (NumbersValue four.numbers))) (cond b (Some (Some (NumbersValue three.numbers))) (cond c (Some (Some (OwnersValue two.owners))) (cond d (Some (Some (NumbersValue one.numbers)))
          (cond z (Some (Some (OwnersValue zero.owners))) (slots.get w id))))) ≡ slots.get w id
      elsewhere id false false false false false e f g h l = refl
      elsewhere id true b c d z e f g h l = absurd (true≢false e)
      elsewhere id false true c d z e f g h l = absurd (true≢false f)
      elsewhere id false false true d z e f g h l = absurd (true≢false g)
      elsewhere id false false false true z e f g h l = absurd (true≢false h)
      elsewhere id false false false false true e f g h l = absurd (true≢false l)

-- ---- columns that are read at once

-- under a kind of numbers nobody is named, and what is found is what stands there
pub numbers-read : (kind : Name) (numbers : Numbers) (entities : List (ℕ × ℕ)) (found : List (ℕ × Option Datum)) → is_among kind reference_kinds ≡ false
    → each_there (λ datum. datum) found ≡ each_there (λ index. option_map (λ (whole : Whole). DatumWhole whole.0) (whole_at numbers index)) entities → AreReadAt part_of (basic_columns.stored kind (NumbersValue numbers)) entities found
numbers-read kind numbers entities found apart are = record {
  nobody = λ index. ap (λ b. named_in (cond b (owner_column (NumbersValue numbers) index) (number_column (NumbersValue numbers) index))) apart ∙ none (whole_at numbers index);
  read =
      each-mapped part_of (λ datum. datum) found ∙ ap (map (λ (one : ℕ × Datum). (one.0, part_of one.1))) are
      ∙ sym (each-mapped part_of (λ index. option_map (λ (whole : Whole). DatumWhole whole.0) (whole_at numbers index)) entities)
      ∙ each-same _ (λ index. option_map (part_read []) (basic_columns.stored kind (NumbersValue numbers) index))
      (λ index. same (whole_at numbers index) ∙ ap (λ b. option_map (part_read []) (cond b (owner_column (NumbersValue numbers) index) (number_column (NumbersValue numbers) index))) (sym apart)) entities;
}
  where
    none : (o : Option Whole) → named_in (option_map whole_stored o) ≡ []
    none None = refl
    none (Some whole) = refl

    same : (o : Option Whole) → option_map part_of (option_map (λ (whole : Whole). DatumWhole whole.0) o) ≡ option_map (part_read []) (option_map whole_stored o)
    same None = refl
    same (Some whole) = refl

-- where the mask has no index, no owner stands there
pub no-owner-at : (kind : Name) (owners : Owners) → is_among kind reference_kinds ≡ true → Agrees owners.mask (owner_at owners) → (index : ℕ) → set.contains owners.mask.members index ≡ false → basic_columns.stored kind (OwnersValue owners) index ≡ None
no-owner-at kind owners is agree index off =
    ap (λ b. cond b (owner_column (OwnersValue owners) index) (number_column (OwnersValue owners) index)) is ∙ ap (option_map owner_stored) (by (owner_at owners index) refl)
  where
    by : (o : Option Owner) → owner_at owners index ≡ o → owner_at owners index ≡ None
    by None e = e
    by (Some owner) e = absurd (false≢true (sym off ∙ agree index ∙ ap is_some e))

-- under an empty mask no owner stands anywhere
pub no-owners : (kind : Name) (owners : Owners) → is_among kind reference_kinds ≡ true → Agrees owners.mask (owner_at owners) → owners.mask.members ≡ set.empty → (index : ℕ) → basic_columns.stored kind (OwnersValue owners) index ≡ None
no-owners kind owners is agree none index = no-owner-at kind owners is agree index (ap (λ members. set.contains members index) none ∙ set.contains-empty nat_cmp index)

-- so nothing is found there
pub nothing-read : (kind : Name) (owners : Owners) (entities : List (ℕ × ℕ)) (found : List (ℕ × Option Datum)) → ((index : ℕ) → basic_columns.stored kind (OwnersValue owners) index ≡ None) → found ≡ []
    → AreReadAt part_of (basic_columns.stored kind (OwnersValue owners)) entities found
nothing-read kind owners entities found none are = record {
  nobody = λ index. ap named_in (none index);
  read = ap (each_there (option_map part_of)) are ∙ sym (each-none _ (λ index. ap (option_map (part_read [])) (none index)) entities);
}

-- the column and the events of numbers are those of their storage
pub has-numbers : (v : Value) (numbers : Numbers) → v ≡ NumbersValue numbers → HasColumn whole_stored number_column number_events number_emits v numbers
has-numbers v numbers is = subst (λ one. HasColumn whole_stored number_column number_events number_emits one numbers) (sym is) (record { parts = λ index. refl; log_is = refl; tells_is = refl })

-- the column and the events of owners are those of their storage
pub has-owners : (v : Value) (owners : Owners) → v ≡ OwnersValue owners → HasColumn owner_stored owner_column owner_events owner_emits v owners
has-owners v owners is = subst (λ one. HasColumn owner_stored owner_column owner_events owner_emits one owners) (sym is) (record { parts = λ index. refl; log_is = refl; tells_is = refl })
