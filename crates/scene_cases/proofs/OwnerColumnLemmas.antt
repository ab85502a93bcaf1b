-- Parts of the two kinds in the values of a world.
use Rattle.std.proofs.Common.{◌≡◌, ℕ, Bool, true, false, cond, eqb, List, [], ◌∷◌, length, Option, Some, None, refl, ap, sym, ◌∙◌, subst}
use Rattle.std.specs.Prelude.{IsSome, option_map, slice_get}
use Rattle.std.specs.Option.{option_flatten}
use Rattle.std.specs.Str.{bytes_eq}
use Rattle.std.specs.FinMap as slots
use Rattle.std.proofs.lemmas.Bool.{true≢false, eqb-true, eq-eqb}
use Rattle.shred_world.specs.declared.resource_id.ResourceId.{ResourceId}
use Rattle.shred_world.specs.ResourceIds.{same_id}
use Rattle.shred_world.specs.Worlds.{Slots, value_at}
use Rattle.shred_world.proofs.CallerLemmas.{get-insert_here, ids_total}
use Rattle.specs_entity.specs.Life.{LifeAt}
use Rattle.specs_layouts.specs.Parts.{Puts, HasNone}
use Rattle.scene_world.specs.Changes.{but_at}
use Rattle.scene_world.proofs.CallerLemmas.{HasColumn}
use Rattle.scene_world.specs.Putting.{PutsIn, Registers}
use Rattle.scene_cases.specs.Holdings.{Owners, Ranks, owner_at, rank_at, owner_id, rank_id}
use Rattle.scene_cases.specs.Owning.{owner_name, rank_name, owner_stored, rank_stored, owned_by, ranked, owner_column, rank_column, owning_columns, owner_events, owner_emits, rank_events, rank_emits}
use Rattle.scene_cases.specs.declared.commands.values.Value.{Value}
use Rattle.scene_cases.specs.declared.commands.values.Value.TheVariants.{OwnerValue, RankValue}

-- what is put at an index is there alone, whatever is made of it
put-at : {A B : Type 0} (f : A → B) (before after : ℕ → Option A) (index : ℕ) (part : A) → Puts before index (Some part) after
    → (at : ℕ) → option_map f (after at) ≡ but_at index (Some (f part)) (λ i. option_map f (before i)) at
put-at f before after index part puts at = by (eqb at index) refl
  where
    by : (b : Bool) → eqb at index ≡ b → option_map f (after at) ≡ cond (eqb at index) (Some (f part)) (option_map f (before at))
    by true e = ap (λ i. option_map f (after i)) (eqb-true at index e) ∙ ap (option_map f) puts.here ∙ sym (ap (λ b. cond b (Some (f part)) (option_map f (before at))) e)
    by false e = ap (option_map f) (puts.others at (λ same. true≢false (sym (eq-eqb at index same) ∙ e))) ∙ sym (ap (λ b. cond b (Some (f part)) (option_map f (before at))) e)

-- a list of one is its first
pub one-alone : {A : Type 0} (xs : List A) (x : A) → length xs ≡ 1 → Some x ≡ slice_get xs 0 → (x ∷ []) ≡ xs
one-alone [] x one first = cc
one-alone (y ∷ []) x one first = cc
one-alone (y ∷ z ∷ zs) x one first = cc

-- an owner that is put in names its entity, and its id is written for it
pub put-owner : (before after : Owners) (index id : ℕ) (entity : LifeAt) → Puts (owner_at before) index (Some (record { 0 = entity })) (owner_at after)
    → PutsIn owner_column index (owned_by id) (entity ∷ []) (OwnerValue before) (OwnerValue after)
put-owner before after index id entity puts = record {
  one = owner_stored (record { 0 = entity });
  is = record { names = refl; writes = refl };
  there = put-at owner_stored (owner_at before) (owner_at after) index (record { 0 = entity }) puts;
}

-- a rank that is put in names nobody
pub put-rank : (before after : Ranks) (index number : ℕ) → Puts (rank_at before) index (Some (record { 0 = number })) (rank_at after)
    → PutsIn rank_column index (ranked number) [] (RankValue before) (RankValue after)
put-rank before after index number puts = record {
  one = rank_stored (record { 0 = number });
  is = record { names = refl; writes = refl };
  there = put-at rank_stored (rank_at before) (rank_at after) index (record { 0 = number }) puts;
}

module _ (w : Slots Value) (owners : Owners) (ranks : Ranks) where
  abbrev with_owners : Slots Value
  with_owners = slots.insert w owner_id (Some (OwnerValue owners))

  abbrev both : Slots Value
  both = slots.insert with_owners rank_id (Some (RankValue ranks))

  -- what stands at the ids of the two kinds
  at-owners : slots.get both owner_id ≡ Some (Some (OwnerValue owners))
  at-owners = slots.get-insert ids_total with_owners rank_id (Some (RankValue ranks)) owner_id ∙ get-insert_here w owner_id (Some (OwnerValue owners))

  at-ranks : slots.get both rank_id ≡ Some (Some (RankValue ranks))
  at-ranks = get-insert_here with_owners rank_id (Some (RankValue ranks))

  -- at each other id is what was there
  elsewhere : (id : ResourceId) → same_id id owner_id ≡ false → same_id id rank_id ≡ false → slots.get both id ≡ slots.get w id
  elsewhere id four five =
      slots.get-insert ids_total with_owners rank_id (Some (RankValue ranks)) id
      ∙ ap (λ b. cond b (Some (Some (RankValue ranks))) (slots.get with_owners id)) five
      ∙ slots.get-insert ids_total w owner_id (Some (OwnerValue owners)) id
      ∙ ap (λ b. cond b (Some (Some (OwnerValue owners))) (slots.get w id)) four

  -- storages without parts that are put in are registered
  pub registers-both : HasNone (owner_at owners) → HasNone (rank_at ranks) → Registers owning_columns w both
  registers-both no_owner no_rank = record {
    there = λ kind known. there (bytes_eq kind owner_name);
    empty = λ kind v known e. empty (bytes_eq kind owner_name) v e;
    others = λ id apart. elsewhere id (apart owner_name refl) (apart rank_name refl);
  }
    where
      there : (b : Bool) → IsSome (value_at both (cond b owner_id rank_id))
      there true = subst (λ o. IsSome (option_flatten o)) (sym at-owners) refl
      there false = subst (λ o. IsSome (option_flatten o)) (sym at-ranks) refl

      empty : (b : Bool) (v : Value) → value_at both (cond b owner_id rank_id) ≡ Some v → (index : ℕ) → cond b (owner_column v index) (rank_column v index) ≡ None
      empty true v e index =
          let same : OwnerValue owners ≡ v = let h : Some (OwnerValue owners) ≡ Some v = sym (ap option_flatten at-owners) ∙ e in cc in
          subst (λ x. owner_column x index ≡ None) same (ap (option_map owner_stored) (no_owner index))
      empty false v e index =
          let same : RankValue ranks ≡ v = let h : Some (RankValue ranks) ≡ Some v = sym (ap option_flatten at-ranks) ∙ e in cc in
          subst (λ x. rank_column x index ≡ None) same (ap (option_map rank_stored) (no_rank index))

-- the column and the events of owners are those of their storage
pub has-owners : (v : Value) (owners : Owners) → v ≡ OwnerValue owners → HasColumn owner_stored owner_column owner_events owner_emits v owners
has-owners v owners is = subst (λ one. HasColumn owner_stored owner_column owner_events owner_emits one owners) (sym is) (record { parts = λ index. refl; log_is = refl; tells_is = refl })

-- the column and the events of ranks are those of their storage
pub has-ranks : (v : Value) (ranks : Ranks) → v ≡ RankValue ranks → HasColumn rank_stored rank_column rank_events rank_emits v ranks
has-ranks v ranks is = subst (λ one. HasColumn rank_stored rank_column rank_events rank_emits one ranks) (sym is) (record { parts = λ index. refl; log_is = refl; tells_is = refl })
