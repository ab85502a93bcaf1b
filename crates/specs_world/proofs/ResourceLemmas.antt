-- What becomes of a world's slots where a resource is put and taken back.
use Rattle.std.proofs.Common.{◌≡◌, ℕ, Bool, true, false, cond, Option, Some, None, OnSome, MatchOption, MutBor, Result, Ok, Err, OnOk, OnErr, IsOk, ◌↔◌, is_some, refl, sym, ap, subst, ◌∙◌}
use Rattle.std.proofs.lemmas.Bool.{false≢true}
use Rattle.std.specs.Option.{option_flatten, option_and_then, option_copied_mut}
use Rattle.std.specs.Ordering.{eq_by_cmp}
use Rattle.std.specs.FinMap as map
use Rattle.std.specs.FinMap.{get, insert, get-insert, get-remove, same_map}
use Rattle.shred_world.specs.declared.resource_id.ResourceId.{ResourceId}
use Rattle.shred_world.specs.ResourceIds.{id_cmp, same_id}
use Rattle.shred_world.specs.Worlds.{Slots, value_at, resource_at}
use Rattle.shred_world.proofs.IdLemmas.{exact_ids, ids_total, same_id-is}
use Rattle.shred_world.proofs.WorldLemmas.{insert_same, insert-insert, insert_value_same, get-insert_here, on_some}
use Rattle.shred_world.specs.Bundles.{DefaultsTo, holding_of, readable, slot_of}
use Rattle.specs_entity.specs.Births.{Births, IsAlive, deleted}
use Rattle.specs_entity.specs.declared.ids.Entity.{Entity}
use Rattle.specs_layouts.specs.Masked.{Masked}
use Rattle.specs_world.proofs.DroppingLemmas.{get-insert_other}
use Rattle.specs_world.specs.Resources.{Becomes, IsNew, DeletesLater, without_put}
use Rattle.specs_storage.proofs.PartLemmas.{none-of}

-- a slot is empty where it is there and no value stands in it
empty-slot : {V : Type 0} (slot : Option (Option V)) → is_some slot ≡ true → option_flatten slot ≡ None → slot ≡ Some None
empty-slot None there none = cc
empty-slot (Some None) there none = refl
empty-slot (Some (Some v)) there none = cc

no-slot : {V : Type 0} (slot : Option (Option V)) → is_some slot ≡ false → slot ≡ None
no-slot None there = refl
no-slot (Some slot) there = cc

-- what is put where no slot was, and taken out with its slot, leaves the world
removed-again : {X : Type 0} (w : map.FinMap id_cmp X) (id : ResourceId) (x : X) → get w id ≡ None → map.remove (insert w id x) id ≡ w
removed-again w id x none = same_map ids_total exact_ids _ _ (λ q.
    get-remove ids_total (insert w id x) id q
    ∙ (ap (cond (eq_by_cmp id_cmp q id) None) (get-insert ids_total w id x q) ∙ at q (eq_by_cmp id_cmp q id) (same_id-is q id)))
  where
    at : (q : ResourceId) (same : Bool) → (same ≡ true → q ≡ id) → cond same None (cond same (Some x) (get w q)) ≡ get w q
    at q true is = sym none ∙ ap (get w) (sym (is refl))
    at q false is = refl

-- what is put where no value stood, and taken out again, leaves the world
pub put-back-out : {V : Type 0} (w : Slots V) (id : ResourceId) (v : V) (had_slot : Bool) → had_slot ≡ is_some (get w id) → value_at w id ≡ None
    → without_put (insert w id (Some v)) id had_slot ≡ w
put-back-out w id v true had none = insert-insert w id (Some v) None ∙ insert_same w id None (empty-slot (get w id) (sym had) none)
put-back-out w id v false had none = removed-again w id (Some v) (no-slot (get w id) (sym had))

module _ {V R : Type 0} (part : V → Option R) (wrapped : R → V) where
  -- the value in which a resource is seen
  pub resource-value : ((value : V) (resource : R) → part value ≡ Some resource → value ≡ wrapped resource) → (w : Slots V) (id : ResourceId) (r : R)
      → resource_at part w id ≡ Some r → value_at w id ≡ Some (wrapped r)
  resource-value only w id r there = at (value_at w id) there
    where
      at : (o : Option V) → option_and_then part o ≡ Some r → o ≡ Some (wrapped r)
      at None e = cc
      at (Some v) e = ap Some (only v r e)

  -- a resource that was put is seen
  pub resource-put : ((resource : R) → part (wrapped resource) ≡ Some resource) → (w : Slots V) (id : ResourceId) (r : R) → resource_at part (insert w id (Some (wrapped r))) id ≡ Some r
  resource-put seen w id r = ap (λ slot. option_and_then part (option_flatten slot)) (get-insert_here w id (Some (wrapped r))) ∙ seen r

  module _ (w w' : Slots V) (id : ResourceId) (lent : Option (MutBor R)) (value : MutBor R) (left : R) (is : lent ≡ Some value) (stood : option_copied_mut lent ≡ resource_at part w id)
      (leaves : OnSome lent (w' ≡ insert w id (Some (wrapped left)))) where
    -- a resource that was lent for writing is what was left of it
    pub lent-becomes : (change : R → R → Type 0) → change value.now left → Becomes (record { part = part; wrapped = wrapped; id = id }) change w w'
    lent-becomes change changed = (value.now, left, sym stood ∙ ap option_copied_mut is, changed, on_some lent value _ is leaves)

    -- where it was left as it was, so was the world
    pub lent-same : ((value : V) (resource : R) → part value ≡ Some resource → value ≡ wrapped resource) → left ≡ value.now → w' ≡ w
    lent-same only same =
        on_some lent value _ is leaves
        ∙ insert_value_same w id (wrapped left) (resource-value only w id left (sym stood ∙ ap option_copied_mut is ∙ ap Some (sym same)))

-- a default was put where no value stood
pub default-put : {V R : Type 0} (IsDefault : R → Type 0) (wrapped : R → V) (id : ResourceId) (w w' : Slots V) (r : R) → value_at w id ≡ None → IsDefault r → w' ≡ insert w id (Some (wrapped r))
    → DefaultsTo IsDefault wrapped id w w'
default-put {V} {R} IsDefault wrapped id w w' r none is put =
    subst (λ o. MatchOption o ((r : R) × IsDefault r × (w' ≡ insert w id (Some (wrapped r)))) (λ (_ : V). w' ≡ w)) (sym none) (r, is, put)

-- where a value stands no default is put
pub default-there : {V R : Type 0} (IsDefault : R → Type 0) (wrapped : R → V) (id : ResourceId) (w : Slots V) → is_some (value_at w id) ≡ true → DefaultsTo IsDefault wrapped id w w
default-there {V} {R} IsDefault wrapped id w there = at (value_at w id) there
  where
    at : (o : Option V) → is_some o ≡ true → MatchOption o ((r : R) × IsDefault r × (w ≡ insert w id (Some (wrapped r)))) (λ _. w ≡ w)
    at None e = cc
    at (Some v) e = refl

-- a resource that is there is there after a value was put where none stood
pub resource-kept : {V R : Type 0} (part : V → Option R) (w : Slots V) (id : ResourceId) (v : V) (other : ResourceId) → value_at w id ≡ None → is_some (resource_at part w other) ≡ true
    → is_some (resource_at part (insert w id (Some v)) other) ≡ true
resource-kept {V} part w id v other none there = at (same_id other id) refl
  where
    at : (b : Bool) → same_id other id ≡ b → is_some (resource_at part (insert w id (Some v)) other) ≡ true
    at true same = absurd (false≢true (sym (ap (λ q. is_some (resource_at part w q)) (same_id-is other id same) ∙ ap (λ o. is_some (option_and_then part o)) none) ∙ there))
    at false apart = ap (λ slot. is_some (option_and_then part (option_flatten slot))) (get-insert_other w id (Some v) other apart) ∙ there

-- a default by one rule is one by a weaker rule
pub default-weaker : {V R : Type 0} (One Other : R → Type 0) (wrapped : R → V) (id : ResourceId) (w w' : Slots V) → ((r : R) → One r → Other r) → DefaultsTo One wrapped id w w' → DefaultsTo Other wrapped id w w'
default-weaker {V} {R} One Other wrapped id w w' weaker = at (value_at w id)
  where
    at : (o : Option V) → MatchOption o ((r : R) × One r × (w' ≡ insert w id (Some (wrapped r)))) (λ _. w' ≡ w) → MatchOption o ((r : R) × Other r × (w' ≡ insert w id (Some (wrapped r)))) (λ _. w' ≡ w)
    at None made = (made.0, weaker made.0 made.1, made.2)
    at (Some v) same = same

-- a storage over a layout that is a default is a new one
pub is-new : {S T : Type 0} (is_default : S → Type 0) (part_at : S → ℕ → Option T) (layout : S) → is_default layout → (storage : Masked S) → IsNew (λ made. made ≡ layout) part_at storage → IsNew is_default part_at storage
is-new is_default part_at layout default storage made = record { layout = subst is_default (sym made.layout) default; parts = made.parts }

-- a value that was taken out and put back leaves the world
pub taken-and-put : {V : Type 0} (w out w' : Slots V) (id : ResourceId) (taken back : V) → Some taken ≡ value_at w id → out ≡ insert w id None → back ≡ taken → w' ≡ insert out id (Some back) → w' ≡ w
taken-and-put w out w' id taken back stood taken_out same put =
    put ∙ ap (λ m. insert m id (Some back)) taken_out ∙ insert-insert w id None (Some back) ∙ insert_value_same w id back (sym stood ∙ ap Some (sym same))

-- of two answers, one where something is so and one where it isn't
two-ways : {A T E P Q : Type 0} (r : Result T E) → OnOk r P → OnErr r Q → (IsOk r ↔ A) → (A → P) × (¬ A → Q)
two-ways (Ok t) p q same = (λ _. p, λ no. absurd (no (same.0 refl)))
two-ways (Err e) p q same = (λ a. absurd (false≢true (same.1 a)), λ _. q)

-- entities that were lent, and asked to delete one
pub lent-deletes : {V T E : Type 0} (part : V → Option Births) (wrapped : Births → V) (w w' : Slots V) (id : ResourceId) (lent : Option (MutBor Births)) (value : MutBor Births) (left : Births)
    → lent ≡ Some value → option_copied_mut lent ≡ resource_at part w id → OnSome lent (w' ≡ insert w id (Some (wrapped left)))
    → ((value : V) (resource : Births) → part value ≡ Some resource → value ≡ wrapped resource) → (entity : Entity) (r : Result T E)
    → OnOk r (left ≡ deleted value.now entity.id) → OnErr r (left ≡ value.now) → (IsOk r ↔ IsAlive value.now entity) → DeletesLater (record { part = part; wrapped = wrapped; id = id }) entity w w'
lent-deletes {V} part wrapped w w' id lent value left is stood leaves only entity r ok err same =
    let put = on_some lent value _ is leaves in
    let ways = two-ways r ok err same in
    subst
    (λ o. MatchOption o (w' ≡ w) (λ was. (IsAlive was entity → w' ≡ insert w id (Some (wrapped (deleted was entity.id)))) × (¬ (IsAlive was entity) → w' ≡ w)))
    (sym (sym stood ∙ ap option_copied_mut is))
    (λ alive. put ∙ ap (λ b. insert w id (Some (wrapped b))) (ways.0 alive), λ dead. lent-same part wrapped w w' id lent value left is stood leaves only (ways.1 dead))

slot-as : {V : Type 0} (one other : Option (Option V)) → slot_of one ≡ slot_of other → one ≡ other
slot-as None None e = refl
slot-as None (Some None) e = cc
slot-as None (Some (Some v)) e = cc
slot-as (Some None) None e = cc
slot-as (Some None) (Some None) e = refl
slot-as (Some None) (Some (Some v)) e = cc
slot-as (Some (Some u)) None e = cc
slot-as (Some (Some u)) (Some None) e = cc
slot-as (Some (Some u)) (Some (Some v)) e = ap Some (ap readable e)

-- worlds that hold the same are the same
pub held-same : {V : Type 0} (w w' : Slots V) → holding_of w' ≡ holding_of w → w' ≡ w
held-same w w' e = same_map ids_total exact_ids w' w (λ q. slot-as (get w' q) (get w q) (ap (λ h. h q) e))
