-- What a world has at an id whose slot stands at a place, or has a gap there, and what an edit of its slots makes of it.
use Rattle.std.proofs.Common.{◌≡◌, ℕ, Bool, true, false, cond, List, [], ◌∷◌, get_or, set, insert, remove, None, Some, refl, sym, ap, subst, ◌∙◌}
use Rattle.std.proofs.lemmas.Bool.{false≢true}
use Rattle.std.specs.Prelude.{is_some}
use Rattle.std.specs.FinMap as map
use Rattle.std.specs.FinMap.{FinMap, from_entries, get}
use Rattle.std.specs.Map.{lookup}
use Rattle.std.specs.List.Sorted.{IsStrictlySortedBy}
use Rattle.shred_world.specs.declared.resource_id.ResourceId.{ResourceId}
use Rattle.shred_world.specs.ResourceIds.{id_cmp, same_id}
use Rattle.shred_world.specs.Places.{AreSorted, IsPlaceOf, IsGapFor}
use Rattle.shred_world.proofs.IdLemmas.{same_id-is}
use Rattle.shred_world.proofs.PlaceLemmas.{lesser_before_place, lesser_before_gap, lookup_here, lookup_gap, lookup_put, lookup_set, lookup_without, sorted_put, sorted_set}
use Rattle.shred_world.proofs.WorldLemmas.{slot_at, one_put, one_removed}

-- no slots stand in order
pub sorted_none : {X : Type 0} (slots : List (ResourceId × X)) → slots ≡ [] → AreSorted slots
unfolding IsStrictlySortedBy
sorted_none [] none = tt
sorted_none (slot ∷ slots) none = cc

-- slots stand in order after a try that put one in or left them
pub sorted_after : {X : Type 0} (accepted : Bool) (new put old : List (ResourceId × X)) → new ≡ cond accepted put old → AreSorted put → AreSorted old → AreSorted new
sorted_after true new put old e sorted was = subst AreSorted (sym e) sorted
sorted_after false new put old e sorted was = subst AreSorted (sym e) was

module _ {X : Type 0} (slots : List (ResourceId × X)) (sorted : AreSorted slots) (w : FinMap id_cmp X) (made : from_entries slots ≡ w) (id : ResourceId) (place : ℕ) where
  -- what stands at the place is the slot of the id
  pub at_place : IsPlaceOf slots id place → (d : ResourceId × X) → get w id ≡ Some (get_or slots place d).1
  at_place here d = slot_at slots w id made ∙ lookup_here slots id place d here.in_range (lesser_before_place slots sorted id place here) here.has

  -- an id with a gap has none
  pub at_gap : IsGapFor slots id place → get w id ≡ None
  at_gap gap = slot_at slots w id made ∙ lookup_gap slots id place gap

  -- an id that has no slot has no place
  pub no_place : X → get w id ≡ None → IsPlaceOf slots id place → ⊥
  no_place x absent here = false≢true (ap is_some (sym absent ∙ at_place here (id, x)))

  pub put_in_gap : IsGapFor slots id place → (x : X) → from_entries (insert slots place (id, x)) ≡ map.insert w id x
  put_in_gap gap x = one_put slots (insert slots place (id, x)) id x (lookup_put slots id place x (lesser_before_gap slots id place gap)) ∙ ap (λ m. map.insert m id x) made

  pub sorted_in_gap : IsGapFor slots id place → (x : X) → AreSorted (insert slots place (id, x))
  sorted_in_gap gap x = sorted_put slots id place x sorted gap

  pub set_at_place : IsPlaceOf slots id place → (other : ResourceId) → other ≡ id → (x : X) → from_entries (set slots place (other, x)) ≡ map.insert w id x
  set_at_place here other same x =
      ap (λ k. from_entries (set slots place (k, x))) same
      ∙ one_put slots (set slots place (id, x)) id x (lookup_set slots id place x here.in_range (lesser_before_place slots sorted id place here) here.has) ∙ ap (λ m. map.insert m id x) made

  pub sorted_at_place : IsPlaceOf slots id place → (other : ResourceId) → other ≡ id → (x : X) → AreSorted (set slots place (other, x))
  sorted_at_place here other same x = subst (λ k. AreSorted (set slots place (k, x))) (sym same) (sorted_set slots id place x sorted here.has)

  pub without_place : IsPlaceOf slots id place → from_entries (remove slots place) ≡ map.remove w id
  without_place here =
      one_removed slots (remove slots place) id (lookup_without slots id place sorted here.in_range (lesser_before_place slots sorted id place here) here.has) ∙ ap (λ m. map.remove m id) made

  -- to take out what isn't there changes nothing
  pub without_gap : IsGapFor slots id place → w ≡ map.remove w id
  without_gap gap = sym made ∙ one_removed slots slots id (λ q. unseen q (same_id q id) refl) ∙ ap (λ m. map.remove m id) made
    where
      unseen : (q : ResourceId) (b : Bool) → same_id q id ≡ b → lookup (same_id q) slots ≡ cond b None (lookup (same_id q) slots)
      unseen q true same = ap (λ k. lookup (same_id k) slots) (same_id-is q id same) ∙ lookup_gap slots id place gap
      unseen q false same = refl
