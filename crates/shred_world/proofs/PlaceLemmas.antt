-- What a search among slots in the order of their ids finds, and what an edit at that place leaves.
use Rattle.std.proofs.Common.{◌≡◌, ℕ, zero, suc, ◌+◌, ◌<◌, Bool, true, false, cond, List, [], ◌∷◌, length, get_or, set, insert, remove, None, Some, Result, Ok, Err, IfOk, IfErr, inl, inr, refl, sym, ap, subst, ◌∙◌, arith}
use Rattle.std.specs.declared.cmp.Ordering.TheVariants.{Less, Greater}
use Rattle.std.specs.Ordering.{is_eq, is_lt, ordering_reverse}
use Rattle.std.specs.List.{AllByRecursion, HoldsAt}
use Rattle.std.specs.List.Sorted.{IsSearchInRange, IsBinarySearchResult, IsNonDecreasingBy, IsStrictlySortedBy}
use Rattle.std.specs.Ordering.{ordering_index}
use Rattle.std.specs.Map.{lookup, keys_of}
use Rattle.std.proofs.Math.ListN.{get_or-map}
use Rattle.std.proofs.lemmas.Bool.{cases_lt, false≢true}
use Rattle.std.proofs.lemmas.List.Sorted.{searchable_from_sorted}
use Rattle.std.proofs.lemmas.Map.{lookup-none}
use Rattle.std.proofs.lemmas.Map.Keys.{Less-from_sorted, IsDistinct-from_sorted}
use Rattle.std.proofs.lemmas.Map.Entries.{length-keys_of, none_past_head}
use Rattle.shred_world.specs.declared.resource_id.ResourceId.{ResourceId}
use Rattle.shred_world.specs.ResourceIds.{id_cmp, same_id}
use Rattle.shred_world.specs.Places.{AreSorted, IsPlaceOf, IsGapFor, IsStartOf}
use Rattle.shred_world.proofs.IdLemmas.{exact_ids, ids_total, same_id_equiv, same_id-is, same_id-itself}

-- an id is compared the other way round
flipped : (one other : ResourceId) → id_cmp one other ≡ ordering_reverse (id_cmp other one)
flipped one other = ids_total.antisymm one other

not_both : Less ≡ Greater → ⊥
not_both e = cc

-- of two ids one is less at most
one_is_less : (one other : ResourceId) → id_cmp one other ≡ Less → id_cmp other one ≡ Less → ⊥
one_is_less one other less more = not_both (sym less ∙ flipped one other ∙ ap ordering_reverse more)

-- an id isn't one that is less
unlike_lesser : (id other : ResourceId) → id_cmp other id ≡ Less → same_id id other ≡ false
unlike_lesser id other less = ap is_eq (flipped id other ∙ ap ordering_reverse less)

unlike_greater : (id other : ResourceId) → id_cmp other id ≡ Greater → same_id id other ≡ false
unlike_greater id other greater = ap is_eq (flipped id other ∙ ap ordering_reverse greater)

-- of two looks for different ids either may come first
past_head : {Y : Type 0} (q id other : ResourceId) (x y z : Y) → same_id id other ≡ false → cond (same_id q other) x (cond (same_id q id) y z) ≡ cond (same_id q id) y (cond (same_id q other) x z)
past_head q id other x y z differ = by (same_id q other) (same_id q id) refl refl
  where
    by : (a b : Bool) → same_id q other ≡ a → same_id q id ≡ b → cond a x (cond b y z) ≡ cond b y (cond a x z)
    by true true here there =
        let one : id ≡ other = sym (same_id-is q id there) ∙ same_id-is q other here in
        absurd (false≢true (sym differ ∙ subst (λ k. same_id id k ≡ true) one (same_id-itself id)))
    by true false here there = refl
    by false true here there = refl
    by false false here there = refl

-- of two looks for one id the first counts
pub hidden : {A : Type 0} (b : Bool) (x y z : A) → cond b x (cond b y z) ≡ cond b x z
hidden true x y z = refl
hidden false x y z = refl

module _ {X : Type 0} where
  rises : (slots : List (ResourceId × X)) → AreSorted slots → (i j : ℕ) (d : ResourceId × X) → i < j → j < length slots → id_cmp (get_or slots i d).0 (get_or slots j d).0 ≡ Less
  rises slots sorted i j d below within =
      let long = length-keys_of slots in
      let less = Less-from_sorted id_cmp (keys_of slots) i j d.0 sorted below (omega (arith, long, within)) in
      ap (λ k. id_cmp k (get_or slots j d).0) (sym (get_or-map (λ (slot : ResourceId × X). slot.0) slots i d))
      ∙ ap (id_cmp (get_or (keys_of slots) i d.0)) (sym (get_or-map (λ (slot : ResourceId × X). slot.0) slots j d)) ∙ less

  searchable : (slots : List (ResourceId × X)) → AreSorted slots → (id : ResourceId) → IsNonDecreasingBy (λ slot. ordering_index (id_cmp slot.0 id)) slots
  searchable slots sorted id = searchable_from_sorted ids_total (λ slot. slot.0) slots id (λ k d low high.
      ap is_lt (flipped (get_or slots (k + 1) d).0 (get_or slots k d).0 ∙ ap ordering_reverse (rises slots sorted k (k + 1) d (omega arith) high)))

  -- a search ends at the slot of the id, or at the gap for it
  pub searched : (slots : List (ResourceId × X)) → AreSorted slots → (id : ResourceId) (found : Result ℕ ℕ) → IsSearchInRange found (length slots)
      → IsBinarySearchResult (λ slot. id_cmp slot.0 id) slots found → IfOk found (IsPlaceOf slots id) × IfErr found (IsGapFor slots id)
  searched slots sorted id (Ok place) within equal = (record { in_range = within; has = λ d. exact_ids _ _ (equal d) }, tt)
  searched slots sorted id (Err place) within parted = (tt, record { in_range = within; parted = parted (searchable slots sorted id) })

  -- the slots before the place have lesser ids
  abbrev pub HasLesserBefore : List (ResourceId × X) → ResourceId → ℕ → Type 0
  HasLesserBefore slots id place = (j : ℕ) (d : ResourceId × X) → j < place → id_cmp (get_or slots j d).0 id ≡ Less

  pub lesser_before_place : (slots : List (ResourceId × X)) → AreSorted slots → (id : ResourceId) (place : ℕ) → IsPlaceOf slots id place → HasLesserBefore slots id place
  lesser_before_place slots sorted id place here j d below = ap (id_cmp (get_or slots j d).0) (sym (here.has d)) ∙ rises slots sorted j place d below here.in_range

  pub lesser_before_gap : (slots : List (ResourceId × X)) (id : ResourceId) (place : ℕ) → IsGapFor slots id place → HasLesserBefore slots id place
  lesser_before_gap slots id place gap j d below = gap.parted.0 j d (omega arith) below

  -- the place of the id is where its slot and greater ids begin, and so is its gap
  pub starts_at_place : (slots : List (ResourceId × X)) → AreSorted slots → (id : ResourceId) (place : ℕ) → IsPlaceOf slots id place → IsStartOf slots id place
  starts_at_place slots sorted id place here = record {
    in_range = omega (arith, here.in_range);
    parted = (
      λ j d low high. lesser_before_place slots sorted id place here j d high,
      λ j d low high less. elim (cases_lt place j) [
        | inl below ↦ one_is_less id (get_or slots j d).0 (ap (λ k. id_cmp k (get_or slots j d).0) (sym (here.has d)) ∙ rises slots sorted place j d below high) less
        | inr above ↦ let same : j ≡ place = omega (arith, low, above) in
            let itself = subst (λ k. id_cmp k id ≡ Less) (ap (λ i. (get_or slots i d).0) same ∙ here.has d) less in one_is_less id id itself itself
      ],
    );
  }

  pub starts_at_gap : (slots : List (ResourceId × X)) (id : ResourceId) (place : ℕ) → IsGapFor slots id place → IsStartOf slots id place
  starts_at_gap slots id place gap = record {
    in_range = gap.in_range;
    parted = (gap.parted.0, λ j d low high less. not_both (sym less ∙ gap.parted.1 j d low high));
  }

  pub lesser_later : (slot : ResourceId × X) (slots : List (ResourceId × X)) (id : ResourceId) (place : ℕ) → HasLesserBefore (slot ∷ slots) id (suc place) → HasLesserBefore slots id place
  lesser_later slot slots id place before j d below = before (suc j) d (omega arith)

  unlike_head : (slot : ResourceId × X) (slots : List (ResourceId × X)) (id : ResourceId) (place : ℕ) → HasLesserBefore (slot ∷ slots) id (suc place) → same_id id slot.0 ≡ false
  unlike_head slot slots id place before = unlike_lesser id slot.0 (before zero slot (omega arith))

  -- what stands at the place of the id is found
  pub lookup_here : (slots : List (ResourceId × X)) (id : ResourceId) (place : ℕ) (d : ResourceId × X) → place < length slots → HasLesserBefore slots id place → HoldsAt (λ slot. slot.0 ≡ id) slots place
      → lookup (same_id id) slots ≡ Some (get_or slots place d).1
  lookup_here [] id place d within before has = absurd (omega arith)
  lookup_here (slot ∷ slots) id zero d within before has =
      ap (λ b. cond b (Some slot.1) (lookup (same_id id) slots)) (ap (same_id id) (has slot) ∙ same_id-itself id)
  lookup_here (slot ∷ slots) id (suc place) d within before has =
      ap (λ b. cond b (Some slot.1) (lookup (same_id id) slots)) (unlike_head slot slots id place before)
      ∙ lookup_here slots id place d (omega arith) (lesser_later slot slots id place before) has

  unfound : (slots : List (ResourceId × X)) (id : ResourceId) → ((j : ℕ) (d : ResourceId × X) → j < length slots → same_id id (get_or slots j d).0 ≡ false) → lookup (same_id id) slots ≡ None
  unfound [] id unlike = refl
  unfound (slot ∷ slots) id unlike =
      ap (λ b. cond b (Some slot.1) (lookup (same_id id) slots)) (unlike zero slot (omega arith)) ∙ unfound slots id (λ j d within. unlike (suc j) d (omega arith))

  -- an id that has a gap isn't found
  pub lookup_gap : (slots : List (ResourceId × X)) (id : ResourceId) (place : ℕ) → IsGapFor slots id place → lookup (same_id id) slots ≡ None
  lookup_gap slots id place gap = unfound slots id (λ j d within. elim (cases_lt j place) [
    | inl below ↦ unlike_lesser id (get_or slots j d).0 (gap.parted.0 j d (omega arith) below)
    | inr above ↦ unlike_greater id (get_or slots j d).0 (gap.parted.1 j d above within)
  ])

  -- a slot that is put in at the place is found under its id, and any other as before
  pub lookup_put : (slots : List (ResourceId × X)) (id : ResourceId) (place : ℕ) (x : X) → HasLesserBefore slots id place → (q : ResourceId)
      → lookup (same_id q) (insert slots place (id, x)) ≡ cond (same_id q id) (Some x) (lookup (same_id q) slots)
  lookup_put slots id zero x before q = refl
  lookup_put [] id (suc place) x before q = refl
  lookup_put (slot ∷ slots) id (suc place) x before q =
      ap (cond (same_id q slot.0) (Some slot.1)) (lookup_put slots id place x (lesser_later slot slots id place before) q)
      ∙ past_head q id slot.0 (Some slot.1) (Some x) (lookup (same_id q) slots) (unlike_head slot slots id place before)

  -- so is one that is written over the slot of the id
  pub lookup_set : (slots : List (ResourceId × X)) (id : ResourceId) (place : ℕ) (x : X) → place < length slots → HasLesserBefore slots id place → HoldsAt (λ slot. slot.0 ≡ id) slots place → (q : ResourceId)
      → lookup (same_id q) (set slots place (id, x)) ≡ cond (same_id q id) (Some x) (lookup (same_id q) slots)
  lookup_set [] id place x within before has q = absurd (omega arith)
  lookup_set (slot ∷ slots) id zero x within before has q =
      sym (ap (λ k. cond (same_id q id) (Some x) (cond (same_id q k) (Some slot.1) (lookup (same_id q) slots))) (has slot) ∙ hidden (same_id q id) (Some x) (Some slot.1) (lookup (same_id q) slots))
  lookup_set (slot ∷ slots) id (suc place) x within before has q =
      ap (cond (same_id q slot.0) (Some slot.1)) (lookup_set slots id place x (omega arith) (lesser_later slot slots id place before) has q)
      ∙ past_head q id slot.0 (Some slot.1) (Some x) (lookup (same_id q) slots) (unlike_head slot slots id place before)

  none_later : (slot : ResourceId × X) (slots : List (ResourceId × X)) → AreSorted (slot ∷ slots) → (q : ResourceId) → same_id q slot.0 ≡ true → lookup (same_id q) slots ≡ None
  none_later slot slots sorted q same = lookup-none (same_id q) slots (none_past_head same_id_equiv q slot slots (IsDistinct-from_sorted id_cmp (keys_of (slot ∷ slots)) sorted) same)

  sorted_later : (slot : ResourceId × X) (slots : List (ResourceId × X)) → AreSorted (slot ∷ slots) → AreSorted slots
  unfolding IsStrictlySortedBy
  sorted_later slot slots sorted = sorted.1

  -- a slot that is taken out isn't found, and any other is as before
  pub lookup_without : (slots : List (ResourceId × X)) (id : ResourceId) (place : ℕ) → AreSorted slots → place < length slots → HasLesserBefore slots id place → HoldsAt (λ slot. slot.0 ≡ id) slots place → (q : ResourceId)
      → lookup (same_id q) (remove slots place) ≡ cond (same_id q id) None (lookup (same_id q) slots)
  lookup_without [] id place sorted within before has q = absurd (omega arith)
  lookup_without (slot ∷ slots) id zero sorted within before has q = by (same_id q id) (same_id q slot.0) refl (ap (same_id q) (has slot))
    where
      by : (a b : Bool) → same_id q slot.0 ≡ b → b ≡ a → lookup (same_id q) slots ≡ cond a None (cond b (Some slot.1) (lookup (same_id q) slots))
      by true b same e = none_later slot slots sorted q (same ∙ e)
      by false true same e = absurd (false≢true (sym e))
      by false false same e = refl
  lookup_without (slot ∷ slots) id (suc place) sorted within before has q =
      ap (cond (same_id q slot.0) (Some slot.1)) (lookup_without slots id place (sorted_later slot slots sorted) (omega arith) (lesser_later slot slots id place before) has q)
      ∙ past_head q id slot.0 (Some slot.1) None (lookup (same_id q) slots) (unlike_head slot slots id place before)

  all_put : (P : ResourceId → Type 0) (slots : List (ResourceId × X)) (place : ℕ) (slot : ResourceId × X) → AllByRecursion P (keys_of slots) → P slot.0 → AllByRecursion P (keys_of (insert slots place slot))
  all_put P slots zero slot all one = (one, all)
  all_put P [] (suc place) slot all one = (one, tt)
  all_put P (first ∷ slots) (suc place) slot all one = (all.0, all_put P slots place slot all.1 one)

  all_without : (P : ResourceId → Type 0) (slots : List (ResourceId × X)) (place : ℕ) → AllByRecursion P (keys_of slots) → AllByRecursion P (keys_of (remove slots place))
  all_without P [] zero all = tt
  all_without P [] (suc place) all = tt
  all_without P (first ∷ slots) zero all = all.1
  all_without P (first ∷ slots) (suc place) all = (all.0, all_without P slots place all.1)

  pub all_at : (P : ResourceId → Type 0) (slots : List (ResourceId × X)) → ((j : ℕ) (d : ResourceId × X) → j < length slots → P (get_or slots j d).0) → AllByRecursion P (keys_of slots)
  all_at P [] at = tt
  all_at P (slot ∷ slots) at = (at zero slot (omega arith), all_at P slots (λ j d within. at (suc j) d (omega arith)))

  gap_later : (slot : ResourceId × X) (slots : List (ResourceId × X)) (id : ResourceId) (place : ℕ) → IsGapFor (slot ∷ slots) id (suc place) → IsGapFor slots id place
  gap_later slot slots id place gap = record {
    in_range = omega (arith, gap.in_range);
    parted = (λ j d low high. gap.parted.0 (suc j) d (omega arith) (omega arith), λ j d low high. gap.parted.1 (suc j) d (omega arith) (omega arith));
  }

  -- the order stays with a slot that is put into its gap,
  pub sorted_put : (slots : List (ResourceId × X)) (id : ResourceId) (place : ℕ) (x : X) → AreSorted slots → IsGapFor slots id place → AreSorted (insert slots place (id, x))
  unfolding IsStrictlySortedBy
  sorted_put slots id zero x sorted gap =
      (all_at (λ k. id_cmp id k ≡ Less) slots (λ j d within. flipped id (get_or slots j d).0 ∙ ap ordering_reverse (gap.parted.1 j d (omega arith) within)), sorted)
  sorted_put [] id (suc place) x sorted gap = absurd (omega (arith, gap.in_range))
  sorted_put (slot ∷ slots) id (suc place) x sorted gap = (
    all_put (λ k. id_cmp slot.0 k ≡ Less) slots place (id, x) sorted.0 (gap.parted.0 zero slot (omega arith) (omega arith)),
    sorted_put slots id place x sorted.1 (gap_later slot slots id place gap),
  )

  -- without any slot,
  pub sorted_without : (slots : List (ResourceId × X)) (place : ℕ) → AreSorted slots → AreSorted (remove slots place)
  unfolding IsStrictlySortedBy
  sorted_without [] zero sorted = tt
  sorted_without [] (suc place) sorted = tt
  sorted_without (slot ∷ slots) zero sorted = sorted.1
  sorted_without (slot ∷ slots) (suc place) sorted = (all_without (λ k. id_cmp slot.0 k ≡ Less) slots place sorted.0, sorted_without slots place sorted.1)

  same_keys : (slots : List (ResourceId × X)) (id : ResourceId) (place : ℕ) (x : X) → HoldsAt (λ slot. slot.0 ≡ id) slots place → keys_of (set slots place (id, x)) ≡ keys_of slots
  same_keys [] id place x has = refl
  same_keys (slot ∷ slots) id zero x has = ap (λ k. k ∷ keys_of slots) (sym (has slot))
  same_keys (slot ∷ slots) id (suc place) x has = ap (λ keys. slot.0 ∷ keys) (same_keys slots id place x has)

  -- and with another value in the slot of an id
  pub sorted_set : (slots : List (ResourceId × X)) (id : ResourceId) (place : ℕ) (x : X) → AreSorted slots → HoldsAt (λ slot. slot.0 ≡ id) slots place → AreSorted (set slots place (id, x))
  sorted_set slots id place x sorted has = subst (IsStrictlySortedBy id_cmp) (sym (same_keys slots id place x has)) sorted
