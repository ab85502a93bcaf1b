-- What a cursor's walk tells of the indices to come.
use Rattle.std.proofs.Common.{◌≡◌, ℕ, ◌<◌, List, [], ◌∷◌, true, ◌&&◌, Option, Some, None, is_some, IsSome, MatchOption, inl, inr, refl, sym, ap, subst, ◌∙◌}
use Rattle.std.proofs.lemmas.Bool.{and_parts, true≢false}
use Rattle.hibitset_sets.specs.BitSet.{SetWithRoom, has_member}
use Rattle.hibitset_sets.specs.Walk.{walk}
use Rattle.specs_layouts.specs.ToCome.{IsToCome}
use Rattle.specs_join.proofs.NewLemmas.{walk-members}
use Rattle.specs_join.specs.Cursor.{IsAt}

-- what a step of a walk gave, of equal lists
pub moved-item : (result : Option ℕ) (left left' rest rest' : List ℕ) → left ≡ left' → rest ≡ rest' → MatchOption result ((left' ≡ []) × (rest' ≡ [])) (λ x. left' ≡ x ∷ rest') → MatchOption result ((left ≡ []) × (rest ≡ [])) (λ x. left ≡ x ∷ rest)
moved-item None left left' rest rest' e f ended = (e ∙ ended.0, f ∙ ended.1)
moved-item (Some x) left left' rest rest' e f is = e ∙ is ∙ ap (λ others. x ∷ others) (sym f)

module _ {V S : Type 0} (value_at : V → ℕ → Option S) (parts : SetWithRoom) (values : V) where
  -- where a walk begins, each index has a part and a value
  pub begun-at : (joins : ℕ → Option S) → ((index : ℕ) → index < 16777216 → IsSome (joins index) → value_at values index ≡ joins index) → (left : List ℕ) → left ≡ walk (λ index. has_member parts index && is_some (joins index)) → (index : ℕ) → IsToCome index left → IsAt value_at parts values index
  begun-at joins agree left begins index come =
      let has = walk-members (λ i. has_member parts i && is_some (joins i)) index (subst (IsToCome index) begins come) in
      let both = and_parts (has_member parts index) (is_some (joins index)) has.0 in
      (both.0, ap is_some (agree index has.1 both.1) ∙ both.1)

  module _ (left : List ℕ) (known : (index : ℕ) → IsToCome index left → IsAt value_at parts values index) (rest : List ℕ) where
    -- what is known of the indices to come is known of those after the next
    pub next-known : (result : Option ℕ) → MatchOption result ((left ≡ []) × (rest ≡ [])) (λ x. left ≡ x ∷ rest) → (index : ℕ) → IsToCome index rest → IsAt value_at parts values index
    next-known None ended index come = absurd (subst (IsToCome index) ended.1 come)
    next-known (Some x) is index come = known index (subst (IsToCome index) (sym is) (inr come))

    pub next-some : (result : Option ℕ) → MatchOption result ((left ≡ []) × (rest ≡ [])) (λ x. left ≡ x ∷ rest) → is_some result ≡ true → (x : ℕ) × ((result ≡ Some x) × IsAt value_at parts values x) × (left ≡ x ∷ rest)
    next-some None ended there = absurd (true≢false (sym there))
    next-some (Some x) is there = (x, (refl, known x (subst (IsToCome x) (sym is) (inl refl))), is)
