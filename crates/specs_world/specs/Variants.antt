-- Values of several kinds as storages of any kind: what one with a storage in it drops, and that one with none stays.
use Rattle.std.proofs.Common.{◌≡◌, ℕ, Bool, true, false, not, ◌&&◌, eqb, List, [], ◌++◌, Option, refl, ap, subst, ◌∙◌}
use Rattle.std.specs.List.{list_any}
use Rattle.specs_layouts.specs.Channels.{Log}
use Rattle.specs_layouts.specs.declared.track.ComponentEvent.{ComponentEvent}
use Rattle.specs_layouts.specs.Drops.{DropsAll}
use Rattle.specs_layouts.specs.Masked.{Masked}

-- a storage dropped the parts of these indices, one after the other, each was told, and the emission stays
abbrev pub drops_of : {S T : Type 0} → (S → ℕ → Option T) → (S → Log ComponentEvent) → (S → Bool) → Masked S → List ℕ → Masked S → Type 0
drops_of part_at events emits was indices now = DropsAll (part_at was.inner) (events was.inner) (emits was.inner) indices (part_at now.inner) (events now.inner) (emits now.inner)

-- the storage in a value dropped the parts of these indices, and the value holds it still
abbrev pub DropsWithin : {V S : Type 0} → (S → V) → (S → List ℕ → S → Type 0) → S → List ℕ → V → Type 0
DropsWithin {S = S} wrapped drops was indices after = (now : S) × (after ≡ wrapped now) × drops was indices now

module _ {V S : Type 0} (wrapped : S → V) (drops : S → List ℕ → S → Type 0) (value_drops : V → List ℕ → V → Type 0) where
  -- nothing is dropped for an empty list
  pub within-none : ((s : S) → drops s [] s) → (s : S) → DropsWithin wrapped drops s [] (wrapped s)
  within-none none s = (s, refl, none s)

  -- drops of one list and then of another are those of both
  pub within-append : ((s : S) (indices : List ℕ) (after : V) → value_drops (wrapped s) indices after → DropsWithin wrapped drops s indices after)
      → ((first second third : S) (indices others : List ℕ) → drops first indices second → drops second others third → drops first (indices ++ others) third)
      → (was : S) (second third : V) (indices others : List ℕ) → DropsWithin wrapped drops was indices second → value_drops second others third → DropsWithin wrapped drops was (indices ++ others) third
  within-append is append was second third indices others one other =
      let then = is one.0 others third (subst (λ v. value_drops v others third) one.1 other) in
      (then.0, then.1, append was one.0 then.0 indices others one.2 then.2)

-- a value without a storage stays
pub stays-append : {V : Type 0} (value_drops : V → List ℕ → V → Type 0) (value second third : V) (others : List ℕ) → (value_drops value others third → third ≡ value)
    → second ≡ value → value_drops second others third → third ≡ value
stays-append value_drops value second third others is one other = is (subst (λ v. value_drops v others third) one other)

-- the indices that have a part after a storage in a value dropped some
pub within-parts : {V S : Type 0} (has_part : V → ℕ → Bool) (wrapped : S → V) (part : S → ℕ → Bool) → ((s : S) (index : ℕ) → has_part (wrapped s) index ≡ part s index) → (was now : S) (after : V) (indices : List ℕ)
    → after ≡ wrapped now → (index : ℕ) → part now index ≡ (not (list_any (eqb index) indices) && part was index) → has_part after index ≡ (not (list_any (eqb index) indices) && part was index)
within-parts has_part wrapped part same was now after indices is index dropped = ap (λ v. has_part v index) is ∙ same now index ∙ dropped

-- a value without a storage has no part
pub stays-parts : {V : Type 0} (has_part : V → ℕ → Bool) (value after : V) → ((index : ℕ) → has_part value index ≡ false) → after ≡ value → (listed : Bool) (index : ℕ) → has_part after index ≡ (not listed && false)
stays-parts has_part value after none is listed index = ap (λ v. has_part v index) is ∙ none index ∙ at listed
  where
    at : (b : Bool) → false ≡ (not b && false)
    at true = refl
    at false = refl
