-- Parts that stay where one is put.
use Rattle.std.proofs.Common.{◌≡◌, ℕ, Bool, true, false, eqb, Option, Some, is_some, IsSome, refl, sym, ap, subst, ◌∙◌, true≢false, eq-eqb, eqb-true}
use Rattle.specs_layouts.specs.Parts.{Puts}

still-there-by : {T : Type 0} (before after : ℕ → Option T) (at index : ℕ) (part : T) (same : Bool) → eqb index at ≡ same → Puts before at (Some part) after → IsSome (before index) → IsSome (after index)
still-there-by before after at index part true e puts there = ap is_some (ap after (eqb-true index at e) ∙ puts.here)
still-there-by before after at index part false e puts there = ap is_some (puts.others index (λ same. true≢false (sym (eq-eqb index at same) ∙ e))) ∙ there

-- an index that has a part has one, wherever a part is put
pub still-there : {T : Type 0} (before after : ℕ → Option T) (at index : ℕ) (part : T) → Puts before at (Some part) after → IsSome (before index) → IsSome (after index)
still-there before after at index part = still-there-by before after at index part (eqb index at) refl
