-- Local systems: one after the other, over all that is held.
use Rattle.std.specs.Prelude.{◌≡◌, ℕ, suc, Option, None, Some, List, [], ◌∷◌}
use Rattle.std.specs.Option.{MatchOption}
use Rattle.shred_world.specs.Bundles.{Holding}
use Rattle.shred_stages.specs.declared.stop.Stop.{Stop}
use Rattle.shred_stages.specs.Views.{Leaves}

-- local systems run, each counted from a place on, up to the first that refuses; no id comes or goes
abbrev pub LocalsRun : {V L : Type 0} → (L → Holding V → Option Stop → L → Holding V → Type 0) → (place : ℕ) → List L → Holding V → Option (ℕ × Stop) → List L → Holding V → Type 0
LocalsRun meets place [] w refused after w_after = (refused ≡ None) × (after ≡ []) × (w_after ≡ w)
LocalsRun {V} {L} meets place (local ∷ others) w refused after w_after =
    (stop : Option Stop) × (left : L) × (rest : List L) × (between : Holding V) × meets local w stop left between × Leaves w between × (after ≡ left ∷ rest)
    × MatchOption stop (LocalsRun meets (suc place) others between refused rest w_after) (λ why. (refused ≡ Some (place, why)) × (rest ≡ others) × (w_after ≡ between))
