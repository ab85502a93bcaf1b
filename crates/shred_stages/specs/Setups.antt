-- Setting systems up one after the other, and letting them go.
use Rattle.std.specs.Prelude.{◌≡◌, ℕ, suc, Bool, true, false, Option, None, List, [], ◌∷◌}
use Rattle.std.specs.Option.{option_or, option_map}
use Rattle.shred_world.specs.Worlds.{Slots}
use Rattle.shred_stages.specs.declared.stop.Stop.{Stop}

-- what holds where something is accepted, and what holds where it isn't
abbrev pub WhenAccepted : Bool → (accepted refused : Type 0) → Type 0
WhenAccepted true accepted refused = accepted
WhenAccepted false accepted refused = refused

-- some systems are set up, one after the other, up to the first that is refused
abbrev pub SetsUpEach : {V S : Type 0} → (S → Bool → Slots V → S → Slots V → Type 0) → List S → Bool → Slots V → List S → Slots V → Type 0
SetsUpEach sets_up [] accepted w after w_after = (accepted ≡ true) × (after ≡ []) × (w_after ≡ w)
SetsUpEach {V} {S} sets_up (system ∷ systems) accepted w after w_after =
    (first : Bool) × (left : S) × (others : List S) × (between : Slots V) × sets_up system first w left between × (after ≡ left ∷ others)
    × WhenAccepted first (SetsUpEach sets_up systems accepted between others w_after) ((accepted ≡ false) × (others ≡ systems) × (w_after ≡ between))

-- some systems are let go, one after the other, each counted from a place on; the first refusal is told
abbrev pub DisposesEach : {V S : Type 0} → (S → Option Stop → Slots V → Slots V → Type 0) → (place : ℕ) → List S → Option (ℕ × Stop) → Slots V → Slots V → Type 0
DisposesEach disposes place [] refused w w_after = (refused ≡ None) × (w_after ≡ w)
DisposesEach {V} disposes place (system ∷ systems) refused w w_after =
    (first : Option Stop) × (later : Option (ℕ × Stop)) × (between : Slots V) × disposes system first w between
    × DisposesEach disposes (suc place) systems later between w_after × (refused ≡ option_or (option_map (λ why. (place, why)) first) later)
