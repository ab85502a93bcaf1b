-- Two types side by side: each means what it means alone.
use Rattle.std.specs.Prelude.{◌≡◌, Option}
use Rattle.shred_world.specs.Worlds.{Slots}
use Rattle.shred_stages.specs.declared.stop.Stop.{Stop}
use Rattle.shred.specs.declared.either.Either.{Either}
use Rattle.shred.specs.declared.either.Either.TheVariants.{Left, Right}

-- what is said of either
abbrev pub said_of : {L R X : Type 0} → (L → X) → (R → X) → Either L R → X
said_of of_left of_right (Left one) = of_left one
said_of of_left of_right (Right other) = of_right other

-- a run, or a setup, of either
abbrev pub EitherDoes : {L R A B W : Type 0} → (L → A → B → L → W → Type 0) → (R → A → B → R → W → Type 0) → Either L R → A → B → Either L R → W → Type 0
EitherDoes {L = L} does other_does (Left one) a b after w = (one_after : L) × (after ≡ Left one_after) × does one a b one_after w
EitherDoes {R = R} does other_does (Right other) a b after w = (other_after : R) × (after ≡ Right other_after) × other_does other a b other_after w

-- letting either go
abbrev pub EitherDisposes : {V L R : Type 0} → (L → Option Stop → Slots V → Slots V → Type 0) → (R → Option Stop → Slots V → Slots V → Type 0) → Either L R → Option Stop → Slots V → Slots V → Type 0
EitherDisposes disposes other_disposes (Left one) refused w w_after = disposes one refused w w_after
EitherDisposes disposes other_disposes (Right other) refused w w_after = other_disposes other refused w w_after
