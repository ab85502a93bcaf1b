-- Which systems of a plan run earlier than others.
use Rattle.std.specs.Prelude.{◌≡◌, ◌⊎◌, ℕ, true, List, [], ◌∷◌}
use Rattle.shred_plan.specs.Plan.{Group, Stage, systems_of, plan_order}
use Rattle.shred_plan.specs.Laws.{has, numbers_of}

-- a number stands in a group before another
abbrev pub StandsFirst : {Id : Type 0} → (first second : ℕ) → Group Id → Type 0
StandsFirst first second [] = ⊥
StandsFirst first second (one ∷ others) = ((one.number ≡ first) × (has (numbers_of others) second ≡ true)) ⊎ StandsFirst first second others

-- so it does in a group of a stage
abbrev pub StandsFirstInOne : {Id : Type 0} → (first second : ℕ) → Stage Id → Type 0
StandsFirstInOne first second [] = ⊥
StandsFirstInOne first second (group ∷ stage) = StandsFirst first second group ⊎ StandsFirstInOne first second stage

-- a number stands in an earlier stage than another, or earlier in its group
abbrev pub RunsEarlier : {Id : Type 0} → (first second : ℕ) → List (Stage Id) → Type 0
RunsEarlier first second [] = ⊥
RunsEarlier first second (stage ∷ later) =
    ((has (numbers_of (systems_of stage)) first ≡ true) × (has (numbers_of (plan_order later)) second ≡ true)) ⊎ (StandsFirstInOne first second stage ⊎ RunsEarlier first second later)
