-- How many workers stages are worth, by the times of their groups.
use Rattle.std.specs.Prelude.{ℕ, ◌/◌, List, length, min, max}
use Rattle.std.specs.List.{fold, sum_by}
use Rattle.shred_plan.specs.Plan.{Stage, time_of}

-- how many workers a stage is worth: one for each three units of its groups' times, which is what an average system takes, and no more than it has groups
abbrev pub worth_of : {Id : Type 0} → Stage Id → ℕ
worth_of stage = min (length stage) (sum_by time_of stage / 3)

-- how many the stage is worth that is worth the most
abbrev pub most_worth : {Id : Type 0} → List (Stage Id) → ℕ
most_worth stages = fold (λ most stage. max most (worth_of stage)) 0 stages
