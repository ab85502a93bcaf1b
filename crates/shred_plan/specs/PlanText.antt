-- The text of a plan: a line for each stage, a bar between its groups, a comma between the numbers of a group.
use Rattle.std.specs.Prelude.{ℕ, List, [], ◌∷◌, ◌++◌, codes, decimal}
use Rattle.std.specs.List.{flat_map}
use Rattle.shred_plan.specs.Plan.{Group, Stage}

-- the numbers of a group
abbrev pub group_text : {Id : Type 0} → Group Id → List ℕ
group_text [] = []
group_text (one ∷ others) = decimal one.number ++ flat_map (λ other. codes ", " ++ decimal other.number) others

-- the groups of a stage
abbrev pub groups_text : {Id : Type 0} → Stage Id → List ℕ
groups_text [] = []
groups_text (group ∷ others) = group_text group ++ flat_map (λ other. codes " | " ++ group_text other) others

-- a line for each stage
abbrev pub plan_text : {Id : Type 0} → List (Stage Id) → List ℕ
plan_text stages = flat_map (λ stage. groups_text stage ++ codes "\n") stages
