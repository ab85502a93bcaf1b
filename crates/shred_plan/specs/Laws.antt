-- What holds of every plan: which groups may share a stage, how long a group is, which systems stand in it and where.
use Rattle.std.specs.Prelude.{◌≡◌, ℕ, ◌≤◌, ◌==◌, Bool, true, false, List, [], ◌∷◌, ◌++◌, length, map}
use Rattle.std.specs.List.{list_any, All, AllPairs}
use Rattle.std.specs.List.Sorted.{IsPermutation}
use Rattle.shred_plan.specs.Plan.{Placing, Group, Stage, Added, fence, placing, hits, plan_order, systems_of}

-- the systems that are added
abbrev pub systems_added : {Id : Type 0} → List (Added Id) → List (Placing Id)
systems_added [] = []
systems_added (fence ∷ later) = systems_added later
systems_added (placing one ∷ later) = one ∷ systems_added later

-- each element of a list has one at its place in another, to which it is related
abbrev pub Keeps : {A : Type 0} → (A → A → Type 0) → List A → List A → Type 0
Keeps R [] others = Unit {0}
Keeps R (x ∷ xs) [] = ⊥
Keeps R (x ∷ xs) (y ∷ ys) = R x y × Keeps R xs ys

-- each system of some stages has its stage, its group and its place in others
abbrev pub Stay : {Id : Type 0} → List (Stage Id) → List (Stage Id) → Type 0
Stay stages others = Keeps (Keeps (Keeps (λ one other. one ≡ other))) stages others

-- whether a number is in a list
abbrev pub has : List ℕ → ℕ → Bool
has numbers number = list_any (λ other. other == number) numbers

-- each number of a list is in another
abbrev pub AreAmong : List ℕ → List ℕ → Type 0
AreAmong numbers others = (number : ℕ) → has numbers number ≡ true → has others number ≡ true

-- the numbers of systems
abbrev pub numbers_of : {Id : Type 0} → List (Placing Id) → List ℕ
numbers_of systems = map (λ system. system.number) systems

-- each system comes after some that are known, or were added before it
abbrev pub ComeAfter : {Id : Type 0} → List ℕ → List (Added Id) → Type 0
ComeAfter known [] = Unit {0}
ComeAfter known (fence ∷ later) = ComeAfter known later
ComeAfter known (placing one ∷ later) = AreAmong one.after known × ComeAfter (one.number ∷ known) later

-- those that a system of a group comes after stand among the systems before the stage, or earlier in the group
abbrev pub GroupWaits : {Id : Type 0} → List (Placing Id) → Group Id → Type 0
GroupWaits before [] = Unit {0}
GroupWaits before (one ∷ others) = AreAmong one.after (numbers_of before) × GroupWaits (before ++ one ∷ []) others

-- so it is in each group of a stage
abbrev pub StageWaits : {Id : Type 0} → List (Placing Id) → Stage Id → Type 0
StageWaits before [] = Unit {0}
StageWaits before (group ∷ stage) = GroupWaits before group × StageWaits before stage

-- so it is in each stage, after the systems of those before it
abbrev pub StagesWait : {Id : Type 0} → List (Placing Id) → List (Stage Id) → Type 0
StagesWait before [] = Unit {0}
StagesWait before (stage ∷ later) = StageWaits before stage × StagesWait (before ++ systems_of stage) later

module _ {Id : Type 0} (same : Id → Id → Bool) where
  -- whether a system of a group conflicts with one of another
  abbrev pub groups_conflict : Group Id → Group Id → Bool
  groups_conflict group other = list_any (λ one. hits same one other) group

  -- no two groups of a stage share an id that either writes
  abbrev pub GroupsAreApart : List (Stage Id) → Type 0
  GroupsAreApart stages = All (λ stage. AllPairs (λ group other. groups_conflict group other ≡ false) stage) stages

-- a group has at most four systems
abbrev pub GroupsAreShort : {Id : Type 0} → List (Stage Id) → Type 0
GroupsAreShort stages = All (λ stage. All (λ group. length group ≤ 4) stage) stages

-- each of the systems stands in the stages once
abbrev pub EachStandsOnce : {Id : Type 0} → List (Placing Id) → List (Stage Id) → Type 0
EachStandsOnce systems stages = IsPermutation (plan_order stages) systems

-- stages end with some that hold just these systems, each once, after those that there were
abbrev pub EndsWith : {Id : Type 0} → List (Stage Id) → List (Placing Id) → List (Stage Id) → Type 0
EndsWith {Id} early systems stages = (late : List (Stage Id)) × (stages ≡ early ++ late) × EachStandsOnce systems late
