-- Where systems run: stages of groups, by what the systems declare, after whom they come and how long they are said to run.
use Rattle.std.specs.Prelude.{ℕ, ◌-◌, ◌*◌, ◌==◌, Bool, ◌&&◌, ◌||◌, List, [], ◌∷◌, ◌++◌, length, map, max, nat_lt, count_by, Option, Some, None, if◌then◌else◌, slice_index_or, slice_set}
use Rattle.std.specs.List.{list_any, fold, flat_map, sum_by, position}
use Rattle.std.specs.Option.{option_map, option_map_or}
use Rattle.shred_plan.specs.declared.running_time.RunningTime.{RunningTime}
use Rattle.shred_plan.specs.declared.running_time.RunningTime.TheVariants.{VeryShort, Short, Average, Long, VeryLong}
use Rattle.shred_plan.specs.declared.stage.Way.{Way}
use Rattle.shred_plan.specs.declared.stage.Way.TheVariants.{Alone, Behind}

-- how many units of time a system of a running time takes
abbrev pub units_of : RunningTime → ℕ
units_of VeryShort = 1
units_of Short = 2
units_of Average = 3
units_of Long = 4
units_of VeryLong = 5

-- a system to be placed: its number, the ids that it reads and writes, the numbers of those it comes after, and its time
pub record Placing (Id : Type 0) : Type 0 where
  pub number : ℕ
  pub reads : List Id
  pub writes : List Id
  pub after : List ℕ
  pub time : ℕ

-- systems that run one after another
abbrev pub Group : Type 0 → Type 0
Group Id = List (Placing Id)

-- groups that may run at the same time
abbrev pub Stage : Type 0 → Type 0
Stage Id = List (Group Id)

-- what is added to a plan: a fence between what was added before it and what comes after, or a system
pub data Added (Id : Type 0) : Type 0 where
  fence : Added Id
  placing : Placing Id → Added Id

-- what a plan is while systems are added: the first stage that may take one, and the stages
pub record Planning (Id : Type 0) : Type 0 where
  pub first : ℕ
  pub stages : List (Stage Id)

-- a list of numbers without one occurrence of a number
abbrev pub without : List ℕ → ℕ → List ℕ
without [] number = []
without (first ∷ numbers) number = if first == number then numbers else first ∷ without numbers number

-- those that a system comes after, with one occurrence taken out for each system of a list
abbrev pub rest_after : {Id : Type 0} → List ℕ → List (Placing Id) → List ℕ
rest_after wanted systems = fold (λ rest system. without rest system.number) wanted systems

-- how long a group runs
abbrev pub time_of : {Id : Type 0} → Group Id → ℕ
time_of group = sum_by (λ system. system.time) group

-- how long the longest group of a stage runs
abbrev pub longest : {Id : Type 0} → Stage Id → ℕ
longest stage = fold (λ most group. max most (time_of group)) 0 stage

-- the systems of a stage, group by group
abbrev pub systems_of : {Id : Type 0} → Stage Id → List (Placing Id)
systems_of stage = flat_map (λ group. group) stage

-- the systems stage by stage, group by group
abbrev pub plan_order : {Id : Type 0} → List (Stage Id) → List (Placing Id)
plan_order stages = flat_map systems_of stages

-- the greatest number of groups in a stage
abbrev pub most_groups : {Id : Type 0} → List (Stage Id) → ℕ
most_groups stages = fold (λ most stage. max most (length stage)) 0 stages

-- whether a system may go to the end of a group of a stage, by the number of the group's systems and by its time
abbrev pub joins : {Id : Type 0} → Placing Id → Stage Id → Group Id → Bool
joins one stage group = nat_lt (length group) 4 && nat_lt one.time (2 * (longest stage - time_of group))

-- whether all that is left of those a system comes after stand in a group, and something is left
abbrev pub completes : {Id : Type 0} → List ℕ → Group Id → Bool
completes rest group = (length (rest_after rest group) == 0) && nat_lt (length (rest_after rest group)) (length rest)

-- a stage with a system as a group of its own, or at the end of the group at a place
abbrev pub taken : {Id : Type 0} → Placing Id → Stage Id → Way → Stage Id
taken one stage Alone = stage ++ (one ∷ []) ∷ []
taken one stage (Behind place) = slice_set stage place (slice_index_or stage place [] ++ one ∷ [])

module _ {Id : Type 0} (same : Id → Id → Bool) where
  -- whether two lists of ids share one
  abbrev pub share : List Id → List Id → Bool
  share ids others = list_any (λ id. list_any (same id) others) ids

  -- whether a system writes what another reads or writes
  abbrev pub touches : Placing Id → Placing Id → Bool
  touches one other = share one.writes other.reads || share one.writes other.writes

  -- whether one of two systems writes what the other reads or writes
  abbrev pub conflict : Placing Id → Placing Id → Bool
  conflict one other = touches one other || touches other one

  -- whether a system conflicts with a system of a group
  abbrev pub hits : Placing Id → Group Id → Bool
  hits one group = list_any (conflict one) group

  -- the way in which a stage admits a system, where those it comes after that stand in no earlier stage are the rest:
  -- as a group of its own, where it conflicts with no group and nothing is left;
  -- at the end of the one group with which it conflicts, where nothing is left;
  -- at the end of a group that has all that is left, where it conflicts with no group
  abbrev pub admitted : Placing Id → List ℕ → Stage Id → Option Way
  admitted one rest stage =
      if count_by (hits one) stage == 0
      then (if length rest == 0 then Some Alone else option_map Behind (position (λ group. completes rest group && joins one stage group) stage))
      else (if (count_by (hits one) stage == 1) && (length rest == 0) then option_map Behind (position (λ group. hits one group && joins one stage group) stage) else None)

  -- the stages with a system in the first that admits it, a number of them passed over, else in a new one at the end
  abbrev pub placed : ℕ → Placing Id → List ℕ → List (Stage Id) → List (Stage Id)
  placed closed one rest [] = ((one ∷ []) ∷ []) ∷ []
  placed closed one rest (stage ∷ later) =
      option_map_or (λ way. taken one stage way ∷ later)
      (if closed == 0 then admitted one rest stage else None)
      (stage ∷ placed (closed - 1) one (rest_after rest (systems_of stage)) later)

  -- one more added: a fence closes the stages so far
  abbrev pub added : Planning Id → Added Id → Planning Id
  added planning fence = record { first = length planning.stages; stages = planning.stages }
  added planning (placing one) = record { first = planning.first; stages = placed planning.first one one.after planning.stages }

  -- the stages of what is added one after the other
  abbrev pub plan : List (Added Id) → List (Stage Id)
  plan list = (fold added (record { first = 0; stages = [] }) list).stages

  -- the numbers of the systems that are added, in the order in which they run
  abbrev pub order : List (Added Id) → List ℕ
  order list = map (λ system. system.number) (plan_order (plan list))
