-- What an index tells of the stages of a plan. No public clause cites this file.
use Rattle.std.specs.Prelude.{◌≡◌, ◌≤◌, ◌<◌, ℕ, ◌-◌, ◌/◌, ◌%◌, ◌==◌, Bool, false, ◌&&◌, ◌||◌, List, [], length, take, nat_lt, Option, None, if◌then◌else◌, slice_index, slice_index_or}
use Rattle.std.specs.Int.{bit_at}
use Rattle.std.specs.List.{list_any}
use Rattle.std.specs.Option.{option_map_or}
use Rattle.std.specs.Ordering.{nat_cmp}
use Rattle.std.specs.declared.cmp.Ordering.{Ordering}
use Rattle.std.specs.BTreeMap.{BTreeMap, get}
use Rattle.shred_plan.specs.declared.stage.Way.{Way}
use Rattle.shred_plan.specs.declared.stage_set.StageSet.{StageSet}
use Rattle.shred_plan.specs.declared.id_table.IdTable.{IdTable}
use Rattle.shred_plan.specs.Plan.{Placing, Stage, conflict, admitted, systems_of, plan_order, rest_after, longest, time_of}

-- whether a stage is in a set that is kept in words
abbrev pub is_in : List ℕ → ℕ → Bool
is_in words stage = bit_at (slice_index words (stage / 64)) (stage % 64) == 1

-- whether a stage is in a set
abbrev pub has_stage : StageSet → ℕ → Bool
has_stage set stage = is_in set.words.items stage

-- whether a table has a stage for an id
abbrev pub has_for : {Id : Type 0} → (Id → Id → Ordering) → BTreeMap Id StageSet → Id → ℕ → Bool
has_for cmp table id stage = option_map_or (λ set. has_stage set stage) (get cmp table id) false

-- whether tables have a number for an id that a system reads and another writes, or that it writes and another uses
abbrev pub finds : {Id : Type 0} → (Id → Id → Ordering) → IdTable Id → Placing Id → ℕ → Bool
finds cmp table one number = list_any (λ id. has_for cmp table.writers id number) one.reads || list_any (λ id. has_for cmp table.users id number) one.writes

-- whether a table says that a number stands in a stage before one
abbrev pub stood_before : BTreeMap ℕ ℕ → ℕ → ℕ → Bool
stood_before firsts number stage = option_map_or (λ first. nat_lt first stage) (get nat_cmp firsts number) false

-- the stage at a place; past the end it has no groups
abbrev pub stage_at : {Id : Type 0} → List (Stage Id) → ℕ → Stage Id
stage_at stages place = slice_index_or stages place []

-- whether a system of a number stands in a stage before one
abbrev pub stands_before : {Id : Type 0} → List (Stage Id) → ℕ → ℕ → Bool
stands_before stages number stage = list_any (λ system. system.number == number) (plan_order (take stage stages))

-- whether a group of a stage has room, and is shorter than the longest
abbrev pub is_loose : {Id : Type 0} → Stage Id → Bool
is_loose stage = list_any (λ group. nat_lt (length group) 4 && nat_lt (time_of group) (longest stage)) stage

-- those that a system comes after and that stand in no stage before one
abbrev pub rest_at : {Id : Type 0} → Placing Id → List (Stage Id) → ℕ → List ℕ
rest_at one stages stage = rest_after one.after (plan_order (take stage stages))

module _ {Id : Type 0} (same : Id → Id → Bool) where
  -- whether a system writes an id
  abbrev pub writes : Placing Id → Id → Bool
  writes one id = list_any (λ other. same other id) one.writes

  -- whether a system writes or reads an id
  abbrev pub uses : Placing Id → Id → Bool
  uses one id = list_any (λ other. same other id) one.writes || list_any (λ other. same other id) one.reads

  -- whether a system conflicts with one of a stage
  abbrev pub is_blocked : Placing Id → Stage Id → Bool
  is_blocked one stage = list_any (conflict same one) (systems_of stage)

  -- the way in which the stage at a place admits a system; none where a barrier has closed it
  abbrev pub way_at : ℕ → Placing Id → List (Stage Id) → ℕ → Option Way
  way_at first one stages place = if first - place == 0 then admitted same one (rest_at one stages place) (stage_at stages place) else None

  -- no stage from one to another admits a system
  abbrev pub NoneAdmits : ℕ → Placing Id → List (Stage Id) → ℕ → ℕ → Type 0
  NoneAdmits first one stages from end = (place : ℕ) → from ≤ place → place < end → way_at first one stages place ≡ None
