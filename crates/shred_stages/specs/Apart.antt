-- Groups of a stage that run each by itself from one state, and what they leave together.
use Rattle.std.specs.Prelude.{◌≡◌, ℕ, Option, None, Some, List, [], ◌∷◌, slice_get, slice_set}
use Rattle.std.specs.List.{AllZip, flat_map}
use Rattle.std.specs.Option.{MatchOption, option_or}
use Rattle.shred_world.specs.declared.resource_id.ResourceId.{ResourceId}
use Rattle.shred_world.specs.Bundles.{Holding}
use Rattle.shred_plan.specs.Plan.{Group, Stage}
use Rattle.shred_stages.specs.declared.stop.Stop.{Stop}
use Rattle.shred_stages.specs.Views.{cut, merged}
use Rattle.shred_stages.specs.Runs.{Step, State}

-- the ids that a group reads, and those that it writes
abbrev pub group_reads : Group ResourceId → List ResourceId
group_reads group = flat_map (λ one. one.reads) group

abbrev pub group_writes : Group ResourceId → List ResourceId
group_writes group = flat_map (λ one. one.writes) group

-- what came of a group: which system refused and why, its systems in their order, and what it holds
pub record Ran (V S : Type 0) : Type 0 where
  pub refused : Option (ℕ × Stop)
  pub systems : List S
  pub held : Holding V

-- the systems of a group stand among all at their numbers
abbrev pub StandAt : {S : Type 0} → List S → Group ResourceId → List S → Type 0
StandAt all group systems = AllZip (λ one system. slice_get all one.number ≡ Some system) group systems

-- the systems of a group, put among all at their numbers
abbrev pub put_systems : {S : Type 0} → Group ResourceId → List S → List S → List S
put_systems [] systems all = all
put_systems (one ∷ others) [] all = all
put_systems (one ∷ others) (system ∷ systems) all = put_systems others systems (slice_set all one.number system)

-- a state to which a group's systems and values came back
abbrev pub put_back : {V S : Type 0} → Group ResourceId → Ran V S → State V S → State V S
put_back group ran state = record { systems = put_systems group ran.systems state.systems; held = λ id. merged (ran.held id) (state.held id) }

-- one to which those of all groups came back
abbrev pub gathered : {V S : Type 0} → Stage ResourceId → List (Ran V S) → State V S → State V S
gathered [] rans state = state
gathered (group ∷ stage) [] state = state
gathered (group ∷ stage) (ran ∷ rans) state = gathered stage rans (put_back group ran state)

-- the first refusal in the order of the groups
abbrev pub first_refusal : {V S : Type 0} → List (Ran V S) → Option (ℕ × Stop)
first_refusal [] = None
first_refusal (ran ∷ rans) = option_or ran.refused (first_refusal rans)

module _ {V S : Type 0} (meets : S → Holding V → Option Stop → S → Holding V → Type 0) where
  -- the systems of a group run over what is held, one after the other, up to the first that refuses
  abbrev pub PlacesRun : Group ResourceId → List S → Holding V → Option (ℕ × Stop) → List S → Holding V → Type 0
  PlacesRun [] systems w refused after w_after = (refused ≡ None) × (after ≡ systems) × (w_after ≡ w)
  PlacesRun (one ∷ others) [] w refused after w_after = ⊥
  PlacesRun (one ∷ others) (system ∷ systems) w refused after w_after =
      (left : S) × (rest : List S) × (between : Holding V) × (stop : Option Stop) × Step meets one.reads one.writes system w stop left between × (after ≡ left ∷ rest)
      × MatchOption stop (PlacesRun others systems between refused rest w_after) (λ why. (refused ≡ Some (one.number, why)) × (rest ≡ systems) × (w_after ≡ between))

  -- a group ran by itself from a state, over what it declares of what is held there
  pub record RanFrom (state : State V S) (group : Group ResourceId) (ran : Ran V S) : Type 0 where
    pub systems : List S
    pub stand : StandAt state.systems group systems
    pub runs : PlacesRun group systems (cut (group_reads group) (group_writes group) state.held) ran.refused ran.systems ran.held

  -- each group of a stage, by its number, ran by itself from one state
  abbrev pub RanApart : State V S → Stage ResourceId → List (Ran V S) → Type 0
  RanApart state stage rans = AllZip (RanFrom state) stage rans
