-- What a builder of named systems holds, which systems it takes, and what it is with one more.
use Rattle.std.specs.Prelude.{ℕ, Bool, List, [], ◌∷◌, ◌++◌, length, nat_lt, Option, Some, None, is_some, ◌≡◌, if◌then◌else◌}
use Rattle.std.specs.Option.{MatchOption}
use Rattle.shred_world.specs.declared.resource_id.ResourceId.{ResourceId}
use Rattle.shred_plan.specs.Plan.{added, fence, placing}
use Rattle.shred.specs.declared.error.AddError.{AddError}
use Rattle.shred.specs.declared.error.AddError.TheVariants.{NoSuchSystem, NameTaken, SystemsFull, Memory}
use Rattle.shred.specs.Names.{Named, number_under, numbers_under, lacks_one, with_name}
use Rattle.shred_stages.specs.Staging.{Staging}

-- the systems that are staged, and the numbers of those that have names
pub record Building (S : Type 0) : Type 0 where
  pub staging : Staging S
  pub names : List Named

-- no system
abbrev pub nothing_built : {S : Type 0} → Building S
nothing_built = record { staging = record { planning = record { first = 0; stages = [] }; systems = [] }; names = [] }

-- why a system of this name, after those of some names, isn't taken
abbrev pub refusal : {S : Type 0} → Building S → (name : List ℕ) → (after : List (List ℕ)) → Option AddError
refusal building name after =
    if lacks_one building.names after then Some NoSuchSystem
    else if is_some (number_under building.names name) then Some NameTaken
    else if nat_lt (length building.staging.systems) 65536 then None else Some SystemsFull

-- an error tells why; where nothing else stands against it, memory is wanting
abbrev pub Refuses : Option AddError → AddError → Type 0
Refuses why error = MatchOption why (error ≡ Memory) (λ reason. error ≡ reason)

-- what a system declares: the ids that it reads and writes, and how many units of time it is said to run
pub record Declared : Type 0 where
  pub reads : List ResourceId
  pub writes : List ResourceId
  pub time : ℕ

-- one more system is staged, after those of some numbers
abbrev pub staged_with : {S : Type 0} → (ResourceId → ResourceId → Bool) → Staging S → S → Declared → (after : List ℕ) → Staging S
staged_with same staging system declared after = record {
  planning = added same staging.planning (placing (record { number = length staging.systems; reads = declared.reads; writes = declared.writes; after = after; time = declared.time }));
  systems = staging.systems ++ system ∷ [];
}

-- one more system is added, under a name, after those of some names
abbrev pub built_with : {S : Type 0} → (ResourceId → ResourceId → Bool) → Building S → S → Declared → (name : List ℕ) → (after : List (List ℕ)) → Building S
built_with same building system declared name after = record {
  staging = staged_with same building.staging system declared (numbers_under building.names after);
  names = with_name building.names name (length building.staging.systems);
}

-- the stages so far are closed
abbrev pub fenced : {S : Type 0} → (ResourceId → ResourceId → Bool) → Staging S → Staging S
fenced same staging = record { planning = added same staging.planning fence; systems = staging.systems }
