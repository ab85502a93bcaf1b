-- Queues of jobs in a world, one under each dynamic number, and what running their jobs makes of it.
use Rattle.std.specs.Prelude.{◌≡◌, ◌≢◌, ◌<◌, ◌+◌, ◌^◌, ◌⊎◌, ℕ, zero, suc, Option, Some, None, List, [], ◌∷◌, ◌++◌, IsSome, unwrap_or, Result, Ok, Err}
use Rattle.std.specs.FinMap as map
use Rattle.shred_world.specs.ResourceIds.{id_of}
use Rattle.shred_world.specs.Worlds.{Slots, resource_at}
use Rattle.specs_entity.specs.declared.errors.Error.{Error}
use Rattle.specs_entity.specs.declared.errors.Error.TheVariants as variant
use Rattle.specs_world.specs.Resources.{Place, held}
use Rattle.specs_world.specs.declared.maintained.Maintained.{Maintained}

-- the jobs that wait under a dynamic number, oldest first
abbrev pub waiting : {V J : Type 0} → Place V (List J) → Slots V → ℕ → List J
waiting at w number = unwrap_or (resource_at at.part w (id_of at.id.kind number)) []

-- no job waits under any number
abbrev pub NoneWaits : {V J : Type 0} → Place V (List J) → Slots V → Type 0
NoneWaits at w = (number : ℕ) → number < 2 ^ 64 → waiting at w number ≡ []

-- no job waits under a lesser number
abbrev pub NoneBelow : {V J : Type 0} → Place V (List J) → Slots V → ℕ → Type 0
NoneBelow at w number = (other : ℕ) → other < number → waiting at w other ≡ []

-- the oldest job was taken out from under a number
pub record TakesUnder {V J : Type 0} (at : Place V (List J)) (number : ℕ) (job : J) (before after : Slots V) : Type 0 where
  pub rest : List J
  pub queued : resource_at at.part before (id_of at.id.kind number) ≡ Some (job ∷ rest)
  pub taken : after ≡ map.insert before (id_of at.id.kind number) (Some (at.wrapped rest))

-- the oldest job was taken out from under the least number that has one
pub record TakesFirst {V J : Type 0} (at : Place V (List J)) (job : J) (before after : Slots V) : Type 0 where
  pub number : ℕ
  pub least : NoneBelow at before number
  pub takes : TakesUnder at number job before after

-- the job to be run next was taken: where none waits under a number, the shared queue may give one, if the world holds it
abbrev pub TakesNext : {V J S : Type 0} → Place V (List J) → Place V S → J → Slots V → Slots V → Type 0
TakesNext at shared job before after = TakesFirst at job before after ⊎ (NoneWaits at before × IsSome (held shared before) × (after ≡ before))

-- the next job was taken, and run
pub record RunsNext {V J S : Type 0} (runs : J → Option Error → Slots V → Slots V → Type 0) (at : Place V (List J)) (shared : Place V S) (refused : Option Error) (before after : Slots V) : Type 0 where
  pub job : J
  pub taken : Slots V
  pub takes : TakesNext at shared job before taken
  pub ran : runs job refused taken after

-- no job ran yet
abbrev pub none_ran : Maintained
none_ran = record { jobs = 0; failed = 0 }

-- one more job ran, and failed if it was refused
abbrev pub counted : Option Error → Maintained → Maintained
counted None counts = record { jobs = counts.jobs + 1; failed = counts.failed }
counted (Some error) counts = record { jobs = counts.jobs + 1; failed = counts.failed + 1 }

-- a job may be left: one waits under a number, or the world holds a shared queue
abbrev pub MayBeLeft : {V J S : Type 0} → Place V (List J) → Place V S → Slots V → Type 0
MayBeLeft at shared w = ¬ (NoneWaits at w) ⊎ IsSome (held shared w)

-- at most so many more jobs ran, each in its turn, until none waited under a number, or one found no memory, or one was left
abbrev pub JobsRun : {V J S : Type 0} → (J → Option Error → Slots V → Slots V → Type 0) → Place V (List J) → Place V S → (limit : ℕ) → (counts : Maintained) → (before : Slots V) → Result Maintained Error → (after : Slots V) → Type 0
JobsRun runs at shared zero counts before result after = (after ≡ before) × (((result ≡ Ok counts) × NoneWaits at before) ⊎ ((result ≡ Err variant.Limit) × MayBeLeft at shared before))
JobsRun {V} runs at shared (suc limit) counts before result after =
    ((result ≡ Ok counts) × NoneWaits at before × (after ≡ before))
    ⊎ ((result ≡ Err variant.Memory) × RunsNext runs at shared (Some variant.Memory) before after)
    ⊎ ((refused : Option Error) × (ran : Slots V) × (refused ≢ Some variant.Memory) × RunsNext runs at shared refused before ran × JobsRun runs at shared limit (counted refused counts) ran result after)

-- a job of which this holds was queued, behind those that wait
abbrev pub Adds : {J : Type 0} → (J → Type 0) → List J → List J → Type 0
Adds {J} is before after = (job : J) × is job × (after ≡ before ++ job ∷ [])

-- a job is made of another value of which this holds
abbrev pub IsMadeOf : {R J : Type 0} → (makes : R → J → Type 0) → (R → Type 0) → J → Type 0
IsMadeOf {R} makes is job = (value : R) × is value × makes value job
