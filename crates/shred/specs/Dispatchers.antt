-- What a builder of a dispatcher holds, and what it is with one more system or batch.
use Rattle.std.specs.Prelude.{◌≡◌, ℕ, Bool, List, length, Some, None}
use Rattle.shred_world.specs.declared.resource_id.ResourceId.{ResourceId}
use Rattle.shred.specs.Names.{number_under}
use Rattle.shred.specs.Building.{Building, nothing_built, refusal}
use Rattle.shred.specs.Histories.{Asked, built_from}
use Rattle.shred.specs.Waits.{RunsEarlier}
use Rattle.shred.specs.Dispatching.{Dispatching}

-- the named systems that are staged, the local ones, and how many workers run a stage
pub record Drafting (S L : Type 0) : Type 0 where
  pub building : Building S
  pub locals : List L
  pub workers : ℕ

-- the same but for the systems that are staged
abbrev pub with_building : {S L : Type 0} → Drafting S L → Building S → Drafting S L
with_building draft building = record { building = building; locals = draft.locals; workers = draft.workers }

-- the dispatcher of what was built
abbrev pub dispatcher_of : {S L : Type 0} → Drafting S L → Dispatching S L
dispatcher_of draft = record { staging = draft.building.staging; locals = draft.locals; workers = draft.workers }

-- once a builder was asked for some, nothing stands against a system of a name after those of some names
abbrev pub IsTaken : {S : Type 0} → (ResourceId → ResourceId → Bool) → List (Asked S) → List ℕ → List (List ℕ) → Type 0
IsTaken same early name after = refusal (built_from same nothing_built early) name after ≡ None

module _ {S L : Type 0} (same : ResourceId → ResourceId → Bool) where
  -- a builder was asked for these, one after the other
  abbrev pub IsBuiltFrom : List (Asked S) → Drafting S L → Type 0
  IsBuiltFrom list draft = draft.building ≡ built_from same nothing_built list

  -- a name is that of a system, and this one runs earlier than the next one that is added
  abbrev pub RunsBefore : List (Asked S) → Drafting S L → List ℕ → Type 0
  RunsBefore early draft other =
      (number : ℕ) × (number_under draft.building.names other ≡ Some number)
      × RunsEarlier number (length (built_from same nothing_built early).staging.systems) (dispatcher_of draft).staging.planning.stages
