-- The systems of a document's entries: how they are named, and which is meant by a number.
use Rattle.std.specs.Prelude.{◌≡◌, ℕ, true, false, List, [], ◌++◌, map, Some, is_none}
use Rattle.std.specs.List.{All, filter_map, list_any}
use Rattle.shred.specs.Dispatchers.{Drafting, dispatcher_of}
use Rattle.scene_model.specs.Rulebook.{Book, Facts, known}
use Rattle.scene_model.specs.Scenes.{PlainSystem}
use Rattle.scene_document.specs.Drafts.{DraftEntry, DraftSystem, system_of_entry}
use Rattle.scene_document.specs.Documents.{has_taken_name, has_unknown_dependency}
use Rattle.scene_document.specs.Openings.{staged_list}
use Rattle.scene_world.specs.Chains.{plan_order}
use Rattle.scene_dispatch.specs.Orders.{plain_at}

-- the systems among entries
abbrev pub systems_among : List DraftEntry → List DraftSystem
systems_among entries = filter_map system_of_entry entries

-- entries are named as a document's are: the kind of each system is known, a local system has no name, no two systems have
-- one that isn't empty, and each comes after systems that have their names before it
pub record AreNamed (entries : List DraftEntry) : Type 0 where
  pub none_unknown : list_any (λ one. is_none one.facts) (systems_among entries) ≡ false
  pub unnamed : All (λ one. one.local ≡ true → one.name ≡ []) (systems_among entries)
  pub own : has_taken_name (systems_among entries) ≡ false
  pub earlier : has_unknown_dependency [] (systems_among entries) ≡ false

-- what is known of a system is what the rules say of its kind and its configuration
abbrev pub IsSaid : Book → DraftSystem → Type 0
IsSaid book one = (facts : Facts) → one.facts ≡ Some facts → book.system one.kind one.config ≡ known facts

-- the system of an entry at a place, by what a document says of it
abbrev pub plain_system : ℕ → DraftSystem → Facts → PlainSystem
plain_system place one facts = record { position = place; kind = one.kind; config = one.config; access = facts.access }

-- the staged system of a number
abbrev pub meant_at : List DraftEntry → ℕ → PlainSystem
meant_at entries number = plain_at (staged_list 1 entries) number

-- the systems that a builder's dispatcher runs, in the order of its plan, and then the local ones
abbrev pub dispatched_order : {S L : Type 0} → (L → PlainSystem) → List DraftEntry → Drafting S L → List PlainSystem
dispatched_order plain_local entries draft = plan_order (meant_at entries) (dispatcher_of draft).staging.planning.stages ++ map plain_local (dispatcher_of draft).locals
