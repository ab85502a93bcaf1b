-- The turn of a system of a scene's rules: what it means of the fragment that it sees and the one that it leaves.
use Rattle.std.specs.Prelude.{◌≡◌, ℕ, Bool, true, false, List, length, Option, Some, None}
use Rattle.std.specs.String.{string_bytes}
use Rattle.shred_world.specs.Bundles.{Holding}
use Rattle.shred_stages.specs.declared.stop.Stop.{Stop}
use Rattle.shred_stages.specs.declared.stop.Stop.TheVariants as stop
use Rattle.specs_layouts.specs.Shows.{Shows}
use Rattle.scene_model.specs.Parts.{Json, Name, Part, is_among}
use Rattle.scene_model.specs.Rulebook.{Access, declares, Fragment, Outcome, leaves, refuses, fills, unknown, Book, Command, queue_room}
use Rattle.scene_model.specs.Scenes.{PlainSystem, IdsAscend, PartsOwned, RefsLive, PartsAdmitted, GlobalsReadable, IsLawfullyLeft}
use Rattle.scene_world.specs.Rolls.{IsRoll}
use Rattle.scene_world.specs.Standing.{Kinds, seen_in, roll_of, column_in, column_of, events_in, emits_in, fragment_of, commands_of, IsWithin}

-- what a system knows of its rules: their names, what they read for a global, and what may stand under a kind
pub record Sense : Type 0 where
  pub part_names : List Name
  pub global_names : List Name
  pub read_global : Name → Json → Option Json
  pub admits : Name → Part → Bool

-- that of rules
abbrev pub sense_of : Book → Sense
sense_of book = record { part_names = book.part_names; global_names = book.global_names; read_global = book.read_global; admits = book.admits }

-- rules of which no more is known: they have no system
abbrev pub rules_by : Sense → Book
rules_by sense = record {
  part_names = sense.part_names;
  owning = λ kind. false;
  global_names = sense.global_names;
  read_part = λ kind json. None;
  read_global = sense.read_global;
  admits = sense.admits;
  system = λ kind config. unknown;
  meets = λ kind config seen outcome. ⊥;
}

-- what a system is lent is fit for it: ids ascend, each part stands at one of them and is of its kind, references name them, and
-- globals have values that the rules read
pub record IsFit (sense : Sense) (seen : Fragment) : Type 0 where
  pub ascend : IdsAscend seen.ids
  pub owned : PartsOwned seen.ids seen.part
  pub admitted : PartsAdmitted (rules_by sense) seen.part
  pub living : RefsLive seen.ids seen.part
  pub readable : GlobalsReadable (rules_by sense) seen.global

-- what is meant of what a plan runs: whether it is a system of rules, and then what a document says of it, what it knows of its rules,
-- and what it may make of what it is lent
pub record Meaning (S : Type 0) : Type 1 where
  pub is_system : S → Type 0
  pub plain : S → PlainSystem
  pub sense : S → Sense
  pub does : S → Fragment → Outcome → Type 0

-- what is meant of a system at a position, by what it says of itself
abbrev pub meaning_of : {S : Type 0} → ℕ → (S → Name) → (S → Json) → (S → Access) → (S → Sense) → (S → Fragment → Outcome → Type 0) → Meaning S
meaning_of position kind_of config_of declared sense does = record {
  is_system = λ system. Unit {0};
  plain = λ system. record { position = position; kind = kind_of system; config = config_of system; access = declared system };
  sense = sense;
  does = does;
}

-- so it is of what holds a system at its position
abbrev pub placed_as : {P S : Type 0} → (P → ℕ) → (P → S) → (S → Name) → (S → Json) → (S → Access) → (S → Sense) → (S → Fragment → Outcome → Type 0) → Meaning P
placed_as position system kind_of config_of declared sense does = record {
  is_system = λ placed. Unit {0};
  plain = λ placed. record { position = position placed; kind = kind_of (system placed); config = config_of (system placed); access = declared (system placed) };
  sense = λ placed. sense (system placed);
  does = λ placed. does (system placed);
}

-- a system is of some rules: it does what they say of its kind and configuration
pub record IsOfBook {S : Type 0} (meaning : Meaning S) (book : Book) (system : S) : Type 0 where
  pub is : meaning.is_system system
  pub sense_so : meaning.sense system ≡ sense_of book
  pub does_so : (f : Fragment) (o : Outcome) → meaning.does system f o → book.meets (meaning.plain system).kind (meaning.plain system).config f o

-- the events of a kind show what became of its parts
abbrev pub ShowsChanges : {V : Type 0} → Kinds V → Name → Holding V → Holding V → Type 0
ShowsChanges kinds kind seen left = Shows (column_in kinds kind) (events_in kinds kind) (emits_in kinds kind) (seen_in seen (kinds.part_id kind)) (seen_in left (kinds.part_id kind))

module _ {V S : Type 0} (kinds : Kinds V) (meaning : Meaning S) where
  -- what a system sees of what is held
  abbrev pub sees : S → Holding V → Fragment
  sees system w = fragment_of kinds (meaning.plain system).access w

  -- what is lent is fit for a system: so is the fragment that it sees, each who lives is known by an id, and no part of a kind that it
  -- declares stands where nobody lives
  pub record IsLentFit (system : S) (seen : Holding V) : Type 0 where
    pub fit : IsFit (meaning.sense system) (sees system seen)
    pub roll : IsRoll (roll_of kinds (seen_in seen))
    pub within : (kind : Name) → is_among kind kinds.part_names ≡ true → declares (meaning.plain system).access kind ≡ true → IsWithin kinds (roll_of kinds (seen_in seen)) (column_of kinds (seen_in seen) kind)

  -- An accepted turn with these commands: what the system leaves is lawful, no part stands where nobody lives, and its events show each
  -- change of a part.
  pub record LeavesLawfully (system : S) (seen left : Holding V) (commands : List Command) : Type 0 where
    pub did : meaning.does system (sees system seen) (leaves (sees system left) commands)
    pub lawful : IsLawfullyLeft (rules_by (meaning.sense system)) (sees system seen) (sees system left) commands
    pub within : (kind : Name) → is_among kind kinds.part_names ≡ true → is_among kind (meaning.plain system).access.writes ≡ true → IsWithin kinds (roll_of kinds (seen_in left)) (column_of kinds (seen_in left) kind)
    pub shown : (kind : Name) → is_among kind kinds.part_names ≡ true → is_among kind (meaning.plain system).access.writes ≡ true → ShowsChanges kinds kind seen left

  -- a turn that was refused: with a text that the system may refuse with; for want of memory; or with a queue that is full of what it may ask for
  abbrev pub SaysWhy : S → Holding V → Stop → List Command → Type 0
  SaysWhy system seen (stop.Refused text) commands = meaning.does system (sees system seen) (refuses (string_bytes text))
  SaysWhy system seen stop.Memory commands = Unit {0}
  SaysWhy system seen stop.Full commands = meaning.does system (sees system seen) (fills commands) × (length commands ≡ queue_room)

  abbrev pub Ends : S → Holding V → Option Stop → Holding V → List Command → Type 0
  Ends system seen None left commands = LeavesLawfully system seen left commands
  Ends system seen (Some why) left commands = SaysWhy system seen why commands

  -- a run over what is fit, with these commands; the system stays what it is, and may from then on do at most what it might before
  pub record Runs (system : S) (seen : Holding V) (refused : Option Stop) (system_after : S) (left : Holding V) (commands : List Command) : Type 0 where
    pub stays : meaning.is_system system_after
    pub same : meaning.plain system_after ≡ meaning.plain system
    pub same_sense : meaning.sense system_after ≡ meaning.sense system
    pub no_more : (f : Fragment) (o : Outcome) → meaning.does system_after f o → meaning.does system f o
    pub ends : IsLentFit system seen → Ends system seen refused left commands

  -- a turn of a system that has a queue at its place: the run's commands are in it, and no others
  abbrev pub TakesTurn : S → Holding V → Option Stop → S → Holding V → Type 0
  TakesTurn system seen refused system_after left = Runs system seen refused system_after left (commands_of kinds (seen_in left) (meaning.plain system).position)
