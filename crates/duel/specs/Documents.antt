-- What the rules mean in documents, and the laws that hold of them, as tools/values writes them from values.list.
use Rattle.std.specs.Prelude.{◌≡◌, true, false, List, [], ◌∷◌, Some, refl}
use Rattle.serde_json.specs.Data.{null}
use Rattle.serde_json.specs.Written.{has_float}
use Rattle.scene_model.specs.Parts.{Json, Name, Part}
use Rattle.scene_model.specs.Rulebook.{Access, Book, Facts, Fragment, Outcome, known}
use Rattle.scene_model.specs.Laws.{Ascend, DeclaresKnown}
use Rattle.scene_world.specs.PlainRules.{plain_book, plain-declares, plain-of-book}
use Rattle.scene_world.specs.RuleLemmas.{ascending-names, number-admitted, number-read-back, count-read-back}
use Rattle.scene_world.specs.Turns.{Meaning, sense_of, IsOfBook, meaning_of}
use Rattle.duel.specs.declared.data.Datum.{Datum}
use Rattle.duel.specs.declared.data.Datum.TheVariants.{Number, Target}
use Rattle.duel.specs.declared.documents.DuelSystem.{DuelSystem}
use Rattle.duel.specs.declared.documents.DuelSystem.TheVariants.{Strike, Bury}
use Rattle.duel.specs.Names.{attack_kind, hp_kind, target_kind, turn_name, strike_kind, bury_kind, part_kinds, all_names, refers, part_of}
use Rattle.duel.specs.Rules.{DoesStrike, DoesBury}

-- all systems, and of each its kind, what it reads and writes, and what it may make of what it is lent
abbrev pub all_systems : List DuelSystem
all_systems = Strike ∷ Bury ∷ []

abbrev pub kind_of : DuelSystem → Name
kind_of Strike = strike_kind
kind_of Bury = bury_kind

abbrev pub access_of : DuelSystem → Access
access_of Strike = record { reads = attack_kind ∷ target_kind ∷ []; writes = hp_kind ∷ []; read_globals = []; written_globals = turn_name ∷ []; reserved = false }
access_of Bury = record { reads = hp_kind ∷ target_kind ∷ []; writes = []; read_globals = []; written_globals = []; reserved = false }

abbrev pub does : DuelSystem → Fragment → Outcome → Type 0
does Strike = DoesStrike
does Bury = DoesBury

-- what the rules mean, and what is meant of a system
abbrev pub meaning : Book
meaning = plain_book part_kinds refers all_names kind_of access_of does all_systems

abbrev pub meant : Meaning DuelSystem
meant = meaning_of 0 kind_of (λ _. null) access_of (λ _. sense_of meaning) does

-- names ascend
pub law-kinds_ascend : Ascend part_kinds
law-kinds_ascend = ascending-names part_kinds refl

pub law-globals_ascend : Ascend all_names
law-globals_ascend = ascending-names all_names refl

-- what is read under a kind is of that kind, and what is written is read back under a kind that admits it
pub law-reads_admitted : (kind : Name) (json : Json) (part : Part) → meaning.read_part kind json ≡ Some part → meaning.admits kind part ≡ true
law-reads_admitted kind = number-admitted (refers kind)

pub law-reads_back : (kind : Name) (datum : Datum) → meaning.admits kind (part_of datum) ≡ true → meaning.read_part kind (part_of datum).json ≡ Some (part_of datum)
law-reads_back kind (Number n) = number-read-back (refers kind) false n
law-reads_back kind (Target id) = number-read-back (refers kind) true id

-- what is read for a global is read back as it was
pub law-global_reads_back : (name : Name) (json value : Json) → meaning.read_global name json ≡ Some value → meaning.read_global name value ≡ Some value
law-global_reads_back name = count-read-back

-- no float is written
pub law-no_float : (datum : Datum) → has_float (part_of datum).json ≡ false
law-no_float (Number n) = refl
law-no_float (Target id) = refl

-- what a system declares is the rules', and it does what they say of its kind
pub law-declares_known : (kind : Name) (config : Json) (facts : Facts) → meaning.system kind config ≡ known facts → DeclaresKnown meaning facts.access
law-declares_known = plain-declares part_kinds refers all_names kind_of access_of does all_systems refl

pub law-of_book : (system : DuelSystem) → IsOfBook meant meaning system
law-of_book Strike = plain-of-book part_kinds refers all_names kind_of access_of does all_systems Strike refl
law-of_book Bury = plain-of-book part_kinds refers all_names kind_of access_of does all_systems Bury refl
