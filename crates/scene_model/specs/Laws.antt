-- What the trait `DocumentRules` asks of an implementation, beside the contracts of its calls.
use Rattle.std.specs.Prelude.{◌≡◌, ℕ, true, List, All, map, Option, Some, None, Result, MatchResult, AllPairs}
use Rattle.std.specs.Cmp.Lexicographic.{slice_cmp}
use Rattle.std.specs.Ordering.{nat_cmp}
use Rattle.std.specs.declared.cmp.Ordering.TheVariants.{Less}
use Rattle.scene_model.specs.declared.reading.ReadError.{ReadError}
use Rattle.scene_model.specs.declared.reading.ReadError.TheVariants.{Shape}
use Rattle.scene_model.specs.Parts.{Json, Name, Ref, living, is_among}
use Rattle.scene_model.specs.Rulebook.{Book, Facts, Described, unknown, known, Access}

-- names ascend by their bytes, and so stand once each
abbrev pub Ascend : List Name → Type 0
Ascend names = AllPairs (λ one other. slice_cmp nat_cmp one other ≡ Less) names

-- what was read, or that there is nothing to read; want of memory says nothing
abbrev pub IsReadingOf : {V X : Type 0} → (V → X) → Option X → Result V ReadError → Type 0
IsReadingOf meaning expected result = MatchResult result (λ value. expected ≡ Some (meaning value)) (λ error. error ≡ Shape → expected ≡ None)

-- the ids of a part's references, all of which live
abbrev pub refs_to : List ℕ → List Ref
refs_to ids = map (λ id. living id) ids

-- a system of a kind with a configuration was made, which says of itself what the rules know of it
pub record IsMade {S : Type 0} (kind_of : S → Name) (config_of : S → Json) (declared : S → Access) (said_time : S → ℕ) (made : S → Type 0) (kind : Name) (config : Json) (facts : Facts) (system : S) : Type 0 where
  pub made_so : made system
  pub of_kind : kind_of system ≡ kind
  pub with_config : config_of system ≡ config
  pub access : declared system ≡ facts.access
  pub time : said_time system ≡ facts.time

-- so one was, or its kind is unknown
abbrev pub IsMaking : {S : Type 0} → (S → Name) → (S → Json) → (S → Access) → (S → ℕ) → (S → Type 0) → Name → Json → Described → Option S → Type 0
IsMaking kind_of config_of declared said_time made kind config said None = said ≡ unknown
IsMaking kind_of config_of declared said_time made kind config said (Some system) = (facts : Facts) × (said ≡ known facts) × IsMade kind_of config_of declared said_time made kind config facts system

-- the names that a system declares are the rules'
pub record DeclaresKnown (book : Book) (access : Access) : Type 0 where
  pub reads : All (λ kind. is_among kind book.part_names ≡ true) access.reads
  pub writes : All (λ kind. is_among kind book.part_names ≡ true) access.writes
  pub read_globals : All (λ name. is_among name book.global_names ≡ true) access.read_globals
  pub written_globals : All (λ name. is_among name book.global_names ≡ true) access.written_globals
