-- What the rules of a scene mean: their names, what they read, and what their systems may do.
use Rattle.std.specs.Prelude.{ℕ, Bool, ◌||◌, List, Option}
use Rattle.std.specs.List.{filter}
use Rattle.scene_model.specs.Parts.{Json, Name, Part, is_among}

-- the kinds and globals that a system reads and writes, and whether it would write entities or markers
pub record Access : Type 0 where
  pub reads : List Name
  pub writes : List Name
  pub read_globals : List Name
  pub written_globals : List Name
  pub reserved : Bool

-- whether a system declares a kind, for reading or for writing
abbrev pub declares : Access → Name → Bool
declares access kind = is_among kind access.reads || is_among kind access.writes

-- whether a system declares a global, for reading or for writing
abbrev pub declares_global : Access → Name → Bool
declares_global access name = is_among name access.read_globals || is_among name access.written_globals

-- what a system is lent of a scene: its ids, the parts of the declared kinds and the values of the declared globals
pub record Fragment : Type 0 where
  pub ids : List ℕ
  pub part : ℕ → Name → Option Part
  pub global : Name → Option Json

-- what may be asked to be done to a scene after the systems of a frame have run
pub data Command : Type 0 where
  spawn : List (Name × Part) → Command
  kill : ℕ → Command
  put : ℕ → Name → Part → Command
  take : ℕ → Name → Command

-- what a system makes of what it is lent: the fragment that it leaves, with its commands; or the text of a refusal; or, where
-- it has more commands than a queue holds, those that filled it
pub data Outcome : Type 0 where
  leaves : Fragment → List Command → Outcome
  refuses : List ℕ → Outcome
  fills : List Command → Outcome

-- how many commands a queue holds
abbrev pub queue_room : ℕ
queue_room = 1048576

-- what the rules know of a system before it runs: what it declares, and how long it is said to run, in units from 1 to 5
pub record Facts : Type 0 where
  pub access : Access
  pub time : ℕ

-- what the rules say of a kind of system with a configuration: the configuration has not its shape; or the kind is none of
-- theirs; or it is one, and these are its facts
pub data Described : Type 0 where
  misshapen : Described
  unknown : Described
  known : Facts → Described

-- the meaning of an implementation of the rules
pub record Book : Type 1 where
  pub part_names : List Name
  -- whether references in parts of a kind own their holder, which dies with the one to whom they are
  pub owning : Name → Bool
  pub global_names : List Name
  -- the part that the rules read under a kind, none where the data has not its shape
  pub read_part : Name → Json → Option Part
  -- the value that the rules read for a global, none where it has not its shape
  pub read_global : Name → Json → Option Json
  -- whether a part may stand under a kind
  pub admits : Name → Part → Bool
  -- a system by its kind and configuration
  pub system : Name → Json → Described
  -- what a system of a kind with a configuration may make of what it is lent
  pub meets : Name → Json → Fragment → Outcome → Type 0

-- the kinds whose references own their holder
abbrev pub owning_kinds : Book → List Name
owning_kinds book = filter book.owning book.part_names
