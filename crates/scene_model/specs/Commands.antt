-- Commands: what each does to a scene, and where a list of them leads.
use Rattle.std.specs.Prelude.{◌≡◌, ◌<◌, ◌≤◌, ℕ, ◌+◌, ◌==◌, Bool, true, false, ◌&&◌, List, length, [], ◌∷◌, ◌++◌, map, Option, Some, None, if◌then◌else◌}
use Rattle.std.specs.List.{list_all, list_any, find}
use Rattle.std.specs.Str.{bytes_eq}
use Rattle.scene_model.specs.Bounds.{FrameLimit}
use Rattle.scene_model.specs.Parts.{Name, Ref, living, gone, Part, under}
use Rattle.scene_model.specs.declared.refusals.Skip.{Skip}
use Rattle.scene_model.specs.declared.refusals.FrameRefusal.{FrameRefusal}
use Rattle.scene_model.specs.Rulebook.{Book, owning_kinds, Command, spawn, kill, put, take}
use Rattle.scene_model.specs.Scenes.{PlainScene, lives}
use Rattle.scene_model.specs.Deaths.{dies_with, without}
use Rattle.scene_model.specs.Causes.{Says}

-- the greatest id that a scene can have as its next one
abbrev pub last_next : ℕ
last_next = 18446744073709551615

-- what a command makes of a scene
pub data Applied : Type 0 where
  changed : PlainScene → Applied
  skipped : Applied
  ids_spent : Applied

-- whether a reference names a living id
abbrev pub ref_lives : List ℕ → Ref → Bool
ref_lives ids (living id) = lives id ids
ref_lives ids gone = false

-- whether all references of a part name living ids
abbrev pub refs_live : List ℕ → Part → Bool
refs_live ids part = list_all (ref_lives ids) part.refs

-- the parts with one of them set, or taken out
abbrev pub with_part : ℕ → Name → Option Part → (ℕ → Name → Option Part) → ℕ → Name → Option Part
with_part id kind part parts other name = if other == id && bytes_eq name kind then part else parts other name

-- A command is skipped where its object isn't alive as it begins, or a reference in its data names no living id. Parts of some kinds own
-- their holders: with one that is killed all die that hang on it.
abbrev pub apply : List Name → Command → PlainScene → Applied
apply owning (spawn parts) scene = if list_all (λ entry. refs_live scene.ids entry.1) parts then (if scene.next == last_next then ids_spent else changed (record {
  next = scene.next + 1;
  ids = scene.ids ++ scene.next ∷ [];
  part = λ id kind. if id == scene.next then under kind parts else scene.part id kind;
  global = scene.global;
})) else skipped
apply owning (kill id) scene = if lives id scene.ids then changed (without (dies_with owning scene id) scene) else skipped
apply owning (put id kind part) scene = if lives id scene.ids && refs_live scene.ids part then changed (record {
  next = scene.next;
  ids = scene.ids;
  part = with_part id kind (Some part) scene.part;
  global = scene.global;
}) else skipped
apply owning (take id kind) scene = if lives id scene.ids then changed (record {
  next = scene.next;
  ids = scene.ids;
  part = with_part id kind None scene.part;
  global = scene.global;
}) else skipped

-- where a list of commands leads: a scene and the places of those that were skipped, or an id was asked for and none was left
pub data Played : Type 0 where
  played : PlainScene → List ℕ → Played
  spent : Played

-- the places skipped later, behind one that was skipped now
abbrev pub behind : ℕ → Played → Played
behind place (played scene places) = played scene (place ∷ places)
behind place spent = spent

-- what comes of one command and those after it
abbrev pub go_on : ℕ → (PlainScene → Played) → PlainScene → Applied → Played
go_on place rest scene (changed after) = rest after
go_on place rest scene skipped = behind place (rest scene)
go_on place rest scene ids_spent = spent

-- the commands one after another, the first of them at this place
abbrev pub play : List Name → ℕ → List Command → PlainScene → Played
play owning place [] scene = played scene []
play owning place (command ∷ commands) scene = go_on place (play owning (place + 1) commands) scene (apply owning command scene)

-- whether a reference is gone
abbrev pub is_gone : Ref → Bool
is_gone (living id) = false
is_gone gone = true

-- whether something is there and holds a reference that is gone
abbrev pub holds_gone : Option Part → Bool
holds_gone None = false
holds_gone (Some part) = list_any is_gone part.refs

-- the least id that holds a reference that is gone
abbrev pub first_gone : Book → PlainScene → Option ℕ
first_gone book scene = find (λ id. list_any (λ kind. holds_gone (scene.part id kind)) book.part_names) scene.ids

-- the skips of a frame
abbrev pub skips_of : ℕ → List ℕ → List Skip
skips_of frame places = map (λ place. record { frame = frame; place = place }) places

-- Commands are accepted under a limit: there are no more of them than it says, they lead from a scene to the one after, these
-- places are skipped, and no reference is gone when they are done.
pub record CommandsAccepted (book : Book) (limit : ℕ) (commands : List Command) (scene after : PlainScene) (places : List ℕ) : Type 0 where
  pub within : length commands ≤ limit
  pub played_on : play (owning_kinds book) 1 commands scene ≡ played after places
  pub none_gone : first_gone book after ≡ None

-- among commands is a spawn that is to be done when those before it are: its references live, and an id is left for it; and this holds
-- of the scene where it is to be done
pub record ComesToSpawn (owning : List Name) (commands : List Command) (scene : PlainScene) (Holds : PlainScene → Type 0) : Type 0 where
  pub before : List Command
  pub parts : List (Name × Part)
  pub after : List Command
  pub are : commands ≡ before ++ spawn parts ∷ after
  pub mid : PlainScene
  pub places : List ℕ
  pub played_on : play owning 1 before scene ≡ played mid places
  pub made : PlainScene
  pub to_be_done : apply owning (spawn parts) mid ≡ changed made
  pub holds : Holds mid

-- Commands are refused for this cause: too many are told before the first runs, then a spawn that finds no id, then, when all
-- are done, the least id that holds a reference that is gone. A spawn that is to be done may find no index, and then at least as many
-- live as there may be indices; or no birth left for its index, and then at least as many were born as an index may have births. Want
-- of memory says nothing, and there is no other cause.
abbrev pub CommandsRefused : Book → FrameLimit → List Command → PlainScene → FrameRefusal → Type 0
CommandsRefused book limit commands scene cause = Says (record {
  system = λ position text. ⊥;
  gone = λ id. (after : PlainScene) × (places : List ℕ) × (length commands ≤ limit.commands) × (play (owning_kinds book) 1 commands scene ≡ played after places) × (first_gone book after ≡ Some id);
  ids = (length commands ≤ limit.commands) × (play (owning_kinds book) 1 commands scene ≡ spent);
  indices = (length commands ≤ limit.commands) × ComesToSpawn (owning_kinds book) commands scene (λ mid. limit.indices ≤ length mid.ids);
  generations = (length commands ≤ limit.commands) × ComesToSpawn (owning_kinds book) commands scene (λ mid. limit.generation + limit.unlisted ≤ mid.next);
  threads = ⊥;
  commands = limit.commands < length commands;
}) cause
