-- What a scene is that runs in a world of entities: what is shown of it, and when it is ready for its next frame.
use Rattle.std.specs.Prelude.{◌≡◌, ◌≤◌, ◌+◌, ◌*◌, ℕ, List, [], codes, min, Result, Ok, Some, None, Option, All, slice_get}
use Rattle.std.specs.Global.{Vec}
use Rattle.serde_json.specs.View.{view}
use Rattle.shred_world.specs.Worlds.{Slots}
use Rattle.shred_world.specs.Bundles.{holding_of}
use Rattle.shred_stages.specs.Worth.{most_worth}
use Rattle.shred.specs.Dispatching.{Dispatching}
use Rattle.scene_model.specs.declared.command.Command.{Command}
use Rattle.scene_model.specs.declared.refusals.FrameRefusal.{FrameRefusal}
use Rattle.scene_model.specs.declared.store.Store.TheVariants as stores
use Rattle.scene_model.specs.Bounds.{FrameLimit}
use Rattle.scene_model.specs.Stores.{store_named}
use Rattle.scene_model.specs.Parts.{Json, Name, Part}
use Rattle.scene_model.specs.Rulebook.{Access, Book}
use Rattle.scene_model.specs.Scenes.{PlainScene, PlainSystem, PlainFrame, IsProper, IsDescribed}
use Rattle.scene_model.specs.Lawful.{IsLawful}
use Rattle.scene_model.specs.Slots.{filled}
use Rattle.scene_document.specs.declared.draft.DocumentDraft.{DocumentDraft}
use Rattle.scene_document.specs.Drafts.{Draft}
use Rattle.scene_document.specs.DraftViews.{IsDraft, AreMade}
use Rattle.scene_document.specs.Texts.{json_of}
use Rattle.scene_document.specs.declared.loaded.Limits.{Limits}
use Rattle.scene_document.specs.Apart.{IsApart}
use Rattle.scene_document.specs.Documents.{document_from, refusal_of}
use Rattle.scene_document.specs.Openings.{first_scene, frames_of}
use Rattle.scene_document.specs.Loading.{commands_at}
use Rattle.scene.specs.declared.snapshot.kept.KeptScene.{KeptScene}
use Rattle.scene.specs.KeptScenes.{kept_scene}
use Rattle.scene_world.specs.Standing.{Kinds, plain_of, IsSceneWorld}
use Rattle.scene_world.specs.Turns.{Meaning, IsOfBook}
use Rattle.scene_world.specs.declared.placed.Placed.{Placed}
use Rattle.scene_dispatch.specs.Orders.{turn_order}
use Rattle.scene_dispatch.specs.Frames.{AreReady}
use Rattle.scene_commands.specs.Acts.{seen_of}
use Rattle.scene.specs.Waiting.{AreTheirPlaces, NoneWaits}
use Rattle.scene.specs.Coming.{HaveCome, IsUnder, StaysUnder}
use Rattle.scene.specs.Limits.{bounds_of, limit_of}
use Rattle.scene_commands.specs.Bounds.{unlisted_in}
use Rattle.scene_commands.specs.declared.watching.ReaderTurn.TheVariants.{Next}
use Rattle.scene.specs.Keeping.{IsKept, IsKeptSince, touched_in, changes_at}
use Rattle.scene.specs.Runs.{CanBegin}
use Rattle.scene.specs.Turns.{Shown, opening, nothing_yet, Going, RunsOut}
use Rattle.scene.specs.declared.frame.Scene.{Scene}
use Rattle.scene.specs.declared.load.Opened.{Opened}
use Rattle.scene.specs.declared.load.Prepared.{Prepared}
use Rattle.scene.specs.declared.load.ReadDocument.{ReadDocument}
use Rattle.scene.specs.declared.load.ReadDocument.TheVariants.{Apart, Whole}

-- the frames of a scene: its systems in the order in which they take their turns, and the commands for each frame by its number from 1
abbrev pub course_of : {D : Type 0} → (D → Part) → List PlainSystem → List (Vec (Command D)) → ℕ → PlainFrame
course_of part_of order commands number = record { order = order; commands = commands_at part_of commands number }

-- a draft is that of a document against which no refusal stands, and its systems are those that it says
pub record IsUnrefused {D G S : Type 0} (part_of : D → Part) (global_of : G → Json) (kind_of : S → Name) (config_of : S → Json) (declared : S → Access) (said_time : S → ℕ) (made_by : S → Type 0) (book : Book) (draft : DocumentDraft D G S) : Type 0 where
  pub plain : Draft
  pub indices : ℕ
  pub json : Json
  pub is : document_from book indices json ≡ Ok plain
  pub says : IsDraft part_of global_of kind_of config_of book plain draft
  pub made : AreMade declared said_time made_by draft.entries.items

-- a draft is that of a document that may be put into a world
pub record IsOpenable {D G S : Type 0} (part_of : D → Part) (global_of : G → Json) (kind_of : S → Name) (config_of : S → Json) (book : Book) (draft : DocumentDraft D G S) : Type 0 where
  pub plain : Draft
  pub indices : ℕ
  pub says : IsDraft part_of global_of kind_of config_of book plain draft
  pub passed : refusal_of indices plain ≡ None

-- a JSON was read: its entities apart from the rest of it, or as a whole
abbrev pub IsReadAs : {D : Type 0} → (D → Part) → Book → Json → ReadDocument D → Type 0
IsReadAs part_of book json (Apart apart) = IsApart part_of book json (view apart.rest) apart.entities.items
IsReadAs part_of book json (Whole value) = json ≡ view value

-- the scene of a document alone, without systems and commands
abbrev pub alone : Draft → Draft
alone draft = record { next = draft.next; entities = draft.entities; globals = draft.globals; entries = []; frames = 0; commands = []; workers = 0; store = codes "vec" }

-- of a draft, that of its scene alone
pub record IsAlone {D G S : Type 0} (whole draft : DocumentDraft D G S) : Type 0 where
  pub next : draft.next ≡ whole.next
  pub entities : draft.entities ≡ whole.entities
  pub globals : draft.globals ≡ whole.globals
  pub entries : draft.entries.items ≡ []
  pub frames : draft.frames ≡ 0
  pub commands : draft.commands.items ≡ []
  pub workers : draft.workers ≡ 0
  pub store : draft.store ≡ Some stores.Vec

-- what stands at a place of a list, if something does
abbrev pub value_at : {X : Type 0} → Vec (Option X) → ℕ → Option X
value_at list place = filled (slice_get list.items place)

-- the scene that is kept, with its globals in a list by the places of the rules' names
abbrev pub listed_scene : {D G : Type 0} → (D → Part) → (G → Json) → Book → KeptScene D (Vec (Option G)) → PlainScene
listed_scene part_of global_of book kept = kept_scene part_of global_of value_at book kept

-- a scene stands in a world, with its systems ready for a frame, no command that waits, and their places
pub record Stands {V P : Type 0} (kinds : Kinds V) (meaning : Meaning P) (book : Book) (systems : Dispatching P P) (w : Slots V) (at_places : List ℕ) (scene : PlainScene) : Type 0 where
  pub ready : AreReady kinds meaning book systems (holding_of w)
  pub none : NoneWaits kinds (seen_of w)
  pub places : AreTheirPlaces at_places (turn_order meaning.plain systems)
  pub same : plain_of kinds (seen_of w) ≡ scene

-- a document is ready to be put into a world: its scene alone is at hand, its systems and their places are those of its frames, and its
-- workers and its store are as it says
pub record IsPrepared {R V D G S : Type 0} (part_of : D → Part) (global_of : G → Json) (kind_of : S → Name) (config_of : S → Json) (meaning : Meaning (Placed R V D G S)) (book : Book) (limits : Limits) (json : Json) (prepared : Prepared R V D G S) : Type 0 where
  pub draft : Draft
  pub is : document_from book limits.indices json ≡ Ok draft
  pub says : IsDraft part_of global_of kind_of config_of book (alone draft) prepared.draft
  pub places : AreTheirPlaces prepared.places.items (turn_order meaning.plain prepared.course.dispatcher)
  pub frames : (number : ℕ) → frames_of draft number ≡ course_of part_of (turn_order meaning.plain prepared.course.dispatcher) prepared.course.commands.items number
  pub lawful : (number : ℕ) → All (IsLawful book) (commands_at part_of prepared.course.commands.items number)
  pub staged : All (IsOfBook meaning book) prepared.course.dispatcher.staging.systems
  pub locals : All (IsOfBook meaning book) prepared.course.dispatcher.locals
  pub asked : prepared.course.asked ≡ draft.frames
  pub described : (number : ℕ) → All (IsDescribed book) (frames_of draft number).order
  pub workers : prepared.course.dispatcher.workers ≡ draft.workers
  pub store : store_named draft.store ≡ Some prepared.store

-- a document stands in a world, before anything is kept of its scene: no command waits there, its systems and their places are those of its
-- frames, it can begin, and its entities and workers are as it and the limits say
pub record IsPlaced {R V D G S : Type 0} (kinds : Kinds V) (part_of : D → Part) (meaning : Meaning (Placed R V D G S)) (book : Book) (limits : Limits) (json : Json) (opened : Opened R V D G S) : Type 0 where
  pub draft : Draft
  pub is : document_from book limits.indices json ≡ Ok draft
  pub stands : IsSceneWorld kinds book (seen_of opened.world)
  pub none : NoneWaits kinds (seen_of opened.world)
  pub scene : plain_of kinds (seen_of opened.world) ≡ first_scene draft
  pub places : AreTheirPlaces opened.places.items (turn_order meaning.plain opened.course.dispatcher)
  pub frames : (number : ℕ) → frames_of draft number ≡ course_of part_of (turn_order meaning.plain opened.course.dispatcher) opened.course.commands.items number
  pub lawful : (number : ℕ) → All (IsLawful book) (commands_at part_of opened.course.commands.items number)
  pub staged : All (IsOfBook meaning book) opened.course.dispatcher.staging.systems
  pub locals : All (IsOfBook meaning book) opened.course.dispatcher.locals
  pub asked : opened.course.asked ≡ draft.frames
  pub begins : CanBegin book draft
  pub under : IsUnder kinds (limit_of (bounds_of limits) draft) opened.world
  pub unlisted : opened.unlisted ≡ unlisted_in draft
  pub workers : opened.course.dispatcher.workers ≡ draft.workers

-- the rules that a scene runs under
abbrev pub rules_of : {R V D G S : Type 0} → Scene R V D G S → R
rules_of scene = scene.rules

-- how many entries of what is kept have left and entered
abbrev pub changes_of : {R V D G S : Type 0} → Scene R V D G S → ℕ
changes_of scene = scene.kept.changes

-- how many workers a crew has that stands by for a scene's frames
abbrev pub crew_of : {R V D G S : Type 0} → Scene R V D G S → ℕ
crew_of scene = min scene.dispatcher.workers (most_worth scene.dispatcher.staging.planning.stages)

-- what bounds the frames of a scene
abbrev pub limit_in : {R V D G S : Type 0} → Scene R V D G S → FrameLimit
limit_in scene = record {
  commands = scene.limit.commands;
  indices = scene.limit.indices;
  generation = scene.limit.generation;
  unlisted = scene.limit.unlisted;
  workers = scene.dispatcher.workers;
}

module _ {R V D G S : Type 0} (kinds : Kinds V) where
  -- the indices that were touched, as those readers tell them who read as the next frame begins
  abbrev pub touched_of : Scene R V D G S → List ℕ
  touched_of scene = touched_in kinds Next kinds.part_names scene.watchers (seen_of scene.world)

  -- for each index that was touched an entry left if it bore one, and one entered if it bears one now, and no other change was made
  abbrev pub CountsTouched : (old new : Scene R V D G S) → Type 0
  CountsTouched old new = changes_of new ≡ changes_of old + changes_at (touched_of new) old.kept new.kept

module _ {R V D G S : Type 0} (kinds : Kinds V) (part_of : D → Part) (global_of : G → Json) (meaning : Meaning (Placed R V D G S)) (book_of : R → Book) where
  -- what is shown of a scene: what is kept of the last accepted one, and its frames
  abbrev pub shown_of : Scene R V D G S → Shown
  shown_of scene = record {
    scene = listed_scene part_of global_of (book_of scene.rules) scene.kept;
    frames = course_of part_of (turn_order meaning.plain scene.dispatcher) scene.commands.items;
    limit = limit_in scene;
    asked = scene.asked;
    report = scene.report;
  }

  -- a scene is ready: unless a frame was refused, it stands in its world, of which what is kept is the full save, and whose entities are
  -- under the scene's limit; it is proper, and the commands of its frames are ones that the rules know, and no more changes were counted
  -- than its frames can make; every scene that was loaded is, and stays so
  pub record IsReady (scene : Scene R V D G S) : Type 0 where
    pub stands : scene.report.refused ≡ None → Stands kinds meaning (book_of scene.rules) scene.dispatcher scene.world scene.places.items (listed_scene part_of global_of (book_of scene.rules) scene.kept)
    pub kept : scene.report.refused ≡ None → IsKept kinds part_of (book_of scene.rules) scene.watchers scene.kept (seen_of scene.world)
    pub under : scene.report.refused ≡ None → IsUnder kinds (limit_in scene) scene.world
    pub lawful : (number : ℕ) → All (IsLawful (book_of scene.rules)) (commands_at part_of scene.commands.items number)
    pub proper : IsProper (book_of scene.rules) (listed_scene part_of global_of (book_of scene.rules) scene.kept)
    pub few : changes_of scene ≤ 33554432 * (scene.report.frames + 1)

  -- the systems of a scene's next frame have come to an outcome, and nothing else of the frame was done since what is kept was the full save of
  -- its world
  pub record IsUnderWay (scene : Scene R V D G S) (outcome : Result (Unit {0}) FrameRefusal) : Type 0 where
    pub going : scene.report.refused ≡ None
    pub come : HaveCome kinds meaning (book_of scene.rules) scene.dispatcher scene.world (listed_scene part_of global_of (book_of scene.rules) scene.kept) outcome
    pub since : IsKeptSince kinds part_of (book_of scene.rules) scene.watchers scene.kept scene.world outcome
    pub under : StaysUnder kinds (limit_in scene) scene.world outcome
    pub places : AreTheirPlaces scene.places.items (turn_order meaning.plain scene.dispatcher)
    pub lawful : (number : ℕ) → All (IsLawful (book_of scene.rules)) (commands_at part_of scene.commands.items number)
    pub proper : IsProper (book_of scene.rules) (listed_scene part_of global_of (book_of scene.rules) scene.kept)
    pub few : changes_of scene ≤ 33554432 * (scene.report.frames + 1)

  -- a scene is ready, and none of its frames has run
  pub record MayBegin (scene : Scene R V D G S) : Type 0 where
    pub ready : IsReady scene
    pub start : (shown_of scene).report ≡ nothing_yet

  -- some frames of a scene have run, and all were accepted
  pub record IsGoing (start now : Scene R V D G S) : Type 0 where
    pub rules : rules_of now ≡ rules_of start
    pub ready : IsReady now
    pub going : Going (book_of (rules_of start)) (shown_of start) (shown_of now)

  -- the frames of a scene have run to their end
  pub record HasRunOut (start now : Scene R V D G S) : Type 0 where
    pub rules : rules_of now ≡ rules_of start
    pub ready : IsReady now
    pub end : RunsOut (book_of (rules_of start)) (shown_of start) (shown_of now)

  -- a scene was opened from a JSON: a document under these limits, before any frame, and it can begin
  pub record IsOpened (rules : R) (limits : Limits) (json : Json) (scene : Scene R V D G S) : Type 0 where
    pub same_rules : rules_of scene ≡ rules
    pub ready : IsReady scene
    pub document : (draft : Draft) × (document_from (book_of rules) limits.indices json ≡ Ok draft) × (shown_of scene ≡ opening (bounds_of limits) draft) × CanBegin (book_of rules) draft

  -- a scene was opened from bytes: they read as a JSON, and it was opened from that
  abbrev pub IsOpenedFrom : R → Limits → List ℕ → Scene R V D G S → Type 0
  IsOpenedFrom rules limits bytes scene = (json : Json) × (json_of bytes ≡ Some json) × IsOpened rules limits json scene
