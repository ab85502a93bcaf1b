-- Who dies with an id, and a scene without its dead.
use Rattle.std.specs.Prelude.{◌≡◌, ℕ, ◌==◌, Bool, true, false, not, ◌&&◌, ◌||◌, List, [], ◌∷◌, map, Option, Some, None, option_map, if◌then◌else◌}
use Rattle.std.specs.List.{list_any, filter}
use Rattle.serde_json.specs.Data.{null}
use Rattle.scene_model.specs.Parts.{Name, Ref, living, gone, Part}
use Rattle.scene_model.specs.Scenes.{PlainScene, lives}

-- ---- sets that take whoever holds on to a member

-- a set has an id, and with each of its members those that hold on to it
pub record IsClosed (id : ℕ) (holds : ℕ → ℕ → Bool) (members : ℕ → Bool) : Type 0 where
  pub first : members id ≡ true
  pub holders : (holder target : ℕ) → holds holder target ≡ true → members target ≡ true → members holder ≡ true

-- it is the least of these sets, for its members are in each of them
pub record IsLeast (id : ℕ) (holds : ℕ → ℕ → Bool) (members : ℕ → Bool) : Type 0 where
  pub closed : IsClosed id holds members
  pub inside : (others : ℕ → Bool) → IsClosed id holds others → (one : ℕ) → members one ≡ true → others one ≡ true

-- whether one hangs on another: it is that one, or holds on to it, or hangs on one of these ways between them, which hangs on the other
abbrev pub hangs_on : (ℕ → ℕ → Bool) → List ℕ → ℕ → ℕ → Bool
hangs_on holds [] one other = one == other || holds one other
hangs_on holds (way ∷ ways) one other = hangs_on holds ways one other || (hangs_on holds ways one way && hangs_on holds ways way other)

-- ---- references that own their holder

-- whether a reference is to one of a set
abbrev pub is_to : (ℕ → Bool) → Ref → Bool
is_to members (living id) = members id
is_to members gone = false

-- whether a part is there and refers to an id
abbrev pub refers_to : ℕ → Option Part → Bool
refers_to id None = false
refers_to id (Some part) = list_any (is_to (λ other. other == id)) part.refs

-- whether one holds on to another: both live, and it refers to the other by a part of a kind that owns its holder
abbrev pub holds_on : List Name → PlainScene → ℕ → ℕ → Bool
holds_on owning scene holder target = lives holder scene.ids && (lives target scene.ids && list_any (λ kind. refers_to target (scene.part holder kind)) owning)

-- whether one dies with an id
abbrev pub dies_with : List Name → PlainScene → ℕ → ℕ → Bool
dies_with owning scene id one = hangs_on (holds_on owning scene) scene.ids one id

-- ---- a scene without its dead

-- a reference to one of the dead is gone from now on
abbrev pub without_ref : (ℕ → Bool) → Ref → Ref
without_ref dead (living id) = if dead id then gone else living id
without_ref dead gone = gone

-- A part whose references to the dead are gone. Where there is one, what was written for the part is forgotten, with the number of
-- an entity that is no more; a scene with such a part is never accepted.
abbrev pub part_without : (ℕ → Bool) → Part → Part
part_without dead part = record {
  json = if list_any (is_to dead) part.refs then null else part.json;
  refs = map (without_ref dead) part.refs;
}

-- the dead and their parts are taken out all at once, and references to them are gone
abbrev pub without : (ℕ → Bool) → PlainScene → PlainScene
without dead scene = record {
  next = scene.next;
  ids = filter (λ id. not (dead id)) scene.ids;
  part = λ id kind. if dead id then None else option_map (part_without dead) (scene.part id kind);
  global = scene.global;
}

-- some ids are taken out one after another
abbrev pub without_each : List ℕ → PlainScene → PlainScene
without_each [] scene = scene
without_each (id ∷ ids) scene = without_each ids (without (λ other. other == id) scene)
