-- How the ids of a scene go on to those of a later one.
use Rattle.std.specs.Prelude.{◌≡◌, ◌<◌, ◌≤◌, ℕ, suc, true, false, List}
use Rattle.scene_model.specs.declared.refusals.Skip.{Skip}
use Rattle.scene_model.specs.Rulebook.{Book}
use Rattle.scene_model.specs.Scenes.{PlainScene, IdsFit, lives}
use Rattle.scene_model.specs.Frames.{Reaches}
use Rattle.scene_document.specs.Drafts.{Draft}
use Rattle.scene_document.specs.Openings.{frames_of}
use Rattle.scene.specs.TwoParts.{frames_behind}

-- ids go on from a scene to a later one: the next id does not fall, ids ascend and are below it, an id that was given and does
-- not live does not come back, and an id that is new was not given before
pub record IdsGoOn (scene after : PlainScene) : Type 0 where
  pub next : scene.next ≤ after.next
  pub fit : IdsFit after.next after.ids
  pub no_return : (id : ℕ) → id < scene.next → lives id scene.ids ≡ false → lives id after.ids ≡ false
  pub fresh : (id : ℕ) → lives id after.ids ≡ true → lives id scene.ids ≡ false → scene.next ≤ id

-- an id is given: no entity had it, and it is the last and the only one that came
pub record Gives (id : ℕ) (scene after : PlainScene) : Type 0 where
  pub is_next : id ≡ scene.next
  pub unused : lives id scene.ids ≡ false
  pub lives_now : lives id after.ids ≡ true
  pub next_after : after.next ≡ suc id

-- an id is taken away: an entity had it, none has it now, and it stays below the next one
pub record TakesAway (id : ℕ) (scene after : PlainScene) : Type 0 where
  pub lived : lives id scene.ids ≡ true
  pub dead_now : lives id after.ids ≡ false
  pub below : id < after.next

-- from a scene on, the frames of a document behind its first ones lead to another
abbrev pub ReachesBehind : Book → ℕ → Draft → ℕ → ℕ → PlainScene → PlainScene → List Skip → Type 0
ReachesBehind book limit draft count more mid end skips = Reaches book limit (frames_behind count (frames_of draft)) more mid end skips
