-- What turns of systems leave as it was.
use Rattle.std.specs.Prelude.{◌≡◌, ℕ, false, List}
use Rattle.std.specs.List.{list_any}
use Rattle.scene_model.specs.Parts.{Name, is_among}
use Rattle.scene_model.specs.Rulebook.{Access}
use Rattle.scene_model.specs.Scenes.{PlainScene, PlainSystem}

-- ids and the next id stay, and so do the parts of each kind and the value of each global that is not written
pub record ChangesDeclared (access : Access) (scene after : PlainScene) : Type 0 where
  pub next : after.next ≡ scene.next
  pub ids : after.ids ≡ scene.ids
  pub parts : (id : ℕ) (kind : Name) → is_among kind access.writes ≡ false → after.part id kind ≡ scene.part id kind
  pub globals : (name : Name) → is_among name access.written_globals ≡ false → after.global name ≡ scene.global name

-- so it is where several systems had their turns, of what none of them writes
pub record ChangesDeclaredBy (order : List PlainSystem) (scene after : PlainScene) : Type 0 where
  pub next : after.next ≡ scene.next
  pub ids : after.ids ≡ scene.ids
  pub parts : (id : ℕ) (kind : Name) → list_any (λ system. is_among kind system.access.writes) order ≡ false → after.part id kind ≡ scene.part id kind
  pub globals : (name : Name) → list_any (λ system. is_among name system.access.written_globals) order ≡ false → after.global name ≡ scene.global name
