-- Scenes in which nobody lives yet.
use Rattle.std.specs.Prelude.{ℕ, [], None}
use Rattle.scene_model.specs.Scenes.{PlainScene}

-- nobody lives, no global has a value, and this id comes next
abbrev pub without_entities : ℕ → PlainScene
without_entities next = record { next = next; ids = []; part = λ id kind. None; global = λ name. None }
