-- The scene that stands in a world, by what rules say of their values.
use Rattle.shred_world.specs.Worlds.{Slots}
use Rattle.scene_model.specs.Scenes.{PlainScene}
use Rattle.scene_world.specs.Standing.{plain_of}
use Rattle.scene_world.specs.Members.{Members, kinds_by}
use Rattle.scene_world.specs.declared.value.SceneValue as values
use Rattle.scene_commands.specs.Acts.{seen_of}

-- the scene that stands in a world under rules
abbrev pub scene_in : {R V D G S : Type 0} → Members R V D G S → values.Ghosts V D → Slots V → PlainScene
scene_in rules held w = plain_of (kinds_by rules held) (seen_of w)
