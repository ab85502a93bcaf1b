-- The scene of a world into which a draft was put.
use Rattle.std.specs.Prelude.{map}
use Rattle.scene_document.specs.declared.draft.DocumentDraft.{DocumentDraft}
use Rattle.scene_model.specs.Parts.{Json, Part}
use Rattle.scene_model.specs.Rulebook.{Book}
use Rattle.scene_model.specs.Scenes.{PlainScene}
use Rattle.scene_document.specs.DraftViews.{named, plain_entity}
use Rattle.scene_commands.specs.Entries.{with_entities, with_parts, with_values}

-- a scene into which the entities of a draft were put, then their parts, and then its globals
abbrev pub filled_with : {D G S : Type 0} → (D → Part) → (G → Json) → Book → DocumentDraft D G S → PlainScene → PlainScene
filled_with part_of global_of book draft scene =
    with_values (map (named global_of book.global_names) draft.globals.items)
    (with_parts (map (plain_entity part_of book.part_names) draft.entities.items)
    (with_entities (map (λ entity. entity.id) draft.entities.items) scene))
