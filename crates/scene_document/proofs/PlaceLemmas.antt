-- Lemmas on names and parts that stand at places of the rules' names.
use Rattle.std.proofs.Common.{◌≡◌, List, [], ◌∷◌, map, refl, ap}
use Rattle.scene_document.specs.declared.draft.EntityDraft.{EntityDraft}
use Rattle.scene_model.specs.Parts.{Name, Part}
use Rattle.scene_document.specs.DraftViews.{plain_entity}

module _ {D : Type 0} (part_of : D → Part) (names : List Name) where
  -- ids stay
  pub ids-plain : (entities : List (EntityDraft D)) → map (λ entity. entity.id) (map (plain_entity part_of names) entities) ≡ map (λ entity. entity.id) entities
  ids-plain [] = refl
  ids-plain (entity ∷ entities) = ap (λ ids. entity.id ∷ ids) (ids-plain entities)
