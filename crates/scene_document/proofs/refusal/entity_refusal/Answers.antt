use Rattle.std.proofs.Common.{map, sym, subst, ◌∙◌}
use Rattle.scene_model.specs.Scenes.{IdsAscend}
use Rattle.scene_model.proofs.CallerLemmas.{in_order-ascends}
use Rattle.scene_document.proofs.refusal.entity_refusal.Goals as goal

pub dangles-requires : goal.dangles-requires
dangles-requires g c = subst IdsAscend (sym (c.deref-2.ensures.value ∙ c.in_ok-ids.ensures.ids)) (in_order-ascends (map (λ entity. entity.id) c.deref.result.now))
