use Rattle.std.proofs.Common.{ap, ◌∙◌, ◌≡◌, Option, unwrap_or}
use Rattle.specs_entity.specs.Life.{Life, first_life}
use Rattle.specs_entity.specs.Births.{persistent_at}
use Rattle.specs_entity.specs.declared.phase_rule.PhaseKey.{PhaseKey}
use Rattle.specs_entity.specs.SharedPhase.{SharedPhase}
use Rattle.specs_entity.proofs.PhaseReserveLemmas.{persistent-created}
use Rattle.specs_entity.proofs.shared_entities.SharedEntities.refused.Goals as goal

pub returns : goal.returns
returns c =
    let key : PhaseKey = c.self.inside.table.shared.key in
    let last : persistent_at c.self.inside.entities c.args.entity.id ≡ persistent_at c.args.self.now.key.before c.args.entity.id =
    ap (λ b. persistent_at b c.args.entity.id) c.self.invariant.entities ∙ (persistent-created key.reserve key.before c.args.entity.id ∙ ap (λ (s : SharedPhase). persistent_at s.key.before c.args.entity.id) c.self.view_is) in
    (c.refusal.ensures.0, c.refusal.ensures.1 ∙ ap (λ (life : Option Life). unwrap_or life first_life) last)
