use Rattle.std.proofs.Common.{sym, ◌∙◌}
use Rattle.shred_plan.proofs.WayLemmas.{joined-one, joined-many, joined-none}
use Rattle.shred_plan.proofs.stage.Stage.joined_way.Goals as goal

pub returns-in_err-place : goal.returns-in_err-place
returns-in_err-place g c =
    c.from_residual.ensures ∙ sym (joined-none g.K.PartialEq.eq c.args.adding.now c.args.self.now c.requires (sym c.place_of_hit.ensures ∙ c.in_err-place.was))

pub returns-then-count_hit-eq1 : goal.returns-then-count_hit-eq1
returns-then-count_hit-eq1 g c =
    sym (joined-one g.K.PartialEq.eq c.args.adding.now c.args.self.now c.in_ok-place.place c.requires (sym c.place_of_hit.ensures ∙ c.in_ok-place.was) (sym c.count_hit.ensures ∙ c.if-count_hit-eq1.true))

pub returns-else-count_hit-eq1 : goal.returns-else-count_hit-eq1
returns-else-count_hit-eq1 g c =
    sym (joined-many g.K.PartialEq.eq c.args.adding.now c.args.self.now c.requires (λ e. c.if-count_hit-eq1.false (c.count_hit.ensures ∙ e)))
