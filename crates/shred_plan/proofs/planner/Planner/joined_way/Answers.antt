use Rattle.std.proofs.Common.{◌≡◌, [], length, get_or, ap, ◌∙◌, arith}
use Rattle.std.proofs.lemmas.List.{get_or_read}
use Rattle.shred_plan.specs.Index.{stage_at}
use Rattle.shred_plan.proofs.FirstLemmas.{loose-way}
use Rattle.shred_plan.proofs.SeatLemmas.{two-passed}
use Rattle.shred_plan.proofs.planner.Planner.joined_way.Goals as goal

pub returns-then-has_two : goal.returns-then-has_two
returns-then-has_two g c =
    two-passed g.K.PartialEq.eq c.args.self.now.first c.args.adding.now c.args.self.now.stages c.args.place c.args.seats.now c.requires.reached c.requires.hits c.requires.blocked c.requires.ready (c.has_two.ensures c.if-has_two.true)

pub returns : goal.returns
returns g c =
    let stages = c.args.self.now.stages in
    let whole = ap (λ plan. length plan.stages) c.self.view_is in
    let read : c.index-stage.result.now ≡ stage_at stages c.args.place = get_or_read c.self.inside.stages.items c.args.place _ (omega arith) c.index-stage.ensures [] ∙ ap (λ plan. get_or plan.stages c.args.place []) c.self.view_is in
    loose-way g.K.PartialEq.eq c.args.self.now.first c.args.adding.now stages c.args.place c.index-stage.result.now c.joined_way.result c.requires.reached c.requires.ready read c.joined_way.ensures
