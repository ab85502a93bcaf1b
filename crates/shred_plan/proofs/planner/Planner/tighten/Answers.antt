use Rattle.std.proofs.Common.{◌≡◌, false, sym, ap, ◌∙◌, subst}
use Rattle.std.specs.Option.{IfSome}
use Rattle.shred_plan.specs.Index.{stage_at, is_loose}
use Rattle.shred_plan.specs.Kept.{Keeps}
use Rattle.shred_plan.proofs.KeepLemmas.{keeps-tight}
use Rattle.shred_plan.proofs.planner.Planner.tighten.Goals as goal

pub invariant_of-self-in-Some-2 : goal.invariant_of-self-in-Some-2
invariant_of-self-in-Some-2 g c =
    let cmp = g.K.Ord.cmp in
    let same = g.K.PartialEq.eq in
    let stages = c.self.inside.stages.items in
    let kept : Keeps cmp same c.in-Some.index stages =
    subst (λ found. IfSome found (λ index. Keeps cmp same index stages)) (sym c.take.ensures.value ∙ c.in-Some.is) c.self.invariant in
    let tight : is_loose (stage_at stages c.args.stage) ≡ false = ap (λ plan. is_loose (stage_at plan.stages c.args.stage)) c.self.view_is ∙ sym c.may_be_joined.ensures ∙ c.if-may_be_joined.false in
    keeps-tight cmp same c.in-Some.index c.note_tight.new.self stages c.args.stage kept tight c.note_tight.ensures.kept c.note_tight.ensures.loose
