use Rattle.std.proofs.Common.{◌≡◌, false, sym, ap, ◌∙◌, subst}
use Rattle.std.specs.Option.{IfSome}
use Rattle.std.proofs.lemmas.Bool.{or_parts, eqb-false}
use Rattle.shred_plan.specs.declared.index.Index.{Index}
use Rattle.shred_plan.specs.Index.{has_stage, stood_before, stage_at, is_loose}
use Rattle.shred_plan.specs.Kept.{Marks, Keeps, stage_of}
use Rattle.shred_plan.specs.Seats.{KeepsSeats}
use Rattle.shred_plan.specs.Places.{placed_at}
use Rattle.shred_plan.proofs.KeepLemmas.{keeps-noted, tight-others}
use Rattle.shred_plan.proofs.planner.Planner.noted.Goals as goal

pub returns-clause-keeps : goal.returns-clause-keeps
returns-clause-keeps g c =
    let cmp = g.K.Ord.cmp in
    let same = g.K.PartialEq.eq in
    let one = c.args.adding.now in
    let stages = c.args.self.now.stages in
    let stage = c.stage_of-stage.result in
    let index = c.in_ok-index.index in
    let kept : Keeps cmp same index stages =
    subst (λ plan. Keeps cmp same index plan.stages) c.self.view_is
    (subst (λ found. IfSome found (λ i. Keeps cmp same i c.self.inside.stages.items)) (sym c.take.ensures.value ∙ c.in_ok-index.was) c.self.invariant) in
    let is : stage ≡ stage_of stages c.args.place = c.stage_of-stage.ensures ∙ ap (λ plan. stage_of plan.stages c.args.place) c.self.view_is in
    let noted = c.in_default.ensures in
    let seats : KeepsSeats cmp same c.note_seats.new.seats (placed_at one stages c.args.place) =
    subst (λ plan. KeepsSeats cmp same c.note_seats.new.seats (placed_at one plan.stages c.args.place)) c.self.view_is c.in_default-note_seats.ensures in
    let more = c.in_default-note_loose.ensures in
    keeps-noted cmp same index c.note_loose.new.self one stages c.args.place stage c.requires is kept
    (subst (λ table. Marks cmp same index.stages table one stage) (sym more.kept.0) noted.stages)
    (subst (λ seats. KeepsSeats cmp same seats (placed_at one stages c.args.place)) (sym more.kept.1) seats)
    (λ number place. ap (λ firsts. stood_before firsts.stages number place) more.kept.2 ∙ noted.firsts number place)
    (λ place h.
    let both = or_parts _ _ (sym (more.loose place) ∙ h) in
    tight-others one stages c.args.place c.requires place (λ e. eqb-false stage place both.1 (is ∙ sym e)) (kept.loose place (ap (λ set. has_stage set place) (sym noted.kept.1) ∙ both.0)))

pub returns-then-not-loosens-clause-keeps : goal.returns-then-not-loosens-clause-keeps
returns-then-not-loosens-clause-keeps g c =
    let cmp = g.K.Ord.cmp in
    let same = g.K.PartialEq.eq in
    let one = c.args.adding.now in
    let stages = c.args.self.now.stages in
    let stage = c.stage_of-stage.result in
    let index = c.in_ok-index.index in
    let kept : Keeps cmp same index stages =
    subst (λ plan. Keeps cmp same index plan.stages) c.self.view_is
    (subst (λ found. IfSome found (λ i. Keeps cmp same i c.self.inside.stages.items)) (sym c.take.ensures.value ∙ c.in_ok-index.was) c.self.invariant) in
    let is : stage ≡ stage_of stages c.args.place = c.stage_of-stage.ensures ∙ ap (λ plan. stage_of plan.stages c.args.place) c.self.view_is in
    let noted = c.in_default.ensures in
    let seats : KeepsSeats cmp same c.note_seats.new.seats (placed_at one stages c.args.place) =
    subst (λ plan. KeepsSeats cmp same c.note_seats.new.seats (placed_at one plan.stages c.args.place)) c.self.view_is c.in_default-note_seats.ensures in
    let after : Index g.row.K.Denot =
    record { stages = c.note.new.self.stages; seats = c.note_seats.new.seats; firsts = c.note.new.self.firsts; loose = c.note.new.self.loose } in
    keeps-noted cmp same index after one stages c.args.place stage c.requires is kept noted.stages seats noted.firsts
    (λ place h.
    subst (λ plan. is_loose (stage_at plan.stages place) ≡ false → is_loose (stage_at (placed_at one plan.stages c.args.place) place) ≡ false) c.self.view_is
    (c.loosens.ensures c.if-not-loosens.true place)
    (kept.loose place (ap (λ set. has_stage set place) (sym noted.kept.1) ∙ h)))
