use Rattle.std.proofs.Common.{◌≡◌, ◌<◌, [], length, get_or, ap, ◌∙◌, arith}
use Rattle.std.proofs.lemmas.List.{get_or_read}
use Rattle.shred_plan.specs.Plan.{Stage, Group}
use Rattle.shred_plan.specs.Index.{stage_at}
use Rattle.shred_plan.proofs.SeatLemmas.{seats-marked, seated-in}
use Rattle.shred_plan.proofs.planner.Planner.note_first.Goals as goal

pub loop-system-preserved : goal.loop-system-preserved
loop-system-preserved g c =
    let stages = c.args.self.now.stages in
    let stage = c.args.stage in
    let whole = ap (λ plan. length plan.stages) c.self.view_is in
    let read : c.index.result.now ≡ stage_at stages stage = get_or_read c.self.inside.stages.items stage _ (omega arith) c.index.ensures [] ∙ ap (λ plan. get_or plan.stages stage []) c.self.view_is in
    let groups : c.groups-groups.result.now ≡ stage_at stages stage = c.groups-groups.ensures ∙ read in
    let count : 0 < length c.groups-groups.result.now = omega arith in
    let group : c.index-groups-0.result ≡ get_or (stage_at stages stage) 0 [] = get_or_read c.groups-groups.result.now 0 _ count c.index-groups-0.is [] ∙ ap (λ list. get_or list 0 []) groups in
    let systems : c.systems-system-items.result.now ≡ get_or (stage_at stages stage) 0 [] = c.systems-system-items.ensures ∙ group in
    seats-marked g.K.Ord.cmp g.K.PartialEq.eq c.loop-system.seats c.mark.new.self c.system-item.result stages c.seat_of.result c.loop-system.invariant c.in_ok-mark.ensures
    (seated-in c.system-item.result stages c.seat_of.result stage 0 c.loop-system.system-index c.system-item.result c.seat_of.ensures.stage c.seat_of.ensures.place
    (omega (arith, count, ap (λ (list : Stage g.row.K.Denot). length list) groups))
    (omega (arith, c.loop-system-test.true, ap (λ (list : Group g.row.K.Denot). length list) systems))
    (c.system-item.is ∙ ap (λ list. get_or list c.loop-system.system-index c.system-item.result) systems))
