use Rattle.std.proofs.Common.{List, Option, None, sym, subst}
use Rattle.shred_stages.specs.declared.turn.Staged.{Staged}
use Rattle.shred_stages.specs.Seats.{SeatsKept, refusal_of}
use Rattle.shred_stages.specs.Touring.{Touring}
use Rattle.shred_stages.proofs.EndLemmas.{tour-ends}
use Rattle.shred_stages.proofs.apart.run_standing.Goals as goal

pub returns-clause-ends : goal.returns-clause-ends
returns-clause-ends g c =
    let ran = c.tour_standing-tour in
    let back = c.disembark-outcome in
    let want : Option (Unit {0}) = None in
    tour-ends g.S.System.meets want c.in-Ok.tour ran.result c.args.berths.now.items c.args.staged.now.items back.new.staged.items c.args.world.now back.new.world (refusal_of back.result) c.answer.result
    c.in-Ok.ensures.ok c.answer.ensures.told tt ran.ensures.ran tt back.ensures.world back.ensures.staged back.ensures.told

pub returns-clause-seats : goal.returns-clause-seats
returns-clause-seats g c =
    let after = c.tour_standing-tour.result.staged in
    let P : Touring g.row.V.Denot g.row.S.Denot → Type 0 = λ tour. SeatsKept tour.staged after in
    let Q : List (Staged g.row.V.Denot g.row.S.Denot) → Type 0 = λ list. SeatsKept c.args.staged.now.items list in
    subst Q (sym c.disembark-outcome.ensures.staged) (subst P c.in-Ok.ensures.ok c.tour_standing-tour.ensures.seats)
