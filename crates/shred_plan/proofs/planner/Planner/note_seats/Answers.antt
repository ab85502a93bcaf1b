use Rattle.std.proofs.Common.{◌%◌, Some, sym, ap, ◌∙◌, subst}
use Rattle.shred_plan.specs.Seats.{KeepsSeats}
use Rattle.shred_plan.specs.Places.{IsPlace, placed_at}
use Rattle.shred_plan.proofs.SeatLemmas.{seats-placed, seats-marked, seated-placed}
use Rattle.shred_plan.proofs.planner.Planner.note_seats.Goals as goal

pub returns-then-place-ge-SEATED_STAGES : goal.returns-then-place-ge-SEATED_STAGES
returns-then-place-ge-SEATED_STAGES g c = seats-placed g.K.Ord.cmp g.K.PartialEq.eq c.args.seats.now c.args.adding.now c.args.self.now.stages c.args.place c.requires.fits c.requires.keeps

pub returns : goal.returns
returns g c =
    let cmp = g.K.Ord.cmp in
    let same = g.K.PartialEq.eq in
    let one = c.args.adding.now in
    let stages = c.args.self.now.stages in
    let place = c.in-Some.place in
    let fits : IsPlace stages (Some place) = subst (IsPlace stages) c.in-Some.is c.requires.fits in
    subst (λ found. KeepsSeats cmp same c.mark.new.self (placed_at one stages found)) (sym c.in-Some.is)
    (seats-marked cmp same c.note_first.new.seats c.mark.new.self one (placed_at one stages (Some place)) c.seat_of.result
    (seats-placed cmp same c.note_first.new.seats one stages (Some place) fits c.in_ok-note_first.ensures)
    c.in_ok-mark.ensures
    (seated-placed one stages place c.seat_of.result fits c.seat_of.ensures.stage (c.seat_of.ensures.place ∙ ap (λ n. n % 16) c.group_of-group.ensures)))
