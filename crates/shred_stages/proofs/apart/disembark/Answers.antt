use Rattle.std.proofs.Common.{◌≡◌, length, ap, arith}
use Rattle.shred_stages.specs.Away.{systems_in}
use Rattle.shred_stages.specs.Touring.{Touring}
use Rattle.shred_stages.proofs.AwayLemmas.{in-length}
use Rattle.shred_stages.proofs.apart.disembark.Goals as goal

pub empty_slots-requires-clause-room : goal.empty_slots-requires-clause-room
empty_slots-requires-clause-room g c =
    let slots = c.tour.inside.slots.items in
    let long : length slots ≡ length (systems_in slots) = in-length slots c.tour.invariant.1 in
    let same : length (systems_in slots) ≡ length c.args.tour.staged = ap (λ (tour : Touring g.row.V.Denot g.row.S.Denot). length tour.staged) c.tour.view_is in
    omega (arith, long, same, c.requires.room)
