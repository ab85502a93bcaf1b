use Rattle.std.proofs.Common.{◌≡◌, sym, ap, ◌∙◌, subst}
use Rattle.specs.specs.ForSeats.{PhaseSeat, phase_at, view_at, joined_view, SharedPhase, AreSettled}
use Rattle.simulation.specs.Colonies.{seat_id}
use Rattle.simulation.proofs.ColonyLemmas.{seat-found, seat-stays, out-after, entities-back}
use Rattle.simulation.proofs.colonies.runs.gather.Goals as goal

pub join-requires : goal.join-requires
join-requires c =
    let w = c.args.world.now in
    let sat = c.requires in
    let found = c.in-Some-Some in
    let one_is : found.one ≡ sat.0 = seat-found w c.seat_of.result (seat_id 1) found.one sat.0 c.seat_of.ensures sat.2.first found.ensures.value in
    let other_is : found.other ≡ sat.1 =
    seat-found c.remove_by_id.new.self c.seat_of-2.result (seat_id 2) found.other sat.1 c.seat_of-2.ensures
    (seat-stays w c.remove_by_id.new.self c.seat_of.result sat.1 c.seat_of.ensures found.ensures.removed sat.2.second) found.ensures'.value in
    record { same = ap phase_at other_is ∙ (sat.3 ∙ ap phase_at (sym one_is)) }

pub close_phase-requires : goal.close_phase-requires
close_phase-requires c = record {
  is_out =
      out-after c.args.world.now c.remove_by_id.new.self c.remove_by_id-2.new.self c.seat_of.result c.seat_of-2.result c.seat_of.ensures c.seat_of-2.ensures c.requires.2.out
      c.in-Some-Some.ensures.removed c.in-Some-Some.ensures'.removed;
}

pub returns-in-Ok-close_phase : goal.returns-in-Ok-close_phase
returns-in-Ok-close_phase c = λ one other sits.
    let w = c.args.world.now in
    let found = c.in-Some-Some in
    let one_is : found.one ≡ one = seat-found w c.seat_of.result (seat_id 1) found.one one c.seat_of.ensures sits.first found.ensures.value in
    let other_is : found.other ≡ other =
    seat-found c.remove_by_id.new.self c.seat_of-2.result (seat_id 2) found.other other c.seat_of-2.ensures
    (seat-stays w c.remove_by_id.new.self c.seat_of.result other c.seat_of.ensures found.ensures.removed sits.second) found.ensures'.value in
    let closes = c.in-Ok-close_phase.ensures.ok in
    let Settles : PhaseSeat → PhaseSeat → Type 0 = λ x y. AreSettled (phase_at x).key (joined_view (view_at x) (view_at y)) closes.entities in
    let settled : Settles found.one found.other =
    subst (λ v. AreSettled (phase_at found.one).key v closes.entities) c.in-Ok.ensures.joined.0
    (subst (λ (p : SharedPhase). AreSettled p.key (view_at c.in-Ok.seat) closes.entities) c.in-Ok.ensures.phase closes.settled) in
    record {
      entities = closes.entities;
      settled = subst (λ x. Settles x other) one_is (subst (Settles found.one) other_is settled);
      back = entities-back c.remove_by_id-2.new.self c.close_phase.new.self closes.entities closes.back;
    }
