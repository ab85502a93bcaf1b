use Rattle.std.proofs.Common.{◌≡◌, Some, sym, ap, ◌∙◌}
use Rattle.std.proofs.lemmas.Result.{on_ok_weaker}
use Rattle.specs.specs.ForWorlds.{takable}
use Rattle.simulation.specs.declared.colonies.values.Held.TheVariants.{SeatHeld}
use Rattle.simulation.specs.Colonies.{Grows, seat_id}
use Rattle.simulation.proofs.ColonyLemmas.{accepted, put-again, put-there, put-others}
use Rattle.simulation.proofs.colonies.growing.grow_in.Goals as goal

pub returns-in-SeatHeld-clause-grows : goal.returns-in-SeatHeld-clause-grows
returns-in-SeatHeld-clause-grows g c =
    let seen = g.H.Holder.slots c.args.holder.now in
    let there : takable (seen c.seat_of.result) ≡ Some (SeatHeld c.in-SeatHeld.seat) = sym c.take.ensures.value ∙ (c.in-Some.is ∙ ap Some c.in-SeatHeld.is) in
    accepted (Grows c.args.colony) seen (g.H.Holder.slots c.put.new.self) c.grow-outcome.result
    (on_ok_weaker c.grow-outcome.result
    (λ grown. record {
      before = c.in-SeatHeld.seat;
      after = c.grow-outcome.new.seat;
      there = put-there seen _ _ (seat_id c.args.colony) _ _ (SeatHeld c.in-SeatHeld.seat) (SeatHeld c.grow-outcome.new.seat) c.seat_of.ensures c.seat_of-in-SeatHeld.ensures there c.in-Some.ensures.ok c.put.ensures;
      grown = grown;
      others = put-others seen _ _ (seat_id c.args.colony) _ _ (SeatHeld c.in-SeatHeld.seat) (SeatHeld c.grow-outcome.new.seat) c.seat_of.ensures c.seat_of-in-SeatHeld.ensures there c.in-Some.ensures.ok c.put.ensures;
    })
    c.grow-outcome.ensures.grown)

pub returns-in-SeatHeld-clause-leaves : goal.returns-in-SeatHeld-clause-leaves
returns-in-SeatHeld-clause-leaves g c =
    let seen = g.H.Holder.slots c.args.holder.now in
    let there : takable (seen c.seat_of.result) ≡ Some (SeatHeld c.in-SeatHeld.seat) = sym c.take.ensures.value ∙ (c.in-Some.is ∙ ap Some c.in-SeatHeld.is) in
    put-again seen _ _ (seat_id c.args.colony) _ _ (SeatHeld c.in-SeatHeld.seat) (SeatHeld c.grow-outcome.new.seat) c.seat_of.ensures c.seat_of-in-SeatHeld.ensures there c.in-Some.ensures.ok c.put.ensures

pub returns-in_default-value : goal.returns-in_default-value
returns-in_default-value g c =
    let seen = g.H.Holder.slots c.args.holder.now in
    let there : takable (seen c.seat_of.result) ≡ Some c.in-Some.value = sym c.take.ensures.value ∙ c.in-Some.is in
    record {
      grows = tt;
      leaves = put-again seen _ _ (seat_id c.args.colony) _ _ c.in-Some.value c.in-Some.value c.seat_of.ensures c.seat_of-in_default-value.ensures there c.in-Some.ensures.ok c.put-in_default-value.ensures;
    }
