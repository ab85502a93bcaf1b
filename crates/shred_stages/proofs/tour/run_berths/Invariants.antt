use Rattle.std.proofs.Common.{◌≡◌, ℕ, Option, length, drop}
use Rattle.shred_world.specs.Bundles.{holding_of}
use Rattle.shred_stages.specs.declared.stop.Stop.{Stop}
use Rattle.shred_stages.specs.Runs.{State, StagesRun}
use Rattle.shred_stages.specs.Seats.{SeatsKept, state_of}
use Rattle.shred_stages.specs.Away.{systems_in, AreIn}
use Rattle.shred_stages.proofs.tour.run_berths.Given as goal

abbrev pub invariant-loop-index : goal.invariant-loop-index
invariant-loop-index g l = record {
  berths : l.berths ≡ l.initial.berths;
  runs : (refused : Option (ℕ × Stop)) (after : State g.row.V.Denot g.row.S.Denot) → StagesRun g.S.System.meets (drop l.index l.initial.berths) (state_of (systems_in l.slots.items) (holding_of l.world)) refused after
      → StagesRun g.S.System.meets l.initial.berths (state_of (systems_in l.initial.slots.items) (holding_of l.initial.world)) refused after;
  there : AreIn l.slots.items;
  seats : SeatsKept (systems_in l.initial.slots.items) (systems_in l.slots.items);
  count : length (systems_in l.slots.items) ≡ length (systems_in l.initial.slots.items);
}
