use Rattle.std.proofs.Common.{◌≡◌, ◌+◌, ◌≤◌, ℕ, Option, length, map}
use Rattle.std.specs.Option.{option_or}
use Rattle.std.specs.Vec.Iter.{into_iter_items, into_iter_len}
use Rattle.shred_world.specs.Worlds.{Slots}
use Rattle.shred_stages.specs.declared.stop.Stop.{Stop}
use Rattle.shred_stages.specs.Setups.{DisposesEach}
use Rattle.shred_stages.specs.Seats.{refusal_of}
use Rattle.shred_stages.proofs.setup.dispose_staged.Given as goal

abbrev pub invariant-loop-system : goal.invariant-loop-system
invariant-loop-system g l = record {
  runs : (later : Option (ℕ × Stop)) (w : Slots g.row.V.Denot) → DisposesEach g.S.System.disposes l.number (map (λ one. one.system) (into_iter_items l.rest)) later l.world w
      → DisposesEach g.S.System.disposes 0 (map (λ one. one.system) (into_iter_items l.initial.rest)) (option_or (refusal_of l.outcome) later) l.initial.world w;
  few : l.number + length (into_iter_items l.rest) ≤ 65536;
  long : length (into_iter_items l.rest) ≡ into_iter_len l.rest;
}

abbrev pub decreases-loop-system : goal.decreases-loop-system
decreases-loop-system g l = into_iter_len l.rest
