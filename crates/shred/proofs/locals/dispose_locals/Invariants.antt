use Rattle.std.proofs.Common.{◌≡◌, ◌+◌, ℕ, Option, length, map}
use Rattle.std.specs.Option.{option_or}
use Rattle.std.specs.Vec.Iter.{into_iter_items, into_iter_len}
use Rattle.shred_world.specs.Worlds.{Slots}
use Rattle.shred_stages.specs.declared.stop.Stop.{Stop}
use Rattle.shred_stages.specs.Setups.{DisposesEach}
use Rattle.shred.specs.Dispatching.{local_refusal}
use Rattle.shred.proofs.locals.dispose_locals.Given as goal

abbrev pub invariant-loop-local : goal.invariant-loop-local
invariant-loop-local g l = record {
  runs : (later : Option (ℕ × Stop)) (w : Slots g.row.V.Denot) → DisposesEach g.L.RunNow.disposes l.place (map (λ x. x) (into_iter_items l.rest)) later l.world w
      → DisposesEach g.L.RunNow.disposes 0 (map (λ x. x) (into_iter_items l.initial.rest)) (option_or (local_refusal l.outcome) later) l.initial.world w;
  few : l.place + into_iter_len l.rest ≡ into_iter_len l.initial.rest;
  long : length (into_iter_items l.rest) ≡ into_iter_len l.rest;
}

abbrev pub decreases-loop-local : goal.decreases-loop-local
decreases-loop-local g l = into_iter_len l.rest
