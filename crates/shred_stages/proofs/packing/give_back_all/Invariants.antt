use Rattle.std.proofs.Common.{◌≡◌, ◌≤◌, ◌+◌, ◌++◌, length, map, List, Option, vec_capacity}
use Rattle.std.specs.Option.{option_or}
use Rattle.std.specs.Vec.Iter.{drain_items, drain_len, DrainKeeps}
use Rattle.shred_world.specs.Bundles.{Holding, holding_of}
use Rattle.shred_stages.specs.declared.turn.Staged.{Staged}
use Rattle.shred_stages.specs.Seats.{refusal_of}
use Rattle.shred_stages.specs.Lending.{first_told}
use Rattle.shred_stages.specs.Away.{AreHome, ComeHome, ArePutBack}
use Rattle.shred_stages.proofs.packing.give_back_all.Given as goal

abbrev pub invariant-loop-pack : goal.invariant-loop-pack
invariant-loop-pack g l = record {
  come : ComeHome (drain_items l.rest) (holding_of l.world);
  home : (last : Holding g.row.V.Denot) → AreHome (drain_items l.rest) (holding_of l.world) last → AreHome (drain_items l.initial.rest) (holding_of l.initial.world) last;
  slots : (last : List (Option (Staged g.row.V.Denot g.row.S.Denot))) → ArePutBack (drain_items l.rest) l.slots.items last → ArePutBack (drain_items l.initial.rest) l.initial.slots.items last;
  told : option_or (refusal_of l.outcome) (first_told (drain_items l.rest)) ≡ first_told (drain_items l.initial.rest);
  kits : l.kits.items ++ map (λ pack. pack.group) (drain_items l.rest) ≡ map (λ pack. pack.group) (drain_items l.initial.rest);
  capacity : vec_capacity l.kits ≡ vec_capacity l.initial.kits;
  few : length l.kits.items + length (drain_items l.rest) ≤ vec_capacity l.initial.kits;
  keeps : DrainKeeps l.initial.rest l.rest;
}

abbrev pub decreases-loop-pack : goal.decreases-loop-pack
decreases-loop-pack g l = drain_len l.rest
