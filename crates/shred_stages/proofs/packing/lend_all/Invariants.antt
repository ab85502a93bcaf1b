use Rattle.std.proofs.Common.{◌≡◌, ◌≤◌, ◌+◌, length, drop, vec_capacity}
use Rattle.std.specs.Vec.Iter.{drain_items, drain_len, DrainKeeps}
use Rattle.shred_world.specs.Bundles.{holding_of}
use Rattle.shred_stages.specs.Away.{systems_in}
use Rattle.shred_stages.proofs.LendingLemmas.{IsLoading}
use Rattle.shred_stages.proofs.packing.lend_all.Given as goal

abbrev pub invariant-loop-kit : goal.invariant-loop-kit
invariant-loop-kit g l = record {
  rest : drain_items l.rest ≡ drop (length l.packs.items) l.fn.kits.items;
  keeps : DrainKeeps l.initial.rest l.rest;
  capacity : vec_capacity l.packs ≡ vec_capacity l.initial.packs;
  few : length l.packs.items + length (drain_items l.rest) ≤ vec_capacity l.initial.packs;
  loading : IsLoading (systems_in l.initial.slots.items) l.fn.kits.items (length l.packs.items) l.packs.items l.slots.items (holding_of l.initial.world) (holding_of l.world);
}

abbrev pub decreases-loop-kit : goal.decreases-loop-kit
decreases-loop-kit g l = drain_len l.rest
