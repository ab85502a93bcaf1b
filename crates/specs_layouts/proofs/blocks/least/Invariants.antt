use Rattle.std.proofs.Common.{◌≡◌, ◌<◌, ℕ, Bool, true, length, drop, map, slice_index_or}
use Rattle.specs_layouts.specs.Blocks.{event_place}
use Rattle.specs_layouts.specs.Channels.{least_of}
use Rattle.specs_layouts.specs.declared.blocks.Place.{Place}
use Rattle.specs_layouts.proofs.blocks.least.Given as goal

abbrev pub invariant-loop-place : goal.invariant-loop-place
invariant-loop-place l = record {
  value : least_of l.least.event (map event_place (drop l.place-index l.places)) ≡ least_of l.fn.most.event (map event_place l.places);
  one : (test : Place → Bool) → test l.fn.most ≡ true → ((k : ℕ) → k < length l.places → test (slice_index_or l.places k l.fn.most) ≡ true) → test l.least ≡ true;
}
