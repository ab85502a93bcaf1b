use Rattle.std.proofs.Common.{◌≡◌, ◌+◌, ◌/◌, ◌≤◌, ◌++◌, length, map, vec_len, vec_capacity}
use Rattle.hibitset_sets.specs.Walk.{word_indices}
use Rattle.specs_layouts.specs.Blocks.{block_events}
use Rattle.specs_layouts.proofs.blocks.Block.append_to.Given as goal

abbrev pub invariant-loop-left : goal.invariant-loop-left
invariant-loop-left g l =
    let event = g.E.IndexEvent in
    let left = word_indices (event.index_of l.self.event / 64) l.left in
    record {
      items : l.into.items ++ map (event.same_at l.self.event) left ≡ l.fn.into.items ++ block_events event.index_of event.same_at l.self;
      room : vec_len l.into + length left ≤ vec_capacity l.into;
      capacity : vec_capacity l.into ≡ vec_capacity l.fn.into;
    }

abbrev pub decreases-loop-left : goal.decreases-loop-left
decreases-loop-left g l = l.left
