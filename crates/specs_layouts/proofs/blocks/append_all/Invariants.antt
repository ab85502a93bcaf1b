use Rattle.std.proofs.Common.{◌≡◌, ◌+◌, ◌≤◌, ◌++◌, length, drop, vec_len, vec_capacity}
use Rattle.specs_layouts.specs.Blocks.{all_events}
use Rattle.specs_layouts.proofs.blocks.append_all.Given as goal

abbrev pub invariant-loop-block : goal.invariant-loop-block
invariant-loop-block g l =
    let event = g.E.IndexEvent in
    let left = all_events event.index_of event.same_at (drop l.block-index l.blocks) in
    record {
      items : l.into.items ++ left ≡ l.fn.into.items ++ all_events event.index_of event.same_at l.blocks;
      room : vec_len l.into + length left ≤ vec_capacity l.into;
    }
