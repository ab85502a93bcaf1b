use Rattle.std.proofs.Common.{◌≡◌, ℕ, ◌&&◌, ◌||◌, nat_lt, take}
use Rattle.hibitset_sets.specs.BitSet.{has_member}
use Rattle.specs_layouts.specs.Blocks.{all_events, is_named}
use Rattle.specs_layouts.proofs.blocks.index_all.Given as goal

abbrev pub invariant-loop-block : goal.invariant-loop-block
invariant-loop-block g l =
    let event = g.E.IndexEvent in
    (i : ℕ) → has_member l.into i ≡ (has_member l.fn.into i || (nat_lt i 16777216 && is_named event.index_of (all_events event.index_of event.same_at (take l.block-index l.blocks)) i))
