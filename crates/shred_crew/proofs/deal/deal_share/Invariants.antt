use Rattle.std.proofs.Common.{◌≡◌, ◌≤◌, ◌+◌, ◌++◌, length, drop, vec_capacity}
use Rattle.shred_crew.specs.Deals.{vacated, standing}
use Rattle.shred_crew.proofs.deal.deal_share.Given as goal

abbrev pub invariant-loop-number : goal.invariant-loop-number
invariant-loop-number g l = record {
  slots : vacated (drop l.number-index l.share) l.slots.items ≡ vacated l.share l.initial.slots.items;
  row : l.row.items ++ standing (drop l.number-index l.share) l.slots.items ≡ l.initial.row.items ++ standing l.share l.initial.slots.items;
  room : length l.row.items + length (drop l.number-index l.share) ≤ vec_capacity l.row;
}
