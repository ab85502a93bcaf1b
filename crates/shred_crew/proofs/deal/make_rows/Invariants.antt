use Rattle.std.proofs.Common.{◌≡◌, ◌≤◌, length, take, vec_capacity}
use Rattle.shred_crew.specs.Deals.{AreRoomy}
use Rattle.shred_crew.proofs.deal.make_rows.Given as goal

abbrev pub invariant-loop-share : goal.invariant-loop-share
invariant-loop-share g l = record {
  roomy : AreRoomy (take l.share-index l.shares) l.rows.items;
  room : length l.shares ≤ vec_capacity l.rows;
  few : length l.rows.items ≡ l.share-index;
}
