use Rattle.std.proofs.Common.{◌≡◌, [], All, length}
use Rattle.scene.proofs.snapshot.kept.KeptScene.new.Given as goal

-- so many columns without slots
abbrev pub invariant-loop : goal.invariant-loop
invariant-loop g l = record {
  count : length l.columns.items ≡ l.counter;
  bare : All (λ column. column.items ≡ []) l.columns.items;
}
