use Rattle.std.proofs.Common.{◌≡◌}
use Rattle.scene.specs.Rows.{kinds_kept}
use Rattle.scene_tests.proofs.kept_rows.holds.Given as goal

-- there are rows for two kinds
abbrev pub invariant-loop-call : goal.invariant-loop-call
invariant-loop-call l = kinds_kept l.kept ≡ 2
