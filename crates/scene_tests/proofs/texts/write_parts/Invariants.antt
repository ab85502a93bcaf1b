use Rattle.std.proofs.Common.{◌≡◌}
use Rattle.scene.specs.Rows.{kinds_kept}
use Rattle.scene_tests.proofs.texts.write_parts.Given as goal

-- there are rows for five kinds
abbrev pub invariant-loop-place : goal.invariant-loop-place
invariant-loop-place g l = kinds_kept l.kept ≡ 5
