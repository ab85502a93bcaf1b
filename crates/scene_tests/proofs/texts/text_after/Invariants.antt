use Rattle.std.proofs.Common.{◌≡◌}
use Rattle.scene.specs.Rows.{kinds_kept}
use Rattle.scene_tests.proofs.texts.text_after.Given as goal

-- there are rows for five kinds
abbrev pub invariant-loop-change : goal.invariant-loop-change
invariant-loop-change l = kinds_kept l.kept ≡ 5
