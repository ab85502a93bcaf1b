use Rattle.shred_tests.proofs.BundledLemmas.{advance-moves, moves-unless-refused}
use Rattle.shred_tests.proofs.bundled.run_advance.Goals as goal

pub returns : goal.returns
returns g c = moves-unless-refused _ _ c.run_alone.new.system (advance-moves (λ bundle. bundle.1.value) _ _ _ _) _ _ c.run_alone.result c.run_alone.ensures.runs
