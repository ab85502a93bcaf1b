use Rattle.shred_tests.proofs.BundledLemmas.{advance-moves}
use Rattle.shred_tests.proofs.SideLemmas.{dispatch-goes-round, win-scores}
use Rattle.shred_tests.proofs.sides.go_round.Goals as goal

pub returns : goal.returns
returns g c = record { round = dispatch-goes-round _ _ _ (advance-moves (λ bundle. bundle.1.value) _ _) (win-scores (λ bundle. bundle.0.value) _) c.args.dispatcher.now c.dispatch.new.self _ _ c.dispatch.result c.requires.sides c.dispatch.ensures.any_order }
