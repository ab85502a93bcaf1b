use Rattle.shred_world.specs.Bundles.{holding_of}
use Rattle.scene_cases.proofs.TwiceLemmas.{frame-drifts}
use Rattle.scene_cases.proofs.systems.frames.run_frame.Goals as goal

pub returns-clause-ok : goal.returns-clause-ok
returns-clause-ok g c order ready =
    frame-drifts (λ placed. placed.position) c.args.systems.now c.run_systems.new.self (holding_of c.args.world.now) (holding_of c.run_systems.new.world) c.run_systems.result order (c.run_systems.ensures.comes ready)
