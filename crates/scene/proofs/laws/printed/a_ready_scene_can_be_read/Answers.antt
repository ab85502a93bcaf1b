use Rattle.scene.proofs.ReadyLemmas.{can-be-read}
use Rattle.scene.proofs.laws.printed.a_ready_scene_can_be_read.Goals as goal

pub returns : goal.returns
returns g c =
    let scene = c.args.scene.now in
    can-be-read g.R.DocumentRules.part_of g.R.DocumentRules.global_of (g.R.DocumentRules.book scene.rules) scene.kept c.requires.proper (g.met.R.DocumentRules.reads_back scene.rules)
