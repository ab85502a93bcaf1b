use Rattle.std.proofs.Common.{subst, sym}
use Rattle.scene.specs.Running.{IsReadAs}
use Rattle.scene.proofs.load.prepare_read.Goals as goal

pub prepare_apart-requires : goal.prepare_apart-requires
prepare_apart-requires g c =
    (c.requires.0, subst (IsReadAs g.R.DocumentRules.part_of (g.R.DocumentRules.book c.args.rules.now) c.requires.0) c.in-Apart.is c.requires.1)
