use Rattle.std.proofs.Common.{sym}
use Rattle.shred_stages.proofs.CallerLemmas.{leaves-one}
use Rattle.scene_world.proofs.HeldLemmas.{sets-one}
use Rattle.scene_world.proofs.held.set_held.Goals as goal

pub returns-clause-set : goal.returns-clause-set
returns-clause-set g c = sets-one _ _ _ c.args.id c.args.value c.in-Some.ensures.ok c.put.ensures

pub returns-clause-leaves : goal.returns-clause-leaves
returns-clause-leaves g c = leaves-one _ _ _ c.args.id c.in-Some._old _ (sym c.in-Some.ensures.value) c.in-Some.ensures.ok c.put.ensures
