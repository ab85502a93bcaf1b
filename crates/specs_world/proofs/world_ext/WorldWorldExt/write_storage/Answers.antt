use Rattle.specs_world.proofs.ResourceLemmas.{held-same}
use Rattle.specs_world.proofs.world_ext.WorldWorldExt.write_storage.Goals as goal

pub returns-in-Err-clause-err : goal.returns-in-Err-clause-err
returns-in-Err-clause-err g c = held-same c.args.self.now c.fetch.new.holder c.in-Err.ensures.err
