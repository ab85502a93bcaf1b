use Rattle.specs_layouts.proofs.FlagSteps.{flag-put}
use Rattle.specs_layouts.proofs.storages.null.NullStorageUnprotectedStorage.insert.Goals as goal

pub returns-in-Ok-clause-ok : goal.returns-in-Ok-clause-ok
returns-in-Ok-clause-ok g c = flag-put g.T.Single.same c.args.self.now.value c.args.self.now.present c.add.new.self c.args.id c.args.part c.in-Ok.ensures.ok
