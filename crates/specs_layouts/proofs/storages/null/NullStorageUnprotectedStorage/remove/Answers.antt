use Rattle.specs_layouts.proofs.FlagSteps.{flag-taken, flag-value}
use Rattle.specs_layouts.proofs.storages.null.NullStorageUnprotectedStorage.remove.Goals as goal

pub returns-clause-value : goal.returns-clause-value
returns-clause-value g c = flag-value g.T.Single.same c.args.self.now.value c.args.self.now.present c.args.self.now.present c.args.id c.default.result c.requires

pub returns-clause-ok : goal.returns-clause-ok
returns-clause-ok g c = flag-taken g.T.Single.same c.args.self.now.value c.args.self.now.present c.remove.new.self c.args.id c.remove.ensures.members
