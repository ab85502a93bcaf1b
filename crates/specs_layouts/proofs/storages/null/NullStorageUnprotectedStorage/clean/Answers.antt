use Rattle.specs_layouts.specs.FlagLemmas.{flags-start}
use Rattle.specs_layouts.proofs.storages.null.NullStorageUnprotectedStorage.clean.Goals as goal

pub returns-clause-none : goal.returns-clause-none
returns-clause-none g c = flags-start (record { value = c.args.self.now.value; present = c.clear.new.self }) c.clear.ensures.members
