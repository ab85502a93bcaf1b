use Rattle.specs_join.proofs.ChangeLemmas.{rewritten, on-err}
use Rattle.specs_join.proofs.changeset.ChangeSet.add_to.Goals as goal

pub returns-clause-err : goal.returns-clause-err
returns-clause-err g c = on-err c.add_in.result c.add_in.ensures.err (rewritten c.args.self.now.storage.inner c.args.id c.in-Ok.change.now c.in-Ok.ensures.value c.add_in.new.self)
