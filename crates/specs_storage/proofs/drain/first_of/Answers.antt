use Rattle.specs_entity.proofs.CallerLemmas.{first-walked, first-member}
use Rattle.specs_storage.proofs.drain.first_of.Goals as goal

pub returns-clause-walk : goal.returns-clause-walk
returns-clause-walk c = first-walked c.args.indices.now.members c.next_counted.result _ _ c.iter-walk.ensures.items c.next_counted.ensures.item

pub returns-clause-member : goal.returns-clause-member
returns-clause-member c = first-member c.args.indices.now.members c.next_counted.result (returns-clause-walk c)
