use Rattle.specs_entity.proofs.least.least_indices.Goals as goal

pub returns-clause-least : goal.returns-clause-least
returns-clause-least c = (c.least_set.new.marked.members, c.in_ok-least_set.ensures.least, c.in_ok-indices.ensures)
