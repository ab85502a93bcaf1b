use Rattle.specs_markers.proofs.BelowLemmas.{gift-below, gift-new, none-below}
use Rattle.specs_markers.proofs.laws.a_new_id_is_above_all_that_are_noted.Goals as goal

pub returns-clause-none : goal.returns-clause-none
returns-clause-none c = none-below

pub returns-clause-gift : goal.returns-clause-gift
returns-clause-gift c = gift-below

pub returns-clause-new : goal.returns-clause-new
returns-clause-new c = gift-new
