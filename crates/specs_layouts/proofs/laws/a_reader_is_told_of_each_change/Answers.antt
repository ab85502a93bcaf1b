use Rattle.specs_layouts.proofs.TellsLemmas.{caught-reads, tells-first, tells-more, tells-others, tells-alike}
use Rattle.specs_layouts.proofs.laws.a_reader_is_told_of_each_change.Goals as goal

pub returns-clause-caught_up : goal.returns-clause-caught_up
returns-clause-caught_up g c reader caught = caught-reads _ reader caught

pub returns-clause-first : goal.returns-clause-first
returns-clause-first g c reader is = tells-first _ _ g.S.UnprotectedStorage.emits reader _ is

pub returns-clause-more : goal.returns-clause-more
returns-clause-more g c reader told on shown = tells-more _ _ _ reader _ _ _ told on shown

pub returns-clause-others : goal.returns-clause-others
returns-clause-others g c reader told same is as_much = tells-others _ _ g.S.UnprotectedStorage.emits reader _ _ _ told same is as_much

pub returns-clause-alike : goal.returns-clause-alike
returns-clause-alike g c reader told same = tells-alike _ _ g.S.UnprotectedStorage.emits reader _ _ _ told same
