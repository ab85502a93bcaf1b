use Rattle.specs_saveload.proofs.ReadLemmas.{first-of-list}
use Rattle.specs_saveload.proofs.listed.list_from_value.Goals as goal

pub returns-clause-first : goal.returns-clause-first
returns-clause-first g c place refused =
    first-of-list g.T.JsonForm.is_form g.T.JsonForm.place_in _ _ _ place c.in-Some.ensures c.as_slice.ensures.value (c.read_each.ensures.first place refused)
