use Rattle.shred.proofs.WaitLemmas.{named-earlier-in}
use Rattle.shred.proofs.laws.named_systems_run_earlier.Goals as goal

pub returns : goal.returns
returns g c early late one declared name after other draft is taken there = named-earlier-in _ one declared name after early late other draft.building is taken there
