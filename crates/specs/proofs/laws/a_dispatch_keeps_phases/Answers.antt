use Rattle.specs.proofs.PhaseLemmas.{dispatch-seated}
use Rattle.specs.proofs.laws.a_dispatch_keeps_phases.Goals as goal

pub returns : goal.returns
returns g c = λ keep keep_locals before after w w_after result ran id. dispatch-seated _ _ _ keep keep_locals before after w w_after result ran id
