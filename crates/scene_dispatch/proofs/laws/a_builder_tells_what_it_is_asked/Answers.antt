use Rattle.scene_dispatch.proofs.BuilderLemmas.{builder-told}
use Rattle.scene_dispatch.proofs.laws.a_builder_tells_what_it_is_asked.Goals as goal

pub returns : goal.returns
returns g c kinds plain list entries named asks = builder-told kinds _ plain list entries named asks
