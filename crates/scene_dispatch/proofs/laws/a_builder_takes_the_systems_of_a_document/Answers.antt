use Rattle.scene_dispatch.proofs.TakenLemmas.{none-refused}
use Rattle.scene_dispatch.proofs.laws.a_builder_takes_the_systems_of_a_document.Goals as goal

pub returns : goal.returns
returns g c kinds plain plain_local entries early later one drafting named few is built = none-refused kinds _ plain entries early later one drafting.building named few is built.building
