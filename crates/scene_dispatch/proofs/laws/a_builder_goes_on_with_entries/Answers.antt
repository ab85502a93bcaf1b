use Rattle.scene_dispatch.proofs.StepLemmas.{none-drafted, barrier-drafted, system-drafted, local-drafted}
use Rattle.scene_dispatch.proofs.laws.a_builder_goes_on_with_entries.Goals as goal

pub returns-clause-begins : goal.returns-clause-begins
returns-clause-begins g c kinds plain plain_local workers = none-drafted kinds _ plain plain_local workers

pub returns-clause-barrier : goal.returns-clause-barrier
returns-clause-barrier g c kinds plain plain_local early drafting is = barrier-drafted kinds _ plain plain_local early drafting is

pub returns-clause-staged : goal.returns-clause-staged
returns-clause-staged g c kinds plain plain_local early drafting one facts taken declared name after is staged known means declares called follows =
    system-drafted kinds _ plain plain_local early drafting one facts taken declared name after is staged known means declares called follows

pub returns-clause-local : goal.returns-clause-local
returns-clause-local g c kinds plain plain_local early drafting one facts taken is local known means = local-drafted kinds _ plain plain_local early drafting one facts taken is local known means
