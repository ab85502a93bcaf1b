use Rattle.std.proofs.Common.{ap, sym, ◌∙◌}
use Rattle.std.proofs.lemmas.Option.{same_Some}
use Rattle.specs_entity.specs.Births.{living}
use Rattle.specs_entity.proofs.laws.at_most_one_lives_at_an_index.Goals as goal

pub returns : goal.returns
returns c = λ births first second same.
    let life = same_Some c.args.one.generation c.args.other.generation (sym first ∙ (ap (living births) same ∙ second)) in
    λ j. record { id = same j; generation = life j }
