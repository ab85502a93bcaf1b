use Rattle.std.proofs.Common.{is_some, ap, sym, ◌∙◌, subst}
use Rattle.std.proofs.lemmas.Bool.{false≢true}
use Rattle.specs_entity.specs.Layout.{AreBirths}
use Rattle.specs_entity.proofs.AliveLemmas.{living-range}
use Rattle.specs_entity.proofs.laws.the_living_are_below_the_limit.Goals as goal

pub returns : goal.returns
returns c = λ index lives.
    living-range c.args.entities.now (subst AreBirths c.entities.view_is c.entities.invariant.births) index
    (λ dead. absurd (false≢true (sym (ap is_some dead) ∙ lives)))
