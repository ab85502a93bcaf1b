use Rattle.std.proofs.Common.{◌∷◌, ◌++◌, [], subst, sym, ◌∙◌, ap}
use Rattle.std.specs.FinSet as set
use Rattle.hibitset_sets.proofs.CallerLemmas.{contains-with}
use Rattle.specs_entity.specs.Holders.{Tells}
use Rattle.specs_entity.proofs.HolderLemmas.{tells-more, still-in}
use Rattle.specs_entity.proofs.least.reach.Goals as goal

pub returns-then-contains-clause-has : goal.returns-then-contains-clause-has
returns-then-contains-clause-has c =
    still-in c.args.members.now.items c.args.marked.now.members c.args.index c.requires.tells (sym c.contains.ensures ∙ c.if-contains.true)

pub returns-clause-tells : goal.returns-clause-tells
returns-clause-tells c =
    subst (λ items. Tells items c.add.new.self.members) (sym c.in_ok-push.ensures.items)
    (subst (Tells (c.args.members.now.items ++ c.args.index ∷ [])) (sym c.in_ok-add.ensures.ok)
    (tells-more c.args.members.now.items c.args.marked.now.members c.args.index c.requires.tells (sym c.contains.ensures ∙ c.if-contains.false) c.requires.range))

pub returns-clause-has : goal.returns-clause-has
returns-clause-has c = λ other. ap (λ s. set.contains s other) c.in_ok-add.ensures.ok ∙ contains-with c.args.marked.now.members c.args.index other
