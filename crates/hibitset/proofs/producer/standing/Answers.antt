use Rattle.std.proofs.Common.{refl, arith, ◌∙◌}
use Rattle.hibitset.proofs.CutLemmas.{placed-first, placed-second, alone-third, alone-second, alone-first, first-second, first-oneth, first-small}
use Rattle.hibitset.proofs.producer.standing.Goals as goal

pub overflow_cast-number : goal.overflow_cast-number
overflow_cast-number g c = let small = first-small _ _ c.requires.stands in omega arith

pub new-requires-then-layer-eq2 : goal.new-requires-then-layer-eq2
new-requires-then-layer-eq2 g c = placed-second c.args.word c.args.first c.requires.stands.aligned (first-second _ _ c.requires.stands c.if-layer-eq2.true)

pub new-requires-else-layer-eq2 : goal.new-requires-else-layer-eq2
new-requires-else-layer-eq2 g c =
    let within = c.requires.stands.within in
    placed-first c.args.word c.args.first _ c.requires.stands.aligned (first-oneth _ _ c.requires.stands (omega arith)) refl

pub returns-then-layer-eq3-clause-items : goal.returns-then-layer-eq3-clause-items
returns-then-layer-eq3-clause-items g c = c.new.ensures.items ∙ alone-third (g.T.BitSetLike.members c.args.set.now) c.args.layer c.args.first c.args.word c.requires.stands c.if-layer-eq3.true

pub returns-then-layer-eq2-clause-items : goal.returns-then-layer-eq2-clause-items
returns-then-layer-eq2-clause-items g c = c.new-then-layer-eq2.ensures.items ∙ alone-second (g.T.BitSetLike.members c.args.set.now) c.args.layer c.args.first c.args.word c.if-layer-eq2.true

pub returns-else-layer-eq2-clause-items : goal.returns-else-layer-eq2-clause-items
returns-else-layer-eq2-clause-items g c =
    let within = c.requires.stands.within in
    c.new-else-layer-eq2.ensures.items ∙ alone-first (g.T.BitSetLike.members c.args.set.now) c.args.layer c.args.first _ c.args.word (omega arith)
