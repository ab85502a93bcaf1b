use Rattle.shred.proofs.NameLemmas.{numbers-more}
use Rattle.std.proofs.Common.{ap, ◌∙◌, ◌++◌, []}
use Rattle.std.specs.List.{cons_option}
use Rattle.shred.proofs.names.Names.numbers.Goals as goal

pub loop-name-preserved : goal.loop-name-preserved
loop-name-preserved c =
    numbers-more c.args.self.now c.args.wanted.now c.loop-name.name-index _ c.loop-name.list.items c.push_found.new.list.items c.loop-name-test.true
    (c.in_ok-push_found.ensures ∙ ap (λ found. c.loop-name.list.items ++ cons_option found []) c.number.ensures) c.loop-name.invariant
