use Rattle.std.proofs.Common.{Some, refl}
use Rattle.std.specs.FinSet as fin
use Rattle.specs_entity.proofs.DeathLemmas.{emptied-first}
use Rattle.specs_entity.proofs.emptying.Emptying.first_of.Goals as goal

pub returns-then-self-ne0 : goal.returns-then-self-ne0
returns-then-self-ne0 c =
    let s = c.args.indices.now.members in
    emptied-first s (Some c.take.result) _ _ c.take.new.self c.requires refl
    (c.take.ensures.items (fin.contains s)) (c.take.ensures.gone (fin.contains s))
