use Rattle.std.proofs.Common.{[], ◌∷◌, ◌++◌, refl, sym, subst}
use Rattle.specs_entity.specs.Births.{Births, Continues}
use Rattle.world_cases.proofs.HistoryLemmas.{along-more}
use Rattle.world_cases.proofs.histories.go_on.Goals as goal

pub loop-each-init : goal.loop-each-init
loop-each-init c = ([], tt, refl)

pub loop-each-preserved : goal.loop-each-preserved
loop-each-preserved c =
    let before = c.loop-each.invariant in
    let next = c.make.new.entities in
    let more = along-more c.args.entities.now before.0 next before.1 (subst (λ (b : Births). Continues b next) (sym before.2) c.make.ensures) in
    (before.0 ++ next ∷ [], more.0, more.1)
