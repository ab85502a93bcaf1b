use Rattle.std.proofs.Common.{sym, ap, length, ◌∙◌}
use Rattle.specs_saveload.proofs.AskLemmas.{all-asking, none-asking, one-asked, some-asking}
use Rattle.specs_saveload.proofs.RecursionLemmas.{asking-begins, asking-ends, asking-goes-on, asking-keeps, asking-lives, asking-next}
use Rattle.specs_saveload.proofs.recursive.ask_all.Goals as goal

pub loop-entity-init : goal.loop-entity-init
loop-entity-init g c =
    let into = c.into_iter-entity-iterator.ensures.into_iter_gives in (
      asking-begins _ _ _ _ _ _ (into.1 ∙ (sym c.as_slice-count.ensures.len ∙ (ap length c.as_slice-count.ensures.value ∙ ap length (sym into.0)))) into.0,
      none-asking _ _ _ _ _ _ _ _ into.0,
    )

pub loop-entity-preserved : goal.loop-entity-preserved
loop-entity-preserved g c = (
  asking-goes-on _ _ _ _ c.in-Some.entity _ _ _ _ _ _ _ _ c.loop-entity.invariant.0 c.in-Some.ensures.steps.0 c.in-Some.ensures.steps.1 c.ask.ensures.keeps c.in-Ok.ensures.ok c.in-Ok.ensures.alive,
  one-asked _ _ _ _ _ _ _ _ c.in-Some.entity _ _ _ c.loop-entity.invariant.1 c.in-Some.ensures.steps.0 c.in-Ok.ensures.asks,
)

pub returns-in-Err-clause-keeps : goal.returns-in-Err-clause-keeps
returns-in-Err-clause-keeps g c = asking-keeps c.args.entities.now _ _ _ c.loop-entity.invariant.0.keeps c.ask.ensures.keeps

pub returns-in-Err-clause-refused : goal.returns-in-Err-clause-refused
returns-in-Err-clause-refused g c =
    (c.in-Some.entity, asking-next _ _ _ _ c.in-Some.entity _ _ _ _ _ c.loop-entity.invariant.0 c.in-Some.ensures.steps.0, c.in-Err.ensures.refused)

pub returns-in-Err-clause-leaves : goal.returns-in-Err-clause-leaves
returns-in-Err-clause-leaves g c =
    some-asking _ _ _ _ _ _ _ _ _ c.in-Some.entity _ _ _ _ c.loop-entity.invariant.1 c.in-Some.ensures.steps.0 c.in-Err.ensures.leaves

pub returns-clause-ok : goal.returns-clause-ok
returns-clause-ok g c = asking-ends _ _ _ _ _ _ _ _ c.loop-entity.invariant.0 c.in-None.ensures.steps.0

pub returns-clause-asks : goal.returns-clause-asks
returns-clause-asks g c =
    all-asking _ _ _ _ _ _ _ _ _ _ c.loop-entity.invariant.1 c.loop-entity.invariant.0.count c.in-None.ensures.steps.0

pub returns-clause-alive : goal.returns-clause-alive
returns-clause-alive g c = asking-lives _ _ _ _ _ _ _ _ c.loop-entity.invariant.0 c.in-None.ensures.steps.0
