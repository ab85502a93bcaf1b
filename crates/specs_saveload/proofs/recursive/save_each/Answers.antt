use Rattle.std.proofs.Common.{Err, is_ok, sym, ap, length, ◌∙◌}
use Rattle.specs_saveload.proofs.SaveLemmas.{saved-next}
use Rattle.specs_saveload.proofs.RecursionLemmas.{entry-named, no-data, no-name, saving-begins, saving-ends, saving-goes-on, saving-next}
use Rattle.specs_saveload.proofs.recursive.save_each.Goals as goal

pub loop-entity-init : goal.loop-entity-init
loop-entity-init g c =
    let into = c.into_iter-entity-iterator.ensures.into_iter_gives in
    saving-begins _ _ _ _ _ (into.1 ∙ (sym c.as_slice-count.ensures.len ∙ (ap length c.as_slice-count.ensures.value ∙ ap length (sym into.0)))) into.0 c.new-saved.ensures.items

pub returns-clause-ok : goal.returns-clause-ok
returns-clause-ok g c = saving-ends _ _ _ _ _ c.loop-entity.invariant c.in-None.ensures.steps.0

pub loop-entity-preserved : goal.loop-entity-preserved
loop-entity-preserved g c =
    saving-goes-on _ _ _ _ c.in-Some.entity _ _ _ _ c.loop-entity.invariant c.in-Some.ensures.steps.0 c.in-Some.ensures.steps.1
    (saved-next _ _ _ c.in-Ok-Some.entry (is_ok c.push.result) (entry-named _ _ _ _ c.in-Some.entity c.in-Ok-Some.entry (rw c.in-Ok-Some.field-0-is at c.in-Ok-Some.ensures.some)) c.push.ensures.items (ap is_ok c.in-Ok.is))

pub returns-in-Ok-None-clause-unmarked : goal.returns-in-Ok-None-clause-unmarked
returns-in-Ok-None-clause-unmarked g c is = (
  c.in-Some.entity,
  saving-next _ _ _ _ c.in-Some.entity _ _ c.loop-entity.invariant c.in-Some.ensures.steps.0,
  no-name g.S.SerializeComponents.plain (g.S.SerializeComponents.parts_at c.args.storages.now) c.args.entities.now (g.M.Storage.UnprotectedStorage.part_at c.args.markers.now.inner) c.in-Some.entity (c.in-Ok-None.ensures.none c.in-Ok-None.field-0-is),
)

pub returns-in-Err-Unmarked-clause-unmarked : goal.returns-in-Err-Unmarked-clause-unmarked
returns-in-Err-Unmarked-clause-unmarked g c is = (
  c.in-Some.entity,
  saving-next _ _ _ _ c.in-Some.entity _ _ c.loop-entity.invariant c.in-Some.ensures.steps.0,
  no-data g.S.SerializeComponents.plain (g.S.SerializeComponents.parts_at c.args.storages.now) c.args.entities.now (g.M.Storage.UnprotectedStorage.part_at c.args.markers.now.inner) c.in-Some.entity (c.in-Err-Unmarked.ensures.unmarked (ap Err c.in-Err-Unmarked.field-0-is)),
)
