use Rattle.std.proofs.Common.{refl, is_ok, sym, ap, ◌∙◌}
use Rattle.hibitset_sets.specs.BitSet.{SetWithRoom, has_member}
use Rattle.hibitset_sets.specs.Iter.{left_of}
use Rattle.hibitset_sets.specs.Walk.{walk}
use Rattle.specs_saveload.proofs.RecursionLemmas.{first-are, some-value}
use Rattle.specs_saveload.proofs.SaveLemmas.{begun, ended, first-known, passed, saved-next, went-on}
use Rattle.specs_saveload.proofs.recursive.marked_entities.Goals as goal

pub loop-id-init : goal.loop-id-init
loop-id-init g c =
    begun _ _ _ c.args.markers.now.mask c.mask.ensures.agrees _ (ap (left_of (λ b. has_member b.now)) c.into_iter-id-iterator.ensures.into_iter_gives ∙ (c.iter-id-items.ensures.items ∙ ap (λ (m : SetWithRoom). walk (has_member m)) c.mask.ensures.value)) _ c.new-list.ensures.items

pub loop-id-preserved-in-Ok : goal.loop-id-preserved-in-Ok
loop-id-preserved-in-Ok g c =
    let marker = some-value _ (first-known _ _ _ _ _ c.loop-id.invariant _ _ c.in-Some.ensures.steps) in
    went-on _ _ _ _ _ c.loop-id.invariant _ _ c.in-Some.ensures.steps c.in-Some-living_at.entity marker.0 (sym c.in-Some-living_at.ensures) marker.1 c.push.new.self.items (saved-next _ _ _ c.in-Some-living_at.entity (is_ok c.push.result) refl c.push.ensures.items (ap is_ok c.in-Ok.is))

pub loop-id-preserved : goal.loop-id-preserved
loop-id-preserved g c =
    passed _ _ _ _ _ c.loop-id.invariant _ _ c.in-Some.ensures.steps (sym c.in_default.ensures)

pub returns : goal.returns
returns g c = first-are _ _ _ (ended _ _ _ _ _ c.loop-id.invariant c.in-None.ensures.steps.0)
