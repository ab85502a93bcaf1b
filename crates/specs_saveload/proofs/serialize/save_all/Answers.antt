use Rattle.std.proofs.Common.{refl, sym, ap, ◌∙◌}
use Rattle.hibitset_sets.specs.BitSet.{SetWithRoom, has_member}
use Rattle.hibitset_sets.specs.Walk.{walk}
use Rattle.hibitset_sets.specs.Iter.{left_of}
use Rattle.specs_saveload.proofs.SaveLemmas.{begun, ended, first-known, passed, went-on, stopped, same-refusal}
use Rattle.specs_saveload.proofs.serialize.save_all.Goals as goal

pub loop-id-init : goal.loop-id-init
loop-id-init g c =
    begun _ _ _ c.args.markers.now.mask c.mask.ensures.agrees _ (ap (left_of (λ b. has_member b.now)) c.into_iter-id-iterator.ensures.into_iter_gives ∙ (c.iter-id-items.ensures.items ∙ ap (λ (m : SetWithRoom). walk (has_member m)) c.mask.ensures.value)) _ c.new-list.ensures.items

pub get-requires : goal.get-requires
get-requires g c = first-known _ _ _ _ _ c.loop-id.invariant _ _ c.in-Some.ensures.steps

pub loop-id-preserved-in-Ok : goal.loop-id-preserved-in-Ok
loop-id-preserved-in-Ok g c =
    went-on _ _ _ _ _ c.loop-id.invariant _ _ c.in-Some.ensures.steps c.in-Some-living_at.entity c.get.result.now (sym c.in-Some-living_at.ensures) c.get.ensures c.save_one.new.list.items c.in-Ok.ensures.ok

pub loop-id-preserved : goal.loop-id-preserved
loop-id-preserved g c =
    passed _ _ _ _ _ c.loop-id.invariant _ _ c.in-Some.ensures.steps (sym c.in_default.ensures)

pub returns-in-Err-clause-unmarked : goal.returns-in-Err-clause-unmarked
returns-in-Err-clause-unmarked g c is =
    stopped _ _ _ _ _ c.loop-id.invariant _ _ c.in-Some.ensures.steps c.in-Some-living_at.entity c.get.result.now (sym c.in-Some-living_at.ensures) c.get.ensures (c.in-Err.ensures.unmarked (same-refusal _ _ c.in-Err.refused _ refl refl is))

pub returns-clause-ok : goal.returns-clause-ok
returns-clause-ok g c = ended _ _ _ _ _ c.loop-id.invariant c.in-None.ensures.steps.0
