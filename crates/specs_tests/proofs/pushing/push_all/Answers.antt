use Rattle.std.proofs.Common.{◌≡◌, ℕ, ◌∷◌, IsSome, inl, inr, refl, sym, subst, ◌∙◌}
use Rattle.hibitset_sets.specs.BitSet.{has_member}
use Rattle.hibitset_sets.specs.Walk.{walk}
use Rattle.specs_layouts.specs.Dense.{dense_part}
use Rattle.specs_layouts.specs.ToCome.{IsToCome}
use Rattle.specs_join.specs.Cursor.{shared}
use Rattle.specs_join.specs.Steps.{still_shared}
use Rattle.specs_join.proofs.CallerLemmas.{walk-later}
use Rattle.specs_join.proofs.ChangeEachLemmas.{IsUnderWay, starts, steps}
use Rattle.specs_tests.specs.Drifts.{pushed, slowed}
use Rattle.specs_tests.proofs.SharedLemmas.{begins-one, begins-other, both-come, of-equals, there-is}
use Rattle.specs_tests.proofs.pushing.push_all.Goals as goal

pub loop-index-init : goal.loop-index-init
loop-index-init c =
    let places = c.args.places.now in
    let drifts = c.args.drifts.now in
    let places_at = dense_part places.inner in
    let drifts_at = dense_part drifts.inner in
    let one = c.mask-places_mask.ensures in
    let other = c.mask-drifts_mask.ensures in
    let begins = of-equals (λ m n. still_shared has_member m n c.new-steps.result ≡ walk (shared has_member m n)) _ places.mask _ drifts.mask c.mask.ensures.value c.mask-2.ensures.value c.new-steps.ensures in
    record {
      places_mask = refl;
      drifts_mask = refl;
      both = both-come places.mask drifts.mask places_at drifts_at one.agrees other.agrees _ begins;
      places = starts pushed places_at drifts_at (has_member places.mask) _ one.agrees one.range (begins-one places.mask drifts.mask places_at drifts_at one.agrees other.agrees _ begins);
      drifts = starts slowed drifts_at places_at (has_member drifts.mask) _ other.agrees other.range (begins-other places.mask drifts.mask places_at drifts_at one.agrees other.agrees _ begins);
    }

pub loop-index-preserved : goal.loop-index-preserved
loop-index-preserved c =
    let places_at = dense_part c.args.places.now.inner in
    let drifts_at = dense_part c.args.drifts.now.inner in
    let at = c.loop-index in
    let index = c.in-Some.index in
    let next = of-equals (λ m n. still_shared has_member m n at.steps ≡ index ∷ still_shared has_member m n c.step.new.self) _ at.places.mask _ at.drifts.mask c.mask-in-loop-index.ensures.value c.mask-in-loop-index-2.ensures.value c.in-Some.ensures in
    let come = subst (IsToCome index) (sym next) (inl refl) in
    let later = walk-later _ index _ next in
    let there = at.invariant.both index come in
    let place = there-is (places_at index) there.0 in
    let drift = there-is (drifts_at index) there.1 in
    let has_place = at.invariant.places.ahead index come ∙ place.1 in
    let has_drift = at.invariant.drifts.ahead index come ∙ drift.1 in
    let done = c.push_at.ensures in
    record {
      places_mask = done.places_mask ∙ at.invariant.places_mask;
      drifts_mask = done.drifts_mask ∙ at.invariant.drifts_mask;
      both = of-equals (λ m n. (other : ℕ) → IsToCome other (still_shared has_member m n c.step.new.self) → IsSome (places_at other) × IsSome (drifts_at other)) _ _ _ _ (sym done.places_mask) (sym done.drifts_mask) (λ other after. at.invariant.both other (subst (IsToCome other) (sym next) (inr after)));
      places = of-equals (λ m n. IsUnderWay pushed places_at drifts_at (dense_part c.push_at.new.places.inner) (still_shared has_member m n c.step.new.self)) _ _ _ _ (sym done.places_mask) (sym done.drifts_mask)
          (steps pushed places_at drifts_at (dense_part at.places.inner) _ index _ _ next later at.invariant.places place.0 _ drift.0 has_place drift.1 refl (done.places place.0 drift.0 has_place has_drift));
      drifts = of-equals (λ m n. IsUnderWay slowed drifts_at places_at (dense_part c.push_at.new.drifts.inner) (still_shared has_member m n c.step.new.self)) _ _ _ _ (sym done.places_mask) (sym done.drifts_mask)
          (steps slowed drifts_at places_at (dense_part at.drifts.inner) _ index _ _ next later at.invariant.drifts drift.0 _ place.0 has_drift place.1 refl (done.drifts place.0 drift.0 has_place has_drift));
    }
