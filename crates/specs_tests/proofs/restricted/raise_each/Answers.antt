use Rattle.std.proofs.Common.{◌∷◌, ◌+◌, ◌%◌, ◌&&◌, Option, Some, is_some, inl, inr, refl, sym, ap, subst, ◌∙◌, rules}
use Rattle.std.proofs.lemmas.Bool.{and_parts}
use Rattle.hibitset_sets.specs.BitSet.{has_member}
use Rattle.specs_layouts.specs.Dense.{dense_part}
use Rattle.specs_layouts.specs.ToCome.{IsToCome}
use Rattle.specs_join.proofs.CallerLemmas.{walk-later, walk-members}
use Rattle.specs_join.proofs.ChangeEachLemmas.{IsUnderWay, starts, steps, ends}
use Rattle.specs_storage.specs.PairCursors.{indices_left, store_of, values_of}
use Rattle.specs_tests.specs.declared.parts.Speed.{Speed}
use Rattle.specs_tests.proofs.SharedLemmas.{there-is, shorter}
use Rattle.specs_tests.proofs.restricted.raise_each.Goals as goal

-- a part with one more
abbrev raised : {S : Type 0} → Speed → S → Option Speed
raised part item = Some (record { 0 = (part.0 + 1) % 4294967296 })

pub loop-cursor-init : goal.loop-cursor-init
loop-cursor-init g c =
    let members = g.R.Mask.BitSetLike.members in
    let joins = g.R.Join.joins c.args.read in
    let cursor = c.new-cursor.result in
    let new = c.new-cursor.ensures in
    let old = c.args.parts.now in
    let store = new.store in
    let left = new.left in
    record {
      same_reference = refl;
      ready = new.ready;
      values = λ index come. let has = walk-members (λ i. has_member old.mask i && is_some (joins i)) index (subst (IsToCome index) left come) in
          new.values index has.1 (and_parts (has_member old.mask index) (is_some (joins index)) has.0).1;
      under = subst (λ m. IsUnderWay raised (dense_part old.inner) joins (dense_part m.inner) (indices_left members cursor)) (sym store)
          (starts raised (dense_part old.inner) joins (has_member old.mask) _ c.mask-mask.ensures.agrees c.mask-mask.ensures.range left);
    }

pub advance-requires : goal.advance-requires
advance-requires g c = c.loop-cursor.invariant.ready

pub raise-requires : goal.raise-requires
raise-requires g c = let next = c.loop-cursor-test.ensures.some refl in (next.0, next.1)

pub loop-cursor-smaller : goal.loop-cursor-smaller
loop-cursor-smaller g c = let next = c.loop-cursor-test.ensures.some refl in shorter _ _ next.0 (next.2 ∙ ap (λ rest. next.0 ∷ rest) (sym c.raise.ensures.left))

pub loop-cursor-preserved : goal.loop-cursor-preserved
loop-cursor-preserved g c =
    let joins = g.R.Join.joins c.args.read in
    let value_at = g.R.Join.value_at in
    let old = dense_part c.args.parts.now.inner in
    let invariant = c.loop-cursor.invariant in
    let moved = c.advance.ensures in
    let raising = c.raise.ensures in
    let next = c.loop-cursor-test.ensures.some refl in
    let index = next.0 in
    let come = subst (IsToCome index) (sym next.2) (inl refl) in
    let under = subst (λ m. IsUnderWay raised old joins (dense_part m.inner) (indices_left g.R.Mask.BitSetLike.members c.loop-cursor.cursor)) (sym moved.store) invariant.under in
    let item = there-is (value_at (values_of c.advance.new.self) index) next.1.1.1 in
    let has = sym (invariant.values index come) ∙ (ap (λ v. value_at v index) (sym moved.values) ∙ item.1) in
    let part = raising.parts index next.1.0 in
    record {
      same_reference = raising.same_reference ∙ (moved.same_reference ∙ invariant.same_reference);
      ready = raising.ready moved.ready;
      values = λ other later. ap (λ v. value_at v other) (raising.values ∙ moved.values) ∙ invariant.values other (subst (IsToCome other) (sym next.2) (inr (subst (IsToCome other) raising.left later)));
      under = subst (λ left. IsUnderWay raised old joins (dense_part (store_of c.raise.new.cursor).now.inner) left) (sym raising.left)
          (steps raised old joins (dense_part (store_of c.advance.new.self).now.inner) _ index _ _ next.2 (walk-later _ index _ next.2) under part.0 _ item.0 part.1 has refl part.2);
    }

pub returns : goal.returns
returns g c =
    let same = c.advance.ensures.same_reference ∙ (c.loop-cursor.invariant.same_reference ∙ (c.new-cursor.ensures.same_reference)) in
    let told_so = c.drop-cursor.ensures in
    let ended = ends raised (dense_part c.args.parts.now.inner) (g.R.Join.joins c.args.read) _ _ (c.loop-cursor-test.ensures.ended refl) c.loop-cursor.invariant.under in
    search (ended, told_so, same, rules)
