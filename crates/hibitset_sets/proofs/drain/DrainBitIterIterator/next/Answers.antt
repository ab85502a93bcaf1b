use Rattle.std.proofs.Common.{◌≡◌, ◌∷◌, false, ap, sym, refl, ◌∙◌, rules}
use Rattle.hibitset_sets.specs.Walk.{walk, is_pending}
use Rattle.hibitset_sets.proofs.TakeLemmas.{walk-without}
use Rattle.hibitset_sets.proofs.drain.DrainBitIterIterator.next.Goals as goal

pub returns-in-Some-clause-steps : goal.returns-in-Some-clause-steps
returns-in-Some-clause-steps g c =
    let M = g.T.BitSetLike.members in
    let old = c.args.self.now.set.now in
    let between = c.next_counted-next.new.self in
    let i = c.in-Some.i in
    let made : c.new-iter.result.set.now ≡ old = ap (λ s. s.now) c.new-iter.ensures.set in
    let kept : between.set.now ≡ old = ap (λ s. s.now) c.in-Some.ensures.set ∙ made in
    let masks = c.into_parts.ensures.masks in
    let prefix = c.into_parts.ensures.prefix in
    let gone : is_pending (M old) c.into_parts.result.1 c.into_parts.result.2 i ≡ false =
    (λ j. is_pending (M (sym made j)) (masks j) (prefix j) i) ∙ c.in-Some.ensures.gone in
    let rest = walk-without (M old) (M c.remove.new.self) c.into_parts.result.1 c.into_parts.result.2 i gone c.remove.ensures.members in (
      refl,
      (
        sym c.new-iter.ensures.items ∙ c.in-Some.ensures.item ∙ ap (λ xs. i ∷ xs) ((λ j. walk (is_pending (M (kept j)) (sym masks j) (sym prefix j))) ∙ sym rest),
        c.remove.ensures.members,
      ),
    )

pub returns-in-Some-clause-goes : goal.returns-in-Some-clause-goes
returns-in-Some-clause-goes g c =
    let e = (returns-in-Some-clause-steps g c).1.0 in
    search rules
