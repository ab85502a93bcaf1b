use Rattle.std.proofs.Common.{◌≡◌, ◌+◌, ◌-◌, arith, sym, ap, ◌∙◌, subst, inl, inr, slice_index}
use Rattle.hibitset_sets.specs.Iter.{unread}
use Rattle.hibitset_sets.specs.Walk.{words_left}
use Rattle.hibitset_sets.proofs.TakeLemmas.{walk-empty}
use Rattle.hibitset_sets.proofs.CountLemmas.{words_left-empty}
use Rattle.std.proofs.lemmas.Bool.{cases_eq}
use Rattle.hibitset_sets.proofs.iter.BitIter.next_counted.Goals as goal

pub returns-then-layer-eq-LAYERS-clause-item : goal.returns-then-layer-eq-LAYERS-clause-item
returns-then-layer-eq-LAYERS-clause-item g c =
    let s = c.loop-self.self in
    let e : c.lowest-layer.result ≡ 4 = c.if-layer-eq-LAYERS.true in
    let none = walk-empty (g.T.BitSetLike.members s.set) s.masks s.prefix
    (λ k low. elim (cases_eq k 0) [
      | inl zeroth ↦ ap (slice_index s.masks) zeroth ∙ c.loop-self-test.true
      | inr not0 ↦ c.lowest-layer.ensures.empty k (omega arith) (omega arith)
    ]) in
    (sym c.loop-self.invariant.items ∙ none, none)

pub returns-then-layer-eq-LAYERS-clause-ended : goal.returns-then-layer-eq-LAYERS-clause-ended
returns-then-layer-eq-LAYERS-clause-ended g c =
    let s = c.loop-self.self in
    let e : c.lowest-layer.result ≡ 4 = c.if-layer-eq-LAYERS.true in
    words_left-empty (g.T.BitSetLike.reads s.set) (g.T.BitSetLike.words s.set) s.masks s.prefix
    (λ k low. elim (cases_eq k 0) [
      | inl zeroth ↦ ap (slice_index s.masks) zeroth ∙ c.loop-self-test.true
      | inr not0 ↦ c.lowest-layer.ensures.empty k (omega arith) (omega arith)
    ])

pub loop-self-preserved : goal.loop-self-preserved
loop-self-preserved g c =
    let s = c.loop-self.self in
    let t = c.load.new.self in
    let R = g.T.BitSetLike.reads in
    let W = g.T.BitSetLike.words in
    let same : t.set ≡ s.set = c.load.ensures.set in
    let before = c.load.ensures.words (R s.set) in
    let after : words_left (R t.set) (W t.set) t.masks t.prefix ≡ words_left (R s.set) (W s.set) t.masks t.prefix = ap (λ x. words_left (R x) (W x) t.masks t.prefix) same in
    let cost : unread R W s ≡ R s.set (c.lowest-layer.result - 1) + unread R W t = before ∙ ap (λ n. R s.set (c.lowest-layer.result - 1) + n) (sym after) in
    let fewer = c.loop-self.invariant.fewer in
    let both = g.met.C.Counter.ticked_both _ _ _ _ _ c.loop-self.invariant.counted c.load.ensures.counted in
    record {
      set = same ∙ c.loop-self.invariant.set;
      items = c.load.ensures.items ∙ c.loop-self.invariant.items;
      fewer = omega arith;
      counted = subst (λ n. g.C.Counter.ticked c.args.count.now n c.load.new.count) (omega arith) both;
    }
