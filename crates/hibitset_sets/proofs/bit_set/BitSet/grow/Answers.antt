use Rattle.std.proofs.Common.{◌%◌, ap, refl, ◌∙◌, arith, OnOk, Result, Ok, Err}
use Rattle.hibitset_sets.specs.Bits.{has_bit}
use Rattle.hibitset_sets.proofs.LayoutLemmas.{layered-same, members_of-same}
use Rattle.hibitset_sets.proofs.bit_set.BitSet.grow.Goals as goal

always_on_ok : {T E : Type 0} (r : Result T E) (P : Type 0) → P → OnOk r P
always_on_ok (Ok x) P p = p
always_on_ok (Err e) P p = tt

pub invariant_of-self-in_err-extend_words-2 : goal.invariant_of-self-in_err-extend_words-2
invariant_of-self-in_err-extend_words-2 c =
    let s = c.self.inside in
    let long0 = c.self.invariant.first.long in
    let long1 = c.self.invariant.second.long in
    let long2 = c.self.invariant.third.long in
    let upper = c.in_ok-extend_words.ensures.ok in
    let longer = c.extend_words-2.ensures.longer in
    let upto = c.extend_words-2.ensures.upto in
    let words = c.requires in
    layered-same s.layer0.items s.layer1.items s.layer2.items _ _ _ s.layer3 c.self.invariant (λ w. refl) c.extend_words-2.ensures.same c.extend_words.ensures.same (omega arith) (omega arith) (omega arith)

pub invariant_of-self-2 : goal.invariant_of-self-2
invariant_of-self-2 c =
    let s = c.self.inside in
    let long0 = c.self.invariant.first.long in
    let long1 = c.self.invariant.second.long in
    let long2 = c.self.invariant.third.long in
    let upper = c.in_ok-extend_words.ensures.ok in
    let middle = c.in_ok-extend_words-2.ensures.ok in
    let upto = c.extend_words-3.ensures.upto in
    let words = c.requires in
    layered-same s.layer0.items s.layer1.items s.layer2.items _ _ _ s.layer3 c.self.invariant c.extend_words-3.ensures.same c.extend_words-2.ensures.same c.extend_words.ensures.same (omega arith) (omega arith) (omega arith)

pub returns-clause-ok : goal.returns-clause-ok
returns-clause-ok c =
    always_on_ok _ _
    (members_of-same c.self.inside.layer0.items _ (λ i. ap (λ w. has_bit w (i % 64)) (c.extend_words-3.ensures.same _)) ∙ ap (λ s. s.members) c.self.view_is)
