use Rattle.std.proofs.Common.{◌/◌, ◌%◌, ◌<◌, ◌≡◌, ℕ, ap, ◌∙◌, arith, length, bit_or, subst, sym, cond, eqb, slice_set, slice_index}
use Rattle.std.specs.FinSet as set
use Rattle.std.proofs.lemmas.Nat.{one_shl}
use Rattle.std.proofs.lemmas.List.{get_or_read}
use Rattle.hibitset_sets.specs.Bits.{has_bit}
use Rattle.hibitset_sets.specs.Layout.{IsLayered}
use Rattle.hibitset_sets.specs.Edits.{with_bit}
use Rattle.hibitset_sets.proofs.LayoutLemmas.{layered-filled, layered-refilled, word-in, contains-put}
use Rattle.hibitset_sets.proofs.bit_set.BitSet.fill_word.Goals as goal

pub invariant_of-self : goal.invariant_of-self
invariant_of-self c =
    let s = c.self.inside in
    let room = ap (λ s. s.room) c.self.view_is in
    let below = c.requires.room in
    let within : c.args.place < length s.layer0.items = omega arith in
    let top = one_shl (c.args.place / 64 / 64) 64 (word-in c.self.invariant c.args.place within).in3 in
    rw (c.set_bit.ensures, c.set_bit-then-old-eq0.ensures)
    (subst (λ m. IsLayered (slice_set s.layer0.items c.args.place c.args.word) (with_bit s.layer1.items c.args.place) (with_bit s.layer2.items (c.args.place / 64)) (bit_or s.layer3 m)) (sym top)
    (layered-filled c.self.invariant c.args.place within c.args.word (omega arith) c.requires.some))

pub invariant_of-self-else-old-eq0 : goal.invariant_of-self-else-old-eq0
invariant_of-self-else-old-eq0 c =
    let s = c.self.inside in
    let room = ap (λ s. s.room) c.self.view_is in
    let below = c.requires.room in
    let within : c.args.place < length s.layer0.items = omega arith in
    let word = get_or_read s.layer0.items _ _ (omega (arith, s.layer0.ok.0)) c.index-old.ensures 0 in
    layered-refilled c.self.invariant c.args.place within c.args.word (omega arith) c.requires.some
    (λ zero. c.if-old-eq0.false (word ∙ zero))

pub returns-then-old-eq0-clause-members : goal.returns-then-old-eq0-clause-members
returns-then-old-eq0-clause-members c =
    let s = c.self.inside in
    let room = ap (λ s. s.room) c.self.view_is in
    let below = c.requires.room in
    let within : c.args.place < length s.layer0.items = omega arith in
    λ i. contains-put s.layer0.items c.args.place c.args.word within i ∙ ap (λ v. cond (eqb (i / 64) c.args.place) (has_bit c.args.word (i % 64)) (set.contains v.members i)) c.self.view_is

pub returns-else-old-eq0-clause-members : goal.returns-else-old-eq0-clause-members
returns-else-old-eq0-clause-members c =
    let s = c.self.inside in
    let room = ap (λ s. s.room) c.self.view_is in
    let below = c.requires.room in
    let within : c.args.place < length s.layer0.items = omega arith in
    λ i. contains-put s.layer0.items c.args.place c.args.word within i ∙ ap (λ v. cond (eqb (i / 64) c.args.place) (has_bit c.args.word (i % 64)) (set.contains v.members i)) c.self.view_is
