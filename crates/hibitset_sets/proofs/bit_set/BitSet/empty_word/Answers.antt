use Rattle.std.proofs.Common.{◌≡◌, ◌≢◌, ℕ, ◌/◌, ◌%◌, ◌<◌, ap, sym, ◌∙◌, arith, length, bit_and, subst, cond, eqb, slice_set, slice_index, List, Bool, true, false}
use Rattle.std.specs.FinSet as set
use Rattle.std.specs.Int.{bit_not, w64}
use Rattle.std.proofs.lemmas.Nat.{one_shl}
use Rattle.std.proofs.lemmas.Bool.{eqb-true, eqb-false}
use Rattle.hibitset_sets.specs.Bits.{has_bit}
use Rattle.hibitset_sets.specs.Layout.{IsLayered}
use Rattle.hibitset_sets.specs.Edits.{without_bit}
use Rattle.hibitset_sets.proofs.LayoutLemmas.{layered-emptied1, layered-emptied2, layered-emptied3, word-in, contains-put}
use Rattle.hibitset_sets.proofs.bit_set.BitSet.empty_word.Goals as goal

-- what the answer of `clear_bit` says of the word
stays_some : (words after : List ℕ) (w : ℕ) (b : Bool) → words ≡ after → b ≡ eqb (slice_index words w) 0 → b ≡ false → slice_index after w ≢ 0
stays_some words after w b is answer denied zeroed = eqb-false _ _ (sym answer ∙ denied) (ap (λ xs. slice_index xs w) is ∙ zeroed)

is_zero : (words after : List ℕ) (w : ℕ) (b : Bool) → words ≡ after → b ≡ eqb (slice_index words w) 0 → b ≡ true → slice_index after w ≡ 0
is_zero words after w b is answer granted = sym (ap (λ xs. slice_index xs w) is) ∙ eqb-true _ _ (sym answer ∙ granted)

pub invariant_of-self : goal.invariant_of-self
invariant_of-self c =
    let s = c.self.inside in
    let room = ap (λ s. s.room) c.self.view_is in
    let below = c.requires in
    let within : c.args.place < length s.layer0.items = omega arith in
    let left = stays_some _ _ _ _ c.clear_bit.ensures.after c.clear_bit.ensures.zero c.if-not-clear_bit.true in
    rw c.clear_bit.ensures.after (layered-emptied1 c.self.invariant c.args.place within left)

pub invariant_of-self-then-not-clear_bit-2 : goal.invariant_of-self-then-not-clear_bit-2
invariant_of-self-then-not-clear_bit-2 c =
    let s = c.self.inside in
    let room = ap (λ s. s.room) c.self.view_is in
    let below = c.requires in
    let within : c.args.place < length s.layer0.items = omega arith in
    let zero1 = is_zero _ _ _ _ c.clear_bit.ensures.after c.clear_bit.ensures.zero c.if-not-clear_bit.false in
    let left = stays_some _ _ _ _ c.clear_bit-2.ensures.after c.clear_bit-2.ensures.zero c.if-not-clear_bit-2.true in
    rw (c.clear_bit.ensures.after, c.clear_bit-2.ensures.after) (layered-emptied2 c.self.invariant c.args.place within zero1 left)

pub invariant_of-self-2 : goal.invariant_of-self-2
invariant_of-self-2 c =
    let s = c.self.inside in
    let room = ap (λ s. s.room) c.self.view_is in
    let below = c.requires in
    let within : c.args.place < length s.layer0.items = omega arith in
    let zero1 = is_zero _ _ _ _ c.clear_bit.ensures.after c.clear_bit.ensures.zero c.if-not-clear_bit.false in
    let zero2 = is_zero _ _ _ _ c.clear_bit-2.ensures.after c.clear_bit-2.ensures.zero c.if-not-clear_bit-2.false in
    let top = one_shl (c.args.place / 64 / 64) 64 (word-in c.self.invariant c.args.place within).in3 in
    rw (c.clear_bit.ensures.after, c.clear_bit-2.ensures.after)
    (subst (λ m. IsLayered (slice_set s.layer0.items c.args.place 0) (without_bit s.layer1.items c.args.place) (without_bit s.layer2.items (c.args.place / 64)) (bit_and s.layer3 (bit_not w64 m))) (sym top)
    (layered-emptied3 c.self.invariant c.args.place within zero1 zero2))

pub returns-then-not-clear_bit-clause-members : goal.returns-then-not-clear_bit-clause-members
returns-then-not-clear_bit-clause-members c =
    let s = c.self.inside in
    let room = ap (λ s. s.room) c.self.view_is in
    let below = c.requires in
    let within : c.args.place < length s.layer0.items = omega arith in
    λ i. contains-put s.layer0.items c.args.place 0 within i ∙ ap (λ v. cond (eqb (i / 64) c.args.place) (has_bit 0 (i % 64)) (set.contains v.members i)) c.self.view_is

pub returns-then-not-clear_bit-2-clause-members : goal.returns-then-not-clear_bit-2-clause-members
returns-then-not-clear_bit-2-clause-members c =
    let s = c.self.inside in
    let room = ap (λ s. s.room) c.self.view_is in
    let below = c.requires in
    let within : c.args.place < length s.layer0.items = omega arith in
    λ i. contains-put s.layer0.items c.args.place 0 within i ∙ ap (λ v. cond (eqb (i / 64) c.args.place) (has_bit 0 (i % 64)) (set.contains v.members i)) c.self.view_is

pub returns-clause-members : goal.returns-clause-members
returns-clause-members c =
    let s = c.self.inside in
    let room = ap (λ s. s.room) c.self.view_is in
    let below = c.requires in
    let within : c.args.place < length s.layer0.items = omega arith in
    λ i. contains-put s.layer0.items c.args.place 0 within i ∙ ap (λ v. cond (eqb (i / 64) c.args.place) (has_bit 0 (i % 64)) (set.contains v.members i)) c.self.view_is
