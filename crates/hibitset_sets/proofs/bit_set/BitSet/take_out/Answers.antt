use Rattle.std.proofs.Common.{◌≡◌, ◌≢◌, ◌/◌, ◌<◌, ap, sym, ◌∙◌, arith, length, bit_and, subst, slice_index, true, false, eqb, ℕ, Bool, List}
use Rattle.std.specs.FinSet as set
use Rattle.std.specs.Int.{bit_not, w64}
use Rattle.std.proofs.lemmas.Nat.{one_shl}
use Rattle.std.proofs.lemmas.Bool.{eqb-true, eqb-false}
use Rattle.hibitset_sets.specs.Layout.{IsLayered, members_of}
use Rattle.hibitset_sets.specs.Edits.{bit_of, without_bit}
use Rattle.hibitset_sets.specs.BitSet.{SetWithRoom}
use Rattle.hibitset_sets.specs.declared.bit_set.BitSet.TheInside.{Inside}
use Rattle.hibitset_sets.specs.Layout.{view_of, is_layered}
use Rattle.hibitset_sets.proofs.LayoutLemmas.{IsIn, contains-room, contains-members_of, in-layers, layered-without0, layered-without1, layered-without2, layered-without3, members_of-without}
use Rattle.hibitset_sets.proofs.bit_set.BitSet.take_out.Goals as goal

-- a member's word lies in layer 0
within : (s : Inside) (v : SetWithRoom) → view_of s ≡ v → (id : _) → set.contains v.members id ≡ true → id / 64 < length s.layer0.items
within s v is id member =
    let below = contains-room s.layer0.items id (ap (λ v. set.contains v.members id) is ∙ member) in
    omega arith

-- and its bit is set
was : (s : Inside) (v : SetWithRoom) → view_of s ≡ v → (id : _) → set.contains v.members id ≡ true → bit_of s.layer0.items id ≡ true
was s v is id member = sym (contains-members_of s.layer0.items id) ∙ ap (λ v. set.contains v.members id) is ∙ member

-- where each of its words lies
layers : (s : Inside) (v : SetWithRoom) → is_layered s → view_of s ≡ v → (id : _) → set.contains v.members id ≡ true → IsIn s.layer0.items s.layer1.items s.layer2.items id
layers s v layered is id member = in-layers layered id (within s v is id member)

-- what the answer of `clear_bit` says of the word
stays_some : (words after : List ℕ) (w : ℕ) (b : Bool) → words ≡ after → b ≡ eqb (slice_index words w) 0 → b ≡ false → slice_index after w ≢ 0
stays_some words after w b is answer denied zeroed = eqb-false _ _ (sym answer ∙ denied) (ap (λ xs. slice_index xs w) is ∙ zeroed)

is_zero : (words after : List ℕ) (w : ℕ) (b : Bool) → words ≡ after → b ≡ eqb (slice_index words w) 0 → b ≡ true → slice_index after w ≡ 0
is_zero words after w b is answer granted = sym (ap (λ xs. slice_index xs w) is) ∙ eqb-true _ _ (sym answer ∙ granted)

pub clear_bit-requires : goal.clear_bit-requires
clear_bit-requires c = within c.self.inside _ c.self.view_is c.args.id c.requires

pub clear_bit-requires-2 : goal.clear_bit-requires-2
clear_bit-requires-2 c = (layers c.self.inside _ c.self.invariant c.self.view_is c.args.id c.requires).in1

pub clear_bit-requires-3 : goal.clear_bit-requires-3
clear_bit-requires-3 c = (layers c.self.inside _ c.self.invariant c.self.view_is c.args.id c.requires).in2

pub overflow_shl-self : goal.overflow_shl-self
overflow_shl-self c = (layers c.self.inside _ c.self.invariant c.self.view_is c.args.id c.requires).in3

pub invariant_of-self : goal.invariant_of-self
invariant_of-self c =
    let s = c.self.inside in
    let left = stays_some _ _ _ _ c.clear_bit.ensures.after c.clear_bit.ensures.zero c.if-not-clear_bit.true in
    rw c.clear_bit.ensures.after (layered-without0 c.self.invariant c.args.id (within s _ c.self.view_is c.args.id c.requires) (was s _ c.self.view_is c.args.id c.requires) left)

pub returns-then-not-clear_bit-clause-members : goal.returns-then-not-clear_bit-clause-members
returns-then-not-clear_bit-clause-members c =
    ap members_of c.clear_bit.ensures.after ∙ members_of-without c.self.inside.layer0.items c.args.id (within c.self.inside _ c.self.view_is c.args.id c.requires) ∙ ap (λ s. set.remove s.members c.args.id) c.self.view_is

pub returns-then-not-clear_bit-2-clause-members : goal.returns-then-not-clear_bit-2-clause-members
returns-then-not-clear_bit-2-clause-members c =
    ap members_of c.clear_bit.ensures.after ∙ members_of-without c.self.inside.layer0.items c.args.id (within c.self.inside _ c.self.view_is c.args.id c.requires) ∙ ap (λ s. set.remove s.members c.args.id) c.self.view_is

pub returns-then-not-clear_bit-3-clause-members : goal.returns-then-not-clear_bit-3-clause-members
returns-then-not-clear_bit-3-clause-members c =
    ap members_of c.clear_bit.ensures.after ∙ members_of-without c.self.inside.layer0.items c.args.id (within c.self.inside _ c.self.view_is c.args.id c.requires) ∙ ap (λ s. set.remove s.members c.args.id) c.self.view_is

pub returns-clause-members : goal.returns-clause-members
returns-clause-members c =
    ap members_of c.clear_bit.ensures.after ∙ members_of-without c.self.inside.layer0.items c.args.id (within c.self.inside _ c.self.view_is c.args.id c.requires) ∙ ap (λ s. set.remove s.members c.args.id) c.self.view_is

pub invariant_of-self-then-not-clear_bit-2 : goal.invariant_of-self-then-not-clear_bit-2
invariant_of-self-then-not-clear_bit-2 c =
    let s = c.self.inside in
    let zero0 = is_zero _ _ _ _ c.clear_bit.ensures.after c.clear_bit.ensures.zero c.if-not-clear_bit.false in
    let left = stays_some _ _ _ _ c.clear_bit-2.ensures.after c.clear_bit-2.ensures.zero c.if-not-clear_bit-2.true in
    rw (c.clear_bit.ensures.after, c.clear_bit-2.ensures.after)
    (layered-without1 c.self.invariant c.args.id (within s _ c.self.view_is c.args.id c.requires) (was s _ c.self.view_is c.args.id c.requires) zero0 left)

pub invariant_of-self-then-not-clear_bit-3 : goal.invariant_of-self-then-not-clear_bit-3
invariant_of-self-then-not-clear_bit-3 c =
    let s = c.self.inside in
    let zero0 = is_zero _ _ _ _ c.clear_bit.ensures.after c.clear_bit.ensures.zero c.if-not-clear_bit.false in
    let zero1 = is_zero _ _ _ _ c.clear_bit-2.ensures.after c.clear_bit-2.ensures.zero c.if-not-clear_bit-2.false in
    let left = stays_some _ _ _ _ c.clear_bit-3.ensures.after c.clear_bit-3.ensures.zero c.if-not-clear_bit-3.true in
    rw (c.clear_bit.ensures.after, c.clear_bit-2.ensures.after, c.clear_bit-3.ensures.after)
    (layered-without2 c.self.invariant c.args.id (within s _ c.self.view_is c.args.id c.requires) (was s _ c.self.view_is c.args.id c.requires) zero0 zero1 left)

pub invariant_of-self-2 : goal.invariant_of-self-2
invariant_of-self-2 c =
    let s = c.self.inside in
    let zero0 = is_zero _ _ _ _ c.clear_bit.ensures.after c.clear_bit.ensures.zero c.if-not-clear_bit.false in
    let zero1 = is_zero _ _ _ _ c.clear_bit-2.ensures.after c.clear_bit-2.ensures.zero c.if-not-clear_bit-2.false in
    let zero2 = is_zero _ _ _ _ c.clear_bit-3.ensures.after c.clear_bit-3.ensures.zero c.if-not-clear_bit-3.false in
    let top = one_shl (c.args.id / 64 / 64 / 64) 64 (layers s _ c.self.invariant c.self.view_is c.args.id c.requires).in3 in
    rw (c.clear_bit.ensures.after, c.clear_bit-2.ensures.after, c.clear_bit-3.ensures.after)
    (subst (λ m. IsLayered (without_bit s.layer0.items c.args.id) (without_bit s.layer1.items (c.args.id / 64)) (without_bit s.layer2.items (c.args.id / 64 / 64)) (bit_and s.layer3 (bit_not w64 m))) (sym top)
    (layered-without3 c.self.invariant c.args.id (within s _ c.self.view_is c.args.id c.requires) (was s _ c.self.view_is c.args.id c.requires) zero0 zero1 zero2))
