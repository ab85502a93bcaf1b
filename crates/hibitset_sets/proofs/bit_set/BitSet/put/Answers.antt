use Rattle.std.proofs.Common.{◌≡◌, ◌/◌, ◌%◌, ◌^◌, ◌<◌, ℕ, List, ap, sym, ◌∙◌, arith, length, not, eqb, bit_or, subst, slice_set, slice_index}
use Rattle.std.specs.FinSet as set
use Rattle.std.proofs.lemmas.Nat.{one_shl}
use Rattle.std.proofs.lemmas.List.{get_or_read}
use Rattle.hibitset_sets.specs.Layout.{IsLayered, members_of}
use Rattle.hibitset_sets.specs.Edits.{with_bit}
use Rattle.hibitset_sets.specs.WordLemmas.{not_zero_test}
use Rattle.hibitset_sets.proofs.LayoutLemmas.{layered-with, layered-fuller, members_of-with, in-layers, tested-member, insert-there}
use Rattle.hibitset_sets.proofs.bit_set.BitSet.put.Goals as goal

-- a word with the bit of an index, put where the word stood
put-bit : (words : List ℕ) (id word bit : ℕ) → word ≡ slice_index words (id / 64) → bit ≡ 2 ^ (id / 1 % 64) → slice_set words (id / 64) (bit_or word bit) ≡ with_bit words id
put-bit words id word bit of is =
    (λ j. slice_set words (id / 64) (bit_or (of j) (is j)))
    ∙ ap (λ n. slice_set words (id / 64) (bit_or (slice_index words (id / 64)) (2 ^ (n % 64)))) (let e : id / 1 ≡ id = omega arith in e)

pub returns-then-word-bit-ne0-clause-was_there : goal.returns-then-word-bit-ne0-clause-was_there
returns-then-word-bit-ne0-clause-was_there c =
    let v = c.self.inside.layer0 in
    let room = ap (λ s. s.room) c.self.view_is in
    let below = c.requires in
    sym (not_zero_test _ (let some = c.if-word-bit-ne0.true in omega arith))
    ∙ tested-member v.items _ c.args.id _ _ c.self.view_is
    (get_or_read v.items _ _ (omega (arith, v.ok.0)) c.index-word.ensures 0)
    (c.mask-bit.ensures ∙ ap (λ n. 2 ^ (n % 64)) (let e : c.args.id / 1 ≡ c.args.id = omega arith in e))

pub returns-then-word-bit-ne0-clause-members : goal.returns-then-word-bit-ne0-clause-members
returns-then-word-bit-ne0-clause-members c = sym (insert-there _ c.args.id (sym (returns-then-word-bit-ne0-clause-was_there c)))

pub invariant_of-self : goal.invariant_of-self
invariant_of-self c =
    let s = c.self.inside in
    let room = ap (λ s. s.room) c.self.view_is in
    let below = c.requires in
    let within : c.args.id / 64 < length s.layer0.items = omega arith in
    let top = one_shl (c.args.id / 64 / 64 / 64) 64 (in-layers c.self.invariant c.args.id within).in3 in
    let word = get_or_read s.layer0.items _ _ (omega (arith, s.layer0.ok.0)) c.index-word.ensures 0 in
    rw (put-bit s.layer0.items c.args.id _ _ word c.mask-bit.ensures, c.set_bit.ensures, c.set_bit-then-word-eq0.ensures)
    (subst (λ m. IsLayered (with_bit s.layer0.items c.args.id) (with_bit s.layer1.items (c.args.id / 64)) (with_bit s.layer2.items (c.args.id / 64 / 64)) (bit_or s.layer3 m)) (sym top)
    (layered-with c.self.invariant c.args.id within))

pub invariant_of-self-else-word-eq0 : goal.invariant_of-self-else-word-eq0
invariant_of-self-else-word-eq0 c =
    let s = c.self.inside in
    let room = ap (λ s. s.room) c.self.view_is in
    let below = c.requires in
    let within : c.args.id / 64 < length s.layer0.items = omega arith in
    let word = get_or_read s.layer0.items _ _ (omega (arith, s.layer0.ok.0)) c.index-word.ensures 0 in
    rw (put-bit s.layer0.items c.args.id _ _ word c.mask-bit.ensures) (layered-fuller c.self.invariant c.args.id within (λ zero. c.if-word-eq0.false (word ∙ zero)))

pub returns-then-word-eq0-clause-was_there : goal.returns-then-word-eq0-clause-was_there
returns-then-word-eq0-clause-was_there c =
    let v = c.self.inside.layer0 in
    let room = ap (λ s. s.room) c.self.view_is in
    let below = c.requires in
    ap (λ n. not (eqb n 0)) (sym c.if-word-bit-ne0.false)
    ∙ tested-member v.items _ c.args.id _ _ c.self.view_is
    (get_or_read v.items _ _ (omega (arith, v.ok.0)) c.index-word.ensures 0)
    (c.mask-bit.ensures ∙ ap (λ n. 2 ^ (n % 64)) (let e : c.args.id / 1 ≡ c.args.id = omega arith in e))

pub returns-then-word-eq0-clause-members : goal.returns-then-word-eq0-clause-members
returns-then-word-eq0-clause-members c =
    let s = c.self.inside in
    let room = ap (λ s. s.room) c.self.view_is in
    let below = c.requires in
    let within : c.args.id / 64 < length s.layer0.items = omega arith in
    let word = get_or_read s.layer0.items _ _ (omega (arith, s.layer0.ok.0)) c.index-word.ensures 0 in
    ap members_of (put-bit s.layer0.items c.args.id _ _ word c.mask-bit.ensures)
    ∙ members_of-with s.layer0.items c.args.id within ∙ ap (λ s. set.insert s.members c.args.id) c.self.view_is

pub returns-else-word-eq0-clause-was_there : goal.returns-else-word-eq0-clause-was_there
returns-else-word-eq0-clause-was_there c =
    let v = c.self.inside.layer0 in
    let room = ap (λ s. s.room) c.self.view_is in
    let below = c.requires in
    ap (λ n. not (eqb n 0)) (sym c.if-word-bit-ne0.false)
    ∙ tested-member v.items _ c.args.id _ _ c.self.view_is
    (get_or_read v.items _ _ (omega (arith, v.ok.0)) c.index-word.ensures 0)
    (c.mask-bit.ensures ∙ ap (λ n. 2 ^ (n % 64)) (let e : c.args.id / 1 ≡ c.args.id = omega arith in e))

pub returns-else-word-eq0-clause-members : goal.returns-else-word-eq0-clause-members
returns-else-word-eq0-clause-members c =
    let s = c.self.inside in
    let room = ap (λ s. s.room) c.self.view_is in
    let below = c.requires in
    let within : c.args.id / 64 < length s.layer0.items = omega arith in
    let word = get_or_read s.layer0.items _ _ (omega (arith, s.layer0.ok.0)) c.index-word.ensures 0 in
    ap members_of (put-bit s.layer0.items c.args.id _ _ word c.mask-bit.ensures)
    ∙ members_of-with s.layer0.items c.args.id within ∙ ap (λ s. set.insert s.members c.args.id) c.self.view_is
