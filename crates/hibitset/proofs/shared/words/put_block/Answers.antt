use Rattle.std.proofs.Common.{◌≡◌, ℕ, ◌/◌, ◌%◌, ◌==◌, Bool, get_or, refl, sym, ap, ◌∙◌, arith, eq-eqb, ne_eqb}
use mathlib.Core.Logic.{dite}
use native.Mathlib.Decide.{ℕ_discrete}
use Rattle.std.specs.Slots.{slots_items}
use Rattle.hibitset_sets.specs.BitSet.{SetWithRoom, has_member}
use Rattle.hibitset_sets.specs.Bits.{has_bit}
use Rattle.hibitset_sets.specs.Words.{word_of}
use Rattle.hibitset.proofs.SharedLemmas.{get_elem-get_or}
use Rattle.hibitset.proofs.BlockLemmas.{as-in-word, chosen, other, in_block-next, in_block-end}
use Rattle.hibitset.proofs.shared.words.put_block.Goals.{then-word-layer0_as_slice, else-word-layer0_as_slice}
use Rattle.hibitset.proofs.shared.words.put_block.Goals as goal

pub loop-place-preserved : goal.loop-place-preserved
loop-place-preserved c =
    let words : ℕ → ℕ = λ number. get_or (slots_items c.args.closed.now.words) number 0 in
    let old : ℕ → Bool = has_member c.args.bits.now in
    let now : ℕ → Bool = has_member c.loop-place.bits in
    let place : ℕ = c.loop-place.place in
    let word : ℕ = c.word-word.result in
    let is_word : words place ≡ word = get_elem-get_or (slots_items c.args.closed.now.words) place word c.word-word.ensures in
    let was = c.loop-place.invariant.members in
    let from = c.loop-place.invariant.from in
    let test = c.loop-place-test.true in
    let stops = c.loop-place.auto.place-end in
    let before = c.loop-place.invariant.room in
    let block = c.requires.block in
    elim c.if-word-layer0_as_slice.branch [
      | then-word-layer0_as_slice w ↦
          let put = w.put_word.ensures.members in
          let room = w.put_word.ensures.room in
          let same_room = ap (λ (set : SetWithRoom). set.room) w.bits-is in
          record {
            members = in_block-next words old c.args.block place now (has_member c.if-word-layer0_as_slice.bits) (omega arith) (omega arith) was
                (λ index same. ap (λ (set : SetWithRoom). has_member set index) w.bits-is ∙ (put index ∙ (chosen (index / 64 == place) _ _ (eq-eqb (index / 64) place same) ∙ ap (λ found. has_bit found (index % 64)) (sym is_word ∙ ap words (sym same)))))
                (λ index differ. ap (λ (set : SetWithRoom). has_member set index) w.bits-is ∙ (put index ∙ other (index / 64 == place) _ _ (ne_eqb (index / 64) place differ)));
            room = same_room ∙ (room ∙ before);
            from = omega arith;
          }
      | else-word-layer0_as_slice w ↦
          let held : words place ≡ word_of now 0 place = let off = w.if-word-layer0_as_slice.false in is_word ∙ (off ∙ c.layer0_as_slice.ensures.words place) in
          record {
            members = in_block-next words old c.args.block place now (has_member c.if-word-layer0_as_slice.bits) (omega arith) (omega arith) was
                (λ index same. ap (λ (set : SetWithRoom). has_member set index) w.bits-is ∙ as-in-word words now place index held same)
                (λ index differ. ap (λ (set : SetWithRoom). has_member set index) w.bits-is);
            room = ap (λ (set : SetWithRoom). set.room) w.bits-is ∙ before;
            from = omega arith;
          }
    ]

pub returns-clause-members : goal.returns-clause-members
returns-clause-members c = λ index.
    let test = c.loop-place-test.false in
    let stops = c.loop-place.auto.place-end in
    let words : ℕ → ℕ = λ number. get_or (slots_items c.args.closed.now.words) number 0 in
    c.loop-place.invariant.members index ∙ in_block-end words (has_member c.args.bits.now) c.args.block c.loop-place.place index (omega arith)

pub returns-then-is_block_of-clause-members : goal.returns-then-is_block_of-clause-members
returns-then-is_block_of-clause-members c = λ index.
    let words : ℕ → ℕ = λ number. get_or (slots_items c.args.closed.now.words) number 0 in
    let same = c.is_block_of.ensures c.if-is_block_of.true in
    dite (ℕ_discrete (index / 4096) c.args.block)
    (λ here. as-in-word words (has_member c.args.bits.now) (index / 64) index (same (index / 64) (omega (arith, here))) refl
    ∙ sym (chosen (index / 4096 == c.args.block) _ _ (eq-eqb (index / 4096) c.args.block here)))
    (λ there. sym (other (index / 4096 == c.args.block) _ _ (ne_eqb (index / 4096) c.args.block there)))
