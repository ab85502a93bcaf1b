use Rattle.std.proofs.Common.{◌≡◌, ◌+◌, ◌*◌, ◌/◌, ◌%◌, ◌^◌, ◌<◌, ap, sym, ◌∙◌, arith, inl, inr, slice_index}
use Rattle.std.proofs.lemmas.List.{get_or_read}
use Rattle.std.proofs.lemmas.Bool.{cases_eq, cases_lt, true≢false}
use Rattle.hibitset_sets.specs.Bits.{has_bit}
use Rattle.hibitset_sets.proofs.LayoutLemmas.{uncovered-bit, covered-bits, bit_of-past}
use Rattle.hibitset_sets.proofs.layers.covers.Goals as goal

pub returns-then-index-word_or_zero-ne0-clause-no : goal.returns-then-index-word_or_zero-ne0-clause-no
returns-then-index-word_or_zero-ne0-clause-no c =
    let p = c.args.part.now in
    let place = c.loop-place.place in
    let read = get_or_read p.items _ _ (omega (arith, p.ok.0)) c.index.ensures 0 in
    let fits : c.index.result.now < 2 ^ 64 = omega arith in
    let own : c.word_or_zero.result < 2 ^ 64 = omega arith in
    let bit = uncovered-bit c.index.result.now c.word_or_zero.result fits own c.if-index-word_or_zero-ne0.true in
    let low : bit.0 < 64 = bit.1 in
    let at : (64 * place + bit.0) / 64 ≡ place = omega arith in
    let in_word : (64 * place + bit.0) % 64 ≡ bit.0 = omega arith in
    λ _. (
      64 * place + bit.0,
      (λ j. has_bit (slice_index p.items (at j)) (in_word j)) ∙ ap (λ w. has_bit w bit.0) (sym read) ∙ bit.2,
      (λ j. has_bit (slice_index c.args.words.now.items (at j)) (in_word j)) ∙ ap (λ w. has_bit w bit.0) (sym c.word_or_zero.ensures) ∙ bit.3,
    )

pub loop-place-preserved : goal.loop-place-preserved
loop-place-preserved c =
    let p = c.args.part.now in
    let place = c.loop-place.place in
    let read = get_or_read p.items _ _ (omega (arith, p.ok.0)) c.index.ensures 0 in
    let own : c.word_or_zero.result < 2 ^ 64 = omega arith in
    λ i before set. elim (cases_eq (i / 64) place) [
      | inl here ↦
          ap (λ n. has_bit (slice_index c.args.words.now.items n) (i % 64)) here
          ∙ ap (λ w. has_bit w (i % 64)) (sym c.word_or_zero.ensures)
          ∙ covered-bits c.index.result.now c.word_or_zero.result own c.if-index-word_or_zero-ne0.false (i % 64) (omega arith)
          (ap (λ w. has_bit w (i % 64)) read ∙ ap (λ n. has_bit (slice_index p.items n) (i % 64)) (sym here) ∙ set)
      | inr there ↦ c.loop-place.invariant i (omega arith) set
    ]

pub returns-clause-yes : goal.returns-clause-yes
returns-clause-yes c =
    let p = c.args.part.now in
    λ _ i set. elim (cases_lt (i / 64) c.loop-place.place) [
      | inl before ↦ c.loop-place.invariant i before set
      | inr after ↦
          let test = c.loop-place-test.false in
          absurd (true≢false (sym set ∙ bit_of-past p.items i (omega (arith, p.ok.0))))
    ]
