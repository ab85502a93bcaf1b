use Rattle.std.proofs.Common.{◌≡◌, ℕ, get_or, sym, ap, ◌∙◌, arith}
use Rattle.std.proofs.lemmas.Bool.{true≢false}
use mathlib.Core.Logic.{dite}
use native.Mathlib.Decide.{ℕ_discrete}
use Rattle.std.specs.Slots.{slots_items}
use Rattle.hibitset_sets.specs.BitSet.{has_member}
use Rattle.hibitset_sets.specs.Words.{word_of}
use Rattle.hibitset.proofs.SharedLemmas.{get_elem-get_or}
use Rattle.hibitset.proofs.shared.words.is_block_of.Goals.{then-word-lowest, else-word-lowest}
use Rattle.hibitset.proofs.shared.words.is_block_of.Goals as goal

pub loop-place-preserved : goal.loop-place-preserved
loop-place-preserved c = λ same other from below.
    let words : ℕ → ℕ = λ number. get_or (slots_items c.args.closed.now.words) number 0 in
    let old : ℕ → ℕ = word_of (has_member c.args.bits.now) 0 in
    elim c.if-word-lowest.branch [
      | then-word-lowest w ↦ absurd (true≢false (sym same ∙ w.same-is))
      | else-word-lowest w ↦
          let held : words c.loop-place.place ≡ old c.loop-place.place = get_elem-get_or (slots_items c.args.closed.now.words) c.loop-place.place c.word.result c.word.ensures ∙ (w.if-word-lowest.false ∙ c.layer0_as_slice-lowest.ensures.words c.loop-place.place) in
          dite (ℕ_discrete other c.loop-place.place)
          (λ here. ap words here ∙ (held ∙ ap old (sym here)))
          (λ there. c.loop-place.invariant (sym w.same-is ∙ same) other from (omega (arith, below, there)))
    ]

pub returns : goal.returns
returns c = λ same place within.
    let test = c.loop-place-test.false in
    let stops = c.loop-place.auto.place-end in
    c.loop-place.invariant same place (omega (arith, within)) (omega (arith, within, test, stops))
