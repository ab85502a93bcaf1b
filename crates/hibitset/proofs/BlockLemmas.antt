-- Words of layer 0 put into a set, block by block, each under one word of layer 1.
use Rattle.std.proofs.Common.{◌≡◌, ◌≢◌, ℕ, ◌+◌, ◌*◌, ◌/◌, ◌%◌, ◌<◌, ◌≤◌, ◌==◌, ◌&&◌, nat_lt, Bool, true, false, if◌then◌else◌, sym, refl, ap, ◌∙◌, arith, eq-eqb, ne_eqb}
use Rattle.std.proofs.lemmas.Bool.{true≢false}
use mathlib.Core.Logic.{dite}
use native.Mathlib.Decide.{ℕ_discrete}
use Rattle.hibitset_sets.specs.Bits.{has_bit}
use Rattle.hibitset_sets.specs.Words.{word_of}
use Rattle.hibitset_sets.specs.WordLemmas.{words_agree-word_of}

-- a member whose word is known is told by its bit
pub as-in-word : (words : ℕ → ℕ) (members : ℕ → Bool) (place index : ℕ) → words place ≡ word_of members 0 place → index / 64 ≡ place → members index ≡ has_bit (words (index / 64)) (index % 64)
as-in-word words members place index held same = sym (ap (λ word. has_bit word (index % 64)) (ap words same ∙ (held ∙ ap (word_of members 0) (sym same))) ∙ words_agree-word_of members index)

pub chosen : (test : Bool) (set was : Bool) → test ≡ true → (if test then set else was) ≡ set
chosen true set was is = refl
chosen false set was is = absurd (true≢false (sym is))

pub other : (test : Bool) (set was : Bool) → test ≡ false → (if test then set else was) ≡ was
other true set was is = absurd (true≢false is)
other false set was is = refl

module _ (words : ℕ → ℕ) (old : ℕ → Bool) where
  -- the words of a block before a place are put in
  abbrev pub in_block : ℕ → ℕ → ℕ → Bool
  in_block block place index = if (index / 4096 == block) && nat_lt (index / 64) place then has_bit (words (index / 64)) (index % 64) else old index

  -- the blocks before one are put in
  abbrev pub in_blocks : ℕ → ℕ → Bool
  in_blocks block index = if nat_lt (index / 4096) block then has_bit (words (index / 64)) (index % 64) else old index

  pub in_block-end : (block place index : ℕ) → place ≡ 64 * block + 64 → in_block block place index ≡ (if index / 4096 == block then has_bit (words (index / 64)) (index % 64) else old index)
  in_block-end block place index last = dite (ℕ_discrete (index / 4096) block)
      (λ same. let before : nat_lt (index / 64) place ≡ true = grind (arith, same, last) in
      let here : (index / 4096 == block) ≡ true = eq-eqb (index / 4096) block same in
      ap (λ test. if (index / 4096 == block) && test then has_bit (words (index / 64)) (index % 64) else old index) before
      ∙ (ap (λ test. if test && true then has_bit (words (index / 64)) (index % 64) else old index) here ∙ sym (chosen (index / 4096 == block) _ _ here)))
      (λ differ. let there : (index / 4096 == block) ≡ false = ne_eqb (index / 4096) block differ in
      ap (λ test. if test && nat_lt (index / 64) place then has_bit (words (index / 64)) (index % 64) else old index) there ∙ sym (other (index / 4096 == block) _ _ there))

  -- one word more
  pub in_block-next : (block place : ℕ) (now new : ℕ → Bool) → 64 * block ≤ place → place < 64 * block + 64 → ((index : ℕ) → now index ≡ in_block block place index)
      → ((index : ℕ) → index / 64 ≡ place → new index ≡ has_bit (words (index / 64)) (index % 64)) → ((index : ℕ) → index / 64 ≢ place → new index ≡ now index) → (index : ℕ) → new index ≡ in_block block (place + 1) index
  in_block-next block place now new low high was put kept index = dite (ℕ_discrete (index / 64) place)
      (λ same. let here : (index / 4096 == block) ≡ true = eq-eqb (index / 4096) block (omega (arith, same, low, high)) in
      let before : nat_lt (index / 64) (place + 1) ≡ true = grind (arith, same) in
      put index same ∙ sym (chosen ((index / 4096 == block) && nat_lt (index / 64) (place + 1)) _ _ (ap (λ test. test && nat_lt (index / 64) (place + 1)) here ∙ before)))
      (λ differ. let equal : nat_lt (index / 64) place ≡ nat_lt (index / 64) (place + 1) = grind (arith, differ) in
      kept index differ ∙ (was index ∙ ap (λ test. if (index / 4096 == block) && test then has_bit (words (index / 64)) (index % 64) else old index) equal))

  -- one block more
  pub in_blocks-next : (block : ℕ) (now new : ℕ → Bool) → ((index : ℕ) → now index ≡ in_blocks block index) → ((index : ℕ) → index / 4096 ≡ block → new index ≡ has_bit (words (index / 64)) (index % 64))
      → ((index : ℕ) → index / 4096 ≢ block → new index ≡ now index) → (index : ℕ) → new index ≡ in_blocks (block + 1) index
  in_blocks-next block now new was put kept index = dite (ℕ_discrete (index / 4096) block)
      (λ same. let before : nat_lt (index / 4096) (block + 1) ≡ true = grind (arith, same) in put index same ∙ sym (chosen (nat_lt (index / 4096) (block + 1)) _ _ before))
      (λ differ. let equal : nat_lt (index / 4096) block ≡ nat_lt (index / 4096) (block + 1) = grind (arith, differ) in
      kept index differ ∙ (was index ∙ ap (λ test. if test then has_bit (words (index / 64)) (index % 64) else old index) equal))

  pub in_blocks-before : (block index : ℕ) → index / 4096 ≡ block → in_blocks block index ≡ old index
  in_blocks-before block index same = let past : nat_lt (index / 4096) block ≡ false = grind (arith, same) in ap (λ test. if test then has_bit (words (index / 64)) (index % 64) else old index) past

  -- with all blocks put in, each index is told by its bit
  pub in_blocks-end : (block index : ℕ) → block ≡ 4096 → index < 16777216 → in_blocks block index ≡ has_bit (words (index / 64)) (index % 64)
  in_blocks-end block index last low = chosen (nat_lt (index / 4096) block) _ _ (grind (arith, last, low))
