use Rattle.std.proofs.Common.{◌≡◌, ◌<◌, ◌^◌, ◌∷◌, ◌++◌, ap, sym, ◌∙◌, length, slice_index, slice_set, arith}
use Rattle.hibitset_sets.specs.Walk.{walk, is_pending, word_indices}
use Rattle.hibitset_sets.proofs.WordWalkLemmas.{word-left, placed-behind}
use Rattle.hibitset_sets.proofs.iter.BitIter.next_word.Goals as goal

pub invariant_of-self : goal.invariant_of-self
invariant_of-self g c = let after = c.next_counted.new.self in record { placed = placed-behind after.masks after.prefix after.placed }

pub returns-clause-items : goal.returns-clause-items
returns-clause-items g c =
    let after = c.next_counted.new.self in
    let index = c.in_ok-index.index in
    let members = g.T.BitSetLike.members after.set in
    let four : length after.masks ≡ 4 = omega arith in
    let three : length after.prefix ≡ 3 = omega arith in
    let fits : slice_index after.masks 0 < 2 ^ 64 = omega arith in
    c.in_ok-index.ensures.item
    ∙ ap (λ xs. index ∷ xs) (word-left after.masks after.prefix members four three fits after.placed)
    ∙ ap (λ place. index ∷ (word_indices place (slice_index after.masks 0) ++ walk (is_pending members (slice_set after.masks 0 0) after.prefix))) (sym c.in_ok-index.ensures.word)
