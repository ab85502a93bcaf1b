use Rattle.std.proofs.Common.{◌≡◌, ℕ, List, [], sym, subst}
use Rattle.atomic_table.specs.Table.{opening}
use Rattle.hibitset_sets.specs.BitSet.{SetWithRoom}
use Rattle.hibitset.specs.SeatViews.{whole_view}
use Rattle.hibitset.specs.SharedRule.{IsShared}
use Rattle.hibitset.proofs.SharedLemmas.{opening-allowed}
use Rattle.hibitset.proofs.atomic.AtomicBitSet.share.Goals as goal

pub of_words-requires : goal.of_words-requires
of_words-requires c =
    let words : List ℕ = c.in-Ok.words.items in
    let old : SetWithRoom = c.self.inside.bits in
    let same : c.as_slice.result.now ≡ words = c.as_slice.ensures.value in
    subst (λ (row : List ℕ). IsShared old (opening row [] (whole_view old))) (sym same) (opening-allowed old words [] c.in-Ok.ensures)
