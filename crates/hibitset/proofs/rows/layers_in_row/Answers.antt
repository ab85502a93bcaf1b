use Rattle.std.proofs.Common.{◌≡◌, ℕ, ◌+◌, ◌*◌, ◌<◌, Bool, true, get_or, ap, ◌∙◌, arith}
use Rattle.hibitset_sets.specs.BitSet.{has_member}
use Rattle.hibitset.specs.AtomicCore.{Sizes, word_count}
use Rattle.hibitset.specs.Rows.{sizes_for}
use Rattle.hibitset.proofs.RowLemmas.{sizes_for-fits, four-layers, words-of_row}
use Rattle.hibitset.proofs.rows.layers_in_row.Goals as goal

pub returns : goal.returns
returns c =
    let count : ℕ = c.args.count in
    let sizes : Sizes = sizes_for count in
    let members : ℕ → Bool = has_member c.args.set.now in
    let within : (index : ℕ) → members index ≡ true → index < 64 * sizes.first = λ index is. let low = c.requires.within index is in omega (arith, low) in
    let fits = sizes_for-fits count c.requires.few in
    let one = c.in_ok-row.ensures in
    let two = c.copy_layer.ensures in
    let three = c.copy_layer-2.ensures in
    let four = c.copy_layer-3.ensures in
    words-of_row sizes fits members within c.copy_layer-3.new.row.items
    (four-layers sizes fits members within c.in_ok-row.row.items c.copy_layer.new.row.items c.copy_layer-2.new.row.items c.copy_layer-3.new.row.items (λ place low. ap (λ at. get_or c.in_ok-row.row.items at 0) (let same : 0 + place ≡ place = omega arith in same) ∙ one.copied place low) two.copied two.before three.copied three.before four.copied four.before)
    (four.length ∙ (three.length ∙ (two.length ∙ one.length)))
