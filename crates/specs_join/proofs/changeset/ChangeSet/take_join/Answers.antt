use Rattle.std.proofs.Common.{◌≡◌, ℕ, is_some, sym, ap, ◌∙◌}
use Rattle.hibitset_sets.specs.BitSet.{SetWithRoom, has_member}
use Rattle.specs_layouts.specs.Dense.{Dense, dense_part}
use Rattle.specs_join.specs.Joins.{join_list, both}
use Rattle.specs_join.specs.declared.changeset.Change.{Change}
use Rattle.specs_join.specs.Changes.{changes_in}
use Rattle.specs_join.proofs.TakingLemmas.{has-change, begins-known, begins-all}
use Rattle.specs_join.proofs.changeset.ChangeSet.take_join.Given as given
use Rattle.specs_join.proofs.changeset.ChangeSet.take_join.Goals as goal

-- the mask has the indices with a change
has : (g : given.Over) (c : goal.After-iter g) (index : ℕ) → has_member c.into_parts-has_change.result.0 index ≡ is_some (changes_in c.into_parts-has_change.result.1 index)
has g c index =
    let apart = c.into_parts-has_change.ensures in
    ap (λ (set : SetWithRoom). has_member set index) apart.mask
    ∙ (apart.agrees index
    ∙ (ap (λ (inner : Dense (Change g.row.T.Denot)). is_some (dense_part inner index)) (sym apart.inner)
    ∙ sym (has-change c.into_parts-has_change.result.1 index)))

pub invariant_of-result : goal.invariant_of-result
invariant_of-result g c =
    record {
      known = begins-known (has_member c.into_parts-has_change.result.0) (g.R.Mask.BitSetLike.members c.open-mask.result.0) (changes_in c.into_parts-has_change.result.1) (g.R.Join.value_at c.open-mask.result.1) (g.R.Join.joins c.args.read) (has g c) c.open-mask.ensures.mask c.open-mask.ensures.values _ c.iter.ensures.items;
    }

pub returns : goal.returns
returns g c =
    let joins = g.R.Join.joins c.args.read in
    begins-all (has_member c.into_parts-has_change.result.0) (g.R.Mask.BitSetLike.members c.open-mask.result.0) (changes_in c.into_parts-has_change.result.1) (g.R.Join.value_at c.open-mask.result.1) joins (has g c.before) c.open-mask.ensures.mask c.open-mask.ensures.values _ c.iter.ensures.items
    ∙ ap (λ (inner : Dense (Change g.row.T.Denot)). join_list (λ index. both (changes_in inner index) (joins index))) c.into_parts-has_change.ensures.inner
