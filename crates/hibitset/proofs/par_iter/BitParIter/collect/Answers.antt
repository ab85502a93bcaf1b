use Rattle.std.proofs.Common.{◌∙◌, ap, ◌++◌}
use Rattle.std.specs.List.{flat_map}
use Rattle.hibitset.specs.Producer.{items_of}
use Rattle.hibitset.proofs.FoldLemmas.{if_ok, joined-items}
use Rattle.hibitset.proofs.par_iter.BitParIter.collect.Goals as goal

pub returns : goal.returns
returns g c = if_ok c.join_all.result c.join_all.ensures (λ v joined.
    joined-items (items_of g.T.BitSetLike.members) c.in_ok-parts.parts.items c.in_ok-lists.lists.items v.items c.in_ok-lists.ensures joined
    ∙ c.in_ok-parts.ensures.items
    ∙ ap (λ xs. flat_map (items_of g.T.BitSetLike.members) xs ++ items_of g.T.BitSetLike.members c.producer-whole.result) c.new.ensures.items
    ∙ c.producer-whole.ensures.items)
