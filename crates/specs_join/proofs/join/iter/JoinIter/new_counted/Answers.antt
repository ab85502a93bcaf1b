use Rattle.std.proofs.Common.{◌≡◌, ℕ, ◌<◌, ltb, ◌&&◌, cond, None, sym, subst}
use Rattle.hibitset_sets.specs.Iter.{left_of}
use Rattle.specs_join.specs.Joining.{IsJoining}
use Rattle.specs_join.proofs.NewLemmas.{begun-joining, begun-items, begun-found}
use Rattle.specs_join.proofs.join.iter.JoinIter.new_counted.Goals as goal

pub invariant_of-result : goal.invariant_of-result
invariant_of-result g c =
    let members = g.J.Mask.BitSetLike.members in
    let value_at = g.J.Join.value_at c.open-mask.result.1 in
    let left = left_of members c.iter_counted.result in
    subst (λ mask. IsJoining (members mask) value_at left) (sym c.iter_counted.ensures.set)
    (begun-joining (members c.open-mask.result.0) (g.J.Join.joins c.args.join) value_at left c.open-mask.ensures.mask c.open-mask.ensures.values c.iter_counted.ensures.items)

pub returns-clause-items : goal.returns-clause-items
returns-clause-items g c =
    let members = g.J.Mask.BitSetLike.members in
    begun-items (members c.open-mask.result.0) (g.J.Join.joins c.args.join) (g.J.Join.value_at c.open-mask.result.1) (left_of members c.iter_counted.result) c.open-mask.ensures.mask c.open-mask.ensures.values c.iter_counted.ensures.items

pub returns-clause-found : goal.returns-clause-found
returns-clause-found g c =
    let members = g.J.Mask.BitSetLike.members in
    let joins = g.J.Join.joins c.args.join in
    let value_at = g.J.Join.value_at c.open-mask.result.1 in
    subst (λ mask. (index : ℕ) → index < 16777216 → cond (ltb index 16777216 && members mask index) (value_at index) None ≡ joins index) (sym c.iter_counted.ensures.set)
    (begun-found (members c.open-mask.result.0) joins value_at (left_of members c.iter_counted.result) c.open-mask.ensures.mask c.open-mask.ensures.values c.iter_counted.ensures.items)
