use Rattle.std.proofs.Common.{◌≡◌, ◌*◌, length, sym, subst, ◌∙◌, arith}
use Rattle.std.proofs.lemmas.Bool.{eqb-true}
use Rattle.hibitset_sets.specs.Assign.{EndsBelow}
use Rattle.hibitset_sets.specs.BitSet.{has_member}
use Rattle.hibitset_sets.proofs.UniteLemmas.{united-all, united-none}
use Rattle.hibitset_sets.proofs.bit_set.BitSet.unite.Goals as goal

pub returns-then-not-is_empty : goal.returns-then-not-is_empty
returns-then-not-is_empty g c =
    united-all (g.B.BitSetLike.members c.args.rhs.now) (has_member c.args.self.now) (has_member c.unite_under.new.self)
    (λ i member. let below = c.layer0_as_slice.ensures.within i member in let limit = c.layer0_as_slice.ensures.limit in omega (arith, below, limit)) c.unite_under.ensures.members

pub returns-else-not-is_empty : goal.returns-else-not-is_empty
returns-else-not-is_empty g c =
    let empty : length c.layer0_as_slice.result.now ≡ 0 = eqb-true _ _ (sym c.is_empty.ensures ∙ c.if-not-is_empty.false) in
    let room : 64 * length c.layer0_as_slice.result.now ≡ c.args.self.now.room = c.layer0_as_slice.ensures.room in
    let none : c.args.self.now.room ≡ 0 = omega (arith, empty, room) in
    united-none (g.B.BitSetLike.members c.args.rhs.now) (has_member c.args.self.now)
    (λ i member. let below = c.layer0_as_slice.ensures.within i member in omega (arith, below, none))
    (subst (EndsBelow (g.B.BitSetLike.members c.args.rhs.now) 0) none c.requires)
