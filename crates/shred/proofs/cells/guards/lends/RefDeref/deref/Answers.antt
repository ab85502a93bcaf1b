use Rattle.std.proofs.Common.{Some, sym, ap, ◌∙◌}
use Rattle.std.proofs.Math.Logic.{∥∥₁_elim}
use Rattle.std.specs.Coded.{Coded-set}
use Rattle.shred.proofs.SeatLemmas.{here-injective, out-is-not-here}
use Rattle.shred.proofs.cells.guards.lends.RefDeref.deref.Goals as goal

-- a reader's value is in the cell
pub unreachable-requires : goal.unreachable-requires
unreachable-requires g c =
    ∥∥₁_elim c.self.invariant.1 (hlevel) (λ held. out-is-not-here c.self.inside.shown.value (ap (λ x. Some x) (sym c.in-Out.is) ∙ c.get.ensures.0 ∙ held))

-- it is the one that was shown first
pub returns : goal.returns
returns g c =
    ∥∥₁_elim c.self.invariant.1 (Coded-set g.row.T.coded _ _)
    (λ held. here-injective c.in-Here.value c.self.inside.shown.value (ap (λ x. Some x) (sym c.in-Here.is) ∙ c.get.ensures.0 ∙ held) ∙ c.self.view_is)
