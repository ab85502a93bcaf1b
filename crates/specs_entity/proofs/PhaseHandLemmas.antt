-- Seats that hold their phase too: which are the same, and what an unused phase settles to.
use Rattle.std.proofs.Common.{◌≡◌, ℕ, zero, suc, ◌<◌, map, refl, sym, ap, ◌∙◌, arith}
use Rattle.std.specs.Arc.{arc_value}
use Rattle.std.specs.Coded.{codes}
use mathlib.Core.HLevel.{is_prop→PathP}
use Rattle.atomic_table.specs.Seated.{table_id_coded}
use Rattle.specs_entity.specs.Births.{Births, all_created}
use Rattle.specs_entity.specs.declared.phase_rule.PhaseKey.{PhaseKey}
use Rattle.specs_entity.specs.declared.phase_rule.EntityView.{EntityView}
use Rattle.specs_entity.specs.declared.phase_seat.PhaseSeat.{PhaseSeat}
use Rattle.specs_entity.specs.PhaseCore.{called, occurrences, once_below}
use Rattle.specs_entity.specs.PhaseViews.{whole_view, all_accepted}
use Rattle.specs_entity.specs.SharedPhase.{key_code}
use Rattle.specs_entity.specs.SharedSeats.{IsSeatOf, AreSettled}
use Rattle.specs_entity.proofs.PhaseRestLemmas.{once_below-one}

-- two seats with the same parts are the same
pub same-seat : (one other : PhaseSeat) → one.phase ≡ other.phase → one.seat ≡ other.seat → one ≡ other
same-seat one other phase seat = λ i. record {
  phase = phase i;
  seat = seat i;
  tied = is_prop→PathP (λ j. IsSeatOf (arc_value (phase j)) (seat j)) (λ j. hlevel (codes, key_code, table_id_coded)) one.tied other.tied i;
}

none-claimed : (claimed : ℕ) → 0 ≡ once_below 0 claimed → claimed ≡ 0
none-claimed zero is = refl
none-claimed (suc claimed) is = let one = once_below-one 0 (suc claimed) (omega arith) in absurd (omega (arith, is, one))

-- a phase that its first seat did nothing in settles to the entities that it began with
pub unused-settled : (key : PhaseKey) (view : EntityView) (after : Births) → view ≡ whole_view key → AreSettled key view after → after ≡ key.before
unused-settled key view after whole settled =
    let none : settled.claimed ≡ 0 = none-claimed settled.claimed (ap (λ (v : EntityView). occurrences 0 v.claimer.births) (sym whole) ∙ settled.births 0) in
    settled.entities ∙ (ap (λ (v : EntityView). all_accepted (all_created settled.claimed key.before) (map called v.kill.calls)) whole ∙ ap (λ n. all_created n key.before) none)
