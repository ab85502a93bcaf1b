use Rattle.std.proofs.Common.{rules, arith, ◌≤◌, sym, subst}
use Rattle.specs_entity.specs.PhaseCore.{occurrences}
use Rattle.specs_entity.specs.declared.phase_rule.EntityView.{EntityView}
use Rattle.specs_entity.specs.declared.phase_rule.PhaseKey.{PhaseKey}
use Rattle.specs_entity.proofs.BirthLemmas.{nil-length}
use Rattle.specs_entity.proofs.PhaseReserveLemmas.{reach-fits, reserve-length}
use Rattle.specs_entity.proofs.PhaseTableLemmas.{plan_allowance-allowed, join-allowed}
use Rattle.specs_entity.proofs.shared_entities.EntitySeat.join.Goals as goal

pub join_seat-requires : goal.join_seat-requires
join_seat-requires c =
    let key : PhaseKey = c.phase.inside.table.shared.key in
    let words = c.phase.invariant.words in (
      search rules,
      search rules,
      search rules,
      omega (arith, words),
      join-allowed key (reach-fits key c.phase.invariant.kept) c.phase.invariant.can _ _ _ _ (search rules) c.args.self.raised c.args.other.raised c.args.self.killed c.args.other.killed (nil-length _ c.args.self.unclaimed) (nil-length _ c.args.other.unclaimed),
    )

pub compare_exchange-requires : goal.compare_exchange-requires
compare_exchange-requires c =
    let key : PhaseKey = c.phase.inside.table.shared.key in
    let words = c.phase.invariant.words in
    (search rules, omega (arith, words), plan_allowance-allowed key (reach-fits key c.phase.invariant.kept) c.phase.invariant.can _ _ _ _ (search rules) (reserve-length key c.phase.invariant.kept))

pub returns-clause-apart : goal.returns-clause-apart
returns-clause-apart c = λ place. subst (λ (v : EntityView). occurrences place v.claimer.births ≤ 1) (sym c.compare_exchange.ensures.2.1) (c.compare_exchange.ensures.2.4 place)
