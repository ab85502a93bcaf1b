use Rattle.std.proofs.Common.{rules, arith}
use Rattle.specs_entity.specs.declared.phase_rule.PhaseKey.{PhaseKey}
use Rattle.specs_entity.proofs.PhaseReserveLemmas.{reach-fits, reserve-length}
use Rattle.specs_entity.proofs.PhaseTableLemmas.{plan_parts-allowed, plan_allowance-allowed, split-allowed}
use Rattle.specs_entity.proofs.shared_entities.EntitySeat.split.Goals as goal

pub compare_exchange-requires : goal.compare_exchange-requires
compare_exchange-requires c =
    let key : PhaseKey = c.phase.inside.table.shared.key in
    let words = c.phase.invariant.words in
    (search rules, omega (arith, words), plan_parts-allowed key (reach-fits key c.phase.invariant.kept) c.phase.invariant.can _ _ _ _ (search rules))

pub compare_exchange-requires-2 : goal.compare_exchange-requires-2
compare_exchange-requires-2 c =
    let key : PhaseKey = c.phase.inside.table.shared.key in
    let words = c.phase.invariant.words in
    (search rules, omega (arith, words), plan_allowance-allowed key (reach-fits key c.phase.invariant.kept) c.phase.invariant.can _ _ _ _ (search rules) (reserve-length key c.phase.invariant.kept))

pub split_seat-other-requires : goal.split_seat-other-requires
split_seat-other-requires c =
    let key : PhaseKey = c.phase.inside.table.shared.key in
    let words = c.phase.invariant.words in
    (search rules, omega (arith, words), split-allowed key (reach-fits key c.phase.invariant.kept) c.phase.invariant.can _ _ (search rules) (search rules) (search rules))
