use Rattle.std.proofs.Common.{rules, ◌≡◌, subst, ◌∙◌}
use Rattle.std.specs.FinSet as set
use Rattle.hibitset.specs.AtomicCore.{AreWordsOf}
use Rattle.hibitset.specs.Rows.{sizes_for}
use Rattle.specs_entity.specs.Layout.{AreBirths}
use Rattle.specs_entity.specs.declared.phase_rule.PhaseKey.{PhaseKey}
use Rattle.specs_entity.specs.PhaseViews.{reach_of}
use Rattle.specs_entity.proofs.PhaseReserveLemmas.{opening-table}
use Rattle.specs_entity.proofs.entities_res.EntitiesRes.share.Goals as goal

pub of_words-requires : goal.of_words-requires
of_words-requires c =
    let key : PhaseKey = record { before = c.args.self; reserve = c.args.reserve } in
    let kept : AreBirths c.args.self = subst AreBirths c.self.view_is c.self.invariant.births in
    let row = c.in-Ok.ensures in
    let count : c.min-count.result ≡ reach_of key = search rules in
    opening-table key kept c.as_slice.result.now row.0 row.1 (c.as_slice.ensures.value ∙ row.2)
    (subst (λ n. AreWordsOf (sizes_for n) (set.contains key.before.fresh) row.0) count row.3)
    (subst (λ n. AreWordsOf (sizes_for n) (set.contains key.before.deletions) row.1) count row.4)
