use Rattle.std.proofs.Common.{◌≡◌, ℕ, ◌==◌, ◌&&◌, ◌||◌, take}
use Rattle.std.specs.List.{list_any}
use Rattle.shred_plan.specs.Index.{has_for}
use Rattle.shred_plan.proofs.id_table.mark_all.Given as goal

abbrev pub invariant-loop-id : goal.invariant-loop-id
invariant-loop-id g l = (id : g.row.K.Denot) (place : ℕ) → has_for g.K.Ord.cmp l.table id place
    ≡ (has_for g.K.Ord.cmp l.initial.table id place || ((l.stage == place) && list_any (λ other. g.K.PartialEq.eq other id) (take l.id-index l.ids)))
