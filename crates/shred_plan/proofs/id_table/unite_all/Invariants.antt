use Rattle.std.proofs.Common.{◌≡◌, ℕ, ◌||◌, take}
use Rattle.std.specs.List.{list_any}
use Rattle.shred_plan.specs.Index.{has_stage, has_for}
use Rattle.shred_plan.proofs.id_table.unite_all.Given as goal

abbrev pub invariant-loop-id : goal.invariant-loop-id
invariant-loop-id g l = (place : ℕ) → has_stage l.set place
    ≡ (has_stage l.initial.set place || list_any (λ id. has_for g.K.Ord.cmp l.table id place) (take l.id-index l.ids))
