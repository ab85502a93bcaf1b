use Rattle.std.proofs.Common.{length, sym, subst}
use Rattle.shred_plan.specs.Plan.{Planning}
use Rattle.shred_world.specs.declared.resource_id.ResourceId.{ResourceId}
use Rattle.shred_stages.specs.Seats.{StagesAreSeated}
use Rattle.shred_stages.specs.Touring.{IsKept}
use Rattle.shred_stages.proofs.FreeLemmas.{planned-fence}
use Rattle.shred_stages.proofs.stages.StagesBuilder.add_barrier.Goals as goal

pub invariant_of-self : goal.invariant_of-self
invariant_of-self g c =
    let P : Planning ResourceId → Type 0 = λ planning. StagesAreSeated planning.stages c.self.inside.staged.items in
    let kept : IsKept c.add_barrier.new.self.stages c.self.inside.berths.items = let Q : Planning ResourceId → Type 0 = λ planning. IsKept planning.stages c.self.inside.berths.items in subst Q (sym c.add_barrier.ensures) c.self.invariant.1 in
    (record { planned = planned-fence _ c.self.inside.planner c.add_barrier.new.self (length c.self.inside.staged.items) c.self.invariant.0.planned c.add_barrier.ensures; seated = subst P (sym c.add_barrier.ensures) c.self.invariant.0.seated; few = c.self.invariant.0.few }, kept)
