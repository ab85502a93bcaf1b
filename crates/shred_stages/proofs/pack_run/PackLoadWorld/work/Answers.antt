use Rattle.std.proofs.Common.{List, subst}
use Rattle.shred_world.specs.declared.resource_id.ResourceId.{ResourceId}
use Rattle.shred_plan.specs.Plan.{Group}
use Rattle.shred_stages.specs.Views.{FitsSeat}
use Rattle.shred_stages.specs.Packs.{ArePlaced}
use Rattle.shred_stages.proofs.pack_run.PackLoadWorld.work.Goals as goal

pub invariant_of-self : goal.invariant_of-self
invariant_of-self g c =
    let P : List ResourceId → Type 0 = λ list. FitsSeat list c.run_list-outcome.result.1 in
    let Q : Group ResourceId → Type 0 = λ group. ArePlaced group c.run_list-outcome.new.staged.items in
    (c.self.invariant.0, c.self.invariant.1, subst P c.deref-3.ensures.value c.run_list-outcome.ensures.fits, subst Q c.deref.ensures.value c.run_list-outcome.ensures.placed)
