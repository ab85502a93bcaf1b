use Rattle.scene_model.specs.declared.refusals.DocRefusal.TheVariants.{Unreadable}
use Rattle.scene_sight.proofs.FaultLemmas.{least_alone}
use Rattle.scene_sight.proofs.listing.unreadable.Goals as goal

pub returns-clause-least : goal.returns-clause-least
returns-clause-least c = rw (c.in_ok-push.ensures.items, c.new-faults.ensures.items) (least_alone Unreadable c.in_ok-fault.fault c.in_ok-fault.ensures.same)
