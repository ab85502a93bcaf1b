use Rattle.std.proofs.Common.{sym, ◌∙◌}
use Rattle.scene_sight.proofs.FaultLemmas.{least_kept, least_added}
use Rattle.scene_sight.proofs.listing.settled.Goals as goal

-- one of the faults has the refusal
pub returns-then-lists-clause-least : goal.returns-then-lists-clause-least
returns-then-lists-clause-least c =
    least_kept c.args.refusal c.in_ok-faults.faults.items c.in_ok-faults.ensures.least (rw (← c.deref.ensures.value) (sym c.lists.ensures ∙ c.if-lists.true))

-- one of the whole document is put to them
pub returns-clause-least : goal.returns-clause-least
returns-clause-least c =
    rw c.in_ok-push.ensures.items (least_added c.args.refusal c.in_ok-faults.faults.items c.in_ok-whole.whole c.in_ok-faults.ensures.least c.in_ok-whole.ensures.same)
