use Rattle.shred_stages.proofs.ViewLemmas.{take-fits, take-slots}
use Rattle.shred_stages.proofs.view.ViewHolder.take.Goals as goal

pub invariant_of-self : goal.invariant_of-self
invariant_of-self g c = record { seated = take-fits _ _ _ _ _ c.args.self.now.seated c.take_raw.ensures.value c.take_raw.ensures.out c.take_raw.ensures.none }

pub returns-clause-ok : goal.returns-clause-ok
returns-clause-ok g c = take-slots c.args.self.now.reads.now c.args.self.now.writes.now (g.W.Holder.slots c.args.self.now.world.now) c.args.self.now.seat c.take_raw.new.self c.args.id c.take_raw.result c.args.self.now.seated c.take_raw.ensures.value c.take_raw.ensures.out
