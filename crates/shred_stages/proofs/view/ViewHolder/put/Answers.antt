use Rattle.shred_stages.proofs.ViewLemmas.{put-fits, put-slots}
use Rattle.shred_stages.proofs.view.ViewHolder.put.Goals as goal

pub invariant_of-self : goal.invariant_of-self
invariant_of-self g c = record { seated = put-fits c.args.self.now.reads.now c.args.self.now.writes.now (g.W.Holder.slots c.args.self.now.world.now) c.args.self.now.seat c.put_back.new.self c.args.id c.args.value c.args.self.now.seated c.requires.is_out c.put_back.ensures }

pub returns : goal.returns
returns g c = put-slots c.args.self.now.reads.now c.args.self.now.writes.now (g.W.Holder.slots c.args.self.now.world.now) c.args.self.now.seat c.put_back.new.self c.args.id c.args.value c.requires.is_out c.put_back.ensures
