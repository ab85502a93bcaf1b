use Rattle.scene_document.proofs.NameLemmas.{among-updated}
use Rattle.scene_document.proofs.names.learn.Goals as goal

pub returns : goal.returns
returns c = λ other. among-updated other c.args.name.now c.args.names.now.keys c.insert.new.self.keys (c.in_ok-insert.ensures.updates.0 (record { ref_ptr = c.args.name.ref_ptr; now = other }))
