use Rattle.std.proofs.Common.{ap, ◌∙◌}
use Rattle.std.specs.FinMap as map
use Rattle.shred_world.proofs.WorldLemmas.{on_some}
use Rattle.shred_world.proofs.world.World.insert_raw.Goals as goal

pub returns-in-Some-clause-ok : goal.returns-in-Some-clause-ok
returns-in-Some-clause-ok g c =
    on_some c.slot_mut.result c.in-Some.slot _ c.in-Some.is (c.slot_mut.follows.holds c.replace.new.self)
    ∙ ap (map.insert c.args.self.now c.args.id) c.replace.ensures.after
