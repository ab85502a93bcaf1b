use Rattle.hibitset_sets.specs.Iter.{left_of}
use Rattle.specs_layouts.specs.Slots.{slot_at}
use Rattle.specs_layouts.proofs.ToCome.{all-come}
use Rattle.specs_layouts.proofs.storages.vec.VecStorageUnprotectedStorage.clean.Goals as goal

pub loop-id-init : goal.loop-id-init
loop-id-init g c =
    all-come (slot_at c.args.self.now.slots.items) (g.B.BitSetLike.members c.args.has) (left_of g.B.BitSetLike.members c.iter-left.result) c.requires.mask c.requires.range c.iter-left.ensures.items
