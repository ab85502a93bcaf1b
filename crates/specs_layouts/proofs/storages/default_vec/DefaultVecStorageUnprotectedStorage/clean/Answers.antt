use Rattle.std.proofs.Common.{refl, inl}
use Rattle.hibitset_sets.specs.Iter.{left_of}
use Rattle.specs_layouts.specs.Defaults.{filled_part}
use Rattle.specs_layouts.proofs.ToCome.{all-come}
use Rattle.specs_layouts.proofs.storages.default_vec.DefaultVecStorageUnprotectedStorage.clean.Goals as goal

pub loop-id-init : goal.loop-id-init
loop-id-init g c =
    record {
      come = all-come (filled_part c.args.self.now) (g.B.BitSetLike.members c.args.has) (left_of g.B.BitSetLike.members c.iter-left.result) c.requires.mask c.requires.range c.iter-left.ensures.items;
      len = refl;
      each = λ index there. inl there;
    }
