use Rattle.std.proofs.Common.{◌≡◌, [], sym, subst}
use Rattle.specs_world.specs.Resources.{place}
use Rattle.specs_world.specs.Queues.{waiting}
use Rattle.specs_world.proofs.QueueLemmas.{none-below-one}
use Rattle.specs_world.proofs.queues.take_first.Goals as goal

pub first_number-requires : goal.first_number-requires
first_number-requires g c =
    let at = place g.bound-1.part g.bound-1.wrapped g.bound-1.kind_number in
    record {
      none_below =
          none-below-one at c.take_under.new.world
          (subst (λ w. waiting at w 0 ≡ []) (sym c.in_default.ensures.same) c.in_default.ensures.none);
    }
