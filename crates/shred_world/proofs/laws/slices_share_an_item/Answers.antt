use Rattle.shred_world.proofs.SharingLemmas.{slices-share}
use Rattle.shred_world.proofs.laws.slices_share_an_item.Goals as goal

pub returns : goal.returns
returns g c = slices-share g.T.PartialEq.eq c.iter.result c.iter-2.result c.args.left.now c.args.right.now c.iter.ensures.rest c.iter-2.ensures.rest c.check_intersection.result c.check_intersection.ensures.exact (c.check_intersection.ensures.succeeds tt)
