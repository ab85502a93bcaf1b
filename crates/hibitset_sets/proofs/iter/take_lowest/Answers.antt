use Rattle.std.proofs.Common.{arith, ◌<◌, ◌^◌, get_or, length}
use Rattle.hibitset_sets.proofs.IterLemmas.{takes_lowest}
use Rattle.hibitset_sets.proofs.iter.take_lowest.Goals as goal

pub returns : goal.returns
returns c =
    let fits : get_or c.args.masks.now c.args.layer 0 < 2 ^ 64 = omega arith in
    let within : c.args.layer < length c.args.masks.now = omega arith in
    takes_lowest c.args.masks.now c.args.layer within c.requires.some fits
