use Rattle.std.proofs.Common.{◌≡◌, arith, length}
use Rattle.hibitset_sets.proofs.IterLemmas.{first-placed, taken-is}
use Rattle.hibitset_sets.proofs.TakeLemmas.{taken-walk, taken-placed, pending-gone}
use Rattle.hibitset_sets.proofs.iter.take_in_word.Goals as goal

pub overflow_add-result : goal.overflow_add-result
overflow_add-result c =
    let three : length c.args.prefix.now ≡ 3 = omega arith in
    let first = first-placed c.args.masks.now c.args.prefix.now 0 three c.requires.placed (omega arith) c.requires.some in
    let within = first.within in
    omega arith

pub returns-clause-placed : goal.returns-clause-placed
returns-clause-placed c =
    let three : length c.args.prefix.now ≡ 3 = omega arith in
    let first = first-placed c.args.masks.now c.args.prefix.now 0 three c.requires.placed (omega arith) c.requires.some in
    let taken = taken-is c.args.masks.now c.take_lowest-place.new.masks c.args.prefix.now 0 _ first c.take_lowest-place.ensures in
    taken-placed c.requires.placed taken c.take_lowest-place.ensures.others

pub returns-clause-items : goal.returns-clause-items
returns-clause-items c = λ members.
    let three : length c.args.prefix.now ≡ 3 = omega arith in
    let first = first-placed c.args.masks.now c.args.prefix.now 0 three c.requires.placed (omega arith) c.requires.some in
    let within = first.within in
    let place = c.take_lowest-place.ensures.within in
    let taken = taken-is c.args.masks.now c.take_lowest-place.new.masks c.args.prefix.now 0 _ first c.take_lowest-place.ensures in
    taken-walk c.requires.placed taken c.take_lowest-place.ensures.others members (omega arith)

pub returns-clause-gone : goal.returns-clause-gone
returns-clause-gone c = λ members.
    let three : length c.args.prefix.now ≡ 3 = omega arith in
    let first = first-placed c.args.masks.now c.args.prefix.now 0 three c.requires.placed (omega arith) c.requires.some in
    let taken = taken-is c.args.masks.now c.take_lowest-place.new.masks c.args.prefix.now 0 _ first c.take_lowest-place.ensures in
    pending-gone c.requires.placed taken c.take_lowest-place.ensures.others members
