use Rattle.std.proofs.Common.{◌≡◌, arith, length, refl}
use Rattle.hibitset_sets.proofs.IterLemmas.{first-placed, taken-is}
use Rattle.hibitset_sets.proofs.TakeLemmas.{taken-walk, taken-placed, pending-gone}
use Rattle.hibitset_sets.proofs.CountLemmas.{words_left-same}
use Rattle.hibitset_sets.proofs.iter.BitIter.take.Goals as goal

pub overflow_add-result : goal.overflow_add-result
overflow_add-result g c =
    let three : length c.args.self.now.prefix ≡ 3 = omega arith in
    let first = first-placed c.args.self.now.masks c.args.self.now.prefix 0 three c.args.self.now.placed (omega arith) c.requires in
    let within = first.within in
    omega arith

pub invariant_of-self : goal.invariant_of-self
invariant_of-self g c =
    let three : length c.args.self.now.prefix ≡ 3 = omega arith in
    let first = first-placed c.args.self.now.masks c.args.self.now.prefix 0 three c.args.self.now.placed (omega arith) c.requires in
    let taken = taken-is c.args.self.now.masks c.take_lowest-place.new.masks c.args.self.now.prefix 0 _ first c.take_lowest-place.ensures in
    record { placed = taken-placed c.args.self.now.placed taken c.take_lowest-place.ensures.others }

pub returns-clause-items : goal.returns-clause-items
returns-clause-items g c =
    let three : length c.args.self.now.prefix ≡ 3 = omega arith in
    let first = first-placed c.args.self.now.masks c.args.self.now.prefix 0 three c.args.self.now.placed (omega arith) c.requires in
    let within = first.within in
    let place = c.take_lowest-place.ensures.within in
    let taken = taken-is c.args.self.now.masks c.take_lowest-place.new.masks c.args.self.now.prefix 0 _ first c.take_lowest-place.ensures in
    taken-walk c.args.self.now.placed taken c.take_lowest-place.ensures.others (g.T.BitSetLike.members c.args.self.now.set) (omega arith)

pub returns-clause-range : goal.returns-clause-range
returns-clause-range g c =
    let three : length c.args.self.now.prefix ≡ 3 = omega arith in
    let first = first-placed c.args.self.now.masks c.args.self.now.prefix 0 three c.args.self.now.placed (omega arith) c.requires in
    let within = first.within in
    let place = c.take_lowest-place.ensures.within in
    omega arith

pub returns-clause-unread : goal.returns-clause-unread
returns-clause-unread g c =
    words_left-same _ _ c.args.self.now.masks c.args.self.now.prefix c.take_lowest-place.new.masks c.args.self.now.prefix c.take_lowest-place.ensures.others (λ k. refl)

pub returns-clause-gone : goal.returns-clause-gone
returns-clause-gone g c =
    let three : length c.args.self.now.prefix ≡ 3 = omega arith in
    let first = first-placed c.args.self.now.masks c.args.self.now.prefix 0 three c.args.self.now.placed (omega arith) c.requires in
    let taken = taken-is c.args.self.now.masks c.take_lowest-place.new.masks c.args.self.now.prefix 0 _ first c.take_lowest-place.ensures in
    pending-gone c.args.self.now.placed taken c.take_lowest-place.ensures.others (g.T.BitSetLike.members c.args.self.now.set)

pub returns-clause-word : goal.returns-clause-word
returns-clause-word g c =
    let three : length c.args.self.now.prefix ≡ 3 = omega arith in
    let first = first-placed c.args.self.now.masks c.args.self.now.prefix 0 three c.args.self.now.placed (omega arith) c.requires in
    let aligned = first.aligned in
    let place = c.take_lowest-place.ensures.within in
    omega arith
