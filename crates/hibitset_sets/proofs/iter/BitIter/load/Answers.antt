use Rattle.std.proofs.Common.{◌≡◌, ◌-◌, arith, length, ◌∙◌}
use Rattle.hibitset_sets.proofs.IterLemmas.{first-placed, loaded-step}
use Rattle.hibitset_sets.proofs.LoadLemmas.{loaded-placed, loaded-pending}
use Rattle.hibitset_sets.proofs.WalkLemmas.{walk-same}
use Rattle.hibitset_sets.proofs.CountLemmas.{loaded-words}
use Rattle.hibitset_sets.proofs.iter.BitIter.load.Goals as goal

pub overflow_add-number : goal.overflow_add-number
overflow_add-number g c =
    let three : length c.args.self.now.prefix ≡ 3 = omega arith in
    let first = first-placed c.args.self.now.masks c.args.self.now.prefix c.args.layer three c.args.self.now.placed c.requires.layer c.requires.some in
    let within = first.within in
    let place = c.take_lowest-place.ensures.within in
    omega arith

pub invariant_of-self : goal.invariant_of-self
invariant_of-self g c =
    let three : length c.args.self.now.prefix ≡ 3 = omega arith in
    let four : length c.take_lowest-place.new.masks ≡ 4 = c.take_lowest-place.ensures.long ∙ (let e : length c.args.self.now.masks ≡ 4 = omega arith in e) in
    let loaded = loaded-step (g.T.BitSetLike.words c.args.self.now.set) c.args.self.now.masks c.take_lowest-place.new.masks c.args.self.now.prefix c.args.layer _ _ _ c.requires.above c.requires.layer four three c.args.self.now.placed c.requires.empty c.requires.some c.take_lowest-place.ensures c.read.ensures.value c.first_of-first.ensures in
    record { placed = loaded-placed loaded (omega arith) c.args.self.now.placed }

pub returns-clause-items : goal.returns-clause-items
returns-clause-items g c =
    let three : length c.args.self.now.prefix ≡ 3 = omega arith in
    let four : length c.take_lowest-place.new.masks ≡ 4 = c.take_lowest-place.ensures.long ∙ (let e : length c.args.self.now.masks ≡ 4 = omega arith in e) in
    let loaded = loaded-step (g.T.BitSetLike.words c.args.self.now.set) c.args.self.now.masks c.take_lowest-place.new.masks c.args.self.now.prefix c.args.layer _ _ _ c.requires.above c.requires.layer four three c.args.self.now.placed c.requires.empty c.requires.some c.take_lowest-place.ensures c.read.ensures.value c.first_of-first.ensures in
    walk-same _ _ (λ i within. loaded-pending (g.T.BitSetLike.members c.args.self.now.set) (g.T.BitSetLike.words c.args.self.now.set) (g.met.T.BitSetLike.stands_over c.args.self.now.set) (g.met.T.BitSetLike.words_agree c.args.self.now.set) (c.args.layer - 1) (omega arith) loaded i within)

pub returns-clause-words : goal.returns-clause-words
returns-clause-words g c = λ reads.
    let three : length c.args.self.now.prefix ≡ 3 = omega arith in
    let four : length c.take_lowest-place.new.masks ≡ 4 = c.take_lowest-place.ensures.long ∙ (let e : length c.args.self.now.masks ≡ 4 = omega arith in e) in
    let loaded = loaded-step (g.T.BitSetLike.words c.args.self.now.set) c.args.self.now.masks c.take_lowest-place.new.masks c.args.self.now.prefix c.args.layer _ _ _ c.requires.above c.requires.layer four three c.args.self.now.placed c.requires.empty c.requires.some c.take_lowest-place.ensures c.read.ensures.value c.first_of-first.ensures in
    loaded-words reads (g.T.BitSetLike.words c.args.self.now.set) (c.args.layer - 1) (omega arith) loaded
