use Rattle.std.proofs.Common.{arith, length, ◌≡◌, ◌<◌, ◌≤◌, ℕ, MatchOption, subst}
use Rattle.std.specs.List.{All}
use Rattle.hibitset.specs.Producer.{IsCut, items_of, items_of_other}
use Rattle.hibitset.proofs.FreshLemmas.{fresh-split, other-items}
use Rattle.hibitset.proofs.producer.BitProducer.split.Goals as goal

pub returns-clause-fresh : goal.returns-clause-fresh
returns-clause-fresh g c = λ begins.
    let set = c.args.self.0.set.now in
    let M = g.T.BitSetLike.members in
    let three : length c.args.self.0.prefix ≡ 3 = omega arith in
    let cut = subst (λ layers. MatchOption c.halves.result.1
    ((index : ℕ) → IsCut (g.T.BitSetLike.words set) c.args.self.0.masks c.args.self.0.prefix layers index → ⊥)
    (λ other. (index : ℕ) × IsCut (g.T.BitSetLike.words set) c.args.self.0.masks c.args.self.0.prefix layers index × All (λ i. i < index) (items_of M c.halves.result.0) × All (λ i. index ≤ i) (items_of M other))) begins.layers c.halves.ensures.cut in
    fresh-split (M set) (g.T.BitSetLike.words set) (g.met.T.BitSetLike.stands_over set) (g.met.T.BitSetLike.words_agree set) (g.met.T.BitSetLike.words_fit set) c.args.self.0.masks c.args.self.0.prefix three begins.masks begins.exact
    c.halves.result.1 (items_of M c.halves.result.0) (items_of M) (items_of_other M c.halves.result.1) (other-items M c.halves.result.1) c.halves.ensures.keeps cut
