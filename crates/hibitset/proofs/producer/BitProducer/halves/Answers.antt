use Rattle.std.proofs.Common.{sym, ◌∙◌, subst, ◌++◌, ◌+◌, ◌<◌, ◌≤◌, ◌&&◌}
use Rattle.hibitset_sets.specs.Walk.{walk}
use Rattle.std.specs.List.{All}
use Rattle.hibitset.specs.Cut.{first_under, is_under}
use Rattle.hibitset.proofs.CutLemmas.{split-walk, items-below, items-from, cut-moved, no-cut-moved}
use Rattle.hibitset.proofs.producer.BitProducer.halves.Goals as goal

pub returns-in_default-clause-cut : goal.returns-in_default-clause-cut
returns-in_default-clause-cut g c = λ index cut.
    c.in_default.ensures index (no-cut-moved (λ s. g.T.BitSetLike.words s.now) c.into_parts.result.0 c.args.self.0.set c.into_parts.result.1 c.args.self.0.masks c.into_parts.result.2 c.args.self.0.prefix c.args.self.1 index c.into_parts.ensures.set c.into_parts.ensures.masks c.into_parts.ensures.prefix cut)

pub returns-clause-keeps : goal.returns-clause-keeps
returns-clause-keeps g c =
    let cut = c.in-Some.cut in
    let of = cut-moved (λ s. g.T.BitSetLike.members s.now) (λ s. g.T.BitSetLike.words s.now) c.into_parts.result.0 c.args.self.0.set c.into_parts.result.1 c.args.self.0.masks c.into_parts.result.2 c.args.self.0.prefix c.args.self.1 cut.layer cut.first cut.word cut.place c.into_parts.ensures.set c.into_parts.ensures.masks c.into_parts.ensures.prefix c.in-Some.ensures in
    let split = split-walk (g.T.BitSetLike.members c.args.self.0.set.now) (g.T.BitSetLike.words c.args.self.0.set.now) c.args.self.0.masks c.args.self.0.prefix c.args.self.1 cut.layer cut.first cut.word cut.place c.below.result c.from.result of c.below.ensures c.from.ensures in
    (λ j. c.standing-low.ensures.items j ++ c.standing-high.ensures.items j)
    ∙ (λ j. walk (λ i. g.T.BitSetLike.members (c.into_parts.ensures.set j).now i && is_under cut.layer cut.first c.below.result i)
    ++ walk (λ i. g.T.BitSetLike.members (c.into_parts.ensures.set j).now i && is_under cut.layer cut.first c.from.result i))
    ∙ split

pub returns-clause-cut : goal.returns-clause-cut
returns-clause-cut g c =
    let cut = c.in-Some.cut in
    let of = cut-moved (λ s. g.T.BitSetLike.members s.now) (λ s. g.T.BitSetLike.words s.now) c.into_parts.result.0 c.args.self.0.set c.into_parts.result.1 c.args.self.0.masks c.into_parts.result.2 c.args.self.0.prefix c.args.self.1 cut.layer cut.first cut.word cut.place c.into_parts.ensures.set c.into_parts.ensures.masks c.into_parts.ensures.prefix c.in-Some.ensures in
    let index = first_under cut.layer (cut.first + cut.place) in (
      index,
      of.cut,
      subst (All (λ i. i < index)) (sym c.standing-low.ensures.items) (items-below _ cut.layer cut.first cut.word c.below.result cut.place of.stands.aligned of.within c.below.ensures),
      subst (All (λ i. index ≤ i)) (sym c.standing-high.ensures.items) (items-from _ cut.layer cut.first cut.word c.from.result cut.place of.stands.aligned of.within c.from.ensures),
    )
