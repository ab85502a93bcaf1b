use Rattle.std.proofs.Common.{IfOk, rules, subst}
use Rattle.hibitset.proofs.CallerLemmas.{if_ok, holds-in-parts}
use Rattle.hibitset_sets.specs.Walk.{walk}
use Rattle.specs_join.specs.Collected.{at_members, Answers, IsCollected}
use Rattle.specs_join.proofs.CollectLemmas.{collected-start, collected-next, collected-both}
use Rattle.specs_join.proofs.join.par_join.fold_parts.Goals as goal

pub returns : goal.returns
returns g c =
    let members = g.J.Mask.BitSetLike.members in
    let look = at_members (members c.args.mask.now) (g.J.Join.value_at c.args.values.now) in
    subst (λ set. IfOk c.fold.result (IsCollected look (Answers g.J.Join.show (λ item t. goal.F-post g c.args.f.now item t)) (walk (members set.now)))) c.new.ensures.set
    (if_ok c.fold.result c.fold.ensures.parts (λ inner parts. holds-in-parts _ _ _ (IsCollected look (Answers g.J.Join.show (λ item t. goal.F-post g c.args.f.now item t))) (record {
      starts = λ a started. collected-start look g.J.Join.show (λ item t. goal.F-post g c.args.f.now item t) a (search rules);
      steps = λ list a b i collected stepped. collected-next look g.J.Join.show (λ item t. goal.F-post g c.args.f.now item t) list a b i collected (search rules);
      combines = λ list other a b s first second both. collected-both look g.J.Join.show (λ item t. goal.F-post g c.args.f.now item t) list other a b s first second (search rules);
    }) (walk (members c.new.result.set.now)) inner parts))
