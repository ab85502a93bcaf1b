use Rattle.std.proofs.Common.{◌≡◌, ◌+◌, ◌∷◌, ◌++◌, [], List, eqb, length, refl, ap, sym, ◌∙◌, subst, arith}
use Rattle.std.specs.Option.{unwrap_or}
use Rattle.scene_commands.specs.declared.holders.Link.{Link}
use Rattle.scene_commands.specs.Links.{Holds, IsChained, end_in}
use Rattle.scene_commands.proofs.LinkLemmas.{chained-more, kept-end, holds-kept, holds-last}
use Rattle.scene_commands.proofs.holders.Holders.push.Goals as goal

pub returns-clause-grows : goal.returns-clause-grows
returns-clause-grows c =
    let links : List Link = c.args.self.now.links.items in
    let link : Link = record { holder = c.args.holder; target = c.args.target; before = c.end-before.result } in
    let items : c.push.new.self.items ≡ links ++ link ∷ [] = c.in_ok-push.ensures.items in
    let count = c.in_ok-push.ensures.len in
    let long : c.len.result ≡ length links + 1 = let here = c.len.ensures in omega (arith, here, count) in
    record {
      chained = subst (IsChained (end_in c.insert.new.self)) (sym items)
          (chained-more links link (end_in c.args.self.now.ends) (end_in c.insert.new.self)
          (λ target. ap (λ end. unwrap_or end 0) (c.in_ok-insert.ensures.updates.0 target) ∙ kept-end (eqb c.args.target target) c.len.result (length links + 1) _ long)
          c.end-before.ensures c.requires);
      kept = λ holder target holds. subst (λ some. Holds some holder target) (sym items) (holds-kept links link holder target holds);
      made = refl;
    }

pub returns-clause-noted : goal.returns-clause-noted
returns-clause-noted c =
    let links : List Link = c.args.self.now.links.items in
    let link : Link = record { holder = c.args.holder; target = c.args.target; before = c.end-before.result } in
    let items : c.push.new.self.items ≡ links ++ link ∷ [] = c.in_ok-push.ensures.items in
    subst (λ some. Holds some c.args.holder c.args.target) (sym items) (holds-last links link c.args.holder c.args.target refl refl)
