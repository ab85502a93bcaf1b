use Rattle.std.proofs.Common.{◌≡◌, ◌+◌, eqb, length, ap, sym, ◌∙◌, subst, arith}
use Rattle.std.specs.Option.{unwrap_or}
use Rattle.specs_entity.specs.declared.holders.Link.{Link}
use Rattle.specs_entity.specs.Holders.{IsChained, end_in}
use Rattle.specs_entity.proofs.HolderLemmas.{chained-more, kept-end, more}
use Rattle.specs_entity.proofs.holders.Holders.push.Goals as goal

pub returns-clause-chained : goal.returns-clause-chained
returns-clause-chained c =
    let links = c.args.self.now.links.items in
    let link : Link = record { holder = c.args.holder; target = c.args.target; before = c.end-before.result } in
    let items : c.push.new.self.items ≡ more links link = c.in_ok-push.ensures.items in
    let count = c.in_ok-push.ensures.len in
    let long : c.len.result ≡ length links + 1 = let here = c.len.ensures in omega (arith, here, count) in
    subst (IsChained (end_in c.insert.new.self)) (sym items)
    (chained-more links link (end_in c.args.self.now.ends) (end_in c.insert.new.self)
    (λ target. ap (λ end. unwrap_or end 0) (c.in_ok-insert.ensures.updates.0 target) ∙ kept-end (eqb c.args.target target) c.len.result (length links + 1) _ long)
    c.end-before.ensures c.requires)
