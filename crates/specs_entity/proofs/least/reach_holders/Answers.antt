use Rattle.std.proofs.Common.{◌≡◌, ◌<◌, ◌-◌, inl, inr, eqb, length, subst, sym, ◌∙◌, ap, arith}
use Rattle.std.specs.FinSet as set
use Rattle.std.proofs.lemmas.Bool.{eqb-true, eq-eqb, cases_eq, cases_lt, or_cases, or_left, or_right}
use Rattle.std.proofs.lemmas.List.{get_or_default}
use Rattle.specs_entity.specs.Holders.{IsEnd, no_link, link_at}
use Rattle.specs_entity.proofs.HolderLemmas.{goes-on-still, goes-further}
use Rattle.specs_entity.proofs.least.reach_holders.Goals as goal

pub loop-end-init : goal.loop-end-init
loop-end-init c =
    let links = c.args.holders.now.links.items in
    let end = subst (IsEnd links c.args.target (length links)) (sym c.end-end.ensures) (c.requires.chained.last c.args.target) in
    record {
      within = end.within;
      here = end.here;
      tells = c.requires.tells;
      room = omega arith;
      longer = goes-on-still c.args.members.now.items;
      keeps = λ index is. is;
      only = λ index is. inl is;
      passed = λ place low below same. absurd (end.none place low below same);
    }

pub loop-end-preserved : goal.loop-end-preserved
loop-end-preserved c =
    let links = c.args.holders.now.links.items in
    let was = c.loop-end.invariant in
    let some : 0 < c.loop-end.end = omega arith in
    let within = was.within in
    let inside : c.loop-end.end - 1 < length links = omega (arith, some, within) in
    let link = c.index-link.result.now in
    let here : link ≡ link_at links (c.loop-end.end - 1) = c.index-link.ensures ∙ get_or_default links (c.loop-end.end - 1) link no_link inside in
    let target : link.target ≡ c.args.target = ap (λ l. l.target) here ∙ was.here some in
    let before : IsEnd links c.args.target (c.loop-end.end - 1) link.before =
    subst (λ t. IsEnd links t (c.loop-end.end - 1) link.before) target
    (subst (λ l. IsEnd links l.target (c.loop-end.end - 1) l.before) (sym here) (c.requires.chained.before (c.loop-end.end - 1) inside)) in
    let has = c.in_ok-reach.ensures.has in
    record {
      within = let short = before.within in omega (arith, short, inside);
      here = before.here;
      tells = c.in_ok-reach.ensures.tells;
      room = let one = was.room in let other = c.in_ok-reach.ensures.room in omega (arith, one, other);
      longer = goes-further c.args.members.now.items c.loop-end.members.items c.reach.new.members.items was.longer c.in_ok-reach.ensures.longer;
      keeps = λ index is. has index ∙ or_right _ _ (was.keeps index is);
      only = λ index is. elim (or_cases (eqb index link.holder) (set.contains c.loop-end.marked.members index) (sym (has index) ∙ is)) [
        | inl same ↦ inr (c.loop-end.end - 1, inside, ap (λ l. l.holder) (sym here) ∙ sym (eqb-true index link.holder same), was.here some)
        | inr old ↦ was.only index old
      ];
      passed = λ place low below same. elim (cases_lt place c.loop-end.end) [
        | inr past ↦ has (link_at links place).holder ∙ or_right _ _ (was.passed place past below same)
        | inl early ↦ elim (cases_eq place (c.loop-end.end - 1)) [
          | inl last ↦ has (link_at links place).holder ∙ or_left _ _ (eq-eqb _ _ (ap (λ p. (link_at links p).holder) last ∙ ap (λ l. l.holder) (sym here)))
          | inr apart ↦ absurd (before.none place low (omega (arith, early, apart)) same)
        ]
      ];
    }
