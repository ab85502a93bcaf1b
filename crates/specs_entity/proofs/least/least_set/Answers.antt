use Rattle.std.proofs.Common.{◌≡◌, ◌≤◌, ◌<◌, ◌||◌, inl, inr, true, eqb, [], length, take, get_or, subst, sym, ◌∙◌, ap, arith}
use Rattle.std.specs.List.{list_any}
use Rattle.std.specs.FinSet as set
use Rattle.std.specs.Ordering.{nat_cmp}
use Rattle.std.proofs.lemmas.Bool.{eqb-true, or_cases}
use Rattle.std.proofs.lemmas.List.{take_all, get_or_default}
use Rattle.specs_entity.specs.Holders.{Tells, Holds}
use Rattle.specs_entity.proofs.HolderLemmas.{tells-none, tells-short, longer-length, any-first, any-further, at-place}
use Rattle.specs_entity.proofs.least.least_set.Goals as goal

pub loop-root-init : goal.loop-root-init
loop-root-init c = record {
  tells = subst (λ items. Tells items c.args.marked.now.members) (sym c.requires.none) (subst (Tells []) (sym c.requires.unmarked) tells-none);
  room = omega arith;
  has = λ index. ap (λ s. set.contains s index) c.requires.unmarked ∙ set.contains-empty nat_cmp index;
}

pub loop-root-preserved : goal.loop-root-preserved
loop-root-preserved c = record {
  tells = c.in_ok-reach.ensures.tells;
  room = let one = c.loop-root.invariant.room in let other = c.in_ok-reach.ensures.room in omega (arith, one, other);
  has = λ index. c.in_ok-reach.ensures.has index ∙ ap (λ b. eqb index (get_or c.args.roots.now c.loop-root.root-index 0) || b) (c.loop-root.invariant.has index)
      ∙ sym (any-first (λ root. eqb index root) c.args.roots.now c.loop-root.root-index (omega arith));
}

pub loop-at-smaller : goal.loop-at-smaller
loop-at-smaller c = let short = tells-short c.loop-at.members.items c.loop-at.marked.members c.loop-at.invariant.tells in omega (arith, short)

pub loop-at-preserved : goal.loop-at-preserved
loop-at-preserved c =
    let was = c.loop-at.invariant in
    let all = c.in_ok-reach_holders.ensures in
    let members = c.loop-at.members.items in
    let longer = longer-length members c.reach_holders.new.members.items all.longer in
    let inside : c.loop-at.at < length members = omega arith in
    let here : c.index-target.result.now ≡ get_or members c.loop-at.at 0 = c.index-target.ensures ∙ get_or_default members c.loop-at.at c.index-target.result.now 0 inside in
    record {
      within = omega (arith, longer);
      tells = all.tells;
      room = let one = was.room in let other = all.room in omega (arith, one, other);
      roots = λ index is. all.keeps index (was.roots index is);
      held = λ holder target holds is. elim (or_cases (eqb target (get_or members c.loop-at.at 0)) (list_any (eqb target) (take c.loop-at.at members))
          (sym (any-further (eqb target) members c.reach_holders.new.members.items c.loop-at.at inside all.longer) ∙ is)) [
            | inl now ↦ all.all holder (subst (Holds c.args.holders.now.links.items holder) (eqb-true target (get_or members c.loop-at.at 0) now ∙ sym here) holds)
            | inr before ↦ all.keeps holder (was.held holder target holds before)
          ];
      least = λ others closed index is. elim (all.only index is) [
        | inl old ↦ was.least others closed index old
        | inr holds ↦ closed.holders_in index c.index-target.result.now holds
            (subst (λ i. others i ≡ true) (sym here) (was.least others closed (get_or members c.loop-at.at 0)
            (was.tells.same (get_or members c.loop-at.at 0) ∙ at-place members c.loop-at.at inside)))
      ];
    }

pub returns-clause-least : goal.returns-clause-least
returns-clause-least c =
    let all : length c.loop-at.members.items ≤ c.loop-at.at = omega arith in
    record {
      closed = record {
        roots_in = c.loop-at.invariant.roots;
        holders_in = λ holder target holds there. c.loop-at.invariant.held holder target holds
            (ap (list_any (eqb target)) (take_all c.loop-at.at c.loop-at.members.items all) ∙ (sym (c.loop-at.invariant.tells.same target) ∙ there));
      };
      least = c.loop-at.invariant.least;
    }
