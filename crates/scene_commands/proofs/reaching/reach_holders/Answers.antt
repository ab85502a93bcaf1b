use Rattle.std.proofs.Common.{◌≡◌, ◌<◌, ◌≤◌, ◌-◌, inl, inr, length, subst, sym, ◌∙◌, ap, arith}
use Rattle.std.proofs.lemmas.Bool.{cases_eq, cases_lt}
use Rattle.std.proofs.lemmas.List.{get_or_default}
use Rattle.specs_entity.specs.Births.{IsAlive}
use Rattle.scene_model.specs.Declaring.{texts}
use Rattle.scene_world.specs.Places.{kinds_of}
use Rattle.scene_world.specs.Standing.{roll_of}
use Rattle.scene_commands.specs.Acts.{seen_of}
use Rattle.scene_commands.specs.Links.{IsEnd, no_link, link_at}
use Rattle.scene_commands.specs.Reaching.{HasUnder}
use Rattle.scene_commands.proofs.ReachLemmas.{goes-on-not, goes-on-further, named-further, all-referring}
use Rattle.scene_commands.proofs.reaching.reach_holders.Goals as goal

pub loop-end-init : goal.loop-end-init
loop-end-init g c =
    let links = c.args.holders.now.links.items in
    let end = subst (IsEnd links c.in-Some.id (length links)) (sym c.end-end.ensures) (c.requires.covers.chained.last c.in-Some.id) in
    record {
      within = end.within;
      here = end.here;
      tells = c.requires.tells;
      longer = goes-on-not (IsAlive (roll_of (kinds_of g.R.Value.SceneValue.places g.R.DocumentRules.part_of g.R.WorldRules.columns) (seen_of c.args.world.now)).births) c.args.reached.now.entities.items;
      passed = λ place low below same. absurd (end.none place low below same);
    }

pub loop-end-preserved : goal.loop-end-preserved
loop-end-preserved g c =
    let kinds = kinds_of g.R.Value.SceneValue.places g.R.DocumentRules.part_of g.R.WorldRules.columns in
    let w = seen_of c.args.world.now in
    let links = c.args.holders.now.links.items in
    let was = c.loop-end.invariant in
    let some : 0 < c.loop-end.end = omega arith in
    let within = was.within in
    let inside : c.loop-end.end - 1 < length links = omega (arith, some, within) in
    let link = c.index-link.result.now in
    let here : link ≡ link_at links (c.loop-end.end - 1) = c.index-link.ensures ∙ get_or_default links (c.loop-end.end - 1) link no_link inside in
    let target : link.target ≡ c.in-Some.id = ap (λ l. l.target) here ∙ was.here some in
    let before : IsEnd links c.in-Some.id (c.loop-end.end - 1) link.before =
    subst (λ t. IsEnd links t (c.loop-end.end - 1) link.before) target
    (subst (λ l. IsEnd links l.target (c.loop-end.end - 1) l.before) (sym here) (c.requires.covers.chained.before (c.loop-end.end - 1) inside)) in
    let all = c.in_ok-reach_holder.ensures in
    let old = c.loop-end.reached.entities.items in
    let new = c.reach_holder.new.reached.entities.items in
    record {
      within = let short = before.within in omega (arith, short, inside);
      here = before.here;
      tells = all.tells;
      longer = goes-on-further (IsAlive (roll_of kinds w).births) c.args.reached.now.entities.items old new was.longer all.longer;
      passed = λ place low below same. elim (cases_lt place c.loop-end.end) [
        | inr past ↦ λ index at refers. named-further (IsAlive (roll_of kinds w).births) old new all.longer index (was.passed place past below same index at refers)
        | inl early ↦ elim (cases_eq place (c.loop-end.end - 1)) [
          | inl last ↦ subst (HasUnder kinds w (texts c.args.names.now) new c.args.target.id) (ap (λ l. l.holder) here ∙ ap (λ p. (link_at links p).holder) (sym last))
              (subst (λ i. HasUnder kinds w (texts c.args.names.now) new i link.holder) c.id-in-loop-end.ensures all.is_in)
          | inr apart ↦ absurd (before.none place low (omega (arith, early, apart)) same)
        ]
      ];
    }

pub returns-clause-all : goal.returns-clause-all
returns-clause-all g c =
    let kinds = kinds_of g.R.Value.SceneValue.places g.R.DocumentRules.part_of g.R.WorldRules.columns in
    let none : c.loop-end.end ≤ 0 = omega arith in
    all-referring kinds c.args.world.now c.requires.may (texts c.args.names.now) c.requires.alike c.args.holders.now c.requires.made c.requires.covers c.args.target c.requires.alive c.in-Some.id
    (ap (roll_of kinds (seen_of c.args.world.now)).marker (sym c.id.ensures) ∙ sym c.id_marked.ensures ∙ c.in-Some.is) c.loop-end.reached.entities.items
    (λ place below same. c.loop-end.invariant.passed place (omega (arith, none)) below same)
