use Rattle.std.proofs.Common.{◌<◌, ◌≤◌, inl, inr, length, subst, sym, ◌∙◌, ap, arith, All}
use Rattle.std.proofs.lemmas.Bool.{false≢true}
use Rattle.std.proofs.lemmas.List.{take_all}
use Rattle.std.proofs.lemmas.List.Elements.{All-nil, All-get_or}
use Rattle.specs_entity.specs.Births.{IsAlive, is_named}
use Rattle.scene_model.specs.Declaring.{texts}
use Rattle.scene_world.specs.Places.{kinds_of}
use Rattle.scene_world.specs.Standing.{roll_of}
use Rattle.scene_commands.specs.Acts.{seen_of}
use Rattle.scene_commands.specs.Reaching.{HasReferring, Tells}
use Rattle.scene_commands.proofs.ReachLemmas.{tells-none, tells-short, goes-on-by, all-further, named-further, named-step, longer-length}
use Rattle.scene_commands.proofs.reaching.reached_from.Goals as goal

pub reach-requires-clause-tells : goal.reach-requires-clause-tells
reach-requires-clause-tells g c = subst (Tells c.new.result) (sym c.new-2.ensures.items) (tells-none c.new.result c.new.ensures.empty)

pub loop-at-init : goal.loop-at-init
loop-at-init g c =
    let births = (roll_of (kinds_of g.R.Value.SceneValue.places g.R.DocumentRules.part_of g.R.WorldRules.columns) (seen_of c.args.world.now)).births in
    record {
      within = omega arith;
      tells = c.in_ok-reach.ensures.tells;
      alive = all-further (IsAlive births) c.new-2.result.items c.reach.new.self.entities.items (subst (λ l. All (IsAlive births) l) (sym c.new-2.ensures.items) (All-nil (IsAlive births)))
          (goes-on-by (IsAlive births) c.args.root c.requires.alive c.new-2.result.items c.reach.new.self.entities.items c.in_ok-reach.ensures.longer);
      first = c.in_ok-reach.ensures.is_in;
      passed = λ target is. absurd (false≢true is);
    }

pub loop-at-smaller : goal.loop-at-smaller
loop-at-smaller g c = let short = tells-short c.loop-at.reached.seen c.loop-at.reached.entities.items c.loop-at.invariant.tells in omega (arith, short)

pub reach_holders-requires-clause-alive : goal.reach_holders-requires-clause-alive
reach_holders-requires-clause-alive g c =
    let births = (roll_of (kinds_of g.R.Value.SceneValue.places g.R.DocumentRules.part_of g.R.WorldRules.columns) (seen_of c.args.world.now)).births in
    let inside : c.loop-at.at < length c.loop-at.reached.entities.items = omega arith in
    subst (IsAlive births) (sym c.index-target.ensures)
    (All-get_or (IsAlive births) c.loop-at.reached.entities.items c.loop-at.at c.index-target.result.now inside c.loop-at.invariant.alive)

pub loop-at-preserved : goal.loop-at-preserved
loop-at-preserved g c =
    let kinds = kinds_of g.R.Value.SceneValue.places g.R.DocumentRules.part_of g.R.WorldRules.columns in
    let w = seen_of c.args.world.now in
    let births = (roll_of kinds w).births in
    let was = c.loop-at.invariant in
    let all = c.in_ok-reach_holders.ensures in
    let old = c.loop-at.reached.entities.items in
    let new = c.reach_holders.new.reached.entities.items in
    let inside : c.loop-at.at < length old = omega arith in
    let longer = longer-length (IsAlive births) old new all.longer in
    record {
      within = omega (arith, longer, inside);
      tells = all.tells;
      alive = all-further (IsAlive births) old new was.alive all.longer;
      first = named-further (IsAlive births) old new all.longer c.args.root.id was.first;
      passed = λ target is. elim (named-step (IsAlive births) old new c.loop-at.at c.index-target.result.now inside all.longer target is) [
        | inl before ↦ λ holder there refers. named-further (IsAlive births) old new all.longer holder (was.passed target before holder there refers)
        | inr here ↦ subst (HasReferring kinds w (texts c.args.names.now) new) (sym (here ∙ ap (λ one. one.id) (sym c.index-target.ensures))) all.all
      ];
    }

pub returns : goal.returns
returns g c =
    let ended : length c.loop-at.reached.entities.items ≤ c.loop-at.at = omega arith in
    record {
      alive = c.loop-at.invariant.alive;
      first = c.loop-at.invariant.first;
      closed = λ target named. c.loop-at.invariant.passed target (ap (λ l. is_named l target) (take_all c.loop-at.at c.loop-at.reached.entities.items ended) ∙ named);
    }
