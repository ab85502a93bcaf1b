use Rattle.std.proofs.Common.{◌≡◌, ℕ, Option, Some, None, true, ap, sym, ◌∙◌}
use Rattle.std.specs.Prelude.{option_map}
use Rattle.std.proofs.lemmas.Bool.{false≢true}
use Rattle.std.proofs.lemmas.Result.{on_ok_weaker}
use Rattle.specs_entity.specs.Births.{IsAlive, is_named}
use Rattle.scene_model.specs.Declaring.{texts}
use Rattle.scene_world.specs.Places.{kinds_of}
use Rattle.scene_world.specs.Rolls.{Roll}
use Rattle.scene_world.specs.Standing.{roll_of}
use Rattle.scene_commands.specs.Acts.{seen_of}
use Rattle.scene_commands.specs.Reaching.{refers_at}
use Rattle.scene_commands.proofs.LookLemmas.{index-under}
use Rattle.scene_commands.proofs.ReachLemmas.{goes-on-not, goes-on-by, refers-names, under-alive, index-is}
use Rattle.scene_commands.proofs.reaching.reach_holder.Goals as goal

pub returns-in_default-clause-longer : goal.returns-in_default-clause-longer
returns-in_default-clause-longer g c =
    goes-on-not (IsAlive (roll_of (kinds_of g.R.Value.SceneValue.places g.R.DocumentRules.part_of g.R.WorldRules.columns) (seen_of c.args.world.now)).births) c.args.reached.now.entities.items

pub returns-in_default-clause-is_in : goal.returns-in_default-clause-is_in
returns-in_default-clause-is_in g c = λ index at refers.
    let roll : Roll = roll_of (kinds_of g.R.Value.SceneValue.places g.R.DocumentRules.part_of g.R.WorldRules.columns) (seen_of c.args.world.now) in
    let never : ◌≡◌ {A = Option ℕ} None (Some index) = sym (index-under roll c.args.holder ∙ ap (option_map (λ entity. entity.id)) (sym c.entity_under.ensures.value ∙ c.in_default.is)) ∙ at in
    cc

pub returns-then-not-branch-clause-longer : goal.returns-then-not-branch-clause-longer
returns-then-not-branch-clause-longer g c =
    goes-on-not (IsAlive (roll_of (kinds_of g.R.Value.SceneValue.places g.R.DocumentRules.part_of g.R.WorldRules.columns) (seen_of c.args.world.now)).births) c.args.reached.now.entities.items

pub returns-then-not-branch-clause-is_in : goal.returns-then-not-branch-clause-is_in
returns-then-not-branch-clause-is_in g c = λ index at refers.
    let kinds = kinds_of g.R.Value.SceneValue.places g.R.DocumentRules.part_of g.R.WorldRules.columns in
    let w = seen_of c.args.world.now in
    let here : c.in-Some.entity.id ≡ index = index-is (roll_of kinds w) c.args.holder c.in-Some.entity (sym c.entity_under.ensures.value ∙ c.in-Some.is) index at in
    absurd (false≢true (sym c.if-not-branch.true ∙ c.in_ok-any_names.ensures
    ∙ refers-names kinds w (texts c.args.names.now) c.id.result c.args.target
    (ap (λ i. refers_at kinds w (texts c.args.names.now) i c.args.target) (c.id.ensures ∙ here) ∙ refers)))

pub returns-clause-longer : goal.returns-clause-longer
returns-clause-longer g c =
    let roll : Roll = roll_of (kinds_of g.R.Value.SceneValue.places g.R.DocumentRules.part_of g.R.WorldRules.columns) (seen_of c.args.world.now) in
    on_ok_weaker c.reach.result
    (goes-on-by (IsAlive roll.births) c.in-Some.entity (under-alive roll c.args.holder c.in-Some.entity (sym c.entity_under.ensures.value ∙ c.in-Some.is)) c.args.reached.now.entities.items c.reach.new.self.entities.items)
    c.reach.ensures.longer

pub returns-clause-is_in : goal.returns-clause-is_in
returns-clause-is_in g c =
    let roll : Roll = roll_of (kinds_of g.R.Value.SceneValue.places g.R.DocumentRules.part_of g.R.WorldRules.columns) (seen_of c.args.world.now) in
    on_ok_weaker c.reach.result
    (λ is_in index at refers. ap (is_named c.reach.new.self.entities.items) (sym (index-is roll c.args.holder c.in-Some.entity (sym c.entity_under.ensures.value ∙ c.in-Some.is) index at)) ∙ is_in)
    c.reach.ensures.is_in
