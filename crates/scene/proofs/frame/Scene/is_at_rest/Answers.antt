use Rattle.std.proofs.Common.{arith, ◌≡◌, ◌≤◌, [], length, vec_len, sym, ◌∙◌, subst}
use Rattle.std.proofs.lemmas.Bool.{eqb-true}
use Rattle.scene_model.proofs.CallerLemmas.{no_items}
use Rattle.scene_document.specs.Loading.{commands_at}
use Rattle.scene_world.specs.Turns.{placed_as}
use Rattle.scene_dispatch.specs.Orders.{turn_order}
use Rattle.scene.specs.Waiting.{AreTheirPlaces}
use Rattle.scene.proofs.RestLemmas.{no-system, none-given}
use Rattle.scene.proofs.frame.Scene.is_at_rest.Goals as goal

pub returns-then-is_empty : goal.returns-then-is_empty
returns-then-is_empty g c = λ past number later.
    let scene = c.args.self.now in
    let order = turn_order (placed_as (λ placed. placed.position) (λ placed. placed.system) g.R.DocumentRules.kind_of g.R.DocumentRules.config_of g.R.DocumentRules.declared g.R.Rules.sense g.R.Rules.does).plain scene.dispatcher in
    let none_listed : vec_len scene.places ≡ 0 = eqb-true (vec_len scene.places) 0 (sym c.is_empty.ensures ∙ c.if-is_empty.true) in
    let none : scene.places.items ≡ [] = no_items scene.places.items (omega (arith, none_listed, scene.places.ok.0)) in
    let unordered : order ≡ [] = no-system order (subst (λ places. AreTheirPlaces places order) none (c.requires.ready.stands c.requires.going).places) in
    let within : length scene.commands.items ≤ scene.report.frames = let long = c.len.ensures in let ok = scene.commands.ok.0 in grind (arith, past, long, ok) in
    let given : commands_at g.R.DocumentRules.part_of scene.commands.items number ≡ [] = none-given g.R.DocumentRules.part_of scene.commands.items scene.report.frames number within later in
    λ i. record { order = unordered i; commands = given i }
