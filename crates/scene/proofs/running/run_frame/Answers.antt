use Rattle.std.proofs.Common.{refl, subst, sym}
use Rattle.std.proofs.lemmas.Result.{on_ok_weaker}
use Rattle.scene_model.specs.Frames.{Accepts}
use Rattle.scene_model.specs.Queues.{plain_commands}
use Rattle.scene_world.specs.Places.{kinds_of}
use Rattle.scene_world.specs.Turns.{placed_as}
use Rattle.scene_world.specs.Standing.{roll_of, plain_of}
use Rattle.scene_commands.specs.Acts.{seen_of}
use Rattle.scene.specs.Waiting.{AreTheirPlaces}
use Rattle.scene.specs.Refusals.{RefusedIn}
use Rattle.scene.proofs.FrameLemmas.{have-come, come-goes, refused-since, told-as, if_err_two}
use Rattle.scene.proofs.running.run_frame.Goals as goal

pub finish_frame-requires-clause-come : goal.finish_frame-requires-clause-come
finish_frame-requires-clause-come g c =
    let kinds = kinds_of g.R.Value.SceneValue.places g.R.DocumentRules.part_of g.R.WorldRules.columns in
    let meaning = placed_as (λ placed. placed.position) (λ placed. placed.system) g.R.DocumentRules.kind_of g.R.DocumentRules.config_of g.R.DocumentRules.declared g.R.Rules.sense g.R.Rules.does in
    let book = g.R.DocumentRules.book c.args.rules.now in
    let scene = plain_of kinds (seen_of c.args.world.now) in
    let order = c.run_systems-outcome.ensures.order in
    let come = have-come kinds meaning book c.args.dispatcher.now c.run_systems-outcome.new.self c.args.world.now c.run_systems-outcome.new.world scene c.run_systems-outcome.result c.requires.none refl order (c.run_systems-outcome.ensures.comes c.requires.ready) in
    (scene, come)

pub finish_frame-requires-clause-places : goal.finish_frame-requires-clause-places
finish_frame-requires-clause-places g c = subst (AreTheirPlaces c.args.input.now.places.now) (sym c.run_systems-outcome.ensures.order) c.requires.places

pub returns-clause-accepted : goal.returns-clause-accepted
returns-clause-accepted g c =
    let kinds = kinds_of g.R.Value.SceneValue.places g.R.DocumentRules.part_of g.R.WorldRules.columns in
    let meaning = placed_as (λ placed. placed.position) (λ placed. placed.system) g.R.DocumentRules.kind_of g.R.DocumentRules.config_of g.R.DocumentRules.declared g.R.Rules.sense g.R.Rules.does in
    let book = g.R.DocumentRules.book c.args.rules.now in
    let scene = plain_of kinds (seen_of c.args.world.now) in
    let order = c.run_systems-outcome.ensures.order in
    let come = have-come kinds meaning book c.args.dispatcher.now c.run_systems-outcome.new.self c.args.world.now c.run_systems-outcome.new.world scene c.run_systems-outcome.result c.requires.none refl order (c.run_systems-outcome.ensures.comes c.requires.ready) in
    on_ok_weaker c.finish_frame.result
    (λ accepted.
    let skipped = accepted scene come in (
      skipped.0,
      subst (λ list. Accepts book c.args.input.now.limit (record { order = list; commands = plain_commands g.R.DocumentRules.part_of c.args.input.now.given.now }) scene (plain_of kinds (seen_of c.finish_frame.new.world)) skipped.0) order skipped.1,
      skipped.2,
    ))
    c.finish_frame.ensures.accepted

pub returns-clause-goes_on : goal.returns-clause-goes_on
returns-clause-goes_on g c =
    let kinds = kinds_of g.R.Value.SceneValue.places g.R.DocumentRules.part_of g.R.WorldRules.columns in
    let meaning = placed_as (λ placed. placed.position) (λ placed. placed.system) g.R.DocumentRules.kind_of g.R.DocumentRules.config_of g.R.DocumentRules.declared g.R.Rules.sense g.R.Rules.does in
    let book = g.R.DocumentRules.book c.args.rules.now in
    on_ok_weaker c.finish_frame.result (λ on. on c.args.world.now
    (come-goes kinds meaning book c.args.dispatcher.now c.run_systems-outcome.new.self c.args.world.now c.run_systems-outcome.new.world c.run_systems-outcome.result (c.run_systems-outcome.ensures.comes c.requires.ready)))
    c.finish_frame.ensures.goes_on

pub returns-clause-refused : goal.returns-clause-refused
returns-clause-refused g c =
    let kinds = kinds_of g.R.Value.SceneValue.places g.R.DocumentRules.part_of g.R.WorldRules.columns in
    let meaning = placed_as (λ placed. placed.position) (λ placed. placed.system) g.R.DocumentRules.kind_of g.R.DocumentRules.config_of g.R.DocumentRules.declared g.R.Rules.sense g.R.Rules.does in
    let book = g.R.DocumentRules.book c.args.rules.now in
    let scene = plain_of kinds (seen_of c.args.world.now) in
    let order = c.run_systems-outcome.ensures.order in
    let come = have-come kinds meaning book c.args.dispatcher.now c.run_systems-outcome.new.self c.args.world.now c.run_systems-outcome.new.world scene c.run_systems-outcome.result c.requires.none refl order (c.run_systems-outcome.ensures.comes c.requires.ready) in
    let roll = roll_of kinds (seen_of c.args.world.now) in
    let given = plain_commands g.R.DocumentRules.part_of c.args.input.now.given.now in
    if_err_two c.finish_frame.result _ _ _
    (λ cause told why. subst (λ list. RefusedIn kinds book c.args.input.now.limit roll (record { order = list; commands = given }) scene cause) order
    (refused-since kinds meaning book c.args.dispatcher.now c.run_systems-outcome.new.self c.args.world.now c.run_systems-outcome.new.world c.args.input.now.limit given scene c.run_systems-outcome.result cause
    (c.run_systems-outcome.ensures.comes c.requires.ready) come told (why scene come)))
    (told-as c.run_systems-outcome.result c.finish_frame.result c.finish_frame.ensures.systems)
    c.finish_frame.ensures.refused
