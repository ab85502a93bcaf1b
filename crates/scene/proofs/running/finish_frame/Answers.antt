use Rattle.std.proofs.Common.{get_or, arith, Ok, Err, ◌≡◌, ◌++◌, [], sym, ◌∙◌, subst, All}
use Rattle.std.specs.List.{flat_map}
use Rattle.std.specs.Result.{OnOk}
use Rattle.std.proofs.lemmas.Result.{IfErr-weaker, on_ok_weaker}
use Rattle.std.proofs.lemmas.List.Elements.{All-nil, All-append}
use Rattle.scene_model.specs.Lawful.{IsLawful}
use Rattle.scene_model.specs.Commands.{CommandsAccepted}
use Rattle.scene_model.specs.Queues.{plain_commands}
use Rattle.scene_model.specs.Scenes.{PlainFrame}
use Rattle.scene_model.specs.Frames.{by_place}
use Rattle.scene_model.proofs.CallerLemmas.{IsBetween, proper-between, admitted-again}
use Rattle.scene_world.specs.Places.{kinds_of}
use Rattle.scene_world.specs.Turns.{placed_as}
use Rattle.scene_dispatch.specs.Orders.{turn_order}
use Rattle.scene_world.specs.Standing.{roll_of, plain_of, commands_of}
use Rattle.scene_commands.specs.Acts.{seen_of, GoesOn}
use Rattle.scene_commands.proofs.CallerLemmas.{goes-both}
use Rattle.scene.specs.Waiting.{waiting_at}
use Rattle.scene.specs.Refusals.{CommandsRefusedIn}
use Rattle.scene.specs.Coming.{HaveCome}
use Rattle.scene.proofs.FrameLemmas.{turned, refused-turns}
use Rattle.scene.proofs.QueueLemmas.{by-place-left, left-none, left-lawful, run-stand, run-known}
use Rattle.scene.proofs.CommandLemmas.{then-refused, accepted-between, on_ok_two, all-flat, seen-stand, none-left}
use Rattle.scene.proofs.SpareLemmas.{proper-none}
use Rattle.scene.proofs.running.finish_frame.Goals as goal

pub run_commands-requires-clause-lawful : goal.run_commands-requires-clause-lawful
run_commands-requires-clause-lawful g c = λ k d inside.
    let is : c.args.outcome ≡ Ok c.in_ok-outcome.field-0 = grind arith in
    let kinds = kinds_of g.R.Value.SceneValue.places g.R.DocumentRules.part_of g.R.WorldRules.columns in
    let meaning = placed_as (λ placed. placed.position) (λ placed. placed.system) g.R.DocumentRules.kind_of g.R.DocumentRules.config_of g.R.DocumentRules.declared g.R.Rules.sense g.R.Rules.does in
    let book = g.R.DocumentRules.book c.args.rules.now in
    let order = turn_order meaning.plain c.args.dispatcher.now in
    let places = c.args.input.now.places.now in
    let mid = plain_of kinds (seen_of c.args.world.now) in
    let start = c.requires.come.0 in
    let turns = turned kinds meaning book c.args.dispatcher.now c.args.world.now start c.args.outcome is c.requires.come.1 in
    let place = get_or places k d in
    subst (All (IsLawful book)) (sym (turns.queued place)) (left-lawful book place turns.queues [] (All-nil (IsLawful book)) (run-known book order start mid turns.queues turns.systems_ran))

pub run_commands-requires-clause-none : goal.run_commands-requires-clause-none
run_commands-requires-clause-none g c =
    let is : c.args.outcome ≡ Ok c.in_ok-outcome.field-0 = grind arith in
    let kinds = kinds_of g.R.Value.SceneValue.places g.R.DocumentRules.part_of g.R.WorldRules.columns in
    let meaning = placed_as (λ placed. placed.position) (λ placed. placed.system) g.R.DocumentRules.kind_of g.R.DocumentRules.config_of g.R.DocumentRules.declared g.R.Rules.sense g.R.Rules.does in
    let book = g.R.DocumentRules.book c.args.rules.now in
    let order = turn_order meaning.plain c.args.dispatcher.now in
    let places = c.args.input.now.places.now in
    let mid = plain_of kinds (seen_of c.args.world.now) in
    let start = c.requires.come.0 in
    let turns = turned kinds meaning book c.args.dispatcher.now c.args.world.now start c.args.outcome is c.requires.come.1 in
    proper-none book mid turns.ready.world.proper

pub returns-clause-accepted : goal.returns-clause-accepted
returns-clause-accepted g c =
    let is : c.args.outcome ≡ Ok c.in_ok-outcome.field-0 = grind arith in
    let kinds = kinds_of g.R.Value.SceneValue.places g.R.DocumentRules.part_of g.R.WorldRules.columns in
    let meaning = placed_as (λ placed. placed.position) (λ placed. placed.system) g.R.DocumentRules.kind_of g.R.DocumentRules.config_of g.R.DocumentRules.declared g.R.Rules.sense g.R.Rules.does in
    let book = g.R.DocumentRules.book c.args.rules.now in
    let order = turn_order meaning.plain c.args.dispatcher.now in
    let places = c.args.input.now.places.now in
    let mid = plain_of kinds (seen_of c.args.world.now) in
    on_ok_weaker c.run_commands.result
    (λ accepted. λ start come.
    let turns = turned kinds meaning book c.args.dispatcher.now c.args.world.now start c.args.outcome is come in
    let waits : flat_map (λ queue. queue.1) (by_place turns.queues) ≡ waiting_at kinds places (seen_of c.args.world.now) =
    by-place-left turns.queues places c.requires.places.ascend (run-stand book places order start mid turns.queues c.requires.places.there turns.systems_ran) (commands_of kinds (seen_of c.args.world.now)) turns.queued in (
      accepted.0,
      (
        mid,
        turns.queues,
        turns.systems_ran,
        subst (λ rest. CommandsAccepted book c.args.input.now.limit (plain_commands g.R.DocumentRules.part_of c.args.input.now.given.now ++ rest) mid (plain_of kinds (seen_of c.run_commands.new.world)) accepted.0) (sym waits) accepted.1,
      ),
      accepted.2,
    ))
    c.run_commands.ensures.accepted

pub returns-clause-ready : goal.returns-clause-ready
returns-clause-ready g c =
    let is : c.args.outcome ≡ Ok c.in_ok-outcome.field-0 = grind arith in
    let kinds = kinds_of g.R.Value.SceneValue.places g.R.DocumentRules.part_of g.R.WorldRules.columns in
    let meaning = placed_as (λ placed. placed.position) (λ placed. placed.system) g.R.DocumentRules.kind_of g.R.DocumentRules.config_of g.R.DocumentRules.declared g.R.Rules.sense g.R.Rules.does in
    let book = g.R.DocumentRules.book c.args.rules.now in
    let order = turn_order meaning.plain c.args.dispatcher.now in
    let places = c.args.input.now.places.now in
    let mid = plain_of kinds (seen_of c.args.world.now) in
    let start = c.requires.come.0 in
    let turns = turned kinds meaning book c.args.dispatcher.now c.args.world.now start c.args.outcome is c.requires.come.1 in
    let given = plain_commands g.R.DocumentRules.part_of c.args.input.now.given.now in
    let waiting = waiting_at kinds places (seen_of c.args.world.now) in
    let known = run-known book order start mid turns.queues turns.systems_ran in
    let lawful : All (IsLawful book) (given ++ waiting) =
    All-append (IsLawful book) given waiting c.requires.given
    (all-flat (IsLawful book) (commands_of kinds (seen_of c.args.world.now)) places (λ k d inside.
    subst (All (IsLawful book)) (sym (turns.queued (get_or places k d))) (left-lawful book (get_or places k d) turns.queues [] (All-nil (IsLawful book)) known))) in
    let between : IsBetween book mid = proper-between book mid (seen-stand kinds book.part_names c.args.world.now c.rules_stand.ensures.named.parts) turns.ready.world.proper in
    let reached = plain_of kinds (seen_of c.run_commands.new.world) in
    on_ok_two c.run_commands.result
    (λ accepted may.
    let after = accepted-between book c.args.input.now.limit (given ++ waiting) mid reached accepted.0 lawful between accepted.1 in
    record {
      world = c.a_scene_stands_after_commands.ensures c.run_commands.new.world may (admitted-again book reached accepted.1.none_gone after) after.readable accepted.1.none_gone;
      staged = turns.ready.staged;
      locals = turns.ready.locals;
    })
    c.run_commands.ensures.accepted c.run_commands.ensures.may

pub returns-clause-goes_on : goal.returns-clause-goes_on
returns-clause-goes_on g c =
    let is : c.args.outcome ≡ Ok c.in_ok-outcome.field-0 = grind arith in
    let kinds = kinds_of g.R.Value.SceneValue.places g.R.DocumentRules.part_of g.R.WorldRules.columns in
    on_ok_weaker c.run_commands.result (λ on. λ w was. goes-both kinds w c.args.world.now c.run_commands.new.world (subst (λ outcome. OnOk outcome (GoesOn kinds w c.args.world.now)) is was) on) c.run_commands.ensures.goes_on

pub returns-clause-none : goal.returns-clause-none
returns-clause-none g c =
    let is : c.args.outcome ≡ Ok c.in_ok-outcome.field-0 = grind arith in
    let kinds = kinds_of g.R.Value.SceneValue.places g.R.DocumentRules.part_of g.R.WorldRules.columns in
    let meaning = placed_as (λ placed. placed.position) (λ placed. placed.system) g.R.DocumentRules.kind_of g.R.DocumentRules.config_of g.R.DocumentRules.declared g.R.Rules.sense g.R.Rules.does in
    let book = g.R.DocumentRules.book c.args.rules.now in
    let order = turn_order meaning.plain c.args.dispatcher.now in
    let places = c.args.input.now.places.now in
    let mid = plain_of kinds (seen_of c.args.world.now) in
    let start = c.requires.come.0 in
    let turns = turned kinds meaning book c.args.dispatcher.now c.args.world.now start c.args.outcome is c.requires.come.1 in
    let stand = run-stand book places order start mid turns.queues c.requires.places.there turns.systems_ran in
    on_ok_two c.run_commands.result
    (λ empty apart. none-left kinds c.rules_stand.ensures.apart places c.args.world.now c.run_commands.new.world empty apart (λ place none. turns.queued place ∙ left-none place places turns.queues [] none stand))
    c.run_commands.ensures.empty c.run_commands.ensures.apart

pub returns-clause-refused : goal.returns-clause-refused
returns-clause-refused g c =
    let is : c.args.outcome ≡ Ok c.in_ok-outcome.field-0 = grind arith in
    let kinds = kinds_of g.R.Value.SceneValue.places g.R.DocumentRules.part_of g.R.WorldRules.columns in
    let meaning = placed_as (λ placed. placed.position) (λ placed. placed.system) g.R.DocumentRules.kind_of g.R.DocumentRules.config_of g.R.DocumentRules.declared g.R.Rules.sense g.R.Rules.does in
    let book = g.R.DocumentRules.book c.args.rules.now in
    let order = turn_order meaning.plain c.args.dispatcher.now in
    let places = c.args.input.now.places.now in
    let mid = plain_of kinds (seen_of c.args.world.now) in
    let frame : PlainFrame = record { order = order; commands = plain_commands g.R.DocumentRules.part_of c.args.input.now.given.now } in
    IfErr-weaker c.run_commands.result _ _
    (λ cause why. λ start come.
    let turns = turned kinds meaning book c.args.dispatcher.now c.args.world.now start c.args.outcome is come in
    let waits : flat_map (λ queue. queue.1) (by_place turns.queues) ≡ waiting_at kinds places (seen_of c.args.world.now) =
    by-place-left turns.queues places c.requires.places.ascend (run-stand book places order start mid turns.queues c.requires.places.there turns.systems_ran) (commands_of kinds (seen_of c.args.world.now)) turns.queued in
    let roll = roll_of kinds (seen_of c.args.world.now) in
    then-refused kinds book c.args.input.now.limit roll frame start mid turns.queues turns.systems_ran cause
    (subst (λ rest. CommandsRefusedIn kinds book c.args.input.now.limit roll (frame.commands ++ rest) mid cause) (sym waits) why))
    c.run_commands.ensures.refused

pub returns-in_err-outcome-clause-refused : goal.returns-in_err-outcome-clause-refused
returns-in_err-outcome-clause-refused g c =
    let failed : c.from_residual.result ≡ Err c.in_err-outcome.field-0.0 = grind arith in
    let is : c.args.outcome ≡ Err c.in_err-outcome.field-0.0 = grind arith in
    let kinds = kinds_of g.R.Value.SceneValue.places g.R.DocumentRules.part_of g.R.WorldRules.columns in
    let meaning = placed_as (λ placed. placed.position) (λ placed. placed.system) g.R.DocumentRules.kind_of g.R.DocumentRules.config_of g.R.DocumentRules.declared g.R.Rules.sense g.R.Rules.does in
    let book = g.R.DocumentRules.book c.args.rules.now in
    let frame : PlainFrame = record { order = turn_order meaning.plain c.args.dispatcher.now; commands = plain_commands g.R.DocumentRules.part_of c.args.input.now.given.now } in
    rw failed (λ start come. refused-turns kinds meaning book c.args.input.now.limit (roll_of kinds (seen_of c.args.world.now)) frame start c.in_err-outcome.field-0.0 (subst (HaveCome kinds meaning book c.args.dispatcher.now c.args.world.now start) is come))
