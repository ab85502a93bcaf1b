use Rattle.std.proofs.Common.{◌≡◌, ◌+◌, ◌++◌, length, ap, sym, ◌∙◌, subst, length-append, arith, All}
use Rattle.std.proofs.lemmas.List.{length-map}
use Rattle.scene_model.specs.Lawful.{IsLawful}
use Rattle.scene_model.specs.Commands.{CommandsAccepted, play, played}
use Rattle.scene_model.specs.Queues.{plain_command, plain_commands, waiting}
use Rattle.scene_world.specs.Places.{kinds_of}
use Rattle.scene_world.specs.Standing.{roll_of, plain_of, commands_of, owning_in}
use Rattle.scene_world.proofs.CallerLemmas.{same-owning}
use Rattle.scene_commands.specs.Acts.{seen_of}
use Rattle.scene_commands.proofs.CallerLemmas.{goes-both}
use Rattle.scene.specs.Waiting.{waiting_in, waiting_at}
use Rattle.scene.specs.Sparing.{NoneGone}
use Rattle.scene.specs.Refusals.{CommandsRefusedIn}
use Rattle.scene.proofs.WorldLemmas.{roll-stays, scene-stays, may-stays, goes-beside, beside-apart}
use Rattle.scene.proofs.CountLemmas.{flat-same, all-same}
use Rattle.scene.proofs.CommandLemmas.{lead-played, all-refused}
use Rattle.scene.proofs.commands.run_commands.Goals as goal

pub returns-then-not-are_within-clause-refused : goal.returns-then-not-are_within-clause-refused
returns-then-not-are_within-clause-refused g c =
    let same : waiting_in g.R.DocumentRules.part_of c.in-Ok.queues.items ≡ waiting_at (kinds_of g.R.Value.SceneValue.places g.R.DocumentRules.part_of g.R.WorldRules.columns) c.args.input.now.places.now (seen_of c.args.world.now) =
    flat-same (λ queue. plain_commands g.R.DocumentRules.part_of (waiting queue)) (commands_of (kinds_of g.R.Value.SceneValue.places g.R.DocumentRules.part_of g.R.WorldRules.columns) (seen_of c.args.world.now)) c.in-Ok.queues.items c.args.input.now.places.now c.in-Ok.ensures.queues in
    let slice : length (waiting_in g.R.DocumentRules.part_of c.as_slice.result.now) ≡ length (waiting_at (kinds_of g.R.Value.SceneValue.places g.R.DocumentRules.part_of g.R.WorldRules.columns) c.args.input.now.places.now (seen_of c.args.world.now)) = ap (λ queues. length (waiting_in g.R.DocumentRules.part_of queues)) c.as_slice.ensures.value ∙ ap length same in
    let whole : length (plain_commands g.R.DocumentRules.part_of c.args.input.now.given.now ++ waiting_at (kinds_of g.R.Value.SceneValue.places g.R.DocumentRules.part_of g.R.WorldRules.columns) c.args.input.now.places.now (seen_of c.args.world.now)) ≡ length c.args.input.now.given.now + length (waiting_at (kinds_of g.R.Value.SceneValue.places g.R.DocumentRules.part_of g.R.WorldRules.columns) c.args.input.now.places.now (seen_of c.args.world.now)) =
    length-append (plain_commands g.R.DocumentRules.part_of c.args.input.now.given.now) (waiting_at (kinds_of g.R.Value.SceneValue.places g.R.DocumentRules.part_of g.R.WorldRules.columns) c.args.input.now.places.now (seen_of c.args.world.now)) ∙ ap (λ n. n + length (waiting_at (kinds_of g.R.Value.SceneValue.places g.R.DocumentRules.part_of g.R.WorldRules.columns) c.args.input.now.places.now (seen_of c.args.world.now))) (length-map c.args.input.now.given.now (plain_command g.R.DocumentRules.part_of)) in
    let over = c.are_within.ensures.over g.R.DocumentRules.part_of c.if-not-are_within.true in
    omega (arith, slice, whole, over)

pub act_out-requires-clause-may : goal.act_out-requires-clause-may
act_out-requires-clause-may g c = may-stays (kinds_of g.R.Value.SceneValue.places g.R.DocumentRules.part_of g.R.WorldRules.columns) g.met.R.WorldRules.apart c.args.input.now.places.now c.args.world.now c.take_queues.new.world c.in-Ok.ensures.beside c.requires.may

pub act_out-requires-clause-none : goal.act_out-requires-clause-none
act_out-requires-clause-none g c = subst NoneGone (sym (scene-stays (kinds_of g.R.Value.SceneValue.places g.R.DocumentRules.part_of g.R.WorldRules.columns) g.met.R.WorldRules.apart c.args.input.now.places.now c.args.world.now c.take_queues.new.world c.in-Ok.ensures.beside)) c.requires.none

pub act_out-requires-clause-lawful : goal.act_out-requires-clause-lawful
act_out-requires-clause-lawful g c =
    all-same (All (IsLawful (g.R.DocumentRules.book c.args.rules.now))) (λ queue. plain_commands g.R.DocumentRules.part_of (waiting queue)) (commands_of (kinds_of g.R.Value.SceneValue.places g.R.DocumentRules.part_of g.R.WorldRules.columns) (seen_of c.args.world.now)) c.in-Ok.queues.items c.args.input.now.places.now c.in-Ok.ensures.queues c.requires.lawful

pub returns-in-Ok-act_out-clause-accepted : goal.returns-in-Ok-act_out-clause-accepted
returns-in-Ok-act_out-clause-accepted g c =
    let same : waiting_in g.R.DocumentRules.part_of c.in-Ok.queues.items ≡ waiting_at (kinds_of g.R.Value.SceneValue.places g.R.DocumentRules.part_of g.R.WorldRules.columns) c.args.input.now.places.now (seen_of c.args.world.now) =
    flat-same (λ queue. plain_commands g.R.DocumentRules.part_of (waiting queue)) (commands_of (kinds_of g.R.Value.SceneValue.places g.R.DocumentRules.part_of g.R.WorldRules.columns) (seen_of c.args.world.now)) c.in-Ok.queues.items c.args.input.now.places.now c.in-Ok.ensures.queues in
    let slice : length (waiting_in g.R.DocumentRules.part_of c.as_slice.result.now) ≡ length (waiting_in g.R.DocumentRules.part_of c.in-Ok.queues.items) = ap (λ queues. length (waiting_in g.R.DocumentRules.part_of queues)) c.as_slice.ensures.value in
    let whole : length (plain_commands g.R.DocumentRules.part_of c.args.input.now.given.now ++ waiting_in g.R.DocumentRules.part_of c.in-Ok.queues.items) ≡ length c.args.input.now.given.now + length (waiting_in g.R.DocumentRules.part_of c.in-Ok.queues.items) =
    length-append (plain_commands g.R.DocumentRules.part_of c.args.input.now.given.now) (waiting_in g.R.DocumentRules.part_of c.in-Ok.queues.items) ∙ ap (λ n. n + length (waiting_in g.R.DocumentRules.part_of c.in-Ok.queues.items)) (length-map c.args.input.now.given.now (plain_command g.R.DocumentRules.part_of)) in
    let within = c.are_within.ensures.within g.R.DocumentRules.part_of c.if-not-are_within.false in
    let ran = c.in-Ok-act_out.ensures.ran in
    let scene = scene-stays (kinds_of g.R.Value.SceneValue.places g.R.DocumentRules.part_of g.R.WorldRules.columns) g.met.R.WorldRules.apart c.args.input.now.places.now c.args.world.now c.take_queues.new.world c.in-Ok.ensures.beside in (
      ran.0,
      subst (λ rest. CommandsAccepted (g.R.DocumentRules.book c.args.rules.now) c.args.input.now.limit (plain_commands g.R.DocumentRules.part_of c.args.input.now.given.now ++ rest) (plain_of (kinds_of g.R.Value.SceneValue.places g.R.DocumentRules.part_of g.R.WorldRules.columns) (seen_of c.args.world.now)) (plain_of (kinds_of g.R.Value.SceneValue.places g.R.DocumentRules.part_of g.R.WorldRules.columns) (seen_of c.act_out.new.world)) ran.0) same
          (subst (λ start. CommandsAccepted (g.R.DocumentRules.book c.args.rules.now) c.args.input.now.limit (plain_commands g.R.DocumentRules.part_of c.args.input.now.given.now ++ waiting_in g.R.DocumentRules.part_of c.in-Ok.queues.items) start (plain_of (kinds_of g.R.Value.SceneValue.places g.R.DocumentRules.part_of g.R.WorldRules.columns) (seen_of c.act_out.new.world)) ran.0) scene (record {
            within = omega (arith, slice, whole, within);
            played_on = subst (λ owning. play owning 1 (plain_commands g.R.DocumentRules.part_of c.args.input.now.given.now ++ waiting_in g.R.DocumentRules.part_of c.in-Ok.queues.items) (plain_of (kinds_of g.R.Value.SceneValue.places g.R.DocumentRules.part_of g.R.WorldRules.columns) (seen_of c.take_queues.new.world)) ≡ played (plain_of (kinds_of g.R.Value.SceneValue.places g.R.DocumentRules.part_of g.R.WorldRules.columns) (seen_of c.act_out.new.world)) ran.0) (same-owning g.R.Value.SceneValue.places g.R.DocumentRules.part_of g.R.WorldRules.columns (g.R.DocumentRules.book c.args.rules.now) (g.met.R.WorldRules.named_so c.args.rules.now))
                (lead-played (owning_in (kinds_of g.R.Value.SceneValue.places g.R.DocumentRules.part_of g.R.WorldRules.columns)) 1 (plain_commands g.R.DocumentRules.part_of c.args.input.now.given.now ++ waiting_in g.R.DocumentRules.part_of c.in-Ok.queues.items) (plain_of (kinds_of g.R.Value.SceneValue.places g.R.DocumentRules.part_of g.R.WorldRules.columns) (seen_of c.take_queues.new.world)) (plain_of (kinds_of g.R.Value.SceneValue.places g.R.DocumentRules.part_of g.R.WorldRules.columns) (seen_of c.act_out.new.world)) ran.0 ran.1);
            none_gone = c.in-Ok-act_out.ensures.none_gone;
          })),
      ran.2,
    )

pub returns-in-Ok-act_out-clause-apart : goal.returns-in-Ok-act_out-clause-apart
returns-in-Ok-act_out-clause-apart g c = beside-apart (kinds_of g.R.Value.SceneValue.places g.R.DocumentRules.part_of g.R.WorldRules.columns) g.met.R.WorldRules.apart c.args.input.now.places.now c.args.world.now c.take_queues.new.world c.act_out.new.world c.in-Ok.ensures.beside c.in-Ok-act_out.ensures.apart

pub returns-in-Ok-act_out-clause-goes_on : goal.returns-in-Ok-act_out-clause-goes_on
returns-in-Ok-act_out-clause-goes_on g c =
    goes-both (kinds_of g.R.Value.SceneValue.places g.R.DocumentRules.part_of g.R.WorldRules.columns) c.args.world.now c.take_queues.new.world c.act_out.new.world
    (goes-beside (kinds_of g.R.Value.SceneValue.places g.R.DocumentRules.part_of g.R.WorldRules.columns) g.met.R.WorldRules.apart c.args.input.now.places.now c.args.world.now c.take_queues.new.world c.in-Ok.ensures.beside) c.in-Ok-act_out.ensures.goes_on

pub returns-in-Err-clause-refused : goal.returns-in-Err-clause-refused
returns-in-Err-clause-refused g c =
    let same : waiting_in g.R.DocumentRules.part_of c.in-Ok.queues.items ≡ waiting_at (kinds_of g.R.Value.SceneValue.places g.R.DocumentRules.part_of g.R.WorldRules.columns) c.args.input.now.places.now (seen_of c.args.world.now) =
    flat-same (λ queue. plain_commands g.R.DocumentRules.part_of (waiting queue)) (commands_of (kinds_of g.R.Value.SceneValue.places g.R.DocumentRules.part_of g.R.WorldRules.columns) (seen_of c.args.world.now)) c.in-Ok.queues.items c.args.input.now.places.now c.in-Ok.ensures.queues in
    let slice : length (waiting_in g.R.DocumentRules.part_of c.as_slice.result.now) ≡ length (waiting_in g.R.DocumentRules.part_of c.in-Ok.queues.items) = ap (λ queues. length (waiting_in g.R.DocumentRules.part_of queues)) c.as_slice.ensures.value in
    let whole : length (plain_commands g.R.DocumentRules.part_of c.args.input.now.given.now ++ waiting_in g.R.DocumentRules.part_of c.in-Ok.queues.items) ≡ length c.args.input.now.given.now + length (waiting_in g.R.DocumentRules.part_of c.in-Ok.queues.items) =
    length-append (plain_commands g.R.DocumentRules.part_of c.args.input.now.given.now) (waiting_in g.R.DocumentRules.part_of c.in-Ok.queues.items) ∙ ap (λ n. n + length (waiting_in g.R.DocumentRules.part_of c.in-Ok.queues.items)) (length-map c.args.input.now.given.now (plain_command g.R.DocumentRules.part_of)) in
    let within = c.are_within.ensures.within g.R.DocumentRules.part_of c.if-not-are_within.false in
    let scene = scene-stays (kinds_of g.R.Value.SceneValue.places g.R.DocumentRules.part_of g.R.WorldRules.columns) g.met.R.WorldRules.apart c.args.input.now.places.now c.args.world.now c.take_queues.new.world c.in-Ok.ensures.beside in
    let kinds = kinds_of g.R.Value.SceneValue.places g.R.DocumentRules.part_of g.R.WorldRules.columns in
    subst (λ rest. CommandsRefusedIn kinds (g.R.DocumentRules.book c.args.rules.now) c.args.input.now.limit (roll_of kinds (seen_of c.args.world.now)) (plain_commands g.R.DocumentRules.part_of c.args.input.now.given.now ++ rest) (plain_of (kinds_of g.R.Value.SceneValue.places g.R.DocumentRules.part_of g.R.WorldRules.columns) (seen_of c.args.world.now)) c.in-Err.refusal) same
    (subst (λ start. CommandsRefusedIn kinds (g.R.DocumentRules.book c.args.rules.now) c.args.input.now.limit (roll_of kinds (seen_of c.args.world.now)) (plain_commands g.R.DocumentRules.part_of c.args.input.now.given.now ++ waiting_in g.R.DocumentRules.part_of c.in-Ok.queues.items) start c.in-Err.refusal) scene
    (subst (λ roll. CommandsRefusedIn kinds (g.R.DocumentRules.book c.args.rules.now) c.args.input.now.limit roll (plain_commands g.R.DocumentRules.part_of c.args.input.now.given.now ++ waiting_in g.R.DocumentRules.part_of c.in-Ok.queues.items) (plain_of kinds (seen_of c.take_queues.new.world)) c.in-Err.refusal)
    (roll-stays kinds g.met.R.WorldRules.apart c.args.input.now.places.now c.args.world.now c.take_queues.new.world c.in-Ok.ensures.beside)
    (all-refused (kinds_of g.R.Value.SceneValue.places g.R.DocumentRules.part_of g.R.WorldRules.columns) (g.R.DocumentRules.book c.args.rules.now) (same-owning g.R.Value.SceneValue.places g.R.DocumentRules.part_of g.R.WorldRules.columns (g.R.DocumentRules.book c.args.rules.now) (g.met.R.WorldRules.named_so c.args.rules.now)) c.args.input.now.limit (plain_commands g.R.DocumentRules.part_of c.args.input.now.given.now ++ waiting_in g.R.DocumentRules.part_of c.in-Ok.queues.items) c.take_queues.new.world (omega (arith, slice, whole, within)) c.in-Err.refusal c.in-Err.ensures.refused)))
