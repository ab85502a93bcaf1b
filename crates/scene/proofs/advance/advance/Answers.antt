use Rattle.std.proofs.Common.{◌≡◌, ◌∙◌, ◌++◌, Ok, Err, length, take, refl, ap, sym, subst, arith}
use Rattle.std.proofs.Math.Seq.{take-append_seam}
use Rattle.std.specs.Result.{IsOk}
use Rattle.scene_model.specs.Commands.{skips_of}
use Rattle.scene_model.specs.Frames.{Accepts}
use Rattle.scene_model.specs.Scenes.{PlainFrame}
use Rattle.scene_model.specs.Queues.{plain_commands}
use Rattle.scene_world.specs.Places.{kinds_of}
use Rattle.scene_world.specs.Turns.{placed_as}
use Rattle.scene_world.specs.Standing.{roll_of, plain_of}
use Rattle.scene_commands.specs.Acts.{seen_of}
use Rattle.scene_dispatch.specs.Orders.{turn_order}
use Rattle.scene.specs.Keeping.{IsFullByIndex, CountsMore, changes_at}
use Rattle.scene.specs.Running.{listed_scene, value_at}
use Rattle.scene_commands.specs.Bounds.{IsBounded}
use Rattle.scene.specs.Refusals.{RefusedIn}
use Rattle.scene.proofs.FrameLemmas.{refused-under, under-on, told-as}
use Rattle.scene.proofs.EntryLemmas.{same-kept}
use Rattle.scene.proofs.TellingLemmas.{told-since, telling-on, alike-on, all-ended, touched-left, full-still, below-still}
use Rattle.scene.proofs.advance.advance.Goals as goal

pub returns-in_err-finish_frame-clause-refused : goal.returns-in_err-finish_frame-clause-refused
returns-in_err-finish_frame-clause-refused g c =
    let failed : c.from_residual.result ≡ Err c.in_err-finish_frame.field-0.0 = grind arith in
    let scene = listed_scene g.R.DocumentRules.part_of g.R.DocumentRules.global_of (g.R.DocumentRules.book c.args.rules.now) c.args.kept.now in
    let frame : PlainFrame = record { order = turn_order (placed_as (λ placed. placed.position) (λ placed. placed.system) g.R.DocumentRules.kind_of g.R.DocumentRules.config_of g.R.DocumentRules.declared g.R.Rules.sense g.R.Rules.does).plain c.args.dispatcher.now; commands = plain_commands g.R.DocumentRules.part_of c.args.input.now.given.now } in
    let kinds = kinds_of g.R.Value.SceneValue.places g.R.DocumentRules.part_of g.R.WorldRules.columns in
    let meaning = placed_as (λ placed. placed.position) (λ placed. placed.system) g.R.DocumentRules.kind_of g.R.DocumentRules.config_of g.R.DocumentRules.declared g.R.Rules.sense g.R.Rules.does in
    let cause = c.in_err-finish_frame.field-0.0 in
    rw failed (λ limit same under. refused-under kinds meaning (g.R.DocumentRules.book c.args.rules.now) limit c.args.dispatcher.now c.args.world.now frame.commands scene c.args.outcome cause
    (c.a_refusal_in_a_world_is_one_of_the_scene.ensures limit (roll_of kinds (seen_of c.args.world.now)) frame scene cause) c.requires.come under
    (told-as c.args.outcome (Err cause) c.in_err-finish_frame.ensures.systems) c.in_err-finish_frame.ensures.threads
    (subst (λ n. RefusedIn kinds (g.R.DocumentRules.book c.args.rules.now) n (roll_of kinds (seen_of c.args.world.now)) frame scene cause) same (c.in_err-finish_frame.ensures.refused scene c.requires.come)))

pub keep_changes-requires : goal.keep_changes-requires
keep_changes-requires g c =
    let was = c.requires.since.1 in
    let w = c.requires.since.0 in
    let begun = c.requires.since.2 in
    let named = g.met.R.WorldRules.named_so c.args.rules.now in
    record {
      stands = let ready = c.in_ok-finish_frame.ensures.ready in ready.world;
      many = begun.many;
      since = (
        seen_of w,
        (
          was.stands,
          (
            was.below,
            (
              subst (λ names. IsFullByIndex (kinds_of g.R.Value.SceneValue.places g.R.DocumentRules.part_of g.R.WorldRules.columns) g.R.DocumentRules.part_of names c.args.kept.now (seen_of w)) (sym named.parts) was.full,
              told-since (kinds_of g.R.Value.SceneValue.places g.R.DocumentRules.part_of g.R.WorldRules.columns) c.args.watchers.now w c.finish_frame.new.world begun was.telling (c.in_ok-finish_frame.ensures.goes_on w c.requires.since.3),
            ),
          ),
        ),
      );
    }

pub catch_up_world-requires : goal.catch_up_world-requires
catch_up_world-requires g c =
    let was = c.requires.since.1 in
    let w = c.requires.since.0 in
    let begun = c.requires.since.2 in
    record {
      many = begun.many;
      telling = telling-on (kinds_of g.R.Value.SceneValue.places g.R.DocumentRules.part_of g.R.WorldRules.columns) c.args.watchers.now w c.finish_frame.new.world begun was.telling (c.in_ok-finish_frame.ensures.goes_on w c.requires.since.3);
    }

pub returns-in-Ok-clause-accepted : goal.returns-in-Ok-clause-accepted
returns-in-Ok-clause-accepted g c =
    let start = listed_scene g.R.DocumentRules.part_of g.R.DocumentRules.global_of (g.R.DocumentRules.book c.args.rules.now) c.args.kept.now in
    let accepted = c.in_ok-finish_frame.ensures.accepted start c.requires.come in
    let frame : PlainFrame = record { order = turn_order (placed_as (λ placed. placed.position) (λ placed. placed.system) g.R.DocumentRules.kind_of g.R.DocumentRules.config_of g.R.DocumentRules.declared g.R.Rules.sense g.R.Rules.does).plain c.args.dispatcher.now; commands = plain_commands g.R.DocumentRules.part_of c.args.input.now.given.now } in
    let kept : listed_scene g.R.DocumentRules.part_of g.R.DocumentRules.global_of (g.R.DocumentRules.book c.args.rules.now) c.keep_changes.new.kept ≡ plain_of (kinds_of g.R.Value.SceneValue.places g.R.DocumentRules.part_of g.R.WorldRules.columns) (seen_of c.finish_frame.new.world) = c.in-Ok.ensures.scene in (
      accepted.0,
      subst (λ after. Accepts (g.R.DocumentRules.book c.args.rules.now) c.args.input.now.limit frame start after accepted.0) (sym kept) accepted.1,
      accepted.2,
    )

pub returns-in-Ok-clause-stands : goal.returns-in-Ok-clause-stands
returns-in-Ok-clause-stands g c =
    let mid = c.finish_frame.new.world in
    let later = c.catch_up_world.new.world in
    let stays = c.catch_up_world.ensures.stays in
    let law = c.events_are_no_part_of_a_scene.ensures in
    let ready = c.in_ok-finish_frame.ensures.ready in
    record {
      ready = record { world = law.stands mid later stays ready.world; staged = ready.staged; locals = ready.locals };
      none = λ position. law.queues mid later position stays ∙ c.in_ok-finish_frame.ensures.none position;
      places = c.requires.places;
      same = law.scene mid later stays ∙ sym c.in-Ok.ensures.scene;
    }

pub returns-in-Ok-clause-full : goal.returns-in-Ok-clause-full
returns-in-Ok-clause-full g c =
    let mid = c.finish_frame.new.world in
    let later = c.catch_up_world.new.world in
    let caught = c.catch_up_world.ensures in
    let law = c.events_are_no_part_of_a_scene.ensures in
    let ready = c.in_ok-finish_frame.ensures.ready in
    let named = g.met.R.WorldRules.named_so c.args.rules.now in
    record {
      stands = law.stands mid later caught.stays ready.world;
      below = below-still (kinds_of g.R.Value.SceneValue.places g.R.DocumentRules.part_of g.R.WorldRules.columns) (seen_of mid) (seen_of later) (law.roll mid later caught.stays) c.in-Ok.ensures.below;
      full = subst (λ names. IsFullByIndex (kinds_of g.R.Value.SceneValue.places g.R.DocumentRules.part_of g.R.WorldRules.columns) g.R.DocumentRules.part_of names c.keep_changes.new.kept (seen_of later)) named.parts
          (full-still (kinds_of g.R.Value.SceneValue.places g.R.DocumentRules.part_of g.R.WorldRules.columns) (seen_of mid) (seen_of later) (law.roll mid later caught.stays) caught.stays g.R.DocumentRules.part_of c.keep_changes.new.kept c.in-Ok.ensures.full);
      watched = all-ended (kinds_of g.R.Value.SceneValue.places g.R.DocumentRules.part_of g.R.WorldRules.columns) c.args.watchers.now (seen_of mid) (seen_of later) caught.caught
          (alike-on (kinds_of g.R.Value.SceneValue.places g.R.DocumentRules.part_of g.R.WorldRules.columns) c.args.watchers.now c.requires.since.0 mid c.requires.since.2 (let was = c.requires.since.1 in was.telling) (c.in_ok-finish_frame.ensures.goes_on c.requires.since.0 c.requires.since.3));
      telling = caught.telling;
    }

pub returns-in-Ok-clause-changes : goal.returns-in-Ok-clause-changes
returns-in-Ok-clause-changes g c =
    let mid = c.finish_frame.new.world in
    let later = c.catch_up_world.new.world in
    let alike = alike-on (kinds_of g.R.Value.SceneValue.places g.R.DocumentRules.part_of g.R.WorldRules.columns) c.args.watchers.now c.requires.since.0 mid c.requires.since.2 (let was = c.requires.since.1 in was.telling) (c.in_ok-finish_frame.ensures.goes_on c.requires.since.0 c.requires.since.3) in
    subst (λ touched. CountsMore c.args.kept.now.changes (changes_at touched c.args.kept.now c.keep_changes.new.kept) c.keep_changes.new.kept.changes)
    (sym (touched-left (kinds_of g.R.Value.SceneValue.places g.R.DocumentRules.part_of g.R.WorldRules.columns) c.args.watchers.now (seen_of mid) (seen_of later) c.catch_up_world.ensures.caught alike)) c.in-Ok.ensures.changes

pub returns-in-Err-clause-unchanged : goal.returns-in-Err-clause-unchanged
returns-in-Err-clause-unchanged g c = let same = c.in-Err.ensures.refused in same.changes

pub returns-in-Err-clause-kept : goal.returns-in-Err-clause-kept
returns-in-Err-clause-kept g c = same-kept g.R.DocumentRules.part_of g.R.DocumentRules.global_of value_at (g.R.DocumentRules.book c.args.rules.now) c.args.kept.now c.keep_changes.new.kept c.in-Err.ensures.refused

pub returns-in-Err-clause-skips : goal.returns-in-Err-clause-skips
returns-in-Err-clause-skips g c =
    let start = listed_scene g.R.DocumentRules.part_of g.R.DocumentRules.global_of (g.R.DocumentRules.book c.args.rules.now) c.args.kept.now in
    let accepted = c.in_ok-finish_frame.ensures.accepted start c.requires.come in
    let more = skips_of c.args.input.now.number accepted.0 in
    let noted : c.len-noted.result ≡ length c.args.skips.now.items = omega (arith, c.len-noted.ensures) in
    c.truncate.ensures.items ∙ ap (take c.len-noted.result) accepted.2 ∙ ap (λ count. take count (c.args.skips.now.items ++ more)) noted ∙ take-append_seam c.args.skips.now.items more

pub returns-in-Ok-clause-under : goal.returns-in-Ok-clause-under
returns-in-Ok-clause-under g c = λ limit under.
    let kinds = kinds_of g.R.Value.SceneValue.places g.R.DocumentRules.part_of g.R.WorldRules.columns in
    let law = c.events_are_no_part_of_a_scene.ensures in
    let is : c.finish_frame.result ≡ Ok c.in_ok-finish_frame.field-0 = grind arith in
    subst (IsBounded limit.indices limit.generation limit.unlisted) (sym (law.roll c.finish_frame.new.world c.catch_up_world.new.world c.catch_up_world.ensures.stays))
    (under-on kinds limit c.args.world.now c.finish_frame.new.world c.args.outcome c.finish_frame.result under c.finish_frame.ensures.systems (subst (λ r. IsOk r) (sym is) refl) (c.in_ok-finish_frame.ensures.goes_on c.args.world.now))
