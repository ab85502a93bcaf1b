use Rattle.std.proofs.Common.{arith, ◌≡◌, ◌≤◌, ◌∙◌, ◌+◌, ◌++◌, refl, ap, sym, subst, suc, Some, All}
use Rattle.std.proofs.lemmas.Option.{none-some}
use Rattle.scene_model.specs.Commands.{skips_of}
use Rattle.scene_model.specs.Frames.{Accepts, Refuses}
use Rattle.scene_model.specs.Lawful.{IsLawful}
use Rattle.scene_model.specs.Scenes.{IsProper}
use Rattle.scene_model.specs.Queues.{plain_commands}
use Rattle.scene_document.specs.Loading.{commands_at}
use Rattle.scene_world.specs.Places.{kinds_of}
use Rattle.scene_world.specs.Turns.{placed_as}
use Rattle.scene_dispatch.specs.Orders.{turn_order}
use Rattle.scene.proofs.TurnLemmas.{told_first}
use Rattle.scene.proofs.CountingLemmas.{counts-exact, few-still}
use Rattle.scene_commands.specs.Acts.{seen_of}
use Rattle.scene_commands.specs.declared.watching.ReaderTurn.TheVariants.{Next}
use Rattle.scene.specs.Keeping.{is_touched}
use Rattle.scene.specs.Waiting.{AreTheirPlaces}
use Rattle.scene.specs.Running.{listed_scene, course_of, limit_in, Stands}
use Rattle.scene.proofs.frame.Scene.finish.Goals as goal

pub advance-requires-clause-places : goal.advance-requires-clause-places
advance-requires-clause-places g c =
    subst (λ places. AreTheirPlaces places (turn_order (placed_as (λ placed. placed.position) (λ placed. placed.system) g.R.DocumentRules.kind_of g.R.DocumentRules.config_of g.R.DocumentRules.declared g.R.Rules.sense g.R.Rules.does).plain c.args.self.now.dispatcher)) (sym c.as_slice-2.ensures.value) c.requires.under_way.places

pub advance-requires-clause-given : goal.advance-requires-clause-given
advance-requires-clause-given g c =
    subst (All (IsLawful (g.R.DocumentRules.book c.args.self.now.rules))) (sym (c.commands_for-given.ensures g.R.DocumentRules.part_of ∙ ap (λ lists. commands_at g.R.DocumentRules.part_of lists (c.args.self.now.report.frames + 1)) c.as_slice.ensures.value)) (c.requires.under_way.lawful (c.args.self.now.report.frames + 1))

pub returns-in-Ok-clause-ok : goal.returns-in-Ok-clause-ok
returns-in-Ok-clause-ok g c =
    let more : c.args.self.now.report.frames + 1 ≡ suc c.args.self.now.report.frames = omega arith in
    let none = c.requires.under_way.going in
    let given : plain_commands g.R.DocumentRules.part_of c.commands_for-given.result.now ≡ commands_at g.R.DocumentRules.part_of c.args.self.now.commands.items (c.args.self.now.report.frames + 1) = c.commands_for-given.ensures g.R.DocumentRules.part_of ∙ ap (λ lists. commands_at g.R.DocumentRules.part_of lists (c.args.self.now.report.frames + 1)) c.as_slice.ensures.value in
    let accepted = c.in-Ok.ensures.accepted in
    let skips : c.from_vec.result ≡ c.args.self.now.report.skips ++ skips_of (suc c.args.self.now.report.frames) accepted.0 =
    c.from_vec.ensures ∙ accepted.2 ∙ ap (λ old. old ++ skips_of (c.args.self.now.report.frames + 1) accepted.0) (c.into_vec-skips.ensures ∙ c.replace.ensures.value) ∙ ap (λ n. c.args.self.now.report.skips ++ skips_of n accepted.0) more in
    record {
      was_going = none;
      accepted = (
        accepted.0,
        subst (λ n. Accepts (g.R.DocumentRules.book c.args.self.now.rules) c.args.self.now.limit.commands (course_of g.R.DocumentRules.part_of (turn_order (placed_as (λ placed. placed.position) (λ placed. placed.system) g.R.DocumentRules.kind_of g.R.DocumentRules.config_of g.R.DocumentRules.declared g.R.Rules.sense g.R.Rules.does).plain c.args.self.now.dispatcher) c.args.self.now.commands.items n) (listed_scene g.R.DocumentRules.part_of g.R.DocumentRules.global_of (g.R.DocumentRules.book c.args.self.now.rules) c.args.self.now.kept) (listed_scene g.R.DocumentRules.part_of g.R.DocumentRules.global_of (g.R.DocumentRules.book c.args.self.now.rules) c.advance.new.kept) accepted.0) more
            (subst (λ commands. Accepts (g.R.DocumentRules.book c.args.self.now.rules) c.args.self.now.limit.commands (record { order = turn_order (placed_as (λ placed. placed.position) (λ placed. placed.system) g.R.DocumentRules.kind_of g.R.DocumentRules.config_of g.R.DocumentRules.declared g.R.Rules.sense g.R.Rules.does).plain c.args.self.now.dispatcher; commands = commands }) (listed_scene g.R.DocumentRules.part_of g.R.DocumentRules.global_of (g.R.DocumentRules.book c.args.self.now.rules) c.args.self.now.kept) (listed_scene g.R.DocumentRules.part_of g.R.DocumentRules.global_of (g.R.DocumentRules.book c.args.self.now.rules) c.advance.new.kept) accepted.0) given accepted.1),
        λ i. record { frames = more i; skips = skips i; refused = none i },
      );
      course = record { frames = refl; limit = refl; asked = refl };
    }

pub returns-in-Ok-clause-changes : goal.returns-in-Ok-clause-changes
returns-in-Ok-clause-changes g c =
    let fits : c.args.self.now.asked ≤ 4294967295 = grind arith in
    let kinds = kinds_of g.R.Value.SceneValue.places g.R.DocumentRules.part_of g.R.WorldRules.columns in
    counts-exact (is_touched kinds Next kinds.part_names c.args.self.now.watchers (seen_of c.advance.new.world)) c.args.self.now.kept c.advance.new.kept c.args.self.now.report.frames c.args.self.now.asked
    c.requires.under_way.few c.requires.left fits c.in-Ok.ensures.changes

pub returns-in-Ok-clause-ready : goal.returns-in-Ok-clause-ready
returns-in-Ok-clause-ready g c =
    let fits : c.args.self.now.asked ≤ 4294967295 = grind arith in
    let stands = subst (λ places. Stands (kinds_of g.R.Value.SceneValue.places g.R.DocumentRules.part_of g.R.WorldRules.columns) (placed_as (λ placed. placed.position) (λ placed. placed.system) g.R.DocumentRules.kind_of g.R.DocumentRules.config_of g.R.DocumentRules.declared g.R.Rules.sense g.R.Rules.does) (g.R.DocumentRules.book c.args.self.now.rules) c.args.self.now.dispatcher c.advance.new.world places (listed_scene g.R.DocumentRules.part_of g.R.DocumentRules.global_of (g.R.DocumentRules.book c.args.self.now.rules) c.advance.new.kept)) c.as_slice-2.ensures.value c.in-Ok.ensures.stands in
    record {
      stands = λ none. stands;
      kept = λ none. c.in-Ok.ensures.full;
      under = λ none. c.in-Ok.ensures.under (limit_in c.args.self.now) c.requires.under_way.under;
      lawful = c.requires.under_way.lawful;
      proper = subst (IsProper (g.R.DocumentRules.book c.args.self.now.rules)) stands.same stands.ready.world.proper;
      few = let kinds = kinds_of g.R.Value.SceneValue.places g.R.DocumentRules.part_of g.R.WorldRules.columns in
          few-still (is_touched kinds Next kinds.part_names c.args.self.now.watchers (seen_of c.advance.new.world)) c.args.self.now.kept c.advance.new.kept c.args.self.now.report.frames c.args.self.now.asked
          c.requires.under_way.few c.requires.left fits c.in-Ok.ensures.changes;
    }

pub returns-in-Err-clause-err : goal.returns-in-Err-clause-err
returns-in-Err-clause-err g c =
    let more : c.args.self.now.report.frames + 1 ≡ suc c.args.self.now.report.frames = omega arith in
    let given : plain_commands g.R.DocumentRules.part_of c.commands_for-given.result.now ≡ commands_at g.R.DocumentRules.part_of c.args.self.now.commands.items (c.args.self.now.report.frames + 1) = c.commands_for-given.ensures g.R.DocumentRules.part_of ∙ ap (λ lists. commands_at g.R.DocumentRules.part_of lists (c.args.self.now.report.frames + 1)) c.as_slice.ensures.value in
    let skips = c.from_vec-in-Err.ensures ∙ c.in-Err.ensures.skips ∙ c.into_vec-skips.ensures ∙ c.replace.ensures.value in
    record {
      scene = c.in-Err.ensures.kept;
      course = record { frames = refl; limit = refl; asked = refl };
      told = told_first _ c.args.self.now.report.refused c.requires.under_way.going (
        c.in-Err.cause,
        record {
          refused = subst (λ n. Refuses (g.R.DocumentRules.book c.args.self.now.rules) (limit_in c.args.self.now) (course_of g.R.DocumentRules.part_of (turn_order (placed_as (λ placed. placed.position) (λ placed. placed.system) g.R.DocumentRules.kind_of g.R.DocumentRules.config_of g.R.DocumentRules.declared g.R.Rules.sense g.R.Rules.does).plain c.args.self.now.dispatcher) c.args.self.now.commands.items n) (listed_scene g.R.DocumentRules.part_of g.R.DocumentRules.global_of (g.R.DocumentRules.book c.args.self.now.rules) c.args.self.now.kept) c.in-Err.cause) more
              (subst (λ commands. Refuses (g.R.DocumentRules.book c.args.self.now.rules) (limit_in c.args.self.now) (record { order = turn_order (placed_as (λ placed. placed.position) (λ placed. placed.system) g.R.DocumentRules.kind_of g.R.DocumentRules.config_of g.R.DocumentRules.declared g.R.Rules.sense g.R.Rules.does).plain c.args.self.now.dispatcher; commands = commands }) (listed_scene g.R.DocumentRules.part_of g.R.DocumentRules.global_of (g.R.DocumentRules.book c.args.self.now.rules) c.args.self.now.kept) c.in-Err.cause) given (c.in-Err.ensures.refused (limit_in c.args.self.now) refl c.requires.under_way.under));
          report = λ i. record { frames = c.args.self.now.report.frames; skips = skips i; refused = Some (more i, c.in-Err.cause) };
        },
      );
    }

pub returns-in-Err-clause-ready : goal.returns-in-Err-clause-ready
returns-in-Err-clause-ready g c = record {
  stands = λ none. absurd (none-some (c.args.self.now.report.frames + 1, c.in-Err.cause) (sym none));
  kept = λ none. absurd (none-some (c.args.self.now.report.frames + 1, c.in-Err.cause) (sym none));
  under = λ none. absurd (none-some (c.args.self.now.report.frames + 1, c.in-Err.cause) (sym none));
  lawful = c.requires.under_way.lawful;
  proper = subst (IsProper (g.R.DocumentRules.book c.args.self.now.rules)) (sym c.in-Err.ensures.kept) c.requires.under_way.proper;
  few = let few = c.requires.under_way.few in let same = c.in-Err.ensures.unchanged in omega (arith, few, same);
}
