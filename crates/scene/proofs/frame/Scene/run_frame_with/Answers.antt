use Rattle.std.proofs.Common.{◌∙◌, sym, subst}
use Rattle.std.proofs.lemmas.Result.{on_ok_weaker, on_err_weaker}
use Rattle.scene_world.specs.Places.{kinds_of}
use Rattle.scene_world.specs.Turns.{placed_as}
use Rattle.scene.specs.Waiting.{AreTheirPlaces}
use Rattle.scene.specs.Turns.{Advances, Stays}
use Rattle.scene_commands.specs.Bounds.{IsBounded}
use Rattle.scene.specs.Coming.{StaysUnder}
use Rattle.scene.specs.Running.{shown_of, limit_in}
use Rattle.scene.proofs.TurnLemmas.{none_there}
use Rattle.scene.proofs.TellingLemmas.{begun-stands}
use Rattle.scene.proofs.FrameLemmas.{have-come, come-goes, come-under, wants-none, same-shown}
use Rattle.scene.proofs.frame.Scene.run_frame_with.Goals as goal

pub finish-requires-clause-under_way : goal.finish-requires-clause-under_way
finish-requires-clause-under_way g c =
    let kinds = kinds_of g.R.Value.SceneValue.places g.R.DocumentRules.part_of g.R.WorldRules.columns in
    let meaning = placed_as (λ placed. placed.position) (λ placed. placed.system) g.R.DocumentRules.kind_of g.R.DocumentRules.config_of g.R.DocumentRules.declared g.R.Rules.sense g.R.Rules.does in
    let shown = shown_of kinds g.R.DocumentRules.part_of g.R.DocumentRules.global_of meaning g.R.DocumentRules.book in
    let book = g.R.DocumentRules.book c.args.self.now.rules in
    let order = c.run_systems_with-outcome.ensures.order in
    let going = none_there c.args.self.now.report.refused (sym c.is_over.ensures ∙ c.if-is_over.false) in
    let was = c.args.self.now.world in
    let begun = c.begin_frame.new.world in
    let kept = c.requires.ready.kept going in
    let stands = begun-stands kinds meaning book c.args.self.now.dispatcher was begun c.args.self.now.places.items _ c.begin_frame.ensures.stands c.begin_frame.ensures.none c.begin_frame.ensures.scene (c.requires.ready.stands going) in
    record {
      going = going;
      come = have-come kinds meaning book c.args.self.now.dispatcher c.run_systems_with-outcome.new.self begun c.run_systems_with-outcome.new.world _ c.run_systems_with-outcome.result stands.none stands.same order (c.run_systems_with-outcome.ensures.comes stands.ready);
      since = (
        begun,
        c.begin_frame.ensures.kept c.args.self.now.kept kept,
        c.begin_frame.ensures.begun,
        come-goes kinds meaning book c.args.self.now.dispatcher c.run_systems_with-outcome.new.self begun c.run_systems_with-outcome.new.world c.run_systems_with-outcome.result (c.run_systems_with-outcome.ensures.comes stands.ready),
      );
      under = subst (λ workers. StaysUnder kinds (record { commands = c.args.self.now.limit.commands; indices = c.args.self.now.limit.indices; generation = c.args.self.now.limit.generation; unlisted = c.args.self.now.limit.unlisted; workers = workers }) c.run_systems_with-outcome.new.world c.run_systems_with-outcome.result) (sym c.run_systems_with-outcome.ensures.workers)
          (come-under kinds meaning book c.args.self.now.dispatcher c.run_systems_with-outcome.new.self (limit_in c.args.self.now) begun c.run_systems_with-outcome.new.world c.run_systems_with-outcome.result (c.run_systems_with-outcome.ensures.comes stands.ready)
          (subst (IsBounded c.args.self.now.limit.indices c.args.self.now.limit.generation c.args.self.now.limit.unlisted) (sym c.begin_frame.ensures.roll) (c.requires.ready.under going))
          (wants-none c.run_systems_with-outcome.result c.args.self.now.dispatcher.workers c.run_systems_with-outcome.ensures.threads));
      places = subst (AreTheirPlaces c.args.self.now.places.items) (sym order) stands.places;
      lawful = c.requires.ready.lawful;
      proper = c.requires.ready.proper;
      few = c.requires.ready.few;
    }

pub begin_frame-requires : goal.begin_frame-requires
begin_frame-requires g c =
    let going = none_there c.args.self.now.report.refused (sym c.is_over.ensures ∙ c.if-is_over.false) in
    let kept = c.requires.ready.kept going in
    record { readers = kept.watched; telling = kept.telling }

pub returns-clause-ok : goal.returns-clause-ok
returns-clause-ok g c =
    let kinds = kinds_of g.R.Value.SceneValue.places g.R.DocumentRules.part_of g.R.WorldRules.columns in
    let meaning = placed_as (λ placed. placed.position) (λ placed. placed.system) g.R.DocumentRules.kind_of g.R.DocumentRules.config_of g.R.DocumentRules.declared g.R.Rules.sense g.R.Rules.does in
    let shown = shown_of kinds g.R.DocumentRules.part_of g.R.DocumentRules.global_of meaning g.R.DocumentRules.book in
    let book = g.R.DocumentRules.book c.args.self.now.rules in
    let order = c.run_systems_with-outcome.ensures.order in
    on_ok_weaker c.finish.result (λ advances. subst (λ start. Advances book start (shown c.finish.new.self)) (same-shown kinds g.R.DocumentRules.part_of g.R.DocumentRules.global_of meaning g.R.DocumentRules.book c.args.self.now c.run_systems_with-outcome.new.self c.run_systems_with-outcome.new.world order c.run_systems_with-outcome.ensures.workers) advances) c.finish.ensures.ok

pub returns-clause-err : goal.returns-clause-err
returns-clause-err g c =
    let kinds = kinds_of g.R.Value.SceneValue.places g.R.DocumentRules.part_of g.R.WorldRules.columns in
    let meaning = placed_as (λ placed. placed.position) (λ placed. placed.system) g.R.DocumentRules.kind_of g.R.DocumentRules.config_of g.R.DocumentRules.declared g.R.Rules.sense g.R.Rules.does in
    let shown = shown_of kinds g.R.DocumentRules.part_of g.R.DocumentRules.global_of meaning g.R.DocumentRules.book in
    let book = g.R.DocumentRules.book c.args.self.now.rules in
    let order = c.run_systems_with-outcome.ensures.order in
    on_err_weaker c.finish.result (λ stays. subst (λ start. Stays book start (shown c.finish.new.self)) (same-shown kinds g.R.DocumentRules.part_of g.R.DocumentRules.global_of meaning g.R.DocumentRules.book c.args.self.now c.run_systems_with-outcome.new.self c.run_systems_with-outcome.new.world order c.run_systems_with-outcome.ensures.workers) stays) c.finish.ensures.err
