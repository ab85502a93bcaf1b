use Rattle.std.proofs.Common.{◌≡◌, unsigned_abs, rules, w32, ap, refl, sym, ◌∙◌, subst, arith}
use Rattle.std.proofs.Math.Path.{fun_ext}
use Rattle.std.proofs.lemmas.Int.{to_z-of_z}
use Rattle.scene_model.specs.Scenes.{IsProper}
use Rattle.scene_document.specs.Openings.{first_scene}
use Rattle.scene_world.specs.Places.{kinds_of}
use Rattle.scene_commands.specs.Acts.{seen_of}
use Rattle.scene.specs.Keeping.{IsFullByIndex}
use Rattle.scene_model.specs.Bounds.{FrameLimit}
use Rattle.scene_world.specs.Standing.{roll_of}
use Rattle.scene_commands.specs.Bounds.{IsBounded, unlisted_in}
use Rattle.scene.specs.Limits.{bounds_of}
use Rattle.scene.specs.Running.{listed_scene}
use Rattle.scene.proofs.TellingLemmas.{first-read, frame-read}
use Rattle.scene.proofs.TurnLemmas.{is_opening, is_nothing_yet, limit_is}
use Rattle.scene.proofs.frame.Scene.keeping.Goals as goal

pub keep_scene-requires : goal.keep_scene-requires
keep_scene-requires g c = let law = c.events_are_no_part_of_a_scene.ensures in record { stands = law.stands c.args.opened.world c.watch_world.new.world c.in-Ok.ensures.stays c.requires.placed.1.stands }

pub returns : goal.returns
returns g c = λ json placed.
    let was = c.args.opened.world in
    let now = c.watch_world.new.world in
    let watched = c.in-Ok.ensures in
    let kept = c.in-Ok-keep_scene.ensures in
    let law = c.events_are_no_part_of_a_scene.ensures in
    let named = g.met.R.WorldRules.named_so c.args.rules in
    let scene : listed_scene g.R.DocumentRules.part_of g.R.DocumentRules.global_of (g.R.DocumentRules.book c.args.rules) c.in-Ok-keep_scene.kept ≡ first_scene placed.draft = kept.scene ∙ law.scene was now watched.stays ∙ placed.scene in
    let kinds = kinds_of g.R.Value.SceneValue.places g.R.DocumentRules.part_of g.R.WorldRules.columns in
    let births : c.unsigned_abs-births.result ≡ unsigned_abs c.args.limits.generation = c.unsigned_abs-births.ensures.value ∙ ap unsigned_abs (to_z-of_z w32 c.args.limits.generation (search rules)) in
    let same_limit = limit_is (bounds_of c.args.limits) placed.draft c.unsigned_abs-births.result c.args.opened.unlisted c.args.opened.course.dispatcher.workers births placed.unlisted placed.workers in
    record {
      same_rules = refl;
      ready = record {
        stands = λ none. record {
          ready = record { world = law.stands was now watched.stays placed.stands; staged = placed.staged; locals = placed.locals };
          none = λ position. law.queues was now position watched.stays ∙ placed.none position;
          places = placed.places;
          same = sym kept.scene;
        };
        kept = λ none. record {
          stands = law.stands was now watched.stays placed.stands;
          below = kept.below;
          full = subst (λ names. IsFullByIndex (kinds_of g.R.Value.SceneValue.places g.R.DocumentRules.part_of g.R.WorldRules.columns) g.R.DocumentRules.part_of names c.in-Ok-keep_scene.kept (seen_of now)) named.parts kept.full;
          watched = let kinds = kinds_of g.R.Value.SceneValue.places g.R.DocumentRules.part_of g.R.WorldRules.columns in frame-read kinds c.in-Ok.watchers (seen_of now) (first-read kinds c.in-Ok.watchers (seen_of now) watched.watched);
          telling = watched.telling;
        };
        under = λ none.
            subst (λ (limit : FrameLimit). IsBounded limit.indices limit.generation limit.unlisted (roll_of kinds (seen_of now))) (sym same_limit)
            (subst (IsBounded c.args.limits.indices (unsigned_abs c.args.limits.generation) (unlisted_in placed.draft)) (sym (law.roll was now watched.stays)) placed.under);
        lawful = placed.lawful;
        proper = subst (IsProper (g.R.DocumentRules.book c.args.rules)) (sym scene) placed.begins.proper;
        few = let few = kept.few in omega (arith, few);
      };
      document = (
        placed.draft,
        placed.is,
        is_opening (bounds_of c.args.limits) placed.draft _ scene (fun_ext (λ number. sym (placed.frames number))) same_limit placed.asked (is_nothing_yet _ (c.from_vec.ensures ∙ c.new.ensures.items)),
        placed.begins,
      );
    }
