use Rattle.std.proofs.Common.{◌≡◌, ℕ, map, arith, true, false, None, is_none, sym, ◌∙◌, ap, subst, All}
use Rattle.scene_model.specs.Scenes.{lives}
use Rattle.scene_model.specs.Stores.{store_named}
use Rattle.scene_document.specs.DraftViews.{plain_draft}
use Rattle.scene_document.specs.Openings.{frames_of, all_systems}
use Rattle.scene_document.proofs.CallerLemmas.{unrefused, few-entries, store-known}
use Rattle.scene_world.specs.Turns.{placed_as}
use Rattle.scene_dispatch.specs.Orders.{turn_order}
use Rattle.scene.specs.Waiting.{PlacesAscend}
use Rattle.scene.specs.Running.{course_of}
use Rattle.scene.proofs.AloneLemmas.{draft-alone}
use Rattle.scene.proofs.PlaceLemmas.{places-ascend, order-there, order-described}
use Rattle.scene.proofs.load.prepare_draft.Goals as goal

pub places_of_systems-requires : goal.places_of_systems-requires
places_of_systems-requires g c =
    let document = c.requires.document in
    let few = few-entries g.R.DocumentRules.part_of g.R.DocumentRules.global_of g.R.DocumentRules.kind_of g.R.DocumentRules.config_of (g.R.DocumentRules.book c.args.rules.now) document.indices document.plain c.args.draft document.says (unrefused (g.R.DocumentRules.book c.args.rules.now) document.indices document.json document.plain document.is) in
    record { few = omega (arith, few, c.as_slice.ensures.len) }

-- the store of a document against which no refusal stands has a name
pub returns-in_default-store : goal.returns-in_default-store
returns-in_default-store g c =
    let document = c.requires.document in
    let known = store-known document.indices document.plain (unrefused (g.R.DocumentRules.book c.args.rules.now) document.indices document.json document.plain document.is) in
    let none : store_named document.plain.store ≡ None = document.says.store ∙ c.in_default-store.is in
    let both : true ≡ false = sym (ap is_none none) ∙ known in
    absurd cc

pub returns : goal.returns
returns g c = λ limits json draft is says.
    let drawn = c.in-Ok-course_of.ensures in
    let order = (turn_order (placed_as (λ placed. placed.position) (λ placed. placed.system) g.R.DocumentRules.kind_of g.R.DocumentRules.config_of g.R.DocumentRules.declared g.R.Rules.sense g.R.Rules.does).plain c.in-Ok-course_of.course.dispatcher) in
    let frames : (frame : ℕ) → frames_of draft frame ≡ course_of g.R.DocumentRules.part_of order c.in-Ok-course_of.course.commands.items frame = λ frame. drawn.frames draft frame says in
    let places = c.in-Ok.ensures draft (says.entries ∙ ap (map plain_draft) (sym c.as_slice.ensures.value)) in
    record {
      draft = draft;
      is = is;
      says = draft-alone g.R.DocumentRules.part_of g.R.DocumentRules.global_of g.R.DocumentRules.kind_of g.R.DocumentRules.config_of (g.R.DocumentRules.book c.args.rules.now) draft c.args.draft c.in-Ok-course_of.draft says drawn.alone;
      places = record {
        ascend = subst PlacesAscend (sym places) (places-ascend draft);
        there = subst (λ list. All (λ system. lives system.position list ≡ true) order) (sym places) (subst (All (λ system. lives system.position (map (λ one. one.position) (all_systems draft)) ≡ true)) (ap (λ frame. frame.order) (frames 0)) (order-there draft 0));
      };
      frames = frames;
      lawful = drawn.lawful;
      staged = drawn.staged;
      locals = drawn.locals;
      asked = drawn.asked ∙ sym says.frames;
      workers = drawn.workers ∙ sym says.workers;
      store = says.store ∙ c.in-Some.is;
      described = λ number. order-described g.R.DocumentRules.kind_of g.R.DocumentRules.config_of (g.R.DocumentRules.book c.args.rules.now) draft c.args.draft.entries.items number says.entries says.made;
    }
