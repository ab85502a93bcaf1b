use Rattle.std.proofs.Common.{◌≡◌, length, ap, sym, ◌∙◌, subst, arith, All}
use Rattle.std.proofs.lemmas.List.{length-map}
use Rattle.scene_document.specs.DraftViews.{plain_entity}
use Rattle.scene_model.specs.Scenes.{IsProper, PartsStand}
use Rattle.scene_model.specs.Lawful.{IsLawful}
use Rattle.scene_document.proofs.CallerLemmas.{unrefused}
use Rattle.scene_world.specs.Places.{kinds_of}
use Rattle.scene.proofs.CommandLemmas.{seen-stand}
use Rattle.scene.specs.Running.{alone}
use Rattle.scene.proofs.AloneLemmas.{unrefused-alone}
use Rattle.scene.proofs.load.place_document.Goals as goal

pub open_in_world-requires : goal.open_in_world-requires
open_in_world-requires g c =
    let prepared = c.requires.prepared.1 in
    let passed = unrefused (g.R.DocumentRules.book c.args.rules.now) c.args.limits.indices c.requires.prepared.0 prepared.draft prepared.is in
    record {
      limits = c.requires.limits;
      document = record { plain = alone prepared.draft; indices = length prepared.draft.entities; says = prepared.says; passed = unrefused-alone c.args.limits.indices prepared.draft passed };
    }

pub returns : goal.returns
returns g c = λ json prepared.
    let book = g.R.DocumentRules.book c.args.rules.now in
    let opened = c.in-Ok.ensures in
    let scene = opened.scene (alone prepared.draft) (length prepared.draft.entities) prepared.says (unrefused-alone c.args.limits.indices prepared.draft (unrefused book c.args.limits.indices json prepared.draft prepared.is)) in
    record {
      draft = prepared.draft;
      is = prepared.is;
      stands = opened.stands;
      none = opened.none;
      scene = scene;
      places = prepared.places;
      frames = prepared.frames;
      lawful = prepared.lawful;
      staged = prepared.staged;
      locals = prepared.locals;
      asked = prepared.asked;
      begins = record {
        proper = subst (IsProper book) scene opened.stands.proper;
        stand = subst (λ s. PartsStand book.part_names s.part) scene (seen-stand (kinds_of g.R.Value.SceneValue.places g.R.DocumentRules.part_of g.R.WorldRules.columns) book.part_names c.in-Ok.world (g.met.R.WorldRules.named_so c.args.rules.now).parts);
        described = prepared.described;
        lawful = λ number. subst (λ frame. All (IsLawful book) frame.commands) (sym (prepared.frames number)) (prepared.lawful number);
      };
      under = opened.bounded (alone prepared.draft) (length prepared.draft.entities) prepared.says (unrefused-alone c.args.limits.indices prepared.draft (unrefused book c.args.limits.indices json prepared.draft prepared.is));
      unlisted =
          let many : length prepared.draft.entities ≡ length c.args.prepared.draft.entities.items = ap length prepared.says.entities ∙ length-map c.args.prepared.draft.entities.items (plain_entity g.R.DocumentRules.part_of book.part_names) in
          let next = prepared.says.next in
          omega (arith, many, next, c.len.ensures, c.saturating_sub-unlisted.ensures);
      workers = prepared.workers;
    }
