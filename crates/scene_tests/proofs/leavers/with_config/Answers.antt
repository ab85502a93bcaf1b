use Rattle.std.proofs.Common.{◌≡◌, Some, refl, ◌∙◌, ap, sym}
use Rattle.serde_json.specs.View.{view}
use Rattle.serde_json.specs.Find.{as_bool}
use Rattle.scene_tests.specs.Leavers.{leaving, configured}
use Rattle.scene_tests.specs.LeaverLaws.{plain-boolean}
use Rattle.scene_tests.proofs.leavers.with_config.Goals as goal

pub returns-in-Some : goal.returns-in-Some
returns-in-Some c =
    let is : as_bool (view c.args.config.now) ≡ Some c.in-Some.hp_goes = sym c.as_bool.ensures ∙ c.in-Some.is in
    (leaving c.in-Some.hp_goes, ap configured is, record { made_so = tt; of_kind = refl; with_config = plain-boolean (view c.args.config.now) c.in-Some.hp_goes is; access = refl; time = refl })
