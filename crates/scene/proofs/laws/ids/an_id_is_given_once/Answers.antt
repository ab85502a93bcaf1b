use Rattle.scene.proofs.GivenIdLemmas.{reaches-goes-on, spawn-gives, kill-takes}
use Rattle.scene.proofs.BeginLemmas.{first-fits}
use Rattle.scene.specs.Ids.{IdsGoOn}
use Rattle.scene_document.specs.Openings.{first_scene, frames_of}
use Rattle.scene.specs.TwoParts.{frames_behind}
use Rattle.scene.proofs.laws.ids.an_id_is_given_once.Goals as goal

pub returns-clause-go_on : goal.returns-clause-go_on
returns-clause-go_on g c = λ limit frames count scene after skips. reaches-goes-on (g.R.DocumentRules.book c.args.rules.now) limit frames count scene after skips

pub returns-clause-document : goal.returns-clause-document
returns-clause-document g c = λ indices limit input draft count more mid after skips rest document early late.
    let book = g.R.DocumentRules.book c.args.rules.now in
    let first : IdsGoOn (first_scene draft) mid = reaches-goes-on book limit (frames_of draft) count (first_scene draft) mid skips (first-fits book indices input draft document) early in
    (first, reaches-goes-on book limit (frames_behind count (frames_of draft)) more mid after rest first.fit late)

pub returns-clause-run : goal.returns-clause-run
returns-clause-run g c = λ bounds input report text ran.
    let book = g.R.DocumentRules.book c.args.rules.now in
    reaches-goes-on book bounds.commands (frames_of ran.draft) report.frames (first_scene ran.draft) ran.scene report.skips ran.begins.proper.ids ran.ran.0

pub returns-clause-spawned : goal.returns-clause-spawned
returns-clause-spawned g c = λ owning parts scene after. spawn-gives owning parts scene after

pub returns-clause-killed : goal.returns-clause-killed
returns-clause-killed g c = λ owning id one scene after. kill-takes owning id one scene after
