use Rattle.std.proofs.Common.{◌≡◌, ℕ, Option, Some, None, ap, sym, ◌∙◌, subst}
use Rattle.std.proofs.lemmas.Result.{on_ok_weaker}
use Rattle.scene_world.specs.Places.{kinds_of}
use Rattle.scene_world.specs.Rolls.{Roll}
use Rattle.scene_world.specs.Standing.{roll_of}
use Rattle.scene_commands.specs.Acts.{seen_of}
use Rattle.scene_commands.specs.Links.{Holds}
use Rattle.scene_commands.proofs.LinkLemmas.{grows-not}
use Rattle.scene_commands.proofs.owning.note_pair.Goals as goal

pub returns-in_default-clause-grows : goal.returns-in_default-clause-grows
returns-in_default-clause-grows g c = grows-not c.args.holders.now c.requires

pub returns-in_default-id_marked-clause-grows : goal.returns-in_default-id_marked-clause-grows
returns-in_default-id_marked-clause-grows g c = grows-not c.args.holders.now c.requires

pub returns-in_default-clause-noted : goal.returns-in_default-clause-noted
returns-in_default-clause-noted g c = λ holder target of to.
    let roll : Roll = roll_of (kinds_of g.R.Value.SceneValue.places g.R.DocumentRules.part_of g.R.WorldRules.columns) (seen_of c.args.world.now) in
    let never : ◌≡◌ {A = Option ℕ} None (Some holder) = sym c.in_default.is ∙ c.id_marked.ensures ∙ ap roll.marker c.id.ensures ∙ of in
    cc

pub returns-in_default-id_marked-clause-noted : goal.returns-in_default-id_marked-clause-noted
returns-in_default-id_marked-clause-noted g c = λ holder target of to.
    let roll : Roll = roll_of (kinds_of g.R.Value.SceneValue.places g.R.DocumentRules.part_of g.R.WorldRules.columns) (seen_of c.args.world.now) in
    let never : ◌≡◌ {A = Option ℕ} None (Some target) = sym c.in_default-id_marked.is ∙ c.id_marked-2.ensures ∙ ap roll.marker c.id-2.ensures ∙ to in
    cc

pub returns-clause-noted : goal.returns-clause-noted
returns-clause-noted g c =
    let roll : Roll = roll_of (kinds_of g.R.Value.SceneValue.places g.R.DocumentRules.part_of g.R.WorldRules.columns) (seen_of c.args.world.now) in
    on_ok_weaker c.push.result
    (λ holds holder target of to.
    let first : Some c.in-Some.holder ≡ Some holder = sym c.in-Some.is ∙ c.id_marked.ensures ∙ ap roll.marker c.id.ensures ∙ of in
    let second : Some c.in-Some-id_marked.target ≡ Some target = sym c.in-Some-id_marked.is ∙ c.id_marked-2.ensures ∙ ap roll.marker c.id-2.ensures ∙ to in
    let one : c.in-Some.holder ≡ holder = cc in
    let other : c.in-Some-id_marked.target ≡ target = cc in
    subst (Holds c.push.new.self.links.items holder) other (subst (λ some. Holds c.push.new.self.links.items some c.in-Some-id_marked.target) one holds))
    c.push.ensures.noted
