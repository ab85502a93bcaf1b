use Rattle.std.proofs.Common.{◌≡◌, ◌++◌, List, Option, ap, sym, ◌∙◌, subst, option_map, IfOk}
use Rattle.std.specs.Prelude.{option_and_then}
use Rattle.specs_entity.specs.Life.{LifeAt}
use Rattle.scene_world.specs.Stored.{Stored, part_under}
use Rattle.scene_world.specs.Rolls.{Roll, ref_to}
use Rattle.scene_world.specs.Standing.{roll_of, column_of}
use Rattle.scene_world.specs.Places.{kinds_of}
use Rattle.scene_world.specs.Putting.{named_in, part_read}
use Rattle.scene_commands.specs.Acts.{seen_of}
use Rattle.scene.specs.Taken.{AreMarkedBy, part_at}
use Rattle.scene.proofs.KeepLemmas.{read-part, stored-live}
use Rattle.scene.proofs.taking.datum_at.Goals as goal

pub returns : goal.returns
returns g c =
    let kinds = kinds_of g.R.Value.SceneValue.places g.R.DocumentRules.part_of g.R.WorldRules.columns in
    let w = seen_of c.args.world.now in
    let roll : Roll = roll_of kinds w in
    let stored : Option Stored = g.R.WorldRules.columns.stored c.args.kind.now c.args.value.now c.args.index in
    let there : column_of kinds w c.args.kind.now c.args.index ≡ stored = ap (option_and_then (λ v. g.R.WorldRules.columns.stored c.args.kind.now v c.args.index)) (sym c.requires.column) in
    let named : c.deref.result.now ≡ named_in stored = c.deref.ensures.value ∙ c.in_ok-named_at.ensures ∙ ap (λ (l : List LifeAt). l ++ named_in stored) c.clear.ensures.items in
    let marked : AreMarkedBy roll (named_in stored) c.in_ok-ids.ids.items = subst (λ list. AreMarkedBy roll list c.in_ok-ids.ids.items) named c.in_ok-ids.ensures in
    let read : option_map (part_read c.deref-2.result.now) stored ≡ part_at kinds w c.args.index c.args.kind.now =
    ap (λ ids. option_map (part_read ids) stored) c.deref-2.ensures.value
    ∙ read-part roll stored c.in_ok-ids.ids.items marked (λ one is. stored-live kinds (g.R.DocumentRules.book c.args.rules.now) w c.requires.stands c.args.kind.now c.requires.known c.args.index one (there ∙ is))
    ∙ sym (ap (option_map (part_under (ref_to roll))) there) in
    subst (λ part. IfOk c.get.result (λ datum. option_map g.R.DocumentRules.part_of datum ≡ part)) read c.get.ensures
