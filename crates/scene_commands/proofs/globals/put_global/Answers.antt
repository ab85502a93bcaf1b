use Rattle.std.proofs.Common.{◌≡◌, true, Some, get_or, ap, sym, ◌∙◌, subst, arith}
use Rattle.scene_model.specs.Parts.{is_among}
use Rattle.scene_model.specs.Declaring.{texts}
use Rattle.scene_document.specs.DraftViews.{named}
use Rattle.scene_world.specs.Places.{kinds_of}
use Rattle.scene_commands.proofs.DropLemmas.{no_name, named-there}
use Rattle.scene_commands.specs.Becoming.{Becomes}
use Rattle.scene_commands.specs.Entries.{with_value}
use Rattle.scene_commands.proofs.NameLemmas.{name-there}
use Rattle.scene_commands.proofs.GlobalLemmas.{sets-global}
use Rattle.scene_commands.proofs.globals.put_global.Goals as goal

pub returns-in-Ok : goal.returns-in-Ok
returns-in-Ok g c =
    let known : is_among (get_or c.args.names.now c.in-Some.place no_name).now g.R.WorldRules.columns.global_names ≡ true =
    subst (λ names. is_among (get_or c.args.names.now c.in-Some.place no_name).now names ≡ true) c.requires.names (named-there c.args.names.now c.in-Some.place no_name (omega (arith, c.if-place-names.false))) in
    subst (λ global. Becomes (kinds_of g.R.Value.SceneValue.places g.R.DocumentRules.part_of g.R.WorldRules.columns) (with_value (named g.R.DocumentRules.global_of (texts c.args.names.now) global)) c.args.world.now c.insert_raw.new.self) (sym c.in-Some.is)
    (subst (λ name. Becomes (kinds_of g.R.Value.SceneValue.places g.R.DocumentRules.part_of g.R.WorldRules.columns) (with_value (Some (name, g.R.DocumentRules.global_of c.in-Some.value))) c.args.world.now c.insert_raw.new.self) (name-there c.args.names.now c.in-Some.place)
    (sets-global (kinds_of g.R.Value.SceneValue.places g.R.DocumentRules.part_of g.R.WorldRules.columns) g.met.R.WorldRules.apart (get_or c.args.names.now c.in-Some.place no_name).now known (g.R.DocumentRules.global_of c.in-Some.value) c.args.world.now c.insert_raw.new.self c.in-Some-to_value.value
    (c.in-Some-to_value.ensures known ∙ ap Some (g.met.R.DocumentRules.global_clones c.in-Some.value c.in_ok-clone.field-0 c.in_ok-clone.ensures.cases)) c.global_id.result c.global_id.ensures c.in-Ok.ensures.ok c.requires.may))
