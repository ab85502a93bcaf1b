use Rattle.std.proofs.Common.{map, subst}
use Rattle.std.proofs.lemmas.Result.{on_ok_weaker}
use Rattle.scene_document.specs.DraftViews.{named, plain_entity}
use Rattle.scene_world.specs.Places.{kinds_of}
use Rattle.scene_commands.specs.Becoming.{Becomes}
use Rattle.scene_commands.specs.Entries.{with_entities, with_parts, with_values}
use Rattle.scene_commands.proofs.BecomeLemmas.{then}
use Rattle.scene_commands.proofs.load.fill_world.Goals as goal

pub returns : goal.returns
returns g c =
    on_ok_weaker c.put_globals.result
    (λ last. then (kinds_of g.R.Value.SceneValue.places g.R.DocumentRules.part_of g.R.WorldRules.columns) _ (with_values (map (named g.R.DocumentRules.global_of (g.R.DocumentRules.book c.args.rules.now).global_names) c.args.draft.now.globals.items)) c.args.world.now c.put_parts.new.world c.put_globals.new.world
    (then (kinds_of g.R.Value.SceneValue.places g.R.DocumentRules.part_of g.R.WorldRules.columns) (with_entities (map (λ entity. entity.id) c.args.draft.now.entities.items)) (with_parts (map (plain_entity g.R.DocumentRules.part_of (g.R.DocumentRules.book c.args.rules.now).part_names) c.args.draft.now.entities.items))
    c.args.world.now c.enter_entities.new.world c.put_parts.new.world
    (subst (λ entities. Becomes (kinds_of g.R.Value.SceneValue.places g.R.DocumentRules.part_of g.R.WorldRules.columns) (with_entities (map (λ entity. entity.id) entities)) c.args.world.now c.enter_entities.new.world) c.as_slice.ensures.value c.in_ok-enter_entities.ensures)
    (subst (λ entities. Becomes (kinds_of g.R.Value.SceneValue.places g.R.DocumentRules.part_of g.R.WorldRules.columns) (with_parts (map (plain_entity g.R.DocumentRules.part_of (g.R.DocumentRules.book c.args.rules.now).part_names) entities)) c.enter_entities.new.world c.put_parts.new.world) c.as_slice-2.ensures.value
    (subst (λ names. Becomes (kinds_of g.R.Value.SceneValue.places g.R.DocumentRules.part_of g.R.WorldRules.columns) (with_parts (map (plain_entity g.R.DocumentRules.part_of names) c.as_slice-2.result.now)) c.enter_entities.new.world c.put_parts.new.world) c.part_names.ensures c.in_ok-put_parts.ensures)))
    (subst (λ globals. Becomes (kinds_of g.R.Value.SceneValue.places g.R.DocumentRules.part_of g.R.WorldRules.columns) (with_values (map (named g.R.DocumentRules.global_of (g.R.DocumentRules.book c.args.rules.now).global_names) globals)) c.put_parts.new.world c.put_globals.new.world) c.as_slice-3.ensures.value
    (subst (λ names. Becomes (kinds_of g.R.Value.SceneValue.places g.R.DocumentRules.part_of g.R.WorldRules.columns) (with_values (map (named g.R.DocumentRules.global_of names) c.as_slice-3.result.now)) c.put_parts.new.world c.put_globals.new.world) c.global_names.ensures last)))
    c.put_globals.ensures
