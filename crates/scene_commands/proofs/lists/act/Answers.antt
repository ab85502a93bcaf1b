use Rattle.std.proofs.Common.{◌≡◌, map, IfOk, IfErr, ap, sym, ◌∙◌, subst}
use Rattle.std.proofs.lemmas.Result.{IfOk-weaker}
use Rattle.scene_model.specs.Rulebook.{spawn, put, take}
use Rattle.scene_model.specs.Queues.{plain_entry, plain_command}
use Rattle.scene_world.specs.Places.{kinds_of}
use Rattle.scene_commands.specs.Acts.{Acts}
use Rattle.scene_commands.specs.Links.{Covers, Foresees}
use Rattle.scene_commands.specs.Lists.{RefusesAct}
use Rattle.scene_commands.proofs.ListLemmas.{memory-says, told-so}
use Rattle.scene_commands.proofs.BringLemmas.{foreseen-covers}
use Rattle.scene_commands.proofs.lists.act.Given.{Over}
use Rattle.scene_commands.proofs.lists.act.Goals.{After-spawn_entity}
use Rattle.scene_commands.proofs.lists.act.Goals as goal

-- the spawn of the entries that were handed on is the command
same : (g : Over) (c : After-spawn_entity g) → spawn (map (plain_entry g.R.DocumentRules.part_of) c.as_slice.result.now) ≡ plain_command g.R.DocumentRules.part_of c.args.command.now
same g c = ap (λ entries. spawn (map (plain_entry g.R.DocumentRules.part_of) entries)) c.as_slice.ensures.value ∙ ap (plain_command g.R.DocumentRules.part_of) (sym c.in-Spawn.is)

pub returns-in-Spawn-clause-acts : goal.returns-in-Spawn-clause-acts
returns-in-Spawn-clause-acts g c =
    subst (λ command. IfOk c.spawn_entity.result (λ done. Acts (kinds_of g.R.Value.SceneValue.places g.R.DocumentRules.part_of g.R.WorldRules.columns) command done c.args.world.now c.spawn_entity.new.world)) (same g c) c.spawn_entity.ensures.acts

pub returns-in-Spawn-clause-refused : goal.returns-in-Spawn-clause-refused
returns-in-Spawn-clause-refused g c =
    subst (λ command. IfErr c.spawn_entity.result (RefusesAct (kinds_of g.R.Value.SceneValue.places g.R.DocumentRules.part_of g.R.WorldRules.columns) command c.args.world.now)) (same g c) c.spawn_entity.ensures.refused

pub returns-in_default-clause-refused : goal.returns-in_default-clause-refused
returns-in_default-clause-refused g c = memory-says (kinds_of g.R.Value.SceneValue.places g.R.DocumentRules.part_of g.R.WorldRules.columns) (plain_command g.R.DocumentRules.part_of c.args.command.now) c.args.world.now

pub returns-in-Spawn-clause-covers : goal.returns-in-Spawn-clause-covers
returns-in-Spawn-clause-covers g c =
    let kinds = kinds_of g.R.Value.SceneValue.places g.R.DocumentRules.part_of g.R.WorldRules.columns in
    let command = spawn (map (plain_entry g.R.DocumentRules.part_of) c.as_slice.result.now) in
    IfOk-weaker c.spawn_entity.result (λ done. Acts kinds command done c.args.world.now c.spawn_entity.new.world) (λ done. Covers kinds c.foresee.new.holders c.spawn_entity.new.world)
    (λ done. foreseen-covers kinds command done c.args.world.now c.spawn_entity.new.world c.foresee.new.holders
    (subst (λ some. Foresees kinds some c.args.world.now c.foresee.new.holders) (sym (same g c)) c.in-Ok.ensures))
    c.spawn_entity.ensures.acts

pub returns-in-Put-clause-covers : goal.returns-in-Put-clause-covers
returns-in-Put-clause-covers g c =
    let kinds = kinds_of g.R.Value.SceneValue.places g.R.DocumentRules.part_of g.R.WorldRules.columns in
    let command = put c.in-Put.id c.in-Put.kind.now (g.R.DocumentRules.part_of c.in-Put.datum) in
    IfOk-weaker c.told-in-Put.result (λ done. Acts kinds command done c.args.world.now c.put_part.new.world) (λ done. Covers kinds c.foresee.new.holders c.put_part.new.world)
    (λ done. foreseen-covers kinds command done c.args.world.now c.put_part.new.world c.foresee.new.holders
    (subst (λ some. Foresees kinds some c.args.world.now c.foresee.new.holders) (ap (plain_command g.R.DocumentRules.part_of) c.in-Put.is) c.in-Ok.ensures))
    (told-so c.told-in-Put.result c.put_part.result (λ done. Acts kinds command done c.args.world.now c.put_part.new.world) c.told-in-Put.ensures.done c.put_part.ensures.acts)

pub returns-in-Take-clause-covers : goal.returns-in-Take-clause-covers
returns-in-Take-clause-covers g c =
    let kinds = kinds_of g.R.Value.SceneValue.places g.R.DocumentRules.part_of g.R.WorldRules.columns in
    let command = take c.in-Take.id c.in-Take.kind.now in
    IfOk-weaker c.told-in-Take.result (λ done. Acts kinds command done c.args.world.now c.take_part.new.world) (λ done. Covers kinds c.foresee.new.holders c.take_part.new.world)
    (λ done. foreseen-covers kinds command done c.args.world.now c.take_part.new.world c.foresee.new.holders
    (subst (λ some. Foresees kinds some c.args.world.now c.foresee.new.holders) (ap (plain_command g.R.DocumentRules.part_of) c.in-Take.is) c.in-Ok.ensures))
    (told-so c.told-in-Take.result c.take_part.result (λ done. Acts kinds command done c.args.world.now c.take_part.new.world) c.told-in-Take.ensures.done c.take_part.ensures.acts)
