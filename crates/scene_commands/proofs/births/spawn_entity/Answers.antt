use Rattle.std.proofs.Common.{◌≡◌, eqb, map, Err, ap, sym, ◌∙◌, arith}
use Rattle.std.proofs.lemmas.Bool.{ne_eqb}
use Rattle.scene_model.specs.Commands.{last_next}
use Rattle.scene_model.specs.Queues.{plain_entry}
use Rattle.scene_world.specs.Places.{kinds_of}
use Rattle.scene_commands.specs.Acts.{seen_of}
use Rattle.scene_commands.proofs.SpawnLemmas.{spawn-acts, spawn-may}
use Rattle.scene_commands.proofs.ElsewhereLemmas.{birth-elsewhere, to-be-done, life-refused}
use Rattle.scene_commands.proofs.GoingLemmas.{goes-nowhere, goes-by-birth}
use Rattle.scene_commands.proofs.births.spawn_entity.Goals as goal

pub returns-in-Ok-clause-acts : goal.returns-in-Ok-clause-acts
returns-in-Ok-clause-acts g c =
    spawn-acts (kinds_of g.R.Value.SceneValue.places g.R.DocumentRules.part_of g.R.WorldRules.columns) g.met.R.WorldRules.apart c.args.world.now (seen_of c.bring_to_life.new.world) c.settle.new.world c.in_ok-entity.entity (map (plain_entry g.R.DocumentRules.part_of) c.args.parts.now)
    c.in_ok-entity.ensures.ok c.in-Ok.ensures c.requires.may (sym c.in-Ok-true.ensures ∙ c.in-Ok-true.field-0-test) c.requires.known
    (ap (λ n. eqb n last_next) (sym c.in-Some.ensures) ∙ ne_eqb c.in-Some.next last_next c.if-next.false)

pub returns-in-Ok-clause-may : goal.returns-in-Ok-clause-may
returns-in-Ok-clause-may g c =
    spawn-may (kinds_of g.R.Value.SceneValue.places g.R.DocumentRules.part_of g.R.WorldRules.columns) g.met.R.WorldRules.apart c.args.world.now (seen_of c.bring_to_life.new.world) c.settle.new.world c.in_ok-entity.entity (map (plain_entry g.R.DocumentRules.part_of) c.args.parts.now)
    c.in_ok-entity.ensures.ok c.in-Ok.ensures c.requires.may (sym c.in-Ok-true.ensures ∙ c.in-Ok-true.field-0-test) c.requires.known
    (ap (λ n. eqb n last_next) (sym c.in-Some.ensures) ∙ ne_eqb c.in-Some.next last_next c.if-next.false)

pub returns-in-Ok-clause-elsewhere : goal.returns-in-Ok-clause-elsewhere
returns-in-Ok-clause-elsewhere g c =
    birth-elsewhere (kinds_of g.R.Value.SceneValue.places g.R.DocumentRules.part_of g.R.WorldRules.columns) c.args.world.now c.bring_to_life.new.world c.settle.new.world c.in_ok-entity.entity (map (plain_entry g.R.DocumentRules.part_of) c.args.parts.now) c.in_ok-entity.ensures.ok c.in-Ok.ensures

pub returns-in_err-entity-clause-refused : goal.returns-in_err-entity-clause-refused
returns-in_err-entity-clause-refused g c =
    let failed : c.from_residual.result ≡ Err c.in_err-entity.field-0.0 = grind arith in
    rw failed (life-refused (kinds_of g.R.Value.SceneValue.places g.R.DocumentRules.part_of g.R.WorldRules.columns) (map (plain_entry g.R.DocumentRules.part_of) c.args.parts.now) c.args.world.now
    (to-be-done (kinds_of g.R.Value.SceneValue.places g.R.DocumentRules.part_of g.R.WorldRules.columns) (map (plain_entry g.R.DocumentRules.part_of) c.args.parts.now) c.args.world.now (sym c.in-Ok-true.ensures ∙ c.in-Ok-true.field-0-test)
    (ap (λ n. eqb n last_next) (sym c.in-Some.ensures) ∙ ne_eqb c.in-Some.next last_next c.if-next.false)) c.in_err-entity.field-0.0 c.in_err-entity.ensures.refused)

pub returns-in-Ok-false-clause-goes_on : goal.returns-in-Ok-false-clause-goes_on
returns-in-Ok-false-clause-goes_on g c = goes-nowhere (kinds_of g.R.Value.SceneValue.places g.R.DocumentRules.part_of g.R.WorldRules.columns) c.args.world.now

pub returns-in-Ok-clause-goes_on : goal.returns-in-Ok-clause-goes_on
returns-in-Ok-clause-goes_on g c =
    goes-by-birth (kinds_of g.R.Value.SceneValue.places g.R.DocumentRules.part_of g.R.WorldRules.columns) g.met.R.WorldRules.apart c.args.world.now (seen_of c.bring_to_life.new.world) c.settle.new.world c.in_ok-entity.entity (map (plain_entry g.R.DocumentRules.part_of) c.args.parts.now) c.in_ok-entity.ensures.ok c.in-Ok.ensures
