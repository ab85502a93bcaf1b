use Rattle.std.proofs.Common.{None, refl, sym, ◌∙◌, subst}
use Rattle.scene_world.specs.Places.{kinds_of}
use Rattle.scene_commands.specs.Acts.{seen_of, SetsColumn}
use Rattle.scene_commands.proofs.ActLemmas.{take-acts, take-may, take-skips}
use Rattle.scene_commands.proofs.ElsewhereLemmas.{column-elsewhere}
use Rattle.scene_commands.proofs.GoingLemmas.{goes-nowhere, goes-by-part}
use Rattle.scene_commands.proofs.parts.take_part.Given.{Over}
use Rattle.scene_commands.proofs.parts.take_part.Goals.{In_ok-take_at}
use Rattle.scene_commands.proofs.parts.take_part.Goals as goal

pub returns-in_default-clause-acts : goal.returns-in_default-clause-acts
returns-in_default-clause-acts g c = (
  take-skips (kinds_of g.R.Value.SceneValue.places g.R.DocumentRules.part_of g.R.WorldRules.columns) g.met.R.WorldRules.apart c.args.kind.now c.requires.known c.args.id c.args.world.now c.requires.may
      (sym c.entity_under.ensures.value ∙ c.in_default.is),
  refl,
)

-- the part at the entity's index was taken out
taken : (g : Over) (c : In_ok-take_at g) → SetsColumn (kinds_of g.R.Value.SceneValue.places g.R.DocumentRules.part_of g.R.WorldRules.columns) c.args.kind.now c.in-Some.entity.id None (seen_of c.args.world.now) (seen_of c.take_at.new.world)
taken g c = subst (λ i. SetsColumn (kinds_of g.R.Value.SceneValue.places g.R.DocumentRules.part_of g.R.WorldRules.columns) c.args.kind.now i None (seen_of c.args.world.now) (seen_of c.take_at.new.world)) c.id.ensures c.in_ok-take_at.ensures

pub returns-clause-acts : goal.returns-clause-acts
returns-clause-acts g c =
    take-acts (kinds_of g.R.Value.SceneValue.places g.R.DocumentRules.part_of g.R.WorldRules.columns) g.met.R.WorldRules.apart c.args.kind.now c.requires.known c.args.id c.args.world.now c.requires.may c.in-Some.entity
    (sym c.entity_under.ensures.value ∙ c.in-Some.is) c.take_at.new.world (taken g c)

pub returns-clause-may : goal.returns-clause-may
returns-clause-may g c =
    take-may (kinds_of g.R.Value.SceneValue.places g.R.DocumentRules.part_of g.R.WorldRules.columns) g.met.R.WorldRules.apart c.args.kind.now c.requires.known c.args.id c.args.world.now c.requires.may c.in-Some.entity
    (sym c.entity_under.ensures.value ∙ c.in-Some.is) c.take_at.new.world (taken g c)

pub returns-in_default-clause-elsewhere : goal.returns-in_default-clause-elsewhere
returns-in_default-clause-elsewhere g c = λ id e m a p. refl

pub returns-clause-elsewhere : goal.returns-clause-elsewhere
returns-clause-elsewhere g c = column-elsewhere (kinds_of g.R.Value.SceneValue.places g.R.DocumentRules.part_of g.R.WorldRules.columns) c.args.kind.now c.in-Some.entity.id None c.args.world.now c.take_at.new.world (taken g c) c.requires.known

pub returns-in_default-clause-goes_on : goal.returns-in_default-clause-goes_on
returns-in_default-clause-goes_on g c = goes-nowhere (kinds_of g.R.Value.SceneValue.places g.R.DocumentRules.part_of g.R.WorldRules.columns) c.args.world.now

pub returns-clause-goes_on : goal.returns-clause-goes_on
returns-clause-goes_on g c = goes-by-part (kinds_of g.R.Value.SceneValue.places g.R.DocumentRules.part_of g.R.WorldRules.columns) g.met.R.WorldRules.apart c.args.kind.now c.requires.known c.in-Some.entity.id None c.args.world.now c.take_at.new.world (taken g c)
