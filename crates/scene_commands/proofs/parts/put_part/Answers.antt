use Rattle.std.proofs.Common.{refl, sym, ◌∙◌}
use Rattle.scene_world.specs.Places.{kinds_of}
use Rattle.scene_commands.proofs.ActLemmas.{put-skips}
use Rattle.scene_commands.proofs.GoingLemmas.{goes-nowhere}
use Rattle.scene_commands.proofs.parts.put_part.Goals as goal

pub returns-in_default-clause-acts : goal.returns-in_default-clause-acts
returns-in_default-clause-acts g c = (
  put-skips (kinds_of g.R.Value.SceneValue.places g.R.DocumentRules.part_of g.R.WorldRules.columns) g.met.R.WorldRules.apart c.args.kind.now c.requires.known c.args.id c.args.world.now c.requires.may
      (sym c.entity_under.ensures.value ∙ c.in_default.is) (g.R.DocumentRules.part_of c.args.datum.now),
  refl,
)

pub returns-in_default-clause-elsewhere : goal.returns-in_default-clause-elsewhere
returns-in_default-clause-elsewhere g c = λ id e m a p. refl

pub returns-in_default-clause-goes_on : goal.returns-in_default-clause-goes_on
returns-in_default-clause-goes_on g c = goes-nowhere (kinds_of g.R.Value.SceneValue.places g.R.DocumentRules.part_of g.R.WorldRules.columns) c.args.world.now
