use Rattle.scene_model.specs.Declaring.{texts}
use Rattle.scene_world.specs.Places.{kinds_of}
use Rattle.scene_commands.proofs.ReachLemmas.{noted-linked}
use Rattle.scene_commands.proofs.owning.make_holders.Goals as goal

pub note_pairs-requires : goal.note_pairs-requires
note_pairs-requires g c = c.requires.covers.chained

pub returns-clause-covers : goal.returns-clause-covers
returns-clause-covers g c = record {
  chained = c.in_ok-note_pairs.ensures.grows.chained;
  linked = λ made. noted-linked (kinds_of g.R.Value.SceneValue.places g.R.DocumentRules.part_of g.R.WorldRules.columns) c.args.world.now c.requires.may (texts c.args.names.now) c.requires.alike c.in_ok-pairs.pairs.items c.as_slice.result.now
      c.in_ok-pairs.ensures c.as_slice.ensures.value c.note_pairs.new.holders c.in_ok-note_pairs.ensures.noted;
}
