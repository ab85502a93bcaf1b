use Rattle.std.proofs.Common.{take, All}
use Rattle.scene_world.specs.Places.{kinds_of}
use Rattle.scene_commands.specs.Acts.{seen_of}
use Rattle.scene_commands.specs.Links.{Grows}
use Rattle.scene_commands.specs.Owning.{IsNoted}
use Rattle.scene_commands.proofs.owning.note_pairs.Given as goal

abbrev pub invariant-loop-pair : goal.invariant-loop-pair
invariant-loop-pair g l = record {
  grows : Grows l.initial.holders l.holders;
  noted : All (IsNoted (kinds_of g.R.Value.SceneValue.places g.R.DocumentRules.part_of g.R.WorldRules.columns) (seen_of l.world) l.holders) (take l.pair-index l.pairs);
}
