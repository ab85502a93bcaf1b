use Rattle.std.proofs.Common.{◌≡◌, ◌+◌, ◌++◌, List, length, take}
use Rattle.scene_model.specs.declared.refusals.Skip.{Skip}
use Rattle.scene_model.specs.Leads.{RunsTo}
use Rattle.scene_world.specs.Places.{kinds_of}
use Rattle.scene_world.specs.Standing.{plain_of, owning_in}
use Rattle.scene_commands.specs.Acts.{seen_of, MayAct, StaysElsewhere, GoesOn}
use Rattle.scene_commands.specs.Links.{Covers}
use Rattle.scene.specs.Waiting.{waiting_in}
use Rattle.scene.proofs.commands.act_queues.Given as goal

abbrev pub invariant-loop-queue : goal.invariant-loop-queue
invariant-loop-queue g l = record {
  place : l.place ≡ l.earlier + length (waiting_in g.R.DocumentRules.part_of (take l.queue-index l.queues));
  ran : RunsTo (owning_in (kinds_of g.R.Value.SceneValue.places g.R.DocumentRules.part_of g.R.WorldRules.columns)) l.frame (l.earlier + 1) (waiting_in g.R.DocumentRules.part_of (take l.queue-index l.queues)) (plain_of (kinds_of g.R.Value.SceneValue.places g.R.DocumentRules.part_of g.R.WorldRules.columns) (seen_of l.initial.world)) (plain_of (kinds_of g.R.Value.SceneValue.places g.R.DocumentRules.part_of g.R.WorldRules.columns) (seen_of l.world)) l.initial.skips.items l.skips.items;
  may : MayAct (kinds_of g.R.Value.SceneValue.places g.R.DocumentRules.part_of g.R.WorldRules.columns) l.world;
  elsewhere : StaysElsewhere (kinds_of g.R.Value.SceneValue.places g.R.DocumentRules.part_of g.R.WorldRules.columns) l.initial.world l.world;
  goes_on : GoesOn (kinds_of g.R.Value.SceneValue.places g.R.DocumentRules.part_of g.R.WorldRules.columns) l.initial.world l.world;
  covers : Covers (kinds_of g.R.Value.SceneValue.places g.R.DocumentRules.part_of g.R.WorldRules.columns) l.holders l.world;
  kept : (more : List Skip) × (l.skips.items ≡ l.initial.skips.items ++ more);
}
