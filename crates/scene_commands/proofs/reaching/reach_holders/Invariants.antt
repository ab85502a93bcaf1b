use Rattle.std.proofs.Common.{◌≡◌, ◌≤◌, ◌<◌, ◌-◌, ℕ, length}
use Rattle.specs_entity.specs.Births.{IsAlive}
use Rattle.scene_model.specs.Declaring.{texts}
use Rattle.scene_world.specs.Places.{kinds_of}
use Rattle.scene_world.specs.Standing.{roll_of}
use Rattle.scene_commands.specs.Acts.{seen_of}
use Rattle.scene_commands.specs.Links.{link_at}
use Rattle.scene_commands.specs.Reaching.{HasUnder, Tells, GoesOnBy}
use Rattle.scene_commands.proofs.reaching.reach_holders.Given as goal

abbrev pub invariant-loop-end : goal.invariant-loop-end
invariant-loop-end g l = record {
  within : l.end ≤ length l.holders.links.items;
  here : 0 < l.end → (link_at l.holders.links.items (l.end - 1)).target ≡ l.id;
  tells : Tells l.reached.seen l.reached.entities.items;
  longer : GoesOnBy (IsAlive (roll_of (kinds_of g.R.Value.SceneValue.places g.R.DocumentRules.part_of g.R.WorldRules.columns) (seen_of l.world)).births) l.initial.reached.entities.items l.reached.entities.items;
  passed : (place : ℕ) → l.end ≤ place → place < length l.holders.links.items → (link_at l.holders.links.items place).target ≡ l.id
      → HasUnder (kinds_of g.R.Value.SceneValue.places g.R.DocumentRules.part_of g.R.WorldRules.columns) (seen_of l.world) (texts l.names) l.reached.entities.items l.target.id (link_at l.holders.links.items place).holder;
}

abbrev pub decreases-loop-end : goal.decreases-loop-end
decreases-loop-end g l = l.end
