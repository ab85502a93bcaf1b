use Rattle.std.proofs.Common.{◌≡◌, ◌≤◌, ◌-◌, ℕ, true, length, take, All}
use Rattle.specs_entity.specs.Births.{IsAlive, is_named}
use Rattle.scene_model.specs.Declaring.{texts}
use Rattle.scene_world.specs.Places.{kinds_of}
use Rattle.scene_world.specs.Standing.{roll_of}
use Rattle.scene_commands.specs.Acts.{seen_of}
use Rattle.scene_commands.specs.Reaching.{HasReferring, Tells}
use Rattle.scene_commands.proofs.reaching.reached_from.Given as goal

abbrev pub invariant-loop-at : goal.invariant-loop-at
invariant-loop-at g l = record {
  within : l.at ≤ length l.reached.entities.items;
  tells : Tells l.reached.seen l.reached.entities.items;
  alive : All (IsAlive (roll_of (kinds_of g.R.Value.SceneValue.places g.R.DocumentRules.part_of g.R.WorldRules.columns) (seen_of l.world)).births) l.reached.entities.items;
  first : is_named l.reached.entities.items l.fn.root.id ≡ true;
  passed : (target : ℕ) → is_named (take l.at l.reached.entities.items) target ≡ true → HasReferring (kinds_of g.R.Value.SceneValue.places g.R.DocumentRules.part_of g.R.WorldRules.columns) (seen_of l.world) (texts l.names) l.reached.entities.items target;
}

abbrev pub decreases-loop-at : goal.decreases-loop-at
decreases-loop-at g l = 16777216 - l.at
