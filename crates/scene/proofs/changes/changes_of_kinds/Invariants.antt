use Rattle.std.proofs.Common.{◌≡◌, ◌<◌, ℕ, true}
use Rattle.hibitset_sets.specs.BitSet.{has_member}
use Rattle.scene_model.specs.Declaring.{texts}
use Rattle.scene_world.specs.Places.{kinds_of}
use Rattle.scene_commands.specs.Acts.{seen_of}
use Rattle.scene.specs.Changes.{AreChanges, AreTouched, OnlyTouched}
use Rattle.scene.proofs.changes.changes_of_kinds.Given as goal

-- the changes of the kinds so far, whose indices are touched
abbrev pub invariant-loop-place : goal.invariant-loop-place
invariant-loop-place g l = record {
  changes : AreChanges (kinds_of g.R.Value.SceneValue.places g.R.DocumentRules.part_of g.R.WorldRules.columns) g.R.DocumentRules.part_of (seen_of l.world) (texts l.names) l.watchers l.place l.changes.items;
  within : (index : ℕ) → has_member l.touched index ≡ true → index < 16777216;
  kept : (index : ℕ) → has_member l.fn.touched index ≡ true → has_member l.touched index ≡ true;
  told : AreTouched (kinds_of g.R.Value.SceneValue.places g.R.DocumentRules.part_of g.R.WorldRules.columns) (seen_of l.world) (texts l.names) l.watchers l.place (has_member l.touched);
  only : OnlyTouched (kinds_of g.R.Value.SceneValue.places g.R.DocumentRules.part_of g.R.WorldRules.columns) (seen_of l.world) (texts l.names) l.watchers l.place (has_member l.fn.touched) (has_member l.touched);
}
