use Rattle.std.proofs.Common.{◌≡◌, ◌+◌, ◌≤◌, length, map, All}
use Rattle.std.specs.Vec.Iter.{into_iter_items}
use Rattle.shred_world.specs.contracts.resource_id.ResourceIdPartialEq.TheImpl.{eq-value}
use Rattle.scene_document.specs.DraftViews.{plain_draft}
use Rattle.scene_world.specs.Places.{kinds_of}
use Rattle.scene_world.specs.Turns.{placed_as}
use Rattle.scene_dispatch.specs.Staged.{IsFit, HasSystems}
use Rattle.scene_dispatch.proofs.staging.add_entries.Given as goal

abbrev pub invariant-loop-entry : goal.invariant-loop-entry
invariant-loop-entry g l = record {
  place : l.place ≡ length l.yielded + 1;
  few : length l.yielded + length (into_iter_items l.entry-iterator) ≤ 4096;
  fit : All (IsFit (kinds_of g.R.Value.SceneValue.places g.R.DocumentRules.part_of g.R.WorldRules.columns) g.R.DocumentRules.kind_of g.R.DocumentRules.config_of g.R.DocumentRules.declared g.R.DocumentRules.said_time (g.R.DocumentRules.made_by l.rules) (g.R.DocumentRules.book l.rules)) (into_iter_items l.entry-iterator);
  has : HasSystems (kinds_of g.R.Value.SceneValue.places g.R.DocumentRules.part_of g.R.WorldRules.columns) eq-value.it (placed_as (λ placed. placed.position) (λ placed. placed.system) g.R.DocumentRules.kind_of g.R.DocumentRules.config_of g.R.DocumentRules.declared g.R.Rules.sense g.R.Rules.does) (g.R.DocumentRules.book l.rules) (map plain_draft l.yielded) l.builder;
  workers : l.builder.workers ≡ l.initial.builder.workers;
}
