-- A value that is taken out of what is held and put back, as it was or changed.
use Rattle.std.proofs.Common.{◌≡◌, Some, ap, ◌∙◌}
use Rattle.shred_world.specs.declared.resource_id.ResourceId.{ResourceId}
use Rattle.shred_world.specs.Bundles.{Holding, out, owned, takable, with_slot}
use Rattle.scene_basics.proofs.AddLemmas.{put-again, put-back}

module _ {V : Type 0} (seen taken left : Holding V) (id place : ResourceId) (v : V) (took : taken ≡ with_slot seen id out) (same : place ≡ id) (put : left ≡ with_slot taken place (owned v)) where
  put-there : left ≡ with_slot (with_slot seen id out) id (owned v)
  put-there = put ∙ ap (λ at. with_slot taken at (owned v)) same ∙ ap (λ w. with_slot w id (owned v)) took

  -- put back changed it stands there
  pub changed-there : left ≡ with_slot seen id (owned v)
  changed-there = put-there ∙ put-back seen id v

  -- put back as it was all is as it was
  pub same-again : takable (seen id) ≡ Some v → left ≡ seen
  same-again there = put-there ∙ put-again seen id v there
