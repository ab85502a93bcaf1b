-- Systems at different positions conflict by ids just where they do by resources.
use Rattle.std.proofs.Common.{◌≡◌, ◌≢◌, ℕ, ◌||◌, map, ap, sym, ◌∙◌, ne_eqb}
use Rattle.shred_world.specs.declared.resource_id.ResourceId.{ResourceId}
use Rattle.shred_world.specs.ResourceIds.{same_id}
use Rattle.shred_plan.specs.Plan.{Placing, share, touches, conflict}
use Rattle.scene_model.specs.Rulebook.{Access}
use Rattle.scene_document.specs.Openings.{Resource, same_resource, reads_of, writes_of}
use Rattle.scene_world.specs.Standing.{Kinds}
use Rattle.scene_world.specs.Lent.{StandApart, AreKnown, id_of_place, read_places, written_places}
use Rattle.scene_dispatch.specs.Declaring.{DeclareOne}
use Rattle.scene_dispatch.proofs.NumberPlaceLemmas.{ids-read, ids-written}

module _ {V : Type 0} (kinds : Kinds V) (apart : StandApart kinds) where
  -- the one writes what the other reads or writes
  touches-same : (access others : Access) → AreKnown kinds access → AreKnown kinds others → (position place : ℕ) → position ≢ place
      → (one two : Placing Resource) (other another : Placing ResourceId) → DeclareOne kinds access position one other → DeclareOne kinds others place two another
      → touches same_resource one two ≡ touches same_id other another
  touches-same access others known knows position place differ one two other another first second =
      ap (λ list. share same_resource list two.reads || share same_resource list two.writes) first.writes
      ∙ ap (λ list. share same_resource (writes_of access) list || share same_resource (writes_of access) two.writes) second.reads
      ∙ ap (λ list. share same_resource (writes_of access) (reads_of others) || share same_resource (writes_of access) list) second.writes
      ∙ ap (λ b. b || share same_resource (writes_of access) (writes_of others)) (sym (ids-read kinds apart access others position known knows))
      ∙ ap (λ b. share same_id (map (id_of_place kinds) (written_places access position)) (map (id_of_place kinds) (read_places others)) || b)
      (sym (ids-written kinds apart access others position place (ne_eqb position place differ) known knows))
      ∙ sym (ap (λ list. share same_id list another.reads || share same_id list another.writes) first.written_ids
      ∙ ap (λ list. share same_id (map (id_of_place kinds) (written_places access position)) list || share same_id (map (id_of_place kinds) (written_places access position)) another.writes) second.read_ids
      ∙ ap (λ list. share same_id (map (id_of_place kinds) (written_places access position)) (map (id_of_place kinds) (read_places others)) || share same_id (map (id_of_place kinds) (written_places access position)) list)
      second.written_ids)

  -- one of them writes what the other reads or writes
  pub conflicts-same : (access others : Access) → AreKnown kinds access → AreKnown kinds others → (position place : ℕ) → position ≢ place
      → (one two : Placing Resource) (other another : Placing ResourceId) → DeclareOne kinds access position one other → DeclareOne kinds others place two another
      → conflict same_resource one two ≡ conflict same_id other another
  conflicts-same access others known knows position place differ one two other another first second =
      ap (λ b. b || touches same_resource two one) (touches-same access others known knows position place differ one two other another first second)
      ∙ ap (λ b. touches same_id other another || b) (touches-same others access knows known place position (λ e. differ (sym e)) two one another other second first)
