-- A turn of a local system that memory didn't suffice for.
use Rattle.std.proofs.Common.{List, Some, refl, sym}
use Rattle.shred_world.specs.declared.resource_id.ResourceId.{ResourceId}
use Rattle.shred_world.specs.Bundles.{Holding, is_listed}
use Rattle.shred_stages.specs.declared.stop.Stop.TheVariants as stop
use Rattle.shred_stages.specs.Views.{cut}
use Rattle.shred_stages.specs.Runs.{Step}
use Rattle.shred_stages.proofs.CallerLemmas.{leaves-itself, lent-back}
use Rattle.scene_world.specs.Standing.{Kinds}
use Rattle.scene_world.specs.Turns.{Meaning, TakesTurn}

-- a turn that changes nothing may want memory
pub wants-memory : {V S : Type 0} (kinds : Kinds V) (meaning : Meaning S) (reads writes : List ResourceId) (system : S) (w : Holding V) → meaning.is_system system
    → Step (TakesTurn kinds meaning) reads writes system w (Some stop.Memory) system w
wants-memory kinds meaning reads writes system w is = record {
  after = cut reads writes w;
  runs = record { stays = is; same = refl; same_sense = refl; no_more = λ f o did. did; ends = λ lent. tt };
  leaves = leaves-itself (cut reads writes w);
  comes_back = λ id. sym (lent-back (is_listed writes id) (is_listed reads id) (w id));
}
