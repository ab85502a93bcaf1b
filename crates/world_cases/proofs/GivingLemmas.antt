-- What a merge leaves of a queue, and what a health that was put is.
use Rattle.std.proofs.Common.{◌≡◌, ℕ, Bool, true, false, Option, Some, None, List, [], ◌∷◌, ◌++◌, inl, inr, Result, Ok, Err, IfOk, MatchOption, refl, sym, ap, subst, ◌∙◌}
use Rattle.std.specs.Option.{option_flatten, option_and_then}
use Rattle.std.specs.FinMap as map
use Rattle.shred_world.specs.declared.resource_id.ResourceId.{ResourceId}
use Rattle.shred_world.specs.ResourceIds.{id_of, same_id}
use Rattle.shred_world.specs.Worlds.{Slots, resource_at, is_of_kinds}
use Rattle.specs_entity.specs.Births.{Births}
use Rattle.specs_entity.specs.declared.ids.Entity.{Entity}
use Rattle.specs_layouts.specs.Drops.{ids_of}
use Rattle.specs_entity.specs.declared.errors.Error.{Error}
use Rattle.specs_layouts.specs.Channels.{Log}
use Rattle.specs_layouts.specs.declared.track.ComponentEvent.{ComponentEvent}
use Rattle.specs_layouts.specs.Masked.{Masked}
use Rattle.shred_world.proofs.WorldLemmas.{get-insert_here}
use Rattle.specs_world.specs.Resources.{Place, place, held, Becomes}
use Rattle.specs_world.proofs.ResourceLemmas.{resource-put}
use Rattle.specs_world.specs.declared.maintained.Maintained.{Maintained}
use Rattle.specs_world.specs.Inserting.{PutsPart}
use Rattle.specs_world.specs.Maintaining.{Maintains}
use Rattle.specs_world.proofs.CallerLemmas.{RanOne, ran-one}
use Rattle.specs_world.specs.Dropping.{Deletes, SlotDrops}
use Rattle.specs_world.proofs.DroppingLemmas.{listed-of-kinds}
use Rattle.world_cases.specs.declared.lazy.tasks.Task.{Task}
use Rattle.world_cases.specs.declared.lazy.values.Value.{Value}
use Rattle.world_cases.specs.declared.lazy.values.Value.TheVariants.{QueueValue}
use Rattle.world_cases.specs.LazyValues.{Healths, value_drops}

-- a slot with a queue holds it still, whatever was dropped
queue-dropped : (healths : Healths → List ℕ → Healths → Type 0) (indices : List ℕ) (was now : Option (Option Value)) (jobs : List Task) → was ≡ Some (Some (QueueValue jobs)) → SlotDrops (value_drops healths) indices was now
    → now ≡ Some (Some (QueueValue jobs))
queue-dropped healths indices None now jobs is dropped = cc
queue-dropped healths indices (Some None) now jobs is dropped = cc
queue-dropped healths indices (Some (Some value)) now jobs is dropped =
    let same : value ≡ QueueValue jobs = cc in
    dropped.1 ∙ ap (λ v. Some (Some v)) (subst (λ v. value_drops healths v indices dropped.0) same dropped.2)

-- deaths of entities leave the queue of the number 0
pub queue-rests : (healths : Healths → List ℕ → Healths → Type 0) (births_at : Place Value Births) (table_id : ResourceId) (births : Births) (kinds : List ℕ) (entities : List Entity) (before after : Slots Value)
    → same_id (id_of 3 0) births_at.id ≡ false → same_id (id_of 3 0) table_id ≡ false → Deletes births_at table_id (value_drops healths) births kinds entities before after
    → (jobs : List Task) → map.get before (id_of 3 0) ≡ Some (Some (QueueValue jobs)) → map.get after (id_of 3 0) ≡ Some (Some (QueueValue jobs))
queue-rests healths births_at table_id births kinds entities before after births_apart table_apart deletes jobs there = by (is_of_kinds kinds (id_of 3 0)) refl
  where
    by : (b : Bool) → is_of_kinds kinds (id_of 3 0) ≡ b → map.get after (id_of 3 0) ≡ Some (Some (QueueValue jobs))
    by true listed = queue-dropped healths (ids_of entities) _ _ jobs there (deletes.parts 3 (listed-of-kinds kinds (id_of 3 0) listed).1 births_apart table_apart)
    by false other = deletes.others (id_of 3 0) other births_apart ∙ there

module _ {S : Type 0} (healths : Healths → List ℕ → Healths → Type 0) (births_at : Place Value Births) (table_at : Place Value (List ℕ)) (births_apart : same_id (id_of 3 0) births_at.id ≡ false)
    (table_apart : same_id (id_of 3 0) table_at.id ≡ false) (runs : Task → Option Error → Slots Value → Slots Value → Type 0) (part : Value → Option (List Task))
    (seen : (jobs : List Task) → part (QueueValue jobs) ≡ Some jobs) (shared : Place Value S) where
  -- the job that was queued alone ran, after a merge
  pub record RanIt (job : Task) (counts : Maintained) (after : Slots Value) : Type 0 where
    pub merged : Slots Value
    pub there : resource_at part merged (id_of 3 0) ≡ Some (job ∷ [])
    pub one : RanOne runs (place part QueueValue 3) shared merged job [] there counts after

  pub ran-it : (job : Task) (world queued after : Slots Value) (r : Result Maintained Error) → Becomes (place part QueueValue 3) (λ was now. now ≡ was ++ job ∷ []) world queued
      → held (place part QueueValue 3) world ≡ Some [] → Maintains births_at table_at (value_drops healths) runs (place part QueueValue 3) shared 1 queued r after → IfOk r (λ counts. RanIt job counts after)
  ran-it job world queued after (Err error) becomes none maintains = tt
  ran-it job world queued after (Ok counts) becomes none (inr refused) = let e = refused.1 in cc
  ran-it job world queued after (Ok counts) (was, now, stood, added, put) none (inl (deleted, merged, merges, jobs)) =
      let empty : was ≡ [] = let e = sym stood ∙ none in cc in
      let alone = added ∙ ap (λ jobs. jobs ++ job ∷ []) empty in
      let slot =
      ap (λ w. map.get w (id_of 3 0)) put ∙ get-insert_here world (id_of 3 0) (Some (QueueValue now)) ∙ ap (λ jobs. Some (Some (QueueValue jobs))) alone in
      let rests = queue-rests healths births_at table_at.id _ _ deleted queued merged births_apart table_apart merges.deletes (job ∷ []) slot in
      let there = ap (λ slot. option_and_then part (option_flatten slot)) rests ∙ seen (job ∷ []) in
      record { merged = merged; there = there; one = ran-one runs (place part QueueValue 3) shared merged job [] there counts after jobs }

-- a part that was put is there
pub put-there : {S T : Type 0} (part : Value → Option (Masked S)) (wrapped : Masked S → Value) (kind : ℕ) → ((storage : Masked S) → part (wrapped storage) ≡ Some storage) → (births : Option Births)
    (part_at : S → ℕ → Option T) (events : S → Log ComponentEvent) (emits : S → Bool) (entity : Entity) (value : T) (before after : Slots Value)
    → ((had : Option T) × PutsPart (place part wrapped kind) part_at events emits entity value had births before after)
    → MatchOption (held (place part wrapped kind) after) ⊥ (λ storage. part_at storage.inner entity.id ≡ Some value)
put-there part wrapped kind seen births part_at events emits entity value before after (had, put) =
    let is = put.puts in
    subst (λ o. MatchOption o ⊥ (λ storage. part_at storage.inner entity.id ≡ Some value))
    (sym (ap (λ w. resource_at part w (id_of kind 0)) is.4 ∙ resource-put part wrapped seen before (id_of kind 0) is.1)) is.3.parts.here
