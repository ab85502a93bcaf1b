-- What a builder that is asked for what the entries of a document say has planned.
use Rattle.std.proofs.Common.{◌≡◌, ℕ, zero, suc, Bool, List, [], ◌∷◌, map, Some, refl, ap, sym, ◌∙◌, subst}
use Rattle.std.specs.Prelude.{slice_get, unwrap_or, ◌++◌}
use Rattle.std.specs.List.{fold}
use Rattle.shred_world.specs.declared.resource_id.ResourceId.{ResourceId}
use Rattle.shred_world.specs.ResourceIds.{same_id}
use Rattle.shred_plan.specs.Plan.{added, plan}
use Rattle.scene_model.specs.Scenes.{PlainSystem}
use Rattle.scene_document.specs.Drafts.{Draft, DraftEntry}
use Rattle.scene_document.specs.Openings.{staged_list, staged_systems, frames_of}
use Rattle.scene_world.specs.Standing.{Kinds}
use Rattle.scene_world.specs.Lent.{StandApart}
use Rattle.scene_world.specs.Chains.{plan_order, PlanIsLent, EachAt}
use Rattle.shred.specs.Building.{Building, nothing_built}
use Rattle.shred.specs.Dispatchers.{Drafting, dispatcher_of}
use Rattle.shred.specs.Histories.{Asked, with_asked, built_from, told}
use Rattle.shred.specs.Histories as asked
use Rattle.scene_dispatch.specs.Entries.{AreNamed, meant_at}
use Rattle.scene_dispatch.specs.Orders.{nobody}
use Rattle.scene_dispatch.specs.Told.{AllKnown, told_entries}
use Rattle.scene_dispatch.specs.Asked.{IsBuiltOf, IsDraftedOf}
use Rattle.scene_dispatch.proofs.BuilderLemmas.{builder-told, builder-systems}
use Rattle.scene_dispatch.proofs.OrderLemmas.{staged-order, staged-lent}

-- a builder plans what it tells
built-planned : {S : Type 0} (same : ResourceId → ResourceId → Bool) (list : List (Asked S)) (building : Building S) → (built_from same building list).staging.planning ≡ fold (added same) building.staging.planning (told same building list)
built-planned same [] building = refl
built-planned same (asked.system one declared name after ∷ list) building = built-planned same list (with_asked same building (asked.system one declared name after))
built-planned same (asked.barrier ∷ list) building = built-planned same list (with_asked same building asked.barrier)

-- what is made of the element at a place
made-at : {A B : Type 0} (f : A → B) (xs : List A) (place : ℕ) (x : A) (d : B) → slice_get xs place ≡ Some x → f x ≡ unwrap_or (slice_get (map f xs) place) d
made-at f [] place x d e = cc
made-at f (y ∷ xs) zero x d e = let same : y ≡ x = cc in ap f (sym same)
made-at f (y ∷ xs) (suc place) x d e = made-at f xs place x d e

module _ {V S : Type 0} (kinds : Kinds V) (plain : S → PlainSystem) where
  -- the systems of a builder are the staged ones
  pub built-systems : (same : ResourceId → ResourceId → Bool) (entries : List DraftEntry) (building : Building S) → IsBuiltOf kinds same plain entries building → map plain building.staging.systems ≡ staged_list 1 entries
  built-systems same entries building is = ap (λ (b : Building S). map plain b.staging.systems) is.built ∙ builder-systems kinds same plain is.list entries is.asks

  -- and each is the one that is meant by its number
  pub built-meant : (same : ResourceId → ResourceId → Bool) (entries : List DraftEntry) (building : Building S) → IsBuiltOf kinds same plain entries building → EachAt (λ number one. plain one ≡ meant_at entries number) building.staging.systems
  built-meant same entries building is number one there =
      made-at plain building.staging.systems number one nobody there ∙ ap (λ systems. unwrap_or (slice_get systems number) nobody) (built-systems same entries building is)

  -- its plan is that of what the entries say
  pub built-plan : (same : ResourceId → ResourceId → Bool) (entries : List DraftEntry) (building : Building S) → AreNamed entries → IsBuiltOf kinds same plain entries building → building.staging.planning.stages ≡ plan same (told_entries kinds entries)
  built-plan same entries building named is =
      ap (λ (b : Building S). b.staging.planning.stages) is.built ∙ ap (λ planning. planning.stages) (built-planned same is.list nothing_built) ∙ ap (plan same) (builder-told kinds same plain is.list entries named is.asks)

  module _ {L : Type 0} (plain_local : L → PlainSystem) (apart : StandApart kinds) (draft : Draft) (known : AllKnown kinds draft.entries) (named : AreNamed draft.entries) (drafting : Drafting S L) (is : IsDraftedOf kinds same_id plain plain_local draft.entries drafting) where
    -- so its systems run in the order of the document, and then the local ones as they stand
    pub built-order : (frame : ℕ) → plan_order (meant_at draft.entries) (dispatcher_of drafting).staging.planning.stages ++ map plain_local (dispatcher_of drafting).locals ≡ (frames_of draft frame).order
    built-order frame =
        ap (λ list. list ++ map plain_local drafting.locals) (ap (plan_order (meant_at draft.entries)) (built-plan same_id draft.entries drafting.building named is.building) ∙ staged-order kinds apart draft known)
        ∙ ap (λ list. staged_systems draft ++ list) is.locals

    -- and each declares what it is lent
    pub built-lent : PlanIsLent kinds (meant_at draft.entries) (dispatcher_of drafting).staging.planning.stages
    built-lent = subst (PlanIsLent kinds (meant_at draft.entries)) (sym (built-plan same_id draft.entries drafting.building named is.building)) (staged-lent kinds apart draft known)
