-- What is lent to the systems of a plan, as one more is placed.
use Rattle.std.proofs.Common.{◌≡◌, ℕ, ◌-◌, zero, suc, Bool, List, [], ◌∷◌, ◌++◌, Option, Some, None, refl, sym, subst}
use Rattle.std.specs.Prelude.{◌==◌, slice_get, slice_set, slice_index_or, if◌then◌else◌}
use Rattle.std.specs.Option.{MatchOption, option_map_or}
use Rattle.shred_world.specs.declared.resource_id.ResourceId.{ResourceId}
use Rattle.shred_plan.specs.Plan.{Placing, Group, Stage, Planning, placing, admitted, taken, placed, added, rest_after, systems_of}
use Rattle.shred_plan.specs.declared.stage.Way.{Way}
use Rattle.shred_plan.specs.declared.stage.Way.TheVariants.{Alone, Behind}
use Rattle.scene_model.specs.Scenes.{PlainSystem}
use Rattle.scene_world.specs.Standing.{Kinds}
use Rattle.scene_world.specs.Lent.{IsLent}
use Rattle.scene_dispatch.specs.Lent.{IsLentThere, GroupIsThere, StageIsThere, PlanIsThere}
use Rattle.scene_dispatch.proofs.PlaceLemmas.{get-front}

module _ {V : Type 0} (kinds : Kinds V) (systems more : List PlainSystem) where
  one-more : (one : Placing ResourceId) → IsLentThere kinds systems one → IsLentThere kinds (systems ++ more) one
  one-more one lent = by (slice_get systems one.number) refl lent
    where
      by : (o : Option PlainSystem) → slice_get systems one.number ≡ o → MatchOption o ⊥ (λ system. IsLent kinds system.access system.position one.reads one.writes) → IsLentThere kinds (systems ++ more) one
      by None is lent = absurd lent
      by (Some system) is lent = subst (λ o. MatchOption o ⊥ (λ system. IsLent kinds system.access system.position one.reads one.writes)) (sym (get-front systems more one.number system is)) lent

  group-more : (group : Group ResourceId) → GroupIsThere kinds systems group → GroupIsThere kinds (systems ++ more) group
  group-more [] lent = tt
  group-more (one ∷ group) lent = (one-more one lent.0, group-more group lent.1)

  stage-more : (stage : Stage ResourceId) → StageIsThere kinds systems stage → StageIsThere kinds (systems ++ more) stage
  stage-more [] lent = tt
  stage-more (group ∷ stage) lent = (group-more group lent.0, stage-more stage lent.1)

  -- with more systems by number the plan's are lent what they were
  pub plan-more : (stages : List (Stage ResourceId)) → PlanIsThere kinds systems stages → PlanIsThere kinds (systems ++ more) stages
  plan-more [] lent = tt
  plan-more (stage ∷ stages) lent = (stage-more stage lent.0, plan-more stages lent.1)

module _ {V : Type 0} (kinds : Kinds V) (systems : List PlainSystem) (one : Placing ResourceId) (lent_one : IsLentThere kinds systems one) where
  group-behind : (group : Group ResourceId) → GroupIsThere kinds systems group → GroupIsThere kinds systems (group ++ one ∷ [])
  group-behind [] lent = (lent_one, tt)
  group-behind (first ∷ group) lent = (lent.0, group-behind group lent.1)

  stage-alone : (stage : Stage ResourceId) → StageIsThere kinds systems stage → StageIsThere kinds systems (stage ++ (one ∷ []) ∷ [])
  stage-alone [] lent = ((lent_one, tt), tt)
  stage-alone (group ∷ stage) lent = (lent.0, stage-alone stage lent.1)

  stage-behind : (stage : Stage ResourceId) (place : ℕ) → StageIsThere kinds systems stage → StageIsThere kinds systems (slice_set stage place (slice_index_or stage place [] ++ one ∷ []))
  stage-behind [] place lent = tt
  stage-behind (group ∷ stage) zero lent = (group-behind group lent.0, lent.1)
  stage-behind (group ∷ stage) (suc place) lent = (lent.0, stage-behind stage place lent.1)

  stage-taken : (stage : Stage ResourceId) (way : Way) → StageIsThere kinds systems stage → StageIsThere kinds systems (taken one stage way)
  stage-taken stage Alone lent = stage-alone stage lent
  stage-taken stage (Behind place) lent = stage-behind stage place lent

  plan-placed : (same : ResourceId → ResourceId → Bool) (closed : ℕ) (rest : List ℕ) (stages : List (Stage ResourceId)) → PlanIsThere kinds systems stages → PlanIsThere kinds systems (placed same closed one rest stages)
  plan-placed same closed rest [] lent = (((lent_one, tt), tt), tt)
  plan-placed same closed rest (stage ∷ stages) lent =
      by (if closed == 0 then admitted same one rest stage else None) (lent.0, plan-placed same (closed - 1) (rest_after rest (systems_of stage)) stages lent.1)
    where
      by : (way : Option Way) → PlanIsThere kinds systems (stage ∷ placed same (closed - 1) one (rest_after rest (systems_of stage)) stages)
          → PlanIsThere kinds systems (option_map_or (λ way. taken one stage way ∷ stages) way (stage ∷ placed same (closed - 1) one (rest_after rest (systems_of stage)) stages))
      by None passed = passed
      by (Some way) passed = (stage-taken stage way lent.0, lent.1)

  -- in a plan with one more that is lent what it declares each is
  pub plan-added : (same : ResourceId → ResourceId → Bool) (planning : Planning ResourceId) → PlanIsThere kinds systems planning.stages → PlanIsThere kinds systems (added same planning (placing one)).stages
  plan-added same planning lent = plan-placed same planning.first one.after planning.stages lent
