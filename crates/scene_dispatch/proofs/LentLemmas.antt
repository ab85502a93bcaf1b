-- What the systems of a plan are lent.
use Rattle.std.proofs.Common.{◌≡◌, ℕ, ◌+◌, suc, List, [], ◌∷◌, ◌++◌, Option, Some, None, refl, ap, sym, ◌∙◌, subst, arith}
use Rattle.std.specs.Prelude.{slice_get}
use Rattle.std.specs.Option.{MatchOption, option_or, unwrap_or}
use Rattle.std.proofs.lemmas.Grind.{flat_map-append}
use Rattle.std.proofs.lemmas.List.{append-nil}
use Rattle.shred_world.specs.declared.resource_id.ResourceId.{ResourceId}
use Rattle.shred_world.specs.Bundles.{Holding}
use Rattle.shred_plan.specs.Plan.{Placing, Group, Stage}
use Rattle.shred_stages.specs.declared.stop.Stop.{Stop}
use Rattle.shred_stages.specs.Runs.{State, GroupRuns, StageRuns, StagesRun}
use Rattle.scene_model.specs.Scenes.{PlainSystem}
use Rattle.scene_world.specs.Standing.{Kinds}
use Rattle.scene_world.specs.Lent.{IsLent}
use Rattle.scene_world.specs.Chains.{group_order, stage_order, plan_order, GroupIsLent, StageIsLent, PlanIsLent}
use Rattle.scene_dispatch.specs.Orders.{nobody, plain_at}
use Rattle.scene_dispatch.specs.Lent.{IsLentThere, GroupIsThere, StageIsThere, PlanIsThere, reads_of, writes_of, EachIsLent}
use Rattle.scene_dispatch.proofs.LocalLemmas.{group_of}

-- what is known of a number where a system is there under it
there : {V : Type 0} (kinds : Kinds V) (systems : List PlainSystem) (one : Placing ResourceId) → IsLentThere kinds systems one
    → (system : PlainSystem) × (slice_get systems one.number ≡ Some system) × IsLent kinds system.access system.position one.reads one.writes
there kinds systems one lent = by (slice_get systems one.number) refl lent
  where
    by : (o : Option PlainSystem) → slice_get systems one.number ≡ o → MatchOption o ⊥ (λ system. IsLent kinds system.access system.position one.reads one.writes)
        → (system : PlainSystem) × (slice_get systems one.number ≡ Some system) × IsLent kinds system.access system.position one.reads one.writes
    by None is lent = absurd lent
    by (Some system) is lent = (system, is, lent)

module _ {V : Type 0} (kinds : Kinds V) (systems : List PlainSystem) (at : ℕ → PlainSystem) (as_there : (n : ℕ) (system : PlainSystem) → slice_get systems n ≡ Some system → at n ≡ system) where
  one-lent : (one : Placing ResourceId) → IsLentThere kinds systems one → IsLent kinds (at one.number).access (at one.number).position one.reads one.writes
  one-lent one lent = let found = there kinds systems one lent in subst (λ p. IsLent kinds p.access p.position one.reads one.writes) (sym (as_there one.number found.0 found.1)) found.2

  group-lent : (group : Group ResourceId) → GroupIsThere kinds systems group → GroupIsLent kinds at group
  group-lent [] lent = tt
  group-lent (one ∷ group) lent = (one-lent one lent.0, group-lent group lent.1)

  stage-lent : (stage : Stage ResourceId) → StageIsThere kinds systems stage → StageIsLent kinds at stage
  stage-lent [] lent = tt
  stage-lent (group ∷ stage) lent = (group-lent group lent.0, stage-lent stage lent.1)

  -- the systems of a plan are lent what is meant by their numbers
  pub plan-lent : (stages : List (Stage ResourceId)) → PlanIsThere kinds systems stages → PlanIsLent kinds at stages
  plan-lent [] lent = tt
  plan-lent (stage ∷ stages) lent = (stage-lent stage lent.0, plan-lent stages lent.1)

  one-same : (one : Placing ResourceId) → IsLentThere kinds systems one → at one.number ≡ plain_at systems one.number
  one-same one lent = let found = there kinds systems one lent in as_there one.number found.0 found.1 ∙ sym (ap (λ o. unwrap_or o nobody) found.1)

  group-same : (group : Group ResourceId) → GroupIsThere kinds systems group → group_order at group ≡ group_order (plain_at systems) group
  group-same [] lent = refl
  group-same (one ∷ group) lent = ap (λ p. p ∷ group_order at group) (one-same one lent.0) ∙ ap (λ l. plain_at systems one.number ∷ l) (group-same group lent.1)

  stage-same : (stage : Stage ResourceId) → StageIsThere kinds systems stage → stage_order at stage ≡ stage_order (plain_at systems) stage
  stage-same [] lent = refl
  stage-same (group ∷ stage) lent = ap (λ l. l ++ stage_order at stage) (group-same group lent.0) ∙ ap (λ l. group_order (plain_at systems) group ++ l) (stage-same stage lent.1)

  -- and their order is that of the systems by number
  pub plan-same : (stages : List (Stage ResourceId)) → PlanIsThere kinds systems stages → plan_order at stages ≡ plan_order (plain_at systems) stages
  plan-same [] lent = refl
  plan-same (stage ∷ stages) lent = ap (λ l. l ++ plan_order at stages) (stage-same stage lent.0) ∙ ap (λ l. stage_order (plain_at systems) stage ++ l) (plan-same stages lent.1)

module _ {V : Type 0} (kinds : Kinds V) (at : ℕ → PlainSystem) where
  -- so it is with the systems of a group that are numbered one after another
  pub each-lent : (systems : List PlainSystem) (number : ℕ) → EachIsLent kinds systems → ((n : ℕ) (system : PlainSystem) → slice_get systems n ≡ Some system → at (number + n) ≡ system)
      → GroupIsLent kinds at (group_of kinds number systems)
  each-lent [] number lent as_there = tt
  each-lent (system ∷ systems) number lent as_there = (
    subst (λ p. IsLent kinds p.access p.position (reads_of kinds system) (writes_of kinds system)) (sym (here ∙ as_there 0 system refl)) lent.0,
    each-lent systems (suc number) lent.1 (λ n other is. let next : suc number + n ≡ number + suc n = omega arith in ap at next ∙ as_there (suc n) other is),
  )
    where
      here : at number ≡ at (number + 0)
      here = let same : number ≡ number + 0 = omega arith in ap at same

  pub each-order : (systems : List PlainSystem) (number : ℕ) → ((n : ℕ) (system : PlainSystem) → slice_get systems n ≡ Some system → at (number + n) ≡ system) → group_order at (group_of kinds number systems) ≡ systems
  each-order [] number as_there = refl
  each-order (system ∷ systems) number as_there =
      ap (λ p. p ∷ group_order at (group_of kinds (suc number) systems)) (here ∙ as_there 0 system refl)
      ∙ ap (λ l. system ∷ l) (each-order systems (suc number) (λ n other is. let next : suc number + n ≡ number + suc n = omega arith in ap at next ∙ as_there (suc n) other is))
    where
      here : at number ≡ at (number + 0)
      here = let same : number ≡ number + 0 = omega arith in ap at same

  -- more stages are lent, where the first are
  pub lent-append : (stages more : List (Stage ResourceId)) → PlanIsLent kinds at stages → PlanIsLent kinds at more → PlanIsLent kinds at (stages ++ more)
  lent-append [] more lent other = other
  lent-append (stage ∷ stages) more lent other = (lent.0, lent-append stages more lent.1 other)

  -- the order of a plan with a group behind it
  pub order-append : (stages : List (Stage ResourceId)) (group : Group ResourceId) → plan_order at (stages ++ (group ∷ []) ∷ []) ≡ plan_order at stages ++ group_order at group
  order-append stages group =
      flat_map-append (stage_order at) stages ((group ∷ []) ∷ [])
      ∙ ap (λ l. plan_order at stages ++ l) (append-nil (stage_order at (group ∷ [])) ∙ append-nil (group_order at group))

-- ---- a refusal tells a number of the plan

module _ {V S : Type 0} (kinds : Kinds V) (systems : List PlainSystem) (meets : S → Holding V → Option Stop → S → Holding V → Type 0) where
  -- a system is there under a number
  abbrev pub IsThere : ℕ → Type 0
  IsThere number = (system : PlainSystem) × (slice_get systems number ≡ Some system)

  group-refuser : (group : Group ResourceId) → GroupIsThere kinds systems group → (before after : State V S) (refused : Option (ℕ × Stop)) (told : ℕ × Stop) → refused ≡ Some told → GroupRuns meets group before refused after → IsThere told.0
  group-refuser [] lent before after refused told is (none, same) = cc
  group-refuser (one ∷ group) lent before after refused told is (between, stop, turn, rest) = by stop rest (group-refuser group lent.1 between after refused told is)
    where
      by : (stop : Option Stop) → MatchOption stop (GroupRuns meets group between refused after) (λ why. (refused ≡ Some (one.number, why)) × (after ≡ between)) → (GroupRuns meets group between refused after → IsThere told.0) → IsThere told.0
      by None rest later = later rest
      by (Some why) rest later =
          let found = there kinds systems one lent.0 in
          let same : told ≡ (one.number, why) = cc rest.0 in
          (found.0, ap (λ (t : ℕ × Stop). slice_get systems t.0) same ∙ found.1)

  stage-refuser : (stage : Stage ResourceId) → StageIsThere kinds systems stage → (before after : State V S) (refused : Option (ℕ × Stop)) (told : ℕ × Stop) → refused ≡ Some told → StageRuns meets stage before refused after → IsThere told.0
  stage-refuser [] lent before after refused told is (none, same) = cc
  stage-refuser (group ∷ stage) lent before after refused told is (between, first, later, ran, rest, both) = by first refl (sym both ∙ is) (λ e. stage-refuser stage lent.1 between after later told e rest)
    where
      by : (o : Option (ℕ × Stop)) → first ≡ o → option_or o later ≡ Some told → (later ≡ Some told → IsThere told.0) → IsThere told.0
      by None none e in_later = in_later e
      by (Some why) some e in_later = group-refuser group lent.0 before between first told (some ∙ e) ran

  pub plan-refuser : (stages : List (Stage ResourceId)) → PlanIsThere kinds systems stages → (before after : State V S) (refused : Option (ℕ × Stop)) (told : ℕ × Stop) → refused ≡ Some told → StagesRun meets stages before refused after → IsThere told.0
  plan-refuser [] lent before after refused told is (none, same) = cc
  plan-refuser (stage ∷ stages) lent before after refused told is (between, why, ran, rest) = by why ran rest (plan-refuser stages lent.1 between after refused told is)
    where
      by : (why : Option (ℕ × Stop)) → StageRuns meets stage before why between → MatchOption why (StagesRun meets stages between refused after) (λ w. (refused ≡ Some w) × (after ≡ between)) → (StagesRun meets stages between refused after → IsThere told.0) → IsThere told.0
      by None ran rest later = later rest
      by (Some w) ran rest later = stage-refuser stage lent.0 before between (Some w) told (sym rest.0 ∙ is) ran
