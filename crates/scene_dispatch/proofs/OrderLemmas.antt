-- The order of a dispatcher's plan is that of the document's.
use Rattle.std.proofs.Common.{◌≡◌, ℕ, List, [], ◌∷◌, ◌++◌, map, Option, Some, refl, ap, sym, ◌∙◌, subst, subst₂}
use Rattle.std.specs.Prelude.{slice_get}
use Rattle.std.specs.List.{AllZip, AllByRecursion, filter_map, cons_option}
use Rattle.std.proofs.lemmas.List.{map-append}
use Rattle.std.proofs.lemmas.List.Elements.{All-contains, All-from_recursion, recursion_from_All}
use Rattle.shred_world.specs.declared.resource_id.ResourceId.{ResourceId}
use Rattle.shred_world.specs.ResourceIds.{same_id}
use Rattle.shred_plan.specs.Plan.{Placing, Group, Stage, plan, systems_of}
use Rattle.shred_plan.specs.Plan as planner
use Rattle.scene_model.specs.Scenes.{PlainSystem}
use Rattle.scene_document.specs.Drafts.{Draft, DraftEntry}
use Rattle.scene_document.specs.Openings.{Resource, same_resource, staged_list, staged_systems}
use Rattle.scene_world.specs.Standing.{Kinds}
use Rattle.scene_world.specs.Lent.{StandApart, IsLent, id_of_place, read_places, written_places}
use Rattle.scene_world.proofs.CallerLemmas.{lent-ids}
use Rattle.scene_world.specs.Chains.{group_order, stage_order, plan_order, GroupIsLent, StageIsLent, PlanIsLent}
use Rattle.scene_dispatch.specs.Alike.{Beside, to_one, to_other, partners_of, AreNumberedAlike, AreAlike, ArePartners}
use Rattle.scene_dispatch.specs.Entries.{systems_among, meant_at}
use Rattle.scene_dispatch.specs.Told.{FactsKnown, AllKnown, told_entries}
use Rattle.scene_dispatch.proofs.ShapeLemmas.{zip-order, weaker-plan, one-shape}
use Rattle.scene_dispatch.proofs.AlikeListLemmas.{ByGroup, ByStage}
use Rattle.scene_dispatch.proofs.EntryLemmas.{each-weaker, beside_from, to-one, to-other, IsEntry, entries-told, entries-alike}

-- what is meant by the systems of a plan in its order
stage-meant : (at : ℕ → PlainSystem) (stage : Stage ResourceId) → stage_order at stage ≡ map (λ one. at one.number) (systems_of stage)
stage-meant at [] = refl
stage-meant at (group ∷ stage) = ap (λ list. group_order at group ++ list) (stage-meant at stage) ∙ sym (map-append (λ one. at one.number) group (systems_of stage))

-- so it is of the systems of a plan
plan-meant : (at : ℕ → PlainSystem) (stages : List (Stage ResourceId)) → plan_order at stages ≡ map (λ one. at one.number) (planner.plan_order stages)
plan-meant at [] = refl
plan-meant at (stage ∷ stages) =
    ap (λ list. list ++ plan_order at stages) (stage-meant at stage) ∙ ap (λ list. map (λ one. at one.number) (systems_of stage) ++ list) (plan-meant at stages)
    ∙ sym (map-append (λ one. at one.number) (systems_of stage) (planner.plan_order stages))

-- what is found under the one's numbers is what is meant by the other's
zip-found : {I J : Type 0} (look : ℕ → Option PlainSystem) (at : ℕ → PlainSystem) (systems : List (Placing I)) (others : List (Placing J)) → AllZip (λ one other. look one.number ≡ Some (at other.number)) systems others
    → map (λ other. at other.number) others ≡ filter_map look (map (λ one. one.number) systems)
zip-found look at [] [] zipped = refl
zip-found look at [] (other ∷ others) zipped = absurd zipped
zip-found look at (one ∷ systems) [] zipped = absurd zipped
zip-found look at (one ∷ systems) (other ∷ others) zipped =
    ap (λ list. at other.number ∷ list) (zip-found look at systems others zipped.1) ∙ ap (λ o. cons_option o (filter_map look (map (λ one. one.number) systems))) (sym zipped.0)

-- what is said of partners holds of the other's plan
module _ {V I : Type 0} (kinds : Kinds V) (at : ℕ → PlainSystem) where
  -- a system declares what it is lent, and so each of a plan does
  abbrev LentAs : Placing I → Placing ResourceId → Type 0
  LentAs one other = IsLent kinds (at other.number).access (at other.number).position other.reads other.writes

  -- those of a group
  group-lent : (group : Group I) (others : Group ResourceId) → AllZip LentAs group others → GroupIsLent kinds at others
  group-lent [] [] zipped = tt
  group-lent [] (other ∷ others) zipped = absurd zipped
  group-lent (one ∷ group) [] zipped = absurd zipped
  group-lent (one ∷ group) (other ∷ others) zipped = (zipped.0, group-lent group others zipped.1)

  -- those of a stage
  stage-lent : (stage : Stage I) (others : Stage ResourceId) → ByGroup LentAs stage others → StageIsLent kinds at others
  stage-lent [] [] zipped = tt
  stage-lent [] (other ∷ others) zipped = absurd zipped
  stage-lent (group ∷ stage) [] zipped = absurd zipped
  stage-lent (group ∷ stage) (other ∷ others) zipped = (group-lent group other zipped.0, stage-lent stage others zipped.1)

  -- those of a plan
  plan-lent : (stages : List (Stage I)) (others : List (Stage ResourceId)) → ByStage LentAs stages others → PlanIsLent kinds at others
  plan-lent [] [] zipped = tt
  plan-lent [] (other ∷ others) zipped = absurd zipped
  plan-lent (stage ∷ stages) [] zipped = absurd zipped
  plan-lent (stage ∷ stages) (other ∷ others) zipped = (stage-lent stage other zipped.0, plan-lent stages others zipped.1)

-- so it is of what both planners are told of an entry
entry-lent : {V : Type 0} (kinds : Kinds V) → StandApart kinds → (all : List DraftEntry) (pair : Placing Resource × Placing ResourceId) → IsEntry kinds all 1 pair → LentAs kinds (meant_at all) pair.0 pair.1
entry-lent kinds apart all pair (place, late, entry) =
    subst₂ (λ reads writes. IsLent kinds (meant_at all pair.1.number).access (meant_at all pair.1.number).position reads writes) (sym entry.declares.read_ids) (sym entry.declares.written_ids)
    (subst₂ (λ access position. IsLent kinds access position (map (id_of_place kinds) (read_places entry.access)) (map (id_of_place kinds) (written_places entry.access place))) (sym entry.declared) (sym entry.position)
    (lent-ids kinds apart entry.access place entry.known))

module _ {V : Type 0} (kinds : Kinds V) (apart : StandApart kinds) (draft : Draft) (known : AllKnown kinds draft.entries) where
  -- what both planners are told
  abbrev told_both : List (Beside Resource ResourceId)
  told_both = beside_from kinds draft.entries 0 1 draft.entries

  -- what the rules know of each system
  knows : AllByRecursion (λ one. FactsKnown kinds one.facts) (systems_among draft.entries)
  knows = recursion_from_All (λ one. FactsKnown kinds one.facts) (systems_among draft.entries) known

  -- each two partners are told of an entry
  entries : AllByRecursion (IsEntry kinds draft.entries 1) (partners_of told_both)
  entries = entries-told kinds draft.entries [] draft.entries 1 0 refl refl refl knows

  -- both planners are told alike
  alike : AreAlike same_resource same_id told_both
  alike = record {
    numbered = All-from_recursion AreNumberedAlike (partners_of told_both)
        (each-weaker (IsEntry kinds draft.entries 1) AreNumberedAlike (λ pair entry. entry.2.numbered) (partners_of told_both) entries);
    conflicts = entries-alike kinds draft.entries apart [] draft.entries 1 0 refl refl refl knows;
  }

  -- the staged system of the document under a number
  abbrev look : ℕ → Option PlainSystem
  look number = slice_get (staged_list 1 draft.entries) number

  -- each is what is meant by its partner's number
  abbrev Found : Placing Resource → Placing ResourceId → Type 0
  Found one other = look one.number ≡ Some (meant_at draft.entries other.number)

  -- what holds of each entry holds of partners
  of-partners : (P : Placing Resource × Placing ResourceId → Type 0) → ((pair : Placing Resource × Placing ResourceId) → IsEntry kinds draft.entries 1 pair → P pair)
      → (one : Placing Resource) (other : Placing ResourceId) → ArePartners told_both one other → P (one, other)
  of-partners P holds one other partners = All-contains P (partners_of told_both) (one, other) (All-from_recursion P (partners_of told_both) (each-weaker (IsEntry kinds draft.entries 1) P holds (partners_of told_both) entries)) partners

  -- and so of the plans
  planned : (R : Placing Resource → Placing ResourceId → Type 0) → ((pair : Placing Resource × Placing ResourceId) → IsEntry kinds draft.entries 1 pair → R pair.0 pair.1)
      → ByStage R (plan same_resource (map to_one told_both)) (plan same_id (map to_other told_both))
  planned R holds =
      weaker-plan (ArePartners told_both) R (of-partners (λ pair. R pair.0 pair.1) holds) (plan same_resource (map to_one told_both)) (plan same_id (map to_other told_both))
      (one-shape same_resource same_id told_both alike)

  -- what is meant by the numbers in the order of the one plan is what is found under those in the order of the other
  both-ordered : plan_order (meant_at draft.entries) (plan same_id (map to_other told_both)) ≡ filter_map look (map (λ one. one.number) (planner.plan_order (plan same_resource (map to_one told_both))))
  both-ordered =
      plan-meant (meant_at draft.entries) (plan same_id (map to_other told_both))
      ∙ zip-found look (meant_at draft.entries) (planner.plan_order (plan same_resource (map to_one told_both))) (planner.plan_order (plan same_id (map to_other told_both)))
      (zip-order Found (plan same_resource (map to_one told_both)) (plan same_id (map to_other told_both)) (planned Found (λ pair entry. entry.2.found)))

  -- the systems that a dispatcher runs, in the order of its plan, are the document's staged systems
  pub staged-order : plan_order (meant_at draft.entries) (plan same_id (told_entries kinds draft.entries)) ≡ staged_systems draft
  staged-order =
      ap (λ list. plan_order (meant_at draft.entries) (plan same_id list)) (sym (to-other kinds draft.entries 0 1 draft.entries))
      ∙ both-ordered
      ∙ ap (λ list. filter_map look (map (λ one. one.number) (planner.plan_order (plan same_resource list)))) (to-one kinds draft.entries 0 1 draft.entries)

  -- each of them declares what it is lent
  pub staged-lent : PlanIsLent kinds (meant_at draft.entries) (plan same_id (told_entries kinds draft.entries))
  staged-lent =
      subst (λ list. PlanIsLent kinds (meant_at draft.entries) (plan same_id list)) (to-other kinds draft.entries 0 1 draft.entries)
      (plan-lent kinds (meant_at draft.entries) (plan same_resource (map to_one told_both)) (plan same_id (map to_other told_both))
      (planned (LentAs kinds (meant_at draft.entries)) (entry-lent kinds apart draft.entries)))
