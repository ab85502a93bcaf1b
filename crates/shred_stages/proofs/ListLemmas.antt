-- Runs of stages are runs along the list of their systems.
use Rattle.std.proofs.Common.{◌≡◌, ℕ, List, [], ◌∷◌, ◌++◌, refl, sym, ◌∙◌, subst, Option, Some, None}
use Rattle.std.specs.Option.{MatchOption, option_or}
use Rattle.shred_world.specs.declared.resource_id.ResourceId.{ResourceId}
use Rattle.shred_world.specs.Bundles.{Holding}
use Rattle.shred_plan.specs.Plan.{Placing, Stage, systems_of, plan_order}
use Rattle.shred_stages.specs.declared.stop.Stop.{Stop}
use Rattle.shred_stages.specs.Runs.{State, Turn, GroupRuns, StageRuns, StagesRun}
use Rattle.shred_stages.specs.Orders.{ListRuns}

module _ {V S : Type 0} (meets : S → Holding V → Option Stop → S → Holding V → Type 0) where
  -- what comes after a list: a second one, unless the first was refused
  abbrev Goes : List (Placing ResourceId) → Option (ℕ × Stop) → State V S → Option (ℕ × Stop) → State V S → Type 0
  Goes others first between refused after = MatchOption first (ListRuns meets others between refused after) (λ why. (refused ≡ Some why) × (after ≡ between))

  list-then : (list others : List (Placing ResourceId)) (before between after : State V S) (first refused : Option (ℕ × Stop)) → ListRuns meets list before first between → Goes others first between refused after
      → ListRuns meets (list ++ others) before refused after
  list-then [] others before between after first refused (none, same) rest =
      let P : Option (ℕ × Stop) → Type 0 = λ first. Goes others first between refused after in
      let Q : State V S → Type 0 = λ state. ListRuns meets others state refused after in
      subst Q same (subst P none rest)
  list-then (one ∷ list) others before between after first refused (next, stop, turn, run) rest =
      (next, stop, turn, by stop run (λ later. list-then list others next between after first refused later rest))
    where
      by : (stop : Option Stop) → MatchOption stop (GroupRuns meets list next first between) (λ why. (first ≡ Some (one.number, why)) × (between ≡ next))
          → (GroupRuns meets list next first between → ListRuns meets (list ++ others) next refused after)
          → MatchOption stop (GroupRuns meets (list ++ others) next refused after) (λ why. (refused ≡ Some (one.number, why)) × (after ≡ next))
      by None run later = later run
      by (Some why) (told, same) later =
          let P : Option (ℕ × Stop) → Type 0 = λ first. Goes others first between refused after in
          let end = subst P told rest in
          (end.0, end.1 ∙ same)

  -- along a list no system refuses, or one does, and the list runs as far as that
  abbrev Along : List (Placing ResourceId) → State V S → Option (ℕ × Stop) → State V S → Type 0
  Along list before refused after = MatchOption refused (ListRuns meets list before None after) (λ why. (last : State V S) × ListRuns meets list before (Some why) last)

  -- what was refused in the first of two lists, and what goes on into the second
  refused-first : (list others : List (Placing ResourceId)) (before between : State V S) (why : ℕ × Stop) → ListRuns meets list before (Some why) between → (last : State V S) × ListRuns meets (list ++ others) before (Some why) last
  refused-first list others before between why run = (between, list-then list others before between between (Some why) (Some why) run (refl, refl))

  along-then : (list others : List (Placing ResourceId)) (before between after : State V S) (refused : Option (ℕ × Stop)) → ListRuns meets list before None between → Along others between refused after → Along (list ++ others) before refused after
  along-then list others before between after None run rest = list-then list others before between after None None run rest
  along-then list others before between after (Some why) run (last, rest) = (last, list-then list others before between last None (Some why) run rest)

  along-told : (list : List (Placing ResourceId)) (before after : State V S) (refused first : Option (ℕ × Stop)) → refused ≡ first → Along list before first after → Along list before refused after
  along-told list before after refused first is along = let P : Option (ℕ × Stop) → Type 0 = λ told. Along list before told after in subst P (sym is) along

  stage-along : (stage : Stage ResourceId) (before after : State V S) (refused : Option (ℕ × Stop)) → StageRuns meets stage before refused after → Along (systems_of stage) before refused after
  stage-along [] before after refused (none, same) = along-told [] before after refused None none (refl, same)
  stage-along (group ∷ stage) before after refused (between, first, later, run, rest, told) = along-told (group ++ systems_of stage) before after refused (option_or first later) told (by first run (stage-along stage between after later rest))
    where
      by : (first : Option (ℕ × Stop)) → GroupRuns meets group before first between → Along (systems_of stage) between later after → Along (group ++ systems_of stage) before (option_or first later) after
      by None run along = along-then group (systems_of stage) before between after later run along
      by (Some why) run along = refused-first group (systems_of stage) before between why run

  stages-along : (stages : List (Stage ResourceId)) (before after : State V S) (refused : Option (ℕ × Stop)) → StagesRun meets stages before refused after → Along (plan_order stages) before refused after
  stages-along [] before after refused (none, same) = along-told [] before after refused None none (refl, same)
  stages-along (stage ∷ stages) before after refused (between, stop, run, rest) = by stop (stage-along stage before between stop run) rest (stages-along stages between after refused)
    where
      by : (stop : Option (ℕ × Stop)) → Along (systems_of stage) before stop between → MatchOption stop (StagesRun meets stages between refused after) (λ why. (refused ≡ Some why) × (after ≡ between))
          → (StagesRun meets stages between refused after → Along (plan_order stages) between refused after) → Along (systems_of stage ++ plan_order stages) before refused after
      by None run rest later = along-then (systems_of stage) (plan_order stages) before between after refused run (later rest)
      by (Some why) (last, run) (told, same) later = along-told (systems_of stage ++ plan_order stages) before after refused (Some why) told (refused-first (systems_of stage) (plan_order stages) before last why run)

  -- stages that run are a run along their list,
  pub stages-list : (stages : List (Stage ResourceId)) (before after : State V S) → StagesRun meets stages before None after → ListRuns meets (plan_order stages) before None after
  stages-list stages before after run = stages-along stages before after None run

  -- or a run as far as the refusal that is told
  pub stages-refused : (stages : List (Stage ResourceId)) (before after : State V S) (why : ℕ × Stop) → StagesRun meets stages before (Some why) after → (last : State V S) × ListRuns meets (plan_order stages) before (Some why) last
  stages-refused stages before after why run = stages-along stages before after (Some why) run

  -- a list that runs is two that run
  list-parts : (list others : List (Placing ResourceId)) (before after : State V S) (refused : Option (ℕ × Stop)) → refused ≡ None → ListRuns meets (list ++ others) before refused after
      → (between : State V S) × ListRuns meets list before None between × ListRuns meets others between None after
  list-parts [] others before after refused none run = let P : Option (ℕ × Stop) → Type 0 = λ refused. ListRuns meets others before refused after in (before, (refl, refl), subst P none run)
  list-parts (one ∷ list) others before after refused none (next, stop, turn, run) = by stop turn run (list-parts list others next after refused none)
    where
      by : (stop : Option Stop) → Turn meets one before stop next → MatchOption stop (GroupRuns meets (list ++ others) next refused after) (λ why. (refused ≡ Some (one.number, why)) × (after ≡ next))
          → (ListRuns meets (list ++ others) next refused after → (between : State V S) × ListRuns meets list next None between × ListRuns meets others between None after)
          → (between : State V S) × ListRuns meets (one ∷ list) before None between × ListRuns meets others between None after
      by None turn run later = let parts = later run in (parts.0, (next, None, turn, parts.1), parts.2)
      by (Some why) turn (told, same) later = let e = sym told ∙ none in cc

  list-stage : (stage : Stage ResourceId) (before after : State V S) → ListRuns meets (systems_of stage) before None after → StageRuns meets stage before None after
  list-stage [] before after run = run
  list-stage (group ∷ stage) before after run =
      let parts = list-parts group (systems_of stage) before after None refl run in
      (parts.0, None, None, parts.1, list-stage stage parts.0 after parts.2, refl)

  -- a run along the list of some stages is a run of theirs
  pub list-stages : (stages : List (Stage ResourceId)) (before after : State V S) → ListRuns meets (plan_order stages) before None after → StagesRun meets stages before None after
  list-stages [] before after run = run
  list-stages (stage ∷ stages) before after run =
      let parts = list-parts (systems_of stage) (plan_order stages) before after None refl run in
      (parts.0, None, list-stage stage before parts.0 parts.1, list-stages stages parts.0 after parts.2)
