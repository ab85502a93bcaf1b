-- Two runs of one plan, turn for turn alike.
use Rattle.std.proofs.Common.{◌≡◌, ℕ, List, [], ◌∷◌, ◌++◌, Option, Some, None, refl, sym, ◌∙◌, subst}
use Rattle.std.specs.Option.{MatchOption, option_or}
use Rattle.shred_world.specs.declared.resource_id.ResourceId.{ResourceId}
use Rattle.shred_world.specs.Bundles.{Holding}
use Rattle.shred_plan.specs.Plan.{Placing, Group, Stage}
use Rattle.shred_stages.specs.declared.stop.Stop.{Stop}
use Rattle.shred_stages.specs.Runs.{State, Turn, GroupRuns, StageRuns, StagesRun}

module _ {V S T : Type 0} (meets : S → Holding V → Option Stop → S → Holding V → Type 0) (other : T → Holding V → Option Stop → T → Holding V → Type 0)
    (Alike : State V S → State V T → Type 0) where
  -- the other run of what one did, from a state like its own to one like that after
  abbrev pub Also : (State V T → Type 0) → State V S → Type 0
  Also runs after = (left : State V T) × runs left × Alike after left

  module _ (turn : (one : Placing ResourceId) (before after : State V S) (seen : State V T) (refused : Option Stop) → Alike before seen → Turn meets one before refused after → Also (Turn other one seen refused) after) where
    group-alike : (group : Group ResourceId) (before after : State V S) (seen : State V T) (refused : Option (ℕ × Stop)) → Alike before seen → GroupRuns meets group before refused after → Also (GroupRuns other group seen refused) after
    group-alike [] before after seen refused alike (none, same) = (seen, (none, refl), subst (λ s. Alike s seen) (sym same) alike)
    group-alike (one ∷ group) before after seen refused alike (between, stop, taken, rest) =
        by stop (turn one before between seen stop alike taken) (λ mid like runs. group-alike group between after mid refused like runs) rest
      where
        by : (stop : Option Stop) → Also (Turn other one seen stop) between
            → ((mid : State V T) → Alike between mid → GroupRuns meets group between refused after → Also (GroupRuns other group mid refused) after)
            → MatchOption stop (GroupRuns meets group between refused after) (λ why. (refused ≡ Some (one.number, why)) × (after ≡ between))
            → Also (GroupRuns other (one ∷ group) seen refused) after
        by None (mid, taken, like) later rest = let next = later mid like rest in (next.0, (mid, None, taken, next.1), next.2)
        by (Some why) (mid, taken, like) later rest = (mid, (mid, Some why, taken, (rest.0, refl)), subst (λ s. Alike s mid) (sym rest.1) like)

    stage-alike : (stage : Stage ResourceId) (before after : State V S) (seen : State V T) (refused : Option (ℕ × Stop)) → Alike before seen → StageRuns meets stage before refused after → Also (StageRuns other stage seen refused) after
    stage-alike [] before after seen refused alike (none, same) = (seen, (none, refl), subst (λ s. Alike s seen) (sym same) alike)
    stage-alike (group ∷ stage) before after seen refused alike (between, first, later, ran, rest, both) =
        let one = group-alike group before between seen first alike ran in
        let next = stage-alike stage between after one.0 later one.2 rest in
        (next.0, (one.0, first, later, one.1, next.1, both), next.2)

    -- what a plan's run did, the other did
    pub plan-alike : (stages : List (Stage ResourceId)) (before after : State V S) (seen : State V T) (refused : Option (ℕ × Stop)) → Alike before seen → StagesRun meets stages before refused after → Also (StagesRun other stages seen refused) after
    plan-alike [] before after seen refused alike (none, same) = (seen, (none, refl), subst (λ s. Alike s seen) (sym same) alike)
    plan-alike (stage ∷ stages) before after seen refused alike (between, why, ran, rest) =
        by why (stage-alike stage before between seen why alike ran) (λ mid like runs. plan-alike stages between after mid refused like runs) rest
      where
        by : (why : Option (ℕ × Stop)) → Also (StageRuns other stage seen why) between
            → ((mid : State V T) → Alike between mid → StagesRun meets stages between refused after → Also (StagesRun other stages mid refused) after)
            → MatchOption why (StagesRun meets stages between refused after) (λ why. (refused ≡ Some why) × (after ≡ between))
            → Also (StagesRun other (stage ∷ stages) seen refused) after
        by None (mid, taken, like) later rest = let next = later mid like rest in (next.0, (mid, None, taken, next.1), next.2)
        by (Some why) (mid, taken, like) later rest = (mid, (mid, Some why, taken, (rest.0, refl)), subst (λ s. Alike s mid) (sym rest.1) like)

module _ {V S : Type 0} (meets : S → Holding V → Option Stop → S → Holding V → Type 0) where
  -- a plan's run, and where it wasn't refused that of more stages
  pub stages-append : (stages more : List (Stage ResourceId)) (before between after : State V S) (why refused : Option (ℕ × Stop)) → StagesRun meets stages before why between
      → MatchOption why (StagesRun meets more between refused after) (λ told. (refused ≡ Some told) × (after ≡ between)) → StagesRun meets (stages ++ more) before refused after
  stages-append [] more before between after why refused (none, same) rest =
      let next = subst (λ w. MatchOption w (StagesRun meets more between refused after) (λ told. (refused ≡ Some told) × (after ≡ between))) none rest in
      subst (λ s. StagesRun meets more s refused after) same next
  stages-append (stage ∷ stages) more before between after why refused (mid, stop, ran, later) rest =
      (mid, stop, ran, by stop later (λ runs. stages-append stages more mid between after why refused runs rest))
    where
      by : (stop : Option (ℕ × Stop)) → MatchOption stop (StagesRun meets stages mid why between) (λ told. (why ≡ Some told) × (between ≡ mid))
          → (StagesRun meets stages mid why between → StagesRun meets (stages ++ more) mid refused after)
          → MatchOption stop (StagesRun meets (stages ++ more) mid refused after) (λ told. (refused ≡ Some told) × (after ≡ mid))
      by None later more_of = more_of later
      by (Some told) later more_of =
          let end = subst (λ w. MatchOption w (StagesRun meets more between refused after) (λ told. (refused ≡ Some told) × (after ≡ between))) later.0 rest in
          (end.0, end.1 ∙ later.1)

  -- a group alone is a plan
  pub group-plan : (group : Group ResourceId) (before after : State V S) (refused : Option (ℕ × Stop)) → GroupRuns meets group before refused after → StagesRun meets ((group ∷ []) ∷ []) before refused after
  group-plan group before after refused runs = (after, refused, (after, refused, None, runs, (refl, refl), by refused), ended refused)
    where
      by : (o : Option (ℕ × Stop)) → o ≡ option_or o None
      by None = refl
      by (Some why) = refl

      ended : (o : Option (ℕ × Stop)) → MatchOption o ((o ≡ None) × (after ≡ after)) (λ told. (o ≡ Some told) × (after ≡ after))
      ended None = (refl, refl)
      ended (Some why) = (refl, refl)
