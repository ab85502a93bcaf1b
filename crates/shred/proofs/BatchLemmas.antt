-- Facts on batches: the loop that runs stages a number of times.
use Rattle.std.proofs.Common.{◌≡◌, ℕ, ◌<◌, ◌+◌, ◌-◌, suc, List, refl, subst, arith, Option, Some, None}
use Rattle.shred_world.specs.declared.resource_id.ResourceId.{ResourceId}
use Rattle.shred_world.specs.Bundles.{Holding}
use Rattle.shred_plan.specs.Plan.{Stage}
use Rattle.shred_stages.specs.declared.stop.Stop.{Stop}
use Rattle.shred_stages.specs.Runs.{State, StagesRun}
use Rattle.shred.specs.Batches.{TimesRun}

module _ {V S : Type 0} (meets : S → Holding V → Option Stop → S → Holding V → Type 0) (stages : List (Stage ResourceId)) (times i : ℕ) (below : i < times)
    (start now next : State V S) (lent : List (Stage ResourceId)) (lends : lent ≡ stages)
    (known : (refused : Option (ℕ × Stop)) (after : State V S) → TimesRun meets (times - i) stages now refused after → TimesRun meets times stages start refused after) where
  one-less : suc (times - (i + 1)) ≡ times - i
  one-less = omega arith

  same : (stop : Option (ℕ × Stop)) → StagesRun meets lent now stop next → StagesRun meets stages now stop next
  same stop runs = let P : List (Stage ResourceId) → Type 0 = λ list. StagesRun meets list now stop next in subst P lends runs

  pub times-next : StagesRun meets lent now None next
      → (refused : Option (ℕ × Stop)) (after : State V S) → TimesRun meets (times - (i + 1)) stages next refused after → TimesRun meets times stages start refused after
  times-next runs refused after rest =
      let P : ℕ → Type 0 = λ n. TimesRun meets n stages now refused after in
      known refused after (subst P one-less (next, None, same None runs, rest))

  pub times-stop : (why : ℕ × Stop) → StagesRun meets lent now (Some why) next → TimesRun meets times stages start (Some why) next
  times-stop why runs =
      let P : ℕ → Type 0 = λ n. TimesRun meets n stages now (Some why) next in
      known (Some why) next (subst P one-less (next, Some why, same (Some why) runs, (refl, refl)))
