-- What the laws say: of plans without batches, and of local systems alone.
use Rattle.std.proofs.Common.{◌≡◌, ℕ, ◌+◌, zero-add, List, [], ◌∷◌, map, Option, Some, None, refl, ap, sym, ◌∙◌, subst}
use Rattle.std.proofs.lemmas.List.{append-nil}
use Rattle.std.specs.Option.{unwrap_or}
use Rattle.std.specs.Prelude.{slice_get}
use Rattle.shred_world.specs.declared.resource_id.ResourceId.{ResourceId}
use Rattle.shred_world.specs.Bundles.{Holding}
use Rattle.shred_plan.specs.Plan.{Stage}
use Rattle.shred_stages.specs.declared.stop.Stop.{Stop}
use Rattle.shred_stages.specs.Runs.{State, StagesRun}
use Rattle.shred.specs.declared.work.Work.{Work}
use Rattle.shred.specs.Works.{WorkMeets}
use Rattle.shred.specs.Locals.{LocalsRun}
use Rattle.scene_model.specs.Rulebook.{Book}
use Rattle.scene_model.specs.Scenes.{PlainSystem}
use Rattle.scene_world.specs.Standing.{Kinds}
use Rattle.scene_world.specs.Turns.{Meaning, TakesTurn}
use Rattle.scene_world.specs.Chains.{IsReady, Comes}
use Rattle.scene_world.proofs.ChainLemmas.{plan-comes}
use Rattle.scene_dispatch.specs.Works.{systems_in, HasNoBatch}
use Rattle.scene_dispatch.specs.Orders.{nobody, plain_at}
use Rattle.scene_dispatch.specs.Lent.{EachIsLent}
use Rattle.scene_dispatch.proofs.AlikeLemmas.{group-plan}
use Rattle.scene_dispatch.proofs.WorkLemmas.{IsSeen, plan-seen}
use Rattle.scene_dispatch.proofs.LocalLemmas.{group_of, TakesOwn, numbered, RunsGroup, locals-group}
use Rattle.scene_dispatch.proofs.LentLemmas.{each-lent, each-order}

module _ {V P B : Type 0} (meets : P → Holding V → Option Stop → P → Holding V → Type 0) (batch_meets : B → Holding V → Option Stop → B → Holding V → Type 0) where
  -- without batches a plan's run is that of its systems
  pub systems-alone : (stages : List (Stage ResourceId)) (before after : State V (Work P B)) (refused : Option (ℕ × Stop)) → HasNoBatch before.systems → StagesRun (WorkMeets meets batch_meets) stages before refused after
      → HasNoBatch after.systems × StagesRun meets stages (record { systems = systems_in before.systems; held = before.held }) refused (record { systems = systems_in after.systems; held = after.held })
  systems-alone stages before after refused none runs = (seen.2.no_batch, subst (StagesRun meets stages (record { systems = systems_in before.systems; held = before.held }) refused) at_end seen.1)
    where
      seen : (left : State V P) × StagesRun meets stages (record { systems = systems_in before.systems; held = before.held }) refused left
          × IsSeen meets batch_meets (λ system. nobody) (λ system left held later why is. refl) [] (map (λ system. nobody) (systems_in before.systems)) after left
      seen = plan-seen meets batch_meets (λ system. nobody) (λ system left held later why is. refl) [] (map (λ system. nobody) (systems_in before.systems)) stages before after
          (record { systems = systems_in before.systems; held = before.held }) refused (record { no_batch = none; systems = sym (append-nil (systems_in before.systems)); held = refl; same = refl }) runs

      at_end : seen.0 ≡ record { systems = systems_in after.systems; held = after.held }
      at_end = ap (λ (l : List P). let s : State V P = record { systems = l; held = seen.0.held } in s) (seen.2.systems ∙ append-nil (systems_in after.systems))
          ∙ ap (λ (h : Holding V). let s : State V P = record { systems = systems_in after.systems; held = h } in s) seen.2.held

-- numbered from 0 on, a place is a number
numbered-0 : (refused : Option (ℕ × Stop)) → numbered 0 refused ≡ refused
numbered-0 None = refl
numbered-0 (Some (place, why)) = ap (λ n. Some (n, why)) (zero-add place)

module _ {V P L : Type 0} (kinds : Kinds V) (meaning : Meaning P) (book : Book) (placed : L → P) (locals left : List L) (w w_after : Holding V) (refused : Option (ℕ × Stop)) where
  abbrev plains : List PlainSystem
  plains = map meaning.plain (map placed locals)

  abbrev alone : List (Stage ResourceId)
  alone = (group_of kinds 0 plains ∷ []) ∷ []

  as-there : (n : ℕ) (system : PlainSystem) → slice_get plains n ≡ Some system → plain_at plains (0 + n) ≡ system
  as-there n system is = ap (plain_at plains) (zero-add n) ∙ ap (λ o. unwrap_or o nobody) is

  -- local systems are the chain of their turns
  pub locals-come : EachIsLent kinds plains → IsReady kinds meaning book (plain_at plains) (record { systems = map placed locals; held = w }) → LocalsRun (TakesOwn kinds (TakesTurn kinds meaning) meaning.plain placed) 0 locals w refused left w_after
      → Comes kinds meaning book (plain_at plains) plains (record { systems = map placed locals; held = w }) refused (record { systems = map placed left; held = w_after })
  locals-come lent ready runs =
      subst (λ r. Comes kinds meaning book (plain_at plains) plains (record { systems = map placed locals; held = w }) r (record { systems = map placed left; held = w_after })) (numbered-0 refused)
      (subst (λ order. Comes kinds meaning book (plain_at plains) order (record { systems = map placed locals; held = w }) (numbered 0 refused) (record { systems = map placed left; held = w_after }))
      (append-nil _ ∙ append-nil _ ∙ each-order kinds (plain_at plains) plains 0 as-there)
      (plan-comes kinds meaning book (plain_at plains) (TakesTurn kinds meaning) (λ system after seen later why is turn. turn) alone (((each-lent kinds (plain_at plains) plains 0 lent as-there, tt), tt))
      (record { systems = map placed locals; held = w }) (record { systems = map placed left; held = w_after }) (numbered 0 refused) ready
      (group-plan (TakesTurn kinds meaning) (group_of kinds 0 plains) (record { systems = map placed locals; held = w }) (record { systems = map placed left; held = w_after }) (numbered 0 refused) ran.runs)))
    where
      ran : RunsGroup kinds (TakesTurn kinds meaning) meaning.plain (λ system after seen later why turn. turn.same) placed 0 [] 0 locals w refused left w_after
      ran = locals-group kinds (TakesTurn kinds meaning) meaning.plain (λ system after seen later why turn. turn.same) placed 0 locals 0 0 [] refl refl w refused left w_after runs
