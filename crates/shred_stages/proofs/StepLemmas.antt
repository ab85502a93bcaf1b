-- Steps: a run along a list is made of them, and two of systems that don't conflict may be taken the other way round.
use Rattle.std.proofs.Common.{◌≡◌, ◌≢◌, ℕ, Bool, true, false, List, [], ◌∷◌, refl, ap, sym, ◌∙◌, subst, Option, Some, None}
use Rattle.std.specs.Prelude.{slice_get, slice_set, if◌then◌else◌}
use Rattle.std.specs.Option.{MatchOption}
use Rattle.std.proofs.Math.Path.{fun_ext}
use Rattle.std.proofs.lemmas.Bool.{false≢true, or_parts}
use Rattle.std.proofs.lemmas.List.{set_comm}
use Rattle.shred_world.specs.declared.resource_id.ResourceId.{ResourceId}
use Rattle.shred_world.specs.ResourceIds.{same_id}
use Rattle.shred_world.specs.Bundles.{Slot, absent, out, shared, owned, Holding, readable, takable, is_listed}
use Rattle.shred_plan.specs.Plan.{Placing, share, touches, conflict}
use Rattle.shred_stages.specs.declared.stop.Stop.{Stop}
use Rattle.shred_stages.specs.Views.{shared_of, owned_of, cut, IsLeft, Leaves, merged}
use Rattle.shred_stages.specs.Runs.{Step, State, Turn, GroupRuns}
use Rattle.shred_stages.specs.Orders.{Taken, CanBeTaken, taken_from, systems_taken, StepsRun, ListRuns}
use Rattle.shred_stages.proofs.ApartLemmas.{set-other, unseen}
use Rattle.shred_stages.proofs.FreeLemmas.{unshared}

-- what a system writes, another neither reads nor writes
abbrev SparesAll : (one other : Placing ResourceId) → Type 0
SparesAll one other = (id : ResourceId) → is_listed one.writes id ≡ true → (is_listed other.reads id ≡ false) × (is_listed other.writes id ≡ false)

spares : (one other : Placing ResourceId) → touches same_id one other ≡ false → SparesAll one other
spares one other none id written =
    let parts = or_parts (share same_id one.writes other.reads) (share same_id one.writes other.writes) none in
    (unshared one.writes other.reads id parts.0 written, unshared one.writes other.writes id parts.1 written)

-- at an id that two systems don't both use, one of them writing, it is all one which of their values comes back first
either-first : {V : Type 0} (writes reads writes2 reads2 : Bool) (slot one other : Slot V) → (writes ≡ true → (reads2 ≡ false) × (writes2 ≡ false))
    → IsLeft (if writes then owned_of (takable slot) else (if reads then shared_of (readable slot) else absent)) one
    → IsLeft (if writes2 then owned_of (takable slot) else (if reads2 then shared_of (readable slot) else absent)) other
    → merged other (merged one slot) ≡ merged one (merged other slot)
either-first writes reads writes2 reads2 slot absent other spared left left2 = refl
either-first writes reads writes2 reads2 slot out other spared left left2 = refl
either-first writes reads writes2 reads2 slot (shared v) other spared left left2 = refl
either-first writes reads writes2 reads2 slot (owned v) absent spared left left2 = refl
either-first writes reads writes2 reads2 slot (owned v) out spared left left2 = refl
either-first writes reads writes2 reads2 slot (owned v) (shared u) spared left left2 = refl
either-first true reads true reads2 slot (owned v) (owned u) spared left left2 = absurd (false≢true (sym (spared refl).1))
either-first true reads false true slot (owned v) (owned u) spared left left2 = absurd (false≢true (sym (spared refl).0))
either-first true reads false false slot (owned v) (owned u) spared left left2 = cc
either-first false true writes2 reads2 absent (owned v) (owned u) spared left left2 = cc
either-first false true writes2 reads2 out (owned v) (owned u) spared left left2 = cc
either-first false true writes2 reads2 (shared w) (owned v) (owned u) spared left left2 = cc
either-first false true writes2 reads2 (owned w) (owned v) (owned u) spared left left2 = cc
either-first false false writes2 reads2 slot (owned v) (owned u) spared left left2 = cc

same-state : {V S : Type 0} (state : State V S) (systems : List S) (held : Holding V) → state.systems ≡ systems → state.held ≡ held → state ≡ record { systems = systems; held = held }
same-state {V} {S} state systems held e f =
    let made : List S → Holding V → State V S = λ list w. record { systems = list; held = w } in
    ap (λ list. made list state.held) e ∙ ap (made systems) f

module _ {V S : Type 0} (meets : S → Holding V → Option Stop → S → Holding V → Type 0) where
  -- a turn in which the system doesn't refuse is a step
  pub step-of-turn : (one : Placing ResourceId) (before after : State V S) → Turn meets one before None after → (step : Taken V S) × (step.one ≡ one) × CanBeTaken meets step before × (after ≡ taken_from meets step before)
  step-of-turn one before after (left, step, put) = by (slice_get before.systems one.number) refl step
    where
      by : (there : Option S) → slice_get before.systems one.number ≡ there → MatchOption there ⊥ (λ system. Step meets one.reads one.writes system before.held None left after.held)
          → (step : Taken V S) × (step.one ≡ one) × CanBeTaken meets step before × (after ≡ taken_from meets step before)
      by None is none = absurd none
      by (Some system) is step = (
        record { one = one; system = system; system_after = left; left = step.after },
        refl,
        record { there = is; runs = step.runs; leaves = step.leaves },
        same-state after (slice_set before.systems one.number left) (λ id. merged (step.after id) (before.held id)) put (fun_ext step.comes_back),
      )

  pub turn-of-step : (step : Taken V S) (before : State V S) → CanBeTaken meets step before → Turn meets step.one before None (taken_from meets step before)
  turn-of-step step before can =
      let P : Option S → Type 0 = λ there. MatchOption there ⊥ (λ system. Step meets step.one.reads step.one.writes system before.held None step.system_after (taken_from meets step before).held) in
      (step.system_after, subst P (sym can.there) (record { after = step.left; runs = can.runs; leaves = can.leaves; comes_back = λ id. refl }), refl)

  -- systems that take steps along a list
  abbrev pub TakeSteps : List (Placing ResourceId) → State V S → State V S → Type 0
  TakeSteps list before after = (steps : List (Taken V S)) × (systems_taken steps ≡ list) × StepsRun meets steps before after

  -- a run along a list that none refuses is made of steps,
  pub steps-of-list : (list : List (Placing ResourceId)) (before after : State V S) (refused : Option (ℕ × Stop)) → refused ≡ None → ListRuns meets list before refused after → TakeSteps list before after
  steps-of-list [] before after refused none (_, same) = ([], refl, same)
  steps-of-list (one ∷ list) before after refused none (between, stop, turn, run) = by stop turn run (steps-of-list list between after refused none)
    where
      by : (stop : Option Stop) → Turn meets one before stop between → MatchOption stop (GroupRuns meets list between refused after) (λ why. (refused ≡ Some (one.number, why)) × (after ≡ between))
          → (ListRuns meets list between refused after → TakeSteps list between after) → TakeSteps (one ∷ list) before after
      by None turn run later =
          let first = step-of-turn one before between turn in
          let rest = later run in
          let P : State V S → Type 0 = λ state. StepsRun meets rest.0 state after in
          (first.0 ∷ rest.0, ap (λ x. x ∷ systems_taken rest.0) first.1 ∙ ap (λ others. one ∷ others) rest.1, (first.2, subst P first.3 rest.2))
      by (Some why) turn (told, same) later = let e = sym told ∙ none in cc

  -- and steps make such a run
  pub list-of-steps : (steps : List (Taken V S)) (before after : State V S) → StepsRun meets steps before after → ListRuns meets (systems_taken steps) before None after
  list-of-steps [] before after same = (refl, same)
  list-of-steps (step ∷ steps) before after (can, run) = (taken_from meets step before, None, turn-of-step step before can, list-of-steps steps (taken_from meets step before) after run)

-- two steps of systems that don't conflict, one taken after the other, each by a relation of its own
module _ {V S : Type 0} (meets meets2 : S → Holding V → Option Stop → S → Holding V → Type 0) (first second : Taken V S) (before : State V S)
    (differ : first.one.number ≢ second.one.number) (apart : conflict same_id first.one second.one ≡ false)
    (can : CanBeTaken meets first before) (can2 : CanBeTaken meets2 second (taken_from meets first before)) where
  abbrev one : Placing ResourceId
  one = first.one

  abbrev other : Placing ResourceId
  other = second.one

  both : (touches same_id one other ≡ false) × (touches same_id other one ≡ false)
  both = or_parts (touches same_id one other) (touches same_id other one) apart

  -- the second is lent the same before the first as after it
  lent : cut other.reads other.writes (taken_from meets first before).held ≡ cut other.reads other.writes before.held
  lent = fun_ext (λ id. sym (unseen (is_listed one.writes id) (is_listed one.reads id) (is_listed other.writes id) (is_listed other.reads id) (before.held id) (first.left id) (spares one other both.0 id) (can.leaves id)))

  left2 : Leaves (cut other.reads other.writes before.held) second.left
  left2 = let P : Holding V → Type 0 = λ seen. Leaves seen second.left in subst P lent can2.leaves

  -- so the second can be taken first,
  pub second-first : CanBeTaken meets2 second before
  second-first = record {
    there = sym (set-other before.systems one.number other.number first.system_after differ) ∙ can2.there;
    runs = let P : Holding V → Type 0 = λ seen. meets2 second.system seen None second.system_after second.left in subst P lent can2.runs;
    leaves = left2;
  }

  lent2 : cut one.reads one.writes before.held ≡ cut one.reads one.writes (taken_from meets2 second before).held
  lent2 = fun_ext (λ id. unseen (is_listed other.writes id) (is_listed other.reads id) (is_listed one.writes id) (is_listed one.reads id) (before.held id) (second.left id) (spares other one both.1 id) (left2 id))

  -- the first after it,
  pub first-second : CanBeTaken meets first (taken_from meets2 second before)
  first-second = record {
    there = set-other before.systems other.number one.number second.system_after (λ same. differ (sym same)) ∙ can.there;
    runs = let P : Holding V → Type 0 = λ seen. meets first.system seen None first.system_after first.left in subst P lent2 can.runs;
    leaves = let P : Holding V → Type 0 = λ seen. Leaves seen first.left in subst P lent2 can.leaves;
  }

  -- and they lead to one state
  pub one-end : taken_from meets2 second (taken_from meets first before) ≡ taken_from meets first (taken_from meets2 second before)
  one-end = same-state (taken_from meets2 second (taken_from meets first before)) (slice_set (slice_set before.systems other.number second.system_after) one.number first.system_after)
      (λ id. merged (first.left id) (merged (second.left id) (before.held id)))
      (set_comm before.systems one.number other.number first.system_after second.system_after differ)
      (fun_ext (λ id. either-first (is_listed one.writes id) (is_listed one.reads id) (is_listed other.writes id) (is_listed other.reads id) (before.held id) (first.left id) (second.left id) (spares one other both.0 id) (can.leaves id) (left2 id)))
