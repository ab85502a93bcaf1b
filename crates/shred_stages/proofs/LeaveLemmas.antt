-- Runs leave the ids that they found: a value is where one was, and nowhere else.
use Rattle.std.proofs.Common.{◌≡◌, ℕ, Bool, true, false, List, [], ◌∷◌, refl, ap, sym, subst, Option, Some, None}
use Rattle.std.specs.Prelude.{slice_get, if◌then◌else◌}
use Rattle.std.specs.Option.{MatchOption}
use Rattle.shred_world.specs.declared.resource_id.ResourceId.{ResourceId}
use Rattle.shred_world.specs.Bundles.{Slot, absent, out, shared, owned, Holding, readable, takable, is_listed}
use Rattle.shred_plan.specs.Plan.{Placing, Group, Stage}
use Rattle.shred_stages.specs.declared.stop.Stop.{Stop}
use Rattle.shred_stages.specs.Views.{shared_of, owned_of, IsLeft, Leaves, merged}
use Rattle.shred_stages.specs.Runs.{Step, State, Turn, GroupRuns, StageRuns, StagesRun}

module _ {V : Type 0} where
  left-itself : (slot : Slot V) → IsLeft slot slot
  left-itself absent = refl
  left-itself out = refl
  left-itself (shared v) = refl
  left-itself (owned v) = (v, refl)

  left-left : (a b c : Slot V) → IsLeft a b → IsLeft b c → IsLeft a c
  left-left absent b c p q = let P : Slot V → Type 0 = λ x. IsLeft x c in subst P p q
  left-left out b c p q = let P : Slot V → Type 0 = λ x. IsLeft x c in subst P p q
  left-left (shared v) b c p q = let P : Slot V → Type 0 = λ x. IsLeft x c in subst P p q
  left-left (owned v) b c p q = let P : Slot V → Type 0 = λ x. IsLeft x c in subst P p.1 q

  pub leaves-itself : (w : Holding V) → Leaves w w
  leaves-itself w id = left-itself (w id)

  pub leaves-leaves : (a b c : Holding V) → Leaves a b → Leaves b c → Leaves a c
  leaves-leaves a b c p q id = left-left (a id) (b id) (c id) (p id) (q id)

  pub leaves-to : (a b c : Holding V) → Leaves a b → c ≡ b → Leaves a c
  leaves-to a b c p e = let P : Holding V → Type 0 = λ x. Leaves a x in subst P (sym e) p

  merged-left : (before after : Slot V) (l r : Bool) → IsLeft (if l then owned_of (takable before) else (if r then shared_of (readable before) else absent)) after → IsLeft before (merged after before)
  merged-left before absent l r e = left-itself before
  merged-left before out l r e = left-itself before
  merged-left before (shared v) l r e = left-itself before
  merged-left (owned u) (owned v) l r e = (v, refl)
  merged-left absent (owned v) true r e = cc
  merged-left out (owned v) true r e = cc
  merged-left (shared u) (owned v) true r e = cc
  merged-left absent (owned v) false true e = cc
  merged-left out (owned v) false true e = cc
  merged-left (shared u) (owned v) false true e = cc
  merged-left absent (owned v) false false e = cc
  merged-left out (owned v) false false e = cc
  merged-left (shared u) (owned v) false false e = cc

module _ {V S : Type 0} (meets : S → Holding V → Option Stop → S → Holding V → Type 0) where
  pub step-leaves : (reads writes : List ResourceId) (system : S) (w : Holding V) (refused : Option Stop) (left : S) (w2 : Holding V) → Step meets reads writes system w refused left w2 → Leaves w w2
  step-leaves reads writes system w refused left w2 step id =
      let P : Slot V → Type 0 = λ slot. IsLeft (w id) slot in
      subst P (sym (step.comes_back id)) (merged-left (w id) (step.after id) (is_listed writes id) (is_listed reads id) (step.leaves id))

  turn-leaves : (one : Placing ResourceId) (before : State V S) (refused : Option Stop) (after : State V S) → Turn meets one before refused after → Leaves before.held after.held
  turn-leaves one before refused after (left, step, _) = by (slice_get before.systems one.number) step
    where
      by : (system : Option S) → MatchOption system ⊥ (λ system. Step meets one.reads one.writes system before.held refused left after.held) → Leaves before.held after.held
      by None m = absurd m
      by (Some system) m = step-leaves one.reads one.writes system before.held refused left after.held m

  -- where nothing changed
  pub same-held : (before after : State V S) → after ≡ before → Leaves before.held after.held
  same-held before after e = leaves-to before.held before.held after.held (leaves-itself before.held) (ap (λ s. s.held) e)

  group-leaves : (group : Group ResourceId) (before : State V S) (refused : Option (ℕ × Stop)) (after : State V S) → GroupRuns meets group before refused after → Leaves before.held after.held
  group-leaves [] before refused after (_, e) = same-held before after e
  group-leaves (one ∷ others) before refused after (between, stop, turn, rest) =
      leaves-leaves before.held between.held after.held (turn-leaves one before stop between turn) (by stop (group-leaves others between refused after) rest)
    where
      by : (stop : Option Stop) → (GroupRuns meets others between refused after → Leaves between.held after.held)
          → MatchOption stop (GroupRuns meets others between refused after) (λ why. (refused ≡ Some (one.number, why)) × (after ≡ between)) → Leaves between.held after.held
      by None others m = others m
      by (Some why) others m = same-held between after m.1

  stage-leaves : (stage : Stage ResourceId) (before : State V S) (refused : Option (ℕ × Stop)) (after : State V S) → StageRuns meets stage before refused after → Leaves before.held after.held
  stage-leaves [] before refused after (_, e) = same-held before after e
  stage-leaves (group ∷ stage) before refused after (between, first, later, runs, rest, _) =
      leaves-leaves before.held between.held after.held (group-leaves group before first between runs) (stage-leaves stage between later after rest)

  pub stages-leave : (stages : List (Stage ResourceId)) (before : State V S) (refused : Option (ℕ × Stop)) (after : State V S) → StagesRun meets stages before refused after → Leaves before.held after.held
  stages-leave [] before refused after (_, e) = same-held before after e
  stages-leave (stage ∷ later) before refused after (between, stop, runs, rest) =
      leaves-leaves before.held between.held after.held (stage-leaves stage before stop between runs) (by stop (stages-leave later between refused after) rest)
    where
      by : (stop : Option (ℕ × Stop)) → (StagesRun meets later between refused after → Leaves between.held after.held)
          → MatchOption stop (StagesRun meets later between refused after) (λ why. (refused ≡ Some why) × (after ≡ between)) → Leaves between.held after.held
      by None others m = others m
      by (Some why) others m = same-held between after m.1
