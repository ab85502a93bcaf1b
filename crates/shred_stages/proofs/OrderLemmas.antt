-- The steps that were taken along one list are taken along each that is the same up to order.
use Rattle.std.proofs.Common.{◌≡◌, ◌≢◌, ◌⊎◌, inl, inr, ℕ, Bool, true, false, List, [], ◌∷◌, ◌++◌, refl, ap, sym, ◌∙◌, subst, Option}
use Rattle.std.specs.List.Sorted.{IsPermutation}
use Rattle.std.proofs.lemmas.List.{map-append}
use Rattle.std.proofs.lemmas.List.Sorted.{IsPermutation-refl, IsPermutation-trans, IsPermutation-middle, IsPermutation-cons}
use Rattle.shred_world.specs.declared.resource_id.ResourceId.{ResourceId}
use Rattle.shred_world.specs.ResourceIds.{same_id}
use Rattle.shred_world.specs.Bundles.{Holding}
use Rattle.shred_plan.specs.Plan.{Placing, conflict}
use Rattle.shred_stages.specs.declared.stop.Stop.{Stop}
use Rattle.shred_stages.specs.Runs.{State}
use Rattle.shred_stages.specs.Free.{IsNone, AreDistinct}
use Rattle.shred_stages.specs.Orders.{IsIn, StandsBefore, Taken, taken_from, systems_taken, StepsRun}
use Rattle.shred_stages.proofs.StepLemmas.{second-first, first-second, one-end}

abbrev Systems : Type 0
Systems = List (Placing ResourceId)

-- a list with one system in its middle

in-wider : (early : Systems) (one : Placing ResourceId) (late : Systems) (x : Placing ResourceId) → IsIn x (early ++ late) → IsIn x (early ++ one ∷ late)
in-wider [] one late x there = inr there
in-wider (y ∷ early) one late x (inl is) = inl is
in-wider (y ∷ early) one late x (inr there) = inr (in-wider early one late x there)

in-narrower : (early : Systems) (one : Placing ResourceId) (late : Systems) (x : Placing ResourceId) → IsIn x (early ++ one ∷ late) → (one ≡ x) ⊎ IsIn x (early ++ late)
in-narrower [] one late x there = there
in-narrower (y ∷ early) one late x (inl is) = inr (inl is)
in-narrower (y ∷ early) one late x (inr there) = elim (in-narrower early one late x there) [ inl is ↦ inl is | inr rest ↦ inr (inr rest) ]

in-middle : (early : Systems) (one : Placing ResourceId) (late : Systems) → IsIn one (early ++ one ∷ late)
in-middle [] one late = inl refl
in-middle (y ∷ early) one late = inr (in-middle early one late)

in-front : (early late : Systems) (x : Placing ResourceId) → IsIn x early → IsIn x (early ++ late)
in-front [] late x there = absurd there
in-front (y ∷ early) late x (inl is) = inl is
in-front (y ∷ early) late x (inr there) = inr (in-front early late x there)

before-wider : (early : Systems) (one : Placing ResourceId) (late : Systems) (x y : Placing ResourceId) → StandsBefore x y (early ++ late) → StandsBefore x y (early ++ one ∷ late)
before-wider [] one late x y stands = inr stands
before-wider (z ∷ early) one late x y (inl (is, there)) = inl (is, in-wider early one late y there)
before-wider (z ∷ early) one late x y (inr stands) = inr (before-wider early one late x y stands)

before-middle : (early : Systems) (one : Placing ResourceId) (late : Systems) (x : Placing ResourceId) → IsIn x early → StandsBefore x one (early ++ one ∷ late)
before-middle [] one late x there = absurd there
before-middle (y ∷ early) one late x (inl is) = inl (is, in-middle early one late)
before-middle (y ∷ early) one late x (inr there) = inr (before-middle early one late x there)

-- both systems stand in the list
both-in : (list : Systems) (x y : Placing ResourceId) → StandsBefore x y list → IsIn x list × IsIn y list
both-in [] x y stands = absurd stands
both-in (z ∷ list) x y (inl (is, there)) = (inl is, inr there)
both-in (z ∷ list) x y (inr stands) = let later = both-in list x y stands in (inr later.0, inr later.1)

-- lists in which no number stands twice

none-is : (number : ℕ) (list : Systems) (x : Placing ResourceId) → IsNone number list → IsIn x list → number ≢ x.number
none-is number [] x none there = absurd there
none-is number (y ∷ list) x none (inl is) = λ same. none.0 (same ∙ ap (λ one. one.number) (sym is))
none-is number (y ∷ list) x none (inr there) = none-is number list x none.1 there

none-narrower : (number : ℕ) (early : Systems) (one : Placing ResourceId) (late : Systems) → IsNone number (early ++ one ∷ late) → IsNone number (early ++ late)
none-narrower number [] one late none = none.1
none-narrower number (y ∷ early) one late none = (none.0, none-narrower number early one late none.1)

distinct-narrower : (early : Systems) (one : Placing ResourceId) (late : Systems) → AreDistinct (early ++ one ∷ late) → AreDistinct (early ++ late)
distinct-narrower [] one late distinct = distinct.1
distinct-narrower (y ∷ early) one late distinct = (none-narrower y.number early one late distinct.0, distinct-narrower early one late distinct.1)

-- the others have other numbers than the one in the middle
others-differ : (early : Systems) (one : Placing ResourceId) (late : Systems) (x : Placing ResourceId) → AreDistinct (early ++ one ∷ late) → IsIn x (early ++ late) → x.number ≢ one.number
others-differ [] one late x distinct there = λ same. none-is one.number late x distinct.0 there (sym same)
others-differ (y ∷ early) one late x distinct (inl is) =
    let P : Placing ResourceId → Type 0 = λ z. z.number ≢ one.number in
    subst P is (none-is y.number (early ++ one ∷ late) one distinct.0 (in-middle early one late))
others-differ (y ∷ early) one late x distinct (inr there) = others-differ early one late x distinct.1 there

-- two lists have the same systems, none twice, and those that conflict stand in the second as in the first
pub record Alike (order list : Systems) : Type 0 where
  pub distinct : AreDistinct order
  pub distinct2 : AreDistinct list
  pub into : (x : Placing ResourceId) → IsIn x order → IsIn x list
  pub from : (x : Placing ResourceId) → IsIn x list → IsIn x order
  pub stand : (x y : Placing ResourceId) → conflict same_id x y ≡ true → StandsBefore x y order → StandsBefore x y list

-- the first system of the second list stands somewhere in the first
module _ (early : Systems) (one : Placing ResourceId) (late list : Systems) (alike : Alike (early ++ one ∷ late) (one ∷ list)) where
  -- it isn't among the others
  not-later : (x : Placing ResourceId) → IsIn x list → one ≡ x → ⊥
  not-later x there is = none-is one.number list x alike.distinct2.0 there (ap (λ z. z.number) is)

  not-other : (x : Placing ResourceId) → IsIn x (early ++ late) → one ≡ x → ⊥
  not-other x there is = others-differ early one late x alike.distinct there (ap (λ z. z.number) (sym is))

  none-first : (x : Placing ResourceId) → StandsBefore x one (one ∷ list) → ⊥
  none-first x (inl (is, there)) = not-later one there refl
  none-first x (inr stands) = not-later one (both-in list x one stands).1 refl

  -- none that stands before it in the first list conflicts with it
  pub free-of-early : (x : Placing ResourceId) → IsIn x early → (x.number ≢ one.number) × (conflict same_id x one ≡ false)
  free-of-early x there = (others-differ early one late x alike.distinct (in-front early late x there), by (conflict same_id x one) refl)
    where
      by : (b : Bool) → conflict same_id x one ≡ b → conflict same_id x one ≡ false
      by true is = absurd (none-first x (alike.stand x one is (before-middle early one late x there)))
      by false is = is

  -- without it the lists are alike
  pub alike-later : Alike (early ++ late) list
  alike-later = record {
    distinct = distinct-narrower early one late alike.distinct;
    distinct2 = alike.distinct2.1;
    into = λ x there. elim (alike.into x (in-wider early one late x there)) [ inl is ↦ absurd (not-other x there is) | inr rest ↦ rest ];
    from = λ x there. elim (in-narrower early one late x (alike.from x (inr there))) [ inl is ↦ absurd (not-later x there is) | inr rest ↦ rest ];
    stand = λ x y clash stands. elim (alike.stand x y clash (before-wider early one late x y stands)) [
      | inl first ↦ absurd (not-other x (both-in (early ++ late) x y stands).0 first.0)
      | inr rest ↦ rest
    ];
  }

module _ {V S : Type 0} (meets : S → Holding V → Option Stop → S → Holding V → Type 0) where
  -- a step can be taken before others with whose systems its own doesn't conflict
  to-front : (early : List (Taken V S)) (step : Taken V S) (late : List (Taken V S)) (before after : State V S)
      → ((x : Placing ResourceId) → IsIn x (systems_taken early) → (x.number ≢ step.one.number) × (conflict same_id x step.one ≡ false))
      → StepsRun meets (early ++ step ∷ late) before after → StepsRun meets (step ∷ (early ++ late)) before after
  to-front [] step late before after free run = run
  to-front (first ∷ early) step late before after free (can, run) =
      let moved = to-front early step late (taken_from meets first before) after (λ x there. free x (inr there)) run in
      let is = free first.one (inl refl) in
      let P : State V S → Type 0 = λ state. StepsRun meets (early ++ late) state after in (
        second-first meets meets first step before is.0 is.1 can moved.0,
        (first-second meets meets first step before is.0 is.1 can moved.0, subst P (one-end meets meets first step before is.0 is.1 can moved.0) moved.1),
      )

  -- the step of a system, between those before and after it
  step-at : (steps : List (Taken V S)) (one : Placing ResourceId) → IsIn one (systems_taken steps) → (early : List (Taken V S)) × (step : Taken V S) × (late : List (Taken V S)) × (steps ≡ early ++ step ∷ late) × (step.one ≡ one)
  step-at [] one there = absurd there
  step-at (first ∷ steps) one (inl is) = ([], first, steps, refl, is)
  step-at (first ∷ steps) one (inr there) = let at = step-at steps one there in (first ∷ at.0, at.1, at.2, ap (λ rest. first ∷ rest) at.3, at.4)

  -- the steps, in another order, along a list
  abbrev pub StepsAlong : List (Taken V S) → Systems → State V S → State V S → Type 0
  StepsAlong steps list before after = (others : List (Taken V S)) × IsPermutation steps others × (systems_taken others ≡ list) × StepsRun meets others before after

  -- steps are taken along each list that is alike
  pub steps-along : (list : Systems) (steps : List (Taken V S)) (before after : State V S) → Alike (systems_taken steps) list → StepsRun meets steps before after → StepsAlong steps list before after
  steps-along [] [] before after alike run = ([], IsPermutation-refl [], refl, run)
  steps-along [] (first ∷ steps) before after alike run = absurd (alike.into first.one (inl refl))
  steps-along (one ∷ list) steps before after alike run =
      let at = step-at steps one (alike.from one (inl refl)) in
      let P : List (Taken V S) → Type 0 = λ steps. Alike (systems_taken steps) (one ∷ list) → StepsRun meets steps before after → StepsAlong steps (one ∷ list) before after in
      subst P (sym at.3) (by (λ steps before after. steps-along list steps before after) at.0 at.1 at.2 at.4) alike run
    where
      by : ((steps : List (Taken V S)) (before after : State V S) → Alike (systems_taken steps) list → StepsRun meets steps before after → StepsAlong steps list before after)
          → (early : List (Taken V S)) (step : Taken V S) (late : List (Taken V S)) → step.one ≡ one
          → Alike (systems_taken (early ++ step ∷ late)) (one ∷ list) → StepsRun meets (early ++ step ∷ late) before after → StepsAlong (early ++ step ∷ late) (one ∷ list) before after
      by later early step late is alike run =
          let P : Systems → Type 0 = λ order. Alike order (one ∷ list) in
          let Q : Placing ResourceId → Type 0 = λ x. Alike (systems_taken early ++ step.one ∷ systems_taken late) (x ∷ list) in
          let R : Systems → Type 0 = λ order. Alike order list in
          let here = subst Q (sym is) (subst P (map-append (λ step. step.one) early (step ∷ late)) alike) in
          let moved = to-front early step late before after (free-of-early (systems_taken early) step.one (systems_taken late) list here) run in
          let rest = later (early ++ late) (taken_from meets step before) after
          (subst R (sym (map-append (λ step. step.one) early late)) (alike-later (systems_taken early) step.one (systems_taken late) list here)) moved.1 in (
            step ∷ rest.0,
            IsPermutation-trans _ _ _ (IsPermutation-middle early step late) (IsPermutation-cons step (early ++ late) rest.0 rest.1),
            ap (λ x. x ∷ systems_taken rest.0) is ∙ ap (λ others. one ∷ others) rest.2,
            (moved.0, rest.3),
          )
