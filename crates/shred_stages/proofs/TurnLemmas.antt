-- Turns of two systems that don't conflict, one after the other, are turns of them the other way round.
use Rattle.std.proofs.Common.{◌≡◌, ◌≢◌, ℕ, false, List, [], ◌∷◌, ◌++◌, ap, sym, ◌∙◌, subst, Option, Some, None}
use Rattle.std.specs.Prelude.{slice_get}
use Rattle.std.specs.Option.{MatchOption}
use Rattle.shred_world.specs.declared.resource_id.ResourceId.{ResourceId}
use Rattle.shred_world.specs.ResourceIds.{same_id}
use Rattle.shred_world.specs.Bundles.{Holding}
use Rattle.shred_plan.specs.Plan.{Placing, conflict}
use Rattle.shred_stages.specs.declared.stop.Stop.{Stop}
use Rattle.shred_stages.specs.Runs.{State, Turn, GroupRuns}
use Rattle.shred_stages.specs.Orders.{CanBeTaken, taken_from, ListRuns}
use Rattle.shred_stages.proofs.StepLemmas.{step-of-turn, turn-of-step, second-first, first-second, one-end}

of-each : {S : Type 0} {P Q : S → Type 0} (there : Option S) → ((system : S) → P system → Q system) → MatchOption there ⊥ P → MatchOption there ⊥ Q
of-each None then m = absurd m
of-each (Some system) then m = then system m

module _ {V S : Type 0} (meets : S → Holding V → Option Stop → S → Holding V → Type 0) where
  -- what a system does where it ends in a certain way
  abbrev ending : Option Stop → S → Holding V → Option Stop → S → Holding V → Type 0
  ending stop system seen _ system_after left = meets system seen stop system_after left

  turn-ending : (one : Placing ResourceId) (before after : State V S) (stop : Option Stop) → Turn meets one before stop after → Turn (ending stop) one before None after
  turn-ending one before after stop (left, step, put) =
      (left, of-each (slice_get before.systems one.number) (λ system s. record { after = s.after; runs = s.runs; leaves = s.leaves; comes_back = s.comes_back }) step, put)

  ending-turn : (one : Placing ResourceId) (before after : State V S) (stop : Option Stop) → Turn (ending stop) one before None after → Turn meets one before stop after
  ending-turn one before after stop (left, step, put) =
      (left, of-each (slice_get before.systems one.number) (λ system s. record { after = s.after; runs = s.runs; leaves = s.leaves; comes_back = s.comes_back }) step, put)

  module _ (one other : Placing ResourceId) (differ : one.number ≢ other.number) (apart : conflict same_id one other ≡ false) where
    -- the other way round each ends as it did, whether it refuses or not
    pub turns-commute : (before between after : State V S) (stop stop2 : Option Stop) → Turn meets one before stop between → Turn meets other between stop2 after
        → (middle : State V S) × Turn meets other before stop2 middle × Turn meets one middle stop after
    turns-commute before between after stop stop2 turn turn2 =
        let first = step-of-turn (ending stop) one before between (turn-ending one before between stop turn) in
        let second = step-of-turn (ending stop2) other between after (turn-ending other between after stop2 turn2) in
        let differ2 : first.0.one.number ≢ second.0.one.number = λ e. differ (ap (λ p. p.number) (sym first.1) ∙ (e ∙ ap (λ p. p.number) second.1)) in
        let apart2 : conflict same_id first.0.one second.0.one ≡ false = ap (λ p. conflict same_id p second.0.one) first.1 ∙ (ap (λ p. conflict same_id one p) second.1 ∙ apart) in
        let P : State V S → Type 0 = λ state. CanBeTaken (ending stop2) second.0 state in
        let can2 = subst P first.3 second.2 in
        let middle = taken_from (ending stop2) second.0 before in
        let Q : Placing ResourceId → Type 0 = λ p. Turn (ending stop2) p before None middle in
        let R : Placing ResourceId → State V S → Type 0 = λ p state. Turn (ending stop) p middle None state in
        let end : taken_from (ending stop) first.0 middle ≡ after =
        sym (one-end (ending stop) (ending stop2) first.0 second.0 before differ2 apart2 first.2 can2) ∙ (ap (taken_from (ending stop2) second.0) (sym first.3) ∙ sym second.3) in (
          middle,
          ending-turn other before middle stop2 (subst Q second.1 (turn-of-step (ending stop2) second.0 before (second-first (ending stop) (ending stop2) first.0 second.0 before differ2 apart2 first.2 can2))),
          ending-turn one middle after stop (subst (λ p. R p after) first.1 (subst (λ state. R first.0.one state) end
              (turn-of-step (ending stop) first.0 middle (first-second (ending stop) (ending stop2) first.0 second.0 before differ2 apart2 first.2 can2)))),
        )

    -- so it is with two that stand side by side in a list
    pub neighbours-commute : (early late : List (Placing ResourceId)) (before after : State V S) (refused : Option (ℕ × Stop)) → refused ≡ None → ListRuns meets (early ++ one ∷ other ∷ late) before refused after
        → ListRuns meets (early ++ other ∷ one ∷ late) before refused after
    neighbours-commute [] late before after refused none (between, stop, turn, run) = by stop turn run
      where
        by : (stop : Option Stop) → Turn meets one before stop between → MatchOption stop (GroupRuns meets (other ∷ late) between refused after) (λ why. (refused ≡ Some (one.number, why)) × (after ≡ between))
            → ListRuns meets (other ∷ one ∷ late) before refused after
        by (Some why) turn (told, same) = let e = sym told ∙ none in cc
        by None turn (next, stop2, turn2, run) = then stop2 turn2 run
          where
            then : (stop2 : Option Stop) → Turn meets other between stop2 next → MatchOption stop2 (GroupRuns meets late next refused after) (λ why. (refused ≡ Some (other.number, why)) × (after ≡ next))
                → ListRuns meets (other ∷ one ∷ late) before refused after
            then (Some why) turn2 (told, same) = let e = sym told ∙ none in cc
            then None turn2 run = let turned = turns-commute before between next None None turn turn2 in (turned.0, None, turned.1, (next, None, turned.2, run))
    neighbours-commute (first ∷ early) late before after refused none (between, stop, turn, run) = (between, stop, turn, by stop run (neighbours-commute early late between after refused none))
      where
        by : (stop : Option Stop) → MatchOption stop (GroupRuns meets (early ++ one ∷ other ∷ late) between refused after) (λ why. (refused ≡ Some (first.number, why)) × (after ≡ between))
            → (ListRuns meets (early ++ one ∷ other ∷ late) between refused after → ListRuns meets (early ++ other ∷ one ∷ late) between refused after)
            → MatchOption stop (GroupRuns meets (early ++ other ∷ one ∷ late) between refused after) (λ why. (refused ≡ Some (first.number, why)) × (after ≡ between))
        by None run later = later run
        by (Some why) run later = run
