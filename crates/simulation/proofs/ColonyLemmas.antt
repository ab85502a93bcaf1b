-- What colonies' calls come to: seats that grow, and slots that are taken out and put back.
use Rattle.std.proofs.Common.{◌≡◌, ℕ, List, [], ◌∷◌, ◌++◌, true, Option, Some, None, Result, Ok, Err, OnOk, ⊎_elim, refl, ap, sym, ◌∙◌, subst, map as list_map}
use Rattle.std.proofs.lemmas.List.{append_assoc, map-append}
use Rattle.std.proofs.lemmas.Option.{same_Some}
use Rattle.std.specs.Option.{option_and_then, option_flatten}
use Rattle.std.specs.Prelude.{slice_get, slice_set}
use Rattle.std.specs.FinMap.{get, insert, remove, get-insert, get-remove}
use Rattle.specs.specs.ForWorlds.{ResourceId, same_id, Slots, value_at}
use Rattle.specs.specs.ForWorlds.{Slot, absent, out, shared, owned, Holding, takable, with_slot, holding_of, slot_of, is_listed}
use Rattle.specs.specs.ForWorlds.{Leaves}
use Rattle.specs.proofs.CallerLemmas.{with_slot-with_slot, ids_total}
use Rattle.specs.specs.ForSystems.{Placing, plan_order, Stop, DispatchError, cut, error_of, with_values, State, Turn, Staging}
use Rattle.specs.specs.ForSystems.{RunsUpToOrder, TakeTurns, Work, System, NoBatch, NoLocal, Batched, WorkMeets}
use Rattle.specs.proofs.CallerLemmas.{lent-owned, leaves-one, same-itself, step-lifted, turn-of, turns-in-any-order}
use Rattle.specs.specs.ForSystems.{Dispatching, StepsThenLocals, DispatchesInAnyOrder, LocalsRun}
use Rattle.specs.specs.ForStorages.{Births, Entity}
use Rattle.specs.specs.ForSeats.{EntityView, PhaseSeat, called, phase_at, view_at, births_at, StaysIn, LooksAt}
use Rattle.specs.specs.ForSeats.{IsBirth, IsDeletion}
use Rattle.simulation.specs.declared.colonies.values.Held.{Held}
use Rattle.simulation.specs.declared.colonies.values.Held.TheVariants.{EntitiesHeld, TableHeld, SeatHeld}
use Rattle.simulation.specs.declared.colonies.growing.Growth.{Growth}
use Rattle.simulation.specs.Colonies.{entities_part, seat_part, births_id, seat_id, HasGrown, Grows, GrowthMeets, growing, growth_of, pair, IsPair, Sits, GrowsBoth}
use Rattle.simulation.specs.Steps.{Accepted}

looks-kill : (before after : EntityView) (index : ℕ) → LooksAt before index after → after.kill ≡ before.kill
looks-kill before after index looks = ⊎_elim (λ same. ap (λ (v : EntityView). v.kill) same) (λ found. ap (λ (v : EntityView). v.kill) found.1) looks

deletions-more : (before after : EntityView) (index : ℕ) → IsDeletion before index after → list_map called after.kill.calls ≡ list_map called before.kill.calls ++ index ∷ []
deletions-more before after index d =
    ap (λ (v : EntityView). list_map called v.kill.calls) d.view ∙ map-append called d.between.kill.calls _ ∙ ap (λ kill. list_map called kill.calls ++ index ∷ []) (looks-kill before d.between index d.looks)

-- two births and the deletion of the first
pub has-grown : (zeroth one two last : PhaseSeat) (first second : Entity) → StaysIn zeroth one → StaysIn one two → StaysIn two last → IsBirth (phase_at zeroth) zeroth.seat first one.seat → IsBirth (phase_at one) one.seat second two.seat
    → births_at last ≡ births_at two → IsDeletion (view_at two) first.id (view_at last) → HasGrown zeroth last
has-grown zeroth one two last first second stays_one stays_two stays_last birth birth_two same deletion =
    record {
      first = first;
      second = second;
      phase = stays_last ∙ (stays_two ∙ stays_one);
      births = same ∙ (birth_two.known ∙ (ap (λ births. births ++ second ∷ []) birth.known ∙ append_assoc (births_at zeroth) (first ∷ []) (second ∷ [])));
      deletions =
          deletions-more (view_at two) (view_at last) first.id deletion
          ∙ ap (λ kill. list_map called kill.calls ++ first.id ∷ []) (ap (λ (v : EntityView). v.kill) birth_two.view ∙ ap (λ (v : EntityView). v.kill) birth.view);
    }

-- an outcome that is accepted
pub accepted : {V : Type 0} (does : Holding V → Holding V → Type 0) (seen left : Holding V) (result : Result (Unit {0}) Stop) → OnOk result (does seen left) → Accepted does seen (error_of result) left
accepted does seen left (Ok done) is = is
accepted does seen left (Err stop) is = tt

of-takable : (slot : Slot Held) (v : Held) → takable slot ≡ Some v → slot ≡ owned v
of-takable absent v is = cc
of-takable out v is = cc
of-takable (shared x) v is = cc
of-takable (owned x) v is = ap owned (same_Some x v is)

module _ (seen middle left : Holding Held) (id one other : ResourceId) (was now : Held) (first : one ≡ id) (second : other ≡ id) (there : takable (seen one) ≡ Some was)
    (taken : middle ≡ with_slot seen one out) (put : left ≡ with_slot middle other (owned now)) where
  -- a value that was taken out, and another put in its place
  pub put-again : Leaves seen left
  put-again = leaves-one seen middle left id was now (ap (λ i. takable (seen i)) (sym first) ∙ there) (taken ∙ ap (λ i. with_slot seen i out) first) (put ∙ ap (λ i. with_slot middle i (owned now)) second)

  pub put-there : seen id ≡ owned was
  put-there = of-takable (seen id) was (ap (λ i. takable (seen i)) (sym first) ∙ there)

  pub put-others : left ≡ with_values ((id, now) ∷ []) seen
  put-others =
      put ∙ ap (λ i. with_slot middle i (owned now)) second ∙ ap (λ h. with_slot h id (owned now)) (taken ∙ ap (λ i. with_slot seen i out) first)
      ∙ with_slot-with_slot seen id out (owned now)

abbrev pub done_with : Unit {0} → Result (Unit {0}) DispatchError
done_with done = Ok done

abbrev Staged : Type 0
Staged = Work Growth (Batched Growth NoBatch)

module _ (batch_meets : Batched Growth NoBatch → Holding Held → Option Stop → Batched Growth NoBatch → Holding Held → Type 0) where
  abbrev meets : Staged → Holding Held → Option Stop → Staged → Holding Held → Type 0
  meets = WorkMeets GrowthMeets batch_meets

  -- a colony took its turn
  record Did (number colony : ℕ) (before after : State Held Staged) : Type 0 where
    pub systems : after.systems ≡ slice_set before.systems number (System (growth_of colony))
    pub grows : Grows colony before.held after.held

  did : (number colony : ℕ) (before after : State Held Staged) → is_listed (seat_id colony ∷ []) (seat_id colony) ≡ true → slice_get before.systems number ≡ Some (System (growth_of colony))
      → Turn meets (growing number colony) before None after → Did number colony before after
  did number colony before after listed there turn =
      let one : Placing ResourceId = growing number colony in
      let t = turn-of meets one before after None turn in
      let is : t.system ≡ System (growth_of colony) = same_Some t.system (System (growth_of colony)) (sym t.there ∙ there) in
      let P : Staged → Type 0 = λ system. meets system (cut one.reads one.writes before.held) None t.left t.step.after in
      let runs = subst P is t.step.runs in
      let does = runs.2.1 in
      record {
        systems = t.put ∙ ap (λ system. slice_set before.systems number system) (runs.1 ∙ ap System runs.2.0);
        grows = record {
          before = does.before;
          after = does.after;
          there = lent-owned one.reads one.writes before.held (seat_id colony) listed (SeatHeld does.before) does.there;
          grown = does.grown;
          others = step-lifted meets one.reads one.writes t.system t.left before.held after.held None t.step ((seat_id colony, SeatHeld does.after) ∷ []) does.others;
        };
      }

  -- both took their turns
  record Turned (before after : Holding Held) : Type 0 where
    pub between : Holding Held
    pub first : Grows 1 before between
    pub second : Grows 2 between after

  turns-turn : (before after : State Held Staged) → before.systems ≡ pair.systems → TakeTurns meets (growing 0 1 ∷ growing 1 2 ∷ []) before after → Turned before.held after.held
  turns-turn before after two (first, turn, (second, turn2, same)) =
      let m = did 0 1 before first refl (ap (λ systems. slice_get systems 0) two) turn in
      let first_is : first.systems ≡ pair.systems = m.systems ∙ ap (λ systems. slice_set systems 0 (System (growth_of 1))) two in
      let r = did 1 2 first second refl (ap (λ systems. slice_get systems 1) first_is) turn2 in
      let Q : State Held Staged → Type 0 = λ state. Turned before.held state.held in
      subst Q (sym same) (record { between = first.held; first = m.grows; second = r.grows })

  turned : (before after : Dispatching Staged NoLocal) (w w_after : Holding Held) → IsPair before
      → RunsUpToOrder meets (plan_order before.staging.planning.stages) (record { systems = before.staging.systems; held = w }) (record { systems = after.staging.systems; held = w_after })
      → Turned w w_after
  turned before after w w_after two steps =
      let P : Staging Staged → Type 0 = λ staging. RunsUpToOrder meets (plan_order staging.planning.stages) (record { systems = before.staging.systems; held = w }) (record { systems = after.staging.systems; held = w_after }) in
      turns-turn _ _ (ap (λ staging. staging.systems) two.staging)
      (turns-in-any-order meets (growing 0 1 ∷ growing 1 2 ∷ []) (growing 0 1 ∷ growing 1 2 ∷ []) _ _ (subst P two.staging steps) (same-itself same_id (growing 0 1 ∷ growing 1 2 ∷ [])))

  of-owned : (found : Option (Option Held)) (v : Held) → slot_of found ≡ owned v → found ≡ Some (Some v)
  of-owned None v is = cc
  of-owned (Some None) v is = cc
  of-owned (Some (Some x)) v is = ap (λ o. Some o) (ap takable is)

  of-out : (found : Option (Option Held)) → slot_of found ≡ out → found ≡ Some None
  of-out None is = cc
  of-out (Some None) is = refl
  of-out (Some (Some x)) is = cc

  same-seat : (one other : PhaseSeat) → owned (SeatHeld one) ≡ owned (SeatHeld other) → one ≡ other
  same-seat one other is = same_Some one other (ap (λ slot. option_and_then seat_part (takable slot)) is)

  -- where no system is local, a dispatch comes to what its stages do
  stages-alone : (local_meets : NoLocal → Holding Held → Option Stop → NoLocal → Holding Held → Type 0) (before after : Dispatching Staged NoLocal) (w w_after : Holding Held) → before.locals ≡ []
      → StepsThenLocals meets local_meets before w None after w_after
      → RunsUpToOrder meets (plan_order before.staging.planning.stages) (record { systems = before.staging.systems; held = w }) (record { systems = after.staging.systems; held = w_after })
  stages-alone local_meets before after w w_after bare ran =
      let ended = subst (λ locals. LocalsRun local_meets 0 locals ran.w_between None after.locals w_after) bare ran.locals in
      subst (λ held. RunsUpToOrder meets (plan_order before.staging.planning.stages) (record { systems = before.staging.systems; held = w }) (record { systems = after.staging.systems; held = held }))
      (sym ended.2)
      ran.steps

  -- so the seats that stood there have grown
  pub dispatch-grows : (local_meets : NoLocal → Holding Held → Option Stop → NoLocal → Holding Held → Type 0) (before after : Dispatching Staged NoLocal) (w w_after : Slots Held) (done : Unit {0}) → IsPair before
      → DispatchesInAnyOrder meets local_meets before (holding_of w) (done_with done) after (holding_of w_after) → GrowsBoth w w_after
  dispatch-grows local_meets before after w w_after done two ran one other sits =
      let t = turned before after (holding_of w) (holding_of w_after) two (stages-alone local_meets before after (holding_of w) (holding_of w_after) two.locals ran) in
      let one_is : t.first.before ≡ one = same-seat t.first.before one (sym t.first.there ∙ ap slot_of sits.first) in
      let other_is : t.second.before ≡ other = same-seat t.second.before other (sym t.second.there ∙ (ap (λ h. h (seat_id 2)) t.first.others ∙ ap slot_of sits.second)) in (
        t.first.after,
        t.second.after,
        subst (λ seat. HasGrown seat t.first.after) one_is t.first.grown,
        subst (λ seat. HasGrown seat t.second.after) other_is t.second.grown,
        record {
          first = of-owned (get w_after (seat_id 1)) (SeatHeld t.first.after) (ap (λ h. h (seat_id 1)) t.second.others ∙ ap (λ h. h (seat_id 1)) t.first.others);
          second = of-owned (get w_after (seat_id 2)) (SeatHeld t.second.after) (ap (λ h. h (seat_id 2)) t.second.others);
          out = of-out (get w_after births_id) (ap (λ h. h births_id) t.second.others ∙ (ap (λ h. h births_id) t.first.others ∙ ap slot_of sits.out));
        },
      )

seen-entities : (slot : Option Held) (births : Births) → option_and_then entities_part slot ≡ Some births → slot ≡ Some (EntitiesHeld births)
seen-entities None births is = cc
seen-entities (Some (EntitiesHeld x)) births is = ap (λ b. Some (EntitiesHeld b)) (same_Some x births is)
seen-entities (Some (TableHeld x)) births is = cc
seen-entities (Some (SeatHeld x)) births is = cc

-- the entities that a world is seen to hold
pub entities-there : (w : Slots Held) (births : Births) → option_and_then entities_part (value_at w births_id) ≡ Some births → value_at w births_id ≡ Some (EntitiesHeld births)
entities-there w births = seen-entities (value_at w births_id) births

-- the slots after the entities were taken out and both seats put in
pub sits-after : (w opened first both : Slots Held) (one other : PhaseSeat) (first_id second_id : ResourceId) → first_id ≡ seat_id 1 → second_id ≡ seat_id 2
    → opened ≡ insert w births_id None → first ≡ insert opened first_id (Some (SeatHeld one)) → both ≡ insert first second_id (Some (SeatHeld other)) → Sits one other both
sits-after w opened first both one other first_id second_id first_is second_is taken put put_two =
    let put' : first ≡ insert opened (seat_id 1) (Some (SeatHeld one)) = put ∙ ap (λ id. insert opened id (Some (SeatHeld one))) first_is in
    let put_two' : both ≡ insert first (seat_id 2) (Some (SeatHeld other)) = put_two ∙ ap (λ id. insert first id (Some (SeatHeld other))) second_is in
    let before : (id : ResourceId) → get both id ≡ get (insert first (seat_id 2) (Some (SeatHeld other))) id = λ id. ap (λ m. get m id) put_two' in
    let between : (id : ResourceId) → get first id ≡ get (insert opened (seat_id 1) (Some (SeatHeld one))) id = λ id. ap (λ m. get m id) put' in
    record {
      first = before (seat_id 1) ∙ (get-insert ids_total first (seat_id 2) _ (seat_id 1) ∙ (between (seat_id 1) ∙ get-insert ids_total opened (seat_id 1) _ (seat_id 1)));
      second = before (seat_id 2) ∙ get-insert ids_total first (seat_id 2) _ (seat_id 2);
      out = before births_id ∙ (get-insert ids_total first (seat_id 2) _ births_id ∙ (between births_id ∙ (get-insert ids_total opened (seat_id 1) _ births_id ∙ (ap (λ m. get m births_id) taken ∙ get-insert ids_total w births_id _ births_id))));
    }

-- the entities' slot after both seats were taken
pub out-after : (w first both : Slots Held) (first_id second_id : ResourceId) → first_id ≡ seat_id 1 → second_id ≡ seat_id 2 → get w births_id ≡ Some None → first ≡ remove w first_id → both ≡ remove first second_id → get both births_id ≡ Some None
out-after w first both first_id second_id first_is second_is out_there taken taken_two =
    ap (λ m. get m births_id) (taken_two ∙ ap (remove first) second_is) ∙ (get-remove ids_total first (seat_id 2) births_id
    ∙ (ap (λ m. get m births_id) (taken ∙ ap (remove w) first_is) ∙ (get-remove ids_total w (seat_id 1) births_id ∙ out_there)))

-- the seat that is found at an id is the one that stands there
pub seat-found : (w : Slots Held) (id at : ResourceId) (found seat : PhaseSeat) → id ≡ at → get w at ≡ Some (Some (SeatHeld seat)) → Some found ≡ option_and_then seat_part (value_at w id) → found ≡ seat
seat-found w id at found seat same stands is = same_Some found seat (is ∙ (ap (λ i. option_and_then seat_part (value_at w i)) same ∙ ap (λ o. option_and_then seat_part (option_flatten o)) stands))

-- and it stands there still when another was taken
pub seat-stays : (w first : Slots Held) (first_id : ResourceId) (seat : PhaseSeat) → first_id ≡ seat_id 1 → first ≡ remove w first_id → get w (seat_id 2) ≡ Some (Some (SeatHeld seat)) → get first (seat_id 2) ≡ Some (Some (SeatHeld seat))
seat-stays w first first_id seat same taken stands = ap (λ m. get m (seat_id 2)) (taken ∙ ap (remove w) same) ∙ (get-remove ids_total w (seat_id 1) (seat_id 2) ∙ stands)

-- the entities that were put back are there
pub entities-back : (w after : Slots Held) (births : Births) → after ≡ insert w births_id (Some (EntitiesHeld births)) → value_at after births_id ≡ Some (EntitiesHeld births)
entities-back w after births put = ap (λ m. value_at m births_id) put ∙ ap option_flatten (get-insert ids_total w births_id (Some (EntitiesHeld births)) births_id)
