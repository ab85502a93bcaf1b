-- Each event of each caller keeps what holds of a phase.
use Rattle.std.proofs.Common.{◌≡◌, ℕ, zero, suc, ◌+◌, ◌*◌, ◌/◌, ◌%◌, ◌<◌, ◌==◌, ◌&&◌, ◌||◌, Bool, true, false, if◌then◌else◌, nat_lt, List, [], ◌∷◌, ◌++◌, map, length, get_or, set, replicate, sym, refl, ap, ◌∙◌, subst, arith, inl, inr, ⊎_elim, length-set, append-nil}
use Rattle.std.proofs.lemmas.List.{length-replicate}
use Rattle.std.proofs.lemmas.Bool.{true≢false}
use Rattle.std.proofs.lemmas.List.Elements.{All-weaker, All-same, All-head, All-tail}
use Rattle.std.specs.Int.{bit_at}
use Rattle.std.specs.List.{All}
use mathlib.Core.Logic.{dite}
use native.Mathlib.Decide.{ℕ_discrete}
use mathlib.Core.Option.{Option, none, some, some-injective, some-ne-none}
use mathlib.Core.List.{map-append}
use lib.ListN.{get_elem?}
use Rattle.atomic_table.proofs.Lists.{at_set, set_here, set_else}
use Rattle.hibitset.specs.Cut.{number_in}
use Rattle.hibitset.specs.declared.atomic_core.Caller.{Caller}
use Rattle.hibitset.specs.declared.atomic_core.Run.{Run}
use Rattle.hibitset.specs.AtomicCore.{Sizes, Fits, bit, with_bit, address, total, in_flight, calls_of, StaysSet, IsSound, newcomer, begun, risen, ended, looked}
use Rattle.hibitset.specs.AtomicRuns.{run_of, after_begin, after_rise, after_look, IsSoundRun}
use Rattle.hibitset.proofs.AtomicWordLemmas.{total-set, count-total, All-push, with_bit-keeps, address-lt, number_in-lt}
use Rattle.hibitset.proofs.AtomicStepLemmas.{get_elem-lt, begin-sound, rise-sound, end-sound, look-sound, start-sound}
use Rattle.hibitset.proofs.AtomicRestLemmas.{calls-idle}
use Rattle.specs_entity.specs.declared.phase_core.Claimer.{Claimer}
use Rattle.specs_entity.specs.declared.phase_core.Phase.{Phase}
use Rattle.specs_entity.specs.declared.phase_core.Event.{Event}
use Rattle.specs_entity.specs.declared.phase_core.Event.TheVariants.{Claim, Raise, Kill, Bury, LookUp}
use Rattle.specs_entity.specs.PhaseCore.{Setting, index_at, phase_with, claimed, raising, is_resting, is_unclaimed, is_idle, saw_set, has_seen, may_delete, after_claim, after_raise_of, after_raise, after_event, after_events, occurrences, once_below, called, IsClaimer, AreClaimers, HasLived, AreOfTheLiving, IsPhase, IsOpening}

pub occurrences-append : (number : ℕ) (numbers more : List ℕ) → occurrences number (numbers ++ more) ≡ occurrences number numbers + occurrences number more
occurrences-append number [] more = let same : occurrences number more ≡ 0 + occurrences number more = omega arith in same
occurrences-append number (first ∷ numbers) more = let rest = occurrences-append number numbers more in omega arith

pub once_below-next : (number limit : ℕ) → once_below number (limit + 1) ≡ once_below number limit + (if limit == number then 1 else 0)
once_below-next number limit = grind arith

-- a bit that a load found set is set
seen-set : (words : List ℕ) (looks : List (ℕ × ℕ)) (index : ℕ) → All (StaysSet words) looks → saw_set looks index ≡ true → bit words index ≡ 1
seen-set words [] index all saw = absurd (true≢false (sym saw))
seen-set words (look ∷ looks) index all saw = by (look.0 == index / 64) (bit_at look.1 (index % 64) == 1) refl refl (seen-set words looks index (All-tail (StaysSet words) look looks all)) saw
  where
    by : (here on : Bool) → (look.0 == index / 64) ≡ here → (bit_at look.1 (index % 64) == 1) ≡ on → (saw_set looks index ≡ true → bit words index ≡ 1) → ((here && on) || saw_set looks index) ≡ true → bit words index ≡ 1
    by true true here on rest saw' =
        let word : look.0 ≡ index / 64 = grind (arith, here) in
        let one : bit_at look.1 (index % 64) ≡ 1 = grind (arith, on) in
        ap (λ number. bit_at (get_or words number 0) (index % 64)) (sym word) ∙ All-head (StaysSet words) look looks all (index % 64) one
    by true false here on rest saw' = rest saw'
    by false any here on rest saw' = rest saw'

-- a call that is in flight stays the same as it rises, and as it ends
pub calls-risen : (caller : Caller) (layer : ℕ) → caller.stage ≡ suc layer → calls_of (risen caller) ≡ calls_of caller
calls-risen caller layer stage = sym (ap (λ n. caller.calls ++ in_flight n (caller.index, caller.found)) stage)

pub calls-ended : (caller : Caller) (layer : ℕ) → caller.stage ≡ suc layer → calls_of (ended caller) ≡ calls_of caller
calls-ended caller layer stage = append-nil (caller.calls ++ (caller.index, caller.found) ∷ []) ∙ sym (ap (λ n. caller.calls ++ in_flight n (caller.index, caller.found)) stage)

-- no bit is cleared
abbrev pub Grows : List ℕ → List ℕ → Type 0
Grows words words' = (number place : ℕ) → bit_at (get_or words number 0) place ≡ 1 → bit_at (get_or words' number 0) place ≡ 1

module _ (setting : Setting) (fits : Fits setting.sizes) where
  abbrev sizes : Sizes
  sizes = setting.sizes

  -- ---- parts of a phase

  deletions-grow : (words words' : List ℕ) (callers : List Caller) → Grows words words' → AreOfTheLiving setting words callers → AreOfTheLiving setting words' callers
  deletions-grow words words' callers grows living who caller at =
      All-weaker (λ call. HasLived setting words call.0) (λ call. HasLived setting words' call.0) (λ call lived. ⊎_elim inl (λ on. inr (grows (call.0 / 64) (call.0 % 64) on)) lived) (calls_of caller) (living who caller at)

  deletions-set : (words : List ℕ) (callers : List Caller) (who : ℕ) (changed : Caller) → AreOfTheLiving setting words callers → All (λ call. HasLived setting words call.0) (calls_of changed) → AreOfTheLiving setting words (set callers who changed)
  deletions-set words callers who changed living holds place caller at =
      ⊎_elim (λ here. subst (λ (c : Caller). All (λ call. HasLived setting words call.0) (calls_of c)) here.1 holds) (λ there. living place caller there.1) (at_set callers who place changed caller at)

  claimers-set : (claimers : List Claimer) (callers : List Caller) (who : ℕ) (claimer : Claimer) (caller : Caller) → AreClaimers setting claimers callers → get_elem? callers who ≡ some caller → IsClaimer setting claimer caller
      → AreClaimers setting (set claimers who claimer) callers
  claimers-set claimers callers who claimer caller all at holds place other found =
      ⊎_elim (λ here. (caller, ap (get_elem? callers) here.0 ∙ at, subst (λ (c : Claimer). IsClaimer setting c caller) here.1 holds)) (λ there. all place other there.1) (at_set claimers who place claimer other found)

  callers-set : (claimers : List Claimer) (callers : List Caller) (who : ℕ) (caller changed : Caller) → AreClaimers setting claimers callers → get_elem? callers who ≡ some caller
      → ((claimer : Claimer) → IsClaimer setting claimer caller → IsClaimer setting claimer changed) → AreClaimers setting claimers (set callers who changed)
  callers-set claimers callers who caller changed all at moves place claimer found =
      let was = all place claimer found in
      dite (ℕ_discrete place who)
      (λ here. let same : was.0 ≡ caller = some-injective was.0 caller (sym was.1 ∙ ap (get_elem? callers) here ∙ at) in
      (changed, ap (get_elem? (set callers who changed)) here ∙ set_here callers who changed (get_elem-lt callers who caller at), moves claimer (subst (IsClaimer setting claimer) same was.2)))
      (λ differ. (was.0, set_else callers who place changed differ ∙ was.1, was.2))

  -- the claimer at a caller's place
  claimer-of : (phase : Phase) (who : ℕ) (claimer : Claimer) (caller : Caller) → IsPhase setting phase → get_elem? phase.claimers who ≡ some claimer → get_elem? phase.raised.callers who ≡ some caller → IsClaimer setting claimer caller
  claimer-of phase who claimer caller holds at at' = let was = holds.claimers who claimer at in let same : was.0 ≡ caller = some-injective was.0 caller (sym was.1 ∙ at') in subst (IsClaimer setting claimer) same was.2

  -- ---- steps

  -- the next place is claimed
  pub claim-holds : (phase : Phase) (who : ℕ) (claimer : Claimer) (caller : Caller) → IsPhase setting phase → get_elem? phase.claimers who ≡ some claimer → get_elem? phase.raised.callers who ≡ some caller
      → 0 < claimer.allowance → claimer.pending ≡ [] → caller.stage ≡ 0 → IsPhase setting (phase_with (phase.claim + 1) phase.raised phase.killed (set phase.claimers who (claimed claimer phase.claim)))
  claim-holds phase who claimer caller holds at at' some_allowance nothing idle =
      let after_it : Claimer = claimed claimer phase.claim in
      let was = claimer-of phase who claimer caller holds at at' in
      record {
        range = holds.range;
        claims = λ place.
            let sum = total-set (λ (c : Claimer). occurrences place c.births) phase.claimers who claimer after_it at in
            let more = occurrences-append place claimer.births (phase.claim ∷ []) in
            let counted = holds.claims place in let next = once_below-next place phase.claim in omega arith;
        allowances = let sum = total-set (λ (c : Claimer). c.allowance) phase.claimers who claimer after_it at in let most = count-total (λ (c : Claimer). c.allowance) phase.claimers who claimer at in let left = holds.allowances in omega arith;
        raised = holds.raised;
        killed = holds.killed;
        claimers = claimers-set phase.claimers phase.raised.callers who after_it caller holds.claimers at' record {
          born = map-append (index_at setting) claimer.births (phase.claim ∷ []) ∙ ap (λ indices. indices ++ index_at setting phase.claim ∷ []) (was.born ∙ ap (λ pending. map called (calls_of caller) ++ map (index_at setting) pending) nothing ∙ append-nil _);
          waits = inr (phase.claim, refl, idle);
        };
        same = holds.same ∙ sym (length-set phase.claimers who after_it);
        deletions = holds.deletions;
      }

  -- the claim that waits gets its first bit
  pub begin-holds : (phase : Phase) (who place : ℕ) (claimer : Claimer) (caller : Caller) → IsPhase setting phase → get_elem? phase.claimers who ≡ some claimer → get_elem? phase.raised.callers who ≡ some caller → claimer.pending ≡ place ∷ [] → caller.stage ≡ 0
      → IsPhase setting (phase_with phase.claim (run_of (with_bit phase.raised.words (index_at setting place)) (set phase.raised.callers who (begun caller (index_at setting place) (get_or phase.raised.words (index_at setting place / 64) 0)))) phase.killed (set phase.claimers who (raising claimer)))
  begin-holds phase who place claimer caller holds at at' waits idle =
      let index : ℕ = index_at setting place in
      let small : index < 64 * sizes.first = holds.range place in
      let words : List ℕ = phase.raised.words in
      let wide = holds.raised.wide in
      let changed : Caller = begun caller index (get_or words (index / 64) 0) in
      let after_it : Claimer = raising claimer in
      let was = claimer-of phase who claimer caller holds at at' in
      let before : map (index_at setting) claimer.births ≡ map called caller.calls ++ index ∷ [] =
      was.born ∙ ap (λ pending. map called (calls_of caller) ++ map (index_at setting) pending) waits ∙ ap (λ (calls : List (ℕ × Bool)). map called calls ++ index ∷ []) (calls-idle caller idle) in
      let now : IsClaimer setting after_it changed = record {
        born = before ∙ sym (append-nil _ ∙ map-append called caller.calls ((index, changed.found) ∷ []));
        waits = inl refl;
      } in
      record {
        range = holds.range;
        claims = λ other. let sum = total-set (λ (c : Claimer). occurrences other c.births) phase.claimers who claimer after_it at in let counted = holds.claims other in omega arith;
        allowances = let sum = total-set (λ (c : Claimer). c.allowance) phase.claimers who claimer after_it at in let left = holds.allowances in omega arith;
        raised = begin-sound sizes fits setting.raised words phase.raised.callers who caller holds.raised at' index small idle;
        killed = holds.killed;
        claimers = λ other one found. ⊎_elim
            (λ here. (changed, ap (get_elem? (set phase.raised.callers who changed)) here.0 ∙ set_here phase.raised.callers who changed (get_elem-lt phase.raised.callers who caller at'), subst (λ (c : Claimer). IsClaimer setting c changed) here.1 now))
            (λ there. let its = holds.claimers other one there.1 in (its.0, set_else phase.raised.callers who other changed there.0 ∙ its.1, its.2))
            (at_set phase.claimers who other after_it one found);
        same = length-set phase.raised.callers who changed ∙ holds.same ∙ sym (length-set phase.claimers who after_it);
        deletions = deletions-grow words (with_bit words index) phase.killed.callers (with_bit-keeps words index (omega (arith, wide, small))) holds.deletions;
      }

  -- a caller of the raised set changes, and lists the same indices
  raised-moves : (phase : Phase) (who : ℕ) (caller changed : Caller) (words : List ℕ) → IsPhase setting phase → get_elem? phase.raised.callers who ≡ some caller → IsSound sizes setting.raised words (set phase.raised.callers who changed)
      → Grows phase.raised.words words → calls_of changed ≡ calls_of caller → (caller.stage ≡ 0 → changed.stage ≡ 0) → IsPhase setting (phase_with phase.claim (run_of words (set phase.raised.callers who changed)) phase.killed phase.claimers)
  raised-moves phase who caller changed words holds at sound grows listed rests = record {
    range = holds.range;
    claims = holds.claims;
    allowances = holds.allowances;
    raised = sound;
    killed = holds.killed;
    claimers = callers-set phase.claimers phase.raised.callers who caller changed holds.claimers at (λ claimer is. record {
      born = is.born ∙ ap (λ (calls : List (ℕ × Bool)). map called calls ++ map (index_at setting) claimer.pending) (sym listed);
      waits = ⊎_elim inl (λ (one : (place : ℕ) × (claimer.pending ≡ place ∷ []) × (caller.stage ≡ 0)). inr (one.0, one.1, rests one.2)) is.waits;
    });
    same = length-set phase.raised.callers who changed ∙ holds.same;
    deletions = deletions-grow phase.raised.words words phase.killed.callers grows holds.deletions;
  }

  -- a caller of the killed set changes
  killed-moves : (phase : Phase) (who : ℕ) (changed : Caller) (words : List ℕ) → IsPhase setting phase → IsSound sizes setting.killed words (set phase.killed.callers who changed) → All (λ call. HasLived setting phase.raised.words call.0) (calls_of changed)
      → IsPhase setting (phase_with phase.claim phase.raised (run_of words (set phase.killed.callers who changed)) phase.claimers)
  killed-moves phase who changed words holds sound living = record {
    range = holds.range;
    claims = holds.claims;
    allowances = holds.allowances;
    raised = holds.raised;
    killed = sound;
    claimers = holds.claimers;
    same = holds.same;
    deletions = deletions-set phase.raised.words phase.killed.callers who changed holds.deletions living;
  }

  pub look-holds : (phase : Phase) (who number : ℕ) (caller : Caller) → IsPhase setting phase → get_elem? phase.raised.callers who ≡ some caller
      → IsPhase setting (phase_with phase.claim (run_of phase.raised.words (set phase.raised.callers who (looked caller number (get_or phase.raised.words number 0)))) phase.killed phase.claimers)
  look-holds phase who number caller holds at =
      raised-moves phase who caller (looked caller number (get_or phase.raised.words number 0)) phase.raised.words holds at (look-sound sizes fits setting.raised phase.raised.words phase.raised.callers who caller holds.raised at number) (λ n place on. on) refl (λ idle. idle)

  -- a deletion begins
  pub kill-holds : (phase : Phase) (who index : ℕ) (caller : Caller) → IsPhase setting phase → get_elem? phase.killed.callers who ≡ some caller → caller.stage ≡ 0 → index < 64 * sizes.first → HasLived setting phase.raised.words index
      → IsPhase setting (phase_with phase.claim phase.raised (run_of (with_bit phase.killed.words index) (set phase.killed.callers who (begun caller index (get_or phase.killed.words (index / 64) 0)))) phase.claimers)
  kill-holds phase who index caller holds at idle small lived =
      killed-moves phase who (begun caller index (get_or phase.killed.words (index / 64) 0)) (with_bit phase.killed.words index) holds
      (begin-sound sizes fits setting.killed phase.killed.words phase.killed.callers who caller holds.killed at index small idle)
      (All-push (λ call. HasLived setting phase.raised.words call.0) caller.calls _ (All-same (λ (call : ℕ × Bool). HasLived setting phase.raised.words call.0) caller.calls (calls_of caller) (sym (calls-idle caller idle)) (holds.deletions who caller at)) lived)

  module _ (phase : Phase) (who : ℕ) (caller : Caller) (layer : ℕ) (holds : IsPhase setting phase) (stage : caller.stage ≡ suc layer) (low : layer < 3) where
    spot-grows : (old : ℕ → Bool) (run : Run) → IsSoundRun sizes old run → get_elem? run.callers who ≡ some caller → Grows run.words (with_bit run.words (address sizes (suc layer) (number_in (suc layer) caller.index)))
    spot-grows old run sound at =
        let small = (sound.each who caller at).within (omega (arith, stage)) in
        let wide = sound.wide in
        let inside = address-lt sizes fits (suc layer) (number_in (suc layer) caller.index) (omega arith) (number_in-lt sizes fits (suc layer) caller.index (omega arith) small) in
        with_bit-keeps run.words _ (omega (arith, inside, wide))

    -- the call in flight on the raised set goes up, and ends
    pub raise-holds : get_elem? phase.raised.callers who ≡ some caller → layer < 2
        → IsPhase setting (phase_with phase.claim (run_of (with_bit phase.raised.words (address sizes (suc layer) (number_in (suc layer) caller.index))) (set phase.raised.callers who (risen caller))) phase.killed phase.claimers)
    raise-holds at lower = raised-moves phase who caller (risen caller) _ holds at (rise-sound sizes fits setting.raised phase.raised.words phase.raised.callers who caller holds.raised at layer stage low lower)
        (spot-grows setting.raised phase.raised holds.raised at) (calls-risen caller layer stage) (λ idle. absurd (omega (arith, stage)))

    pub raised-holds : get_elem? phase.raised.callers who ≡ some caller → layer ≡ 2
        → IsPhase setting (phase_with phase.claim (run_of (with_bit phase.raised.words (address sizes (suc layer) (number_in (suc layer) caller.index))) (set phase.raised.callers who (ended caller))) phase.killed phase.claimers)
    raised-holds at last = raised-moves phase who caller (ended caller) _ holds at (end-sound sizes fits setting.raised phase.raised.words phase.raised.callers who caller holds.raised at layer stage low last)
        (spot-grows setting.raised phase.raised holds.raised at) (calls-ended caller layer stage) (λ idle. refl)

    -- the same of a deletion
    pub bury-holds : get_elem? phase.killed.callers who ≡ some caller → layer < 2
        → IsPhase setting (phase_with phase.claim phase.raised (run_of (with_bit phase.killed.words (address sizes (suc layer) (number_in (suc layer) caller.index))) (set phase.killed.callers who (risen caller))) phase.claimers)
    bury-holds at lower = killed-moves phase who (risen caller) _ holds (rise-sound sizes fits setting.killed phase.killed.words phase.killed.callers who caller holds.killed at layer stage low lower)
        (All-same (λ (call : ℕ × Bool). HasLived setting phase.raised.words call.0) (calls_of (risen caller)) (calls_of caller) (calls-risen caller layer stage) (holds.deletions who caller at))

    pub buried-holds : get_elem? phase.killed.callers who ≡ some caller → layer ≡ 2
        → IsPhase setting (phase_with phase.claim phase.raised (run_of (with_bit phase.killed.words (address sizes (suc layer) (number_in (suc layer) caller.index))) (set phase.killed.callers who (ended caller))) phase.claimers)
    buried-holds at last = killed-moves phase who (ended caller) _ holds (end-sound sizes fits setting.killed phase.killed.words phase.killed.callers who caller holds.killed at layer stage low last)
        (All-same (λ (call : ℕ × Bool). HasLived setting phase.raised.words call.0) (calls_of (ended caller)) (calls_of caller) (calls-ended caller layer stage) (holds.deletions who caller at))

  -- who may delete an index knows that an entity has lived there
  pub may-lived : (phase : Phase) (who index : ℕ) → IsPhase setting phase → may_delete setting phase who index ≡ true → HasLived setting phase.raised.words index
  may-lived phase who index holds may = by (setting.lives index) (get_elem? phase.raised.callers who) refl refl may
    where
      by : (lived : Bool) (found : Option Caller) → setting.lives index ≡ lived → get_elem? phase.raised.callers who ≡ found → (lived || has_seen found index) ≡ true → HasLived setting phase.raised.words index
      by true found is at may' = inl is
      by false none is at may' = absurd (true≢false (sym may'))
      by false (some caller) is at may' = inr (seen-set phase.raised.words caller.seen index (holds.raised.each who caller at).seen may')

  -- ---- events

  -- each list that is empty or not, of a claim that waits
  nothing-waits : (claimer : Claimer) → is_unclaimed (some claimer) ≡ true → claimer.pending ≡ []
  nothing-waits claimer is = by claimer.pending is
    where
      by : (pending : List ℕ) → (length pending == 0) ≡ true → pending ≡ []
      by [] is' = refl
      by (place ∷ places) is' = absurd (let none : (suc (length places) == 0) ≡ true = is' in grind arith)

  claim-event : (phase : Phase) (who : ℕ) (found : Option Claimer) → IsPhase setting phase → get_elem? phase.claimers who ≡ found → IsPhase setting (after_claim phase who found)
  claim-event phase who none holds at = holds
  claim-event phase who (some claimer) holds at = by (nat_lt 0 claimer.allowance) (is_unclaimed (get_elem? phase.claimers who)) (is_resting (get_elem? phase.raised.callers who)) (is_resting (get_elem? phase.killed.callers who)) refl refl refl
    where
      by : (left waits raised killed : Bool) → nat_lt 0 claimer.allowance ≡ left → is_unclaimed (get_elem? phase.claimers who) ≡ waits → is_resting (get_elem? phase.raised.callers who) ≡ raised
          → IsPhase setting (if left && (waits && (raised && killed)) then phase_with (phase.claim + 1) phase.raised phase.killed (set phase.claimers who (claimed claimer phase.claim)) else phase)
      by true true true true left waits raised =
          let its = holds.claimers who claimer at in
          let idle : (its.0.stage == 0) ≡ true = sym (ap is_resting its.1) ∙ raised in
          claim-holds phase who claimer its.0 holds at its.1 (grind arith) (nothing-waits claimer (sym (ap is_unclaimed at) ∙ waits)) (grind arith)
      by true true true false left waits raised = holds
      by true true false killed left waits raised = holds
      by true false any killed left waits raised = holds
      by false any any' killed left waits raised = holds

  rise-event : (phase : Phase) (who : ℕ) (found : Option Caller) → IsPhase setting phase → get_elem? phase.raised.callers who ≡ found → IsPhase setting (phase_with phase.claim (after_rise sizes phase.raised who found) phase.killed phase.claimers)
  rise-event phase who none holds at = holds
  rise-event phase who (some caller) holds at = by caller.stage refl (holds.raised.each who caller at).stage
    where
      by : (stage : ℕ) → caller.stage ≡ stage → stage < 4
          → IsPhase setting (phase_with phase.claim (if stage == 0 then phase.raised else run_of (with_bit phase.raised.words (address sizes stage (number_in stage caller.index))) (set phase.raised.callers who (if nat_lt stage 3 then risen caller else ended caller))) phase.killed phase.claimers)
      by zero is low = holds
      by (suc zero) is low = raise-holds phase who caller 0 holds is (omega arith) at (omega arith)
      by (suc (suc zero)) is low = raise-holds phase who caller 1 holds is (omega arith) at (omega arith)
      by (suc (suc (suc zero))) is low = raised-holds phase who caller 2 holds is (omega arith) at refl
      by (suc (suc (suc (suc stage)))) is low = absurd (omega arith)

  bury-event : (phase : Phase) (who : ℕ) (found : Option Caller) → IsPhase setting phase → get_elem? phase.killed.callers who ≡ found → IsPhase setting (phase_with phase.claim phase.raised (after_rise sizes phase.killed who found) phase.claimers)
  bury-event phase who none holds at = holds
  bury-event phase who (some caller) holds at = by caller.stage refl (holds.killed.each who caller at).stage
    where
      by : (stage : ℕ) → caller.stage ≡ stage → stage < 4
          → IsPhase setting (phase_with phase.claim phase.raised (if stage == 0 then phase.killed else run_of (with_bit phase.killed.words (address sizes stage (number_in stage caller.index))) (set phase.killed.callers who (if nat_lt stage 3 then risen caller else ended caller))) phase.claimers)
      by zero is low = holds
      by (suc zero) is low = bury-holds phase who caller 0 holds is (omega arith) at (omega arith)
      by (suc (suc zero)) is low = bury-holds phase who caller 1 holds is (omega arith) at (omega arith)
      by (suc (suc (suc zero))) is low = buried-holds phase who caller 2 holds is (omega arith) at refl
      by (suc (suc (suc (suc stage)))) is low = absurd (omega arith)

  look-event : (phase : Phase) (who number : ℕ) (found : Option Caller) → IsPhase setting phase → get_elem? phase.raised.callers who ≡ found → IsPhase setting (phase_with phase.claim (after_look phase.raised who number found) phase.killed phase.claimers)
  look-event phase who number none holds at = holds
  look-event phase who number (some caller) holds at = look-holds phase who number caller holds at

  -- a begun call on an index within layer 0, where none is in flight
  begin-is : (run : Run) (who index : ℕ) (caller : Caller) → get_elem? run.callers who ≡ some caller → caller.stage ≡ 0 → index < 64 * sizes.first
      → after_begin sizes run who index (get_elem? run.callers who) ≡ run_of (with_bit run.words index) (set run.callers who (begun caller index (get_or run.words (index / 64) 0)))
  begin-is run who index caller at idle small = ap (after_begin sizes run who index) at ∙ by (caller.stage == 0) (nat_lt index (64 * sizes.first)) (grind arith) (grind arith)
    where
      by : (rests within : Bool) → rests ≡ true → within ≡ true → (if rests && within then run_of (with_bit run.words index) (set run.callers who (begun caller index (get_or run.words (index / 64) 0))) else run)
          ≡ run_of (with_bit run.words index) (set run.callers who (begun caller index (get_or run.words (index / 64) 0)))
      by true true rests within = refl
      by true false rests within = absurd (true≢false (sym within))
      by false any rests within = absurd (true≢false (sym rests))

  raise-event : (phase : Phase) (who : ℕ) (claimer : Claimer) (pending : List ℕ) → IsPhase setting phase → get_elem? phase.claimers who ≡ some claimer → claimer.pending ≡ pending → IsPhase setting (after_raise_of setting phase who claimer pending)
  raise-event phase who claimer [] holds at is = rise-event phase who (get_elem? phase.raised.callers who) holds refl
  raise-event phase who claimer (place ∷ places) holds at is =
      let its = holds.claimers who claimer at in
      let waits : (claimer.pending ≡ place ∷ []) × (its.0.stage ≡ 0) = ⊎_elim
      (λ nothing. absurd (let none : suc (length places) ≡ 0 = ap length (sym is ∙ nothing) in omega arith))
      (λ (one : (other : ℕ) × (claimer.pending ≡ other ∷ []) × (its.0.stage ≡ 0)). (one.1 ∙ ap (λ n. n ∷ []) (ap (λ (numbers : List ℕ). get_or numbers 0 0) (sym one.1 ∙ is)), one.2)) its.2.waits in
      subst (λ (run : Run). IsPhase setting (phase_with phase.claim run phase.killed (set phase.claimers who (raising claimer)))) (sym (begin-is phase.raised who (index_at setting place) its.0 its.1 waits.1 (holds.range place)))
      (begin-holds phase who place claimer its.0 holds at its.1 waits.0 waits.1)

  raise-by : (phase : Phase) (who : ℕ) (found : Option Claimer) → IsPhase setting phase → get_elem? phase.claimers who ≡ found → IsPhase setting (after_raise setting phase who found)
  raise-by phase who none holds at = holds
  raise-by phase who (some claimer) holds at = raise-event phase who claimer claimer.pending holds at refl

  kill-event : (phase : Phase) (who index : ℕ) (found : Option Caller) → IsPhase setting phase → get_elem? phase.killed.callers who ≡ found → HasLived setting phase.raised.words index → IsPhase setting (phase_with phase.claim phase.raised (after_begin sizes phase.killed who index found) phase.claimers)
  kill-event phase who index none holds at lived = holds
  kill-event phase who index (some caller) holds at lived = by (caller.stage == 0) (nat_lt index (64 * sizes.first)) refl refl
    where
      by : (rests within : Bool) → (caller.stage == 0) ≡ rests → nat_lt index (64 * sizes.first) ≡ within
          → IsPhase setting (phase_with phase.claim phase.raised (if rests && within then run_of (with_bit phase.killed.words index) (set phase.killed.callers who (begun caller index (get_or phase.killed.words (index / 64) 0))) else phase.killed) phase.claimers)
      by true true rests within = kill-holds phase who index caller holds at (grind arith) (grind arith) lived
      by true false rests within = holds
      by false any rests within = holds

  pub event-holds : (phase : Phase) (event : Event) → IsPhase setting phase → IsPhase setting (after_event setting phase event)
  event-holds phase (Claim who) holds = claim-event phase who (get_elem? phase.claimers who) holds refl
  event-holds phase (Raise who) holds = raise-by phase who (get_elem? phase.claimers who) holds refl
  event-holds phase (Bury who) holds = bury-event phase who (get_elem? phase.killed.callers who) holds refl
  event-holds phase (LookUp who number) holds = look-event phase who number (get_elem? phase.raised.callers who) holds refl
  event-holds phase (Kill who index) holds = by (is_idle phase who) (may_delete setting phase who index) refl
    where
      by : (idle may : Bool) → may_delete setting phase who index ≡ may
          → IsPhase setting (if idle && may then phase_with phase.claim phase.raised (after_begin sizes phase.killed who index (get_elem? phase.killed.callers who)) phase.claimers else phase)
      by true true may = kill-event phase who index (get_elem? phase.killed.callers who) holds refl (may-lived phase who index holds may)
      by true false may = holds
      by false any may = holds

  pub events-hold : (phase : Phase) (events : List Event) → IsPhase setting phase → IsPhase setting (after_events setting events phase)
  events-hold phase [] holds = holds
  events-hold phase (event ∷ events) holds = events-hold (after_event setting phase event) events (event-holds phase event holds)

  -- ---- the opening

  nothing-born : (place : ℕ) (claimers : List Claimer) → ((who : ℕ) (claimer : Claimer) → get_elem? claimers who ≡ some claimer → (claimer.births ≡ []) × (claimer.pending ≡ [])) → total (λ claimer. occurrences place claimer.births) claimers ≡ 0
  nothing-born place [] unborn = refl
  nothing-born place (claimer ∷ claimers) unborn =
      let none : occurrences place claimer.births ≡ 0 = ap (occurrences place) (unborn 0 claimer refl).0 in
      let rest = nothing-born place claimers (λ who. unborn (suc who)) in omega arith

  newcomer-at : (count who : ℕ) → who < count → get_elem? (replicate count newcomer) who ≡ some newcomer
  newcomer-at zero who low = absurd (omega arith)
  newcomer-at (suc count) zero low = refl
  newcomer-at (suc count) (suc who) low = newcomer-at count who (omega arith)

  none-below : (place : ℕ) → once_below place 0 ≡ 0
  none-below place = grind arith

  pub opening-holds : (phase : Phase) → IsOpening setting phase → IsPhase setting phase
  opening-holds phase opening =
      let count : ℕ = length phase.claimers in
      record {
        range = opening.range;
        claims = λ place. let none = nothing-born place phase.claimers opening.unborn in let zero_claims : once_below place phase.claim ≡ 0 = ap (once_below place) opening.claim ∙ none-below place in omega arith;
        allowances = let most = opening.allowances in let zero_claims = opening.claim in omega arith;
        raised = subst (IsSoundRun sizes setting.raised) (sym opening.raised) (start-sound sizes fits setting.raised phase.raised.words count opening.raised_words);
        killed = subst (IsSoundRun sizes setting.killed) (sym opening.killed) (start-sound sizes fits setting.killed phase.killed.words count opening.killed_words);
        claimers = λ who claimer at. let unborn = opening.unborn who claimer at in (
          newcomer,
          ap (λ (run : Run). get_elem? run.callers who) opening.raised ∙ newcomer-at count who (get_elem-lt phase.claimers who claimer at),
          record { born = ap (map (index_at setting)) unborn.0 ∙ sym (ap (map (index_at setting)) unborn.1); waits = inl unborn.1 },
        );
        same = ap (λ (run : Run). length run.callers) opening.raised ∙ length-replicate count newcomer;
        deletions = subst (λ (run : Run). AreOfTheLiving setting phase.raised.words run.callers) (sym opening.killed) (λ who caller at. subst (λ (c : Caller). All (λ call. HasLived setting phase.raised.words call.0) (calls_of c)) (newcomers count who caller at) (λ place call below. absurd (omega arith)));
      }
    where
      newcomers : (count who : ℕ) (caller : Caller) → get_elem? (replicate count newcomer) who ≡ some caller → newcomer ≡ caller
      newcomers zero who caller at = absurd (some-ne-none caller (sym at))
      newcomers (suc count) zero caller at = some-injective newcomer caller at
      newcomers (suc count) (suc who) caller at = newcomers count who caller at
