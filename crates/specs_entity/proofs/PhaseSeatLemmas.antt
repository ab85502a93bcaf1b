-- A caller comes with a part of another's allowance, and a caller takes in another, between two steps of a phase.
use Rattle.std.proofs.Common.{◌≡◌, ◌≢◌, ◌⊎◌, ℕ, zero, suc, ◌+◌, Bool, List, [], ◌∷◌, ◌++◌, map, length, set, sym, refl, ap, ◌∙◌, subst, arith, inl, inr, ⊎_elim, length-set, length-append, append-nil}
use Rattle.std.proofs.lemmas.List.Elements.{All-append, All-same}
use Rattle.std.specs.List.{All}
use mathlib.Core.Option.{some, some-injective, some-ne-none}
use mathlib.Core.List.{map-append}
use lib.ListN.{get_elem?}
use Rattle.atomic_table.proofs.Lists.{at_set, set_here, set_else, at_longer, at_last}
use Rattle.hibitset.specs.declared.atomic_core.Caller.{Caller}
use Rattle.hibitset.specs.AtomicCore.{Fits, calls_of, newcomer, merged}
use Rattle.hibitset.specs.AtomicRuns.{run_of}
use Rattle.hibitset.proofs.AtomicWordLemmas.{total-set, total-push}
use Rattle.hibitset.proofs.AtomicStepLemmas.{get_elem-lt, come-sound, merge-sound}
use Rattle.hibitset.proofs.AtomicRestLemmas.{calls-idle}
use Rattle.specs_entity.specs.declared.phase_core.Claimer.{Claimer}
use Rattle.specs_entity.specs.declared.phase_core.Phase.{Phase}
use Rattle.specs_entity.specs.PhaseCore.{Setting, index_at, claimer_with, phase_with, occurrences, called, IsClaimer, HasLived, IsPhase}
use Rattle.specs_entity.proofs.PhaseCoreLemmas.{occurrences-append}

-- an item of a longer list is one of the list, or the last, at its end
push-at : {Item : Type 0} (items : List Item) (last one : Item) (place : ℕ) → get_elem? (items ++ last ∷ []) place ≡ some one → (get_elem? items place ≡ some one) ⊎ ((place ≡ length items) × (last ≡ one))
push-at [] last one zero at = inr (refl, some-injective last one at)
push-at [] last one (suc place) at = absurd (some-ne-none one (sym at))
push-at (item ∷ items) last one zero at = inl at
push-at (item ∷ items) last one (suc place) at = ⊎_elim inl (λ (end : (place ≡ length items) × (last ≡ one)). inr (ap suc end.0, end.1)) (push-at items last one place at)

nothing-deleted : (setting : Setting) (words : List ℕ) → All (λ call. HasLived setting words call.0) (calls_of newcomer)
nothing-deleted setting words place call below = absurd (omega arith)

module _ (setting : Setting) (fits : Fits setting.sizes) (phase : Phase) (holds : IsPhase setting phase) where
  pub come-holds : (who : ℕ) (claimer kept given : Claimer) → get_elem? phase.claimers who ≡ some claimer → kept.births ≡ claimer.births → kept.pending ≡ claimer.pending → kept.allowance + given.allowance ≡ claimer.allowance → given.births ≡ [] → given.pending ≡ []
      → IsPhase setting (phase_with phase.claim (run_of phase.raised.words (phase.raised.callers ++ newcomer ∷ [])) (run_of phase.killed.words (phase.killed.callers ++ newcomer ∷ [])) (set phase.claimers who kept ++ given ∷ []))
  come-holds who claimer kept given at births pending shares unborn unclaimed =
      let changed : List Claimer = set phase.claimers who kept in
      record {
        range = holds.range;
        claims = λ place.
            let sum = total-set (λ (c : Claimer). occurrences place c.births) phase.claimers who claimer kept at in
            let more = total-push (λ (c : Claimer). occurrences place c.births) changed given in
            let same : occurrences place kept.births ≡ occurrences place claimer.births = ap (occurrences place) births in
            let none_born : occurrences place given.births ≡ 0 = ap (occurrences place) unborn in
            let counted = holds.claims place in omega arith;
        allowances = let sum = total-set (λ (c : Claimer). c.allowance) phase.claimers who claimer kept at in let more = total-push (λ (c : Claimer). c.allowance) changed given in let left = holds.allowances in omega arith;
        raised = come-sound setting.sizes fits setting.raised phase.raised.words phase.raised.callers holds.raised;
        killed = come-sound setting.sizes fits setting.killed phase.killed.words phase.killed.callers holds.killed;
        claimers = λ place one found. ⊎_elim
            (λ was. ⊎_elim
            (λ (here : (place ≡ who) × (kept ≡ one)). let its = holds.claimers who claimer at in (
              its.0,
              at_longer phase.raised.callers (newcomer ∷ []) place its.0 (ap (get_elem? phase.raised.callers) here.0 ∙ its.1),
              subst (λ (c : Claimer). IsClaimer setting c its.0) here.1 record {
                born = ap (map (index_at setting)) births ∙ its.2.born ∙ ap (λ list. map called (calls_of its.0) ++ map (index_at setting) list) (sym pending);
                waits = subst (λ list. (list ≡ []) ⊎ ((n : ℕ) × (list ≡ n ∷ []) × (its.0.stage ≡ 0))) (sym pending) its.2.waits;
              },
            ))
            (λ there. let its = holds.claimers place one there.1 in (its.0, at_longer phase.raised.callers (newcomer ∷ []) place its.0 its.1, its.2))
            (at_set phase.claimers who place kept one was))
            (λ (last : (place ≡ length changed) × (given ≡ one)).
            let end : length phase.raised.callers ≡ place = holds.same ∙ sym (length-set phase.claimers who kept) ∙ sym last.0 in (
              newcomer,
              at_last phase.raised.callers newcomer place end,
              subst (λ (c : Claimer). IsClaimer setting c newcomer) last.1 record { born = ap (map (index_at setting)) unborn ∙ sym (ap (map (index_at setting)) unclaimed); waits = inl unclaimed },
            ))
            (push-at changed given one place found);
        same = let one = length-append phase.raised.callers (newcomer ∷ []) in let two = length-append changed (given ∷ []) in let same_set = length-set phase.claimers who kept in let same = holds.same in omega arith;
        deletions = λ place caller found. ⊎_elim (holds.deletions place caller) (λ (last : (place ≡ length phase.killed.callers) × (newcomer ≡ caller)). subst (λ (c : Caller). All (λ call. HasLived setting phase.raised.words call.0) (calls_of c)) last.1 (nothing-deleted setting phase.raised.words))
            (push-at phase.killed.callers newcomer caller place found);
      }

  pub merge-holds : (who other : ℕ) (claimer taken : Claimer) (raise raise' kill kill' : Caller) → other ≢ who → get_elem? phase.claimers who ≡ some claimer → get_elem? phase.claimers other ≡ some taken
      → get_elem? phase.raised.callers who ≡ some raise → get_elem? phase.raised.callers other ≡ some raise' → get_elem? phase.killed.callers who ≡ some kill → get_elem? phase.killed.callers other ≡ some kill'
      → claimer.pending ≡ [] → taken.pending ≡ [] → raise.stage ≡ 0 → raise'.stage ≡ 0 → kill.stage ≡ 0 → kill'.stage ≡ 0
      → IsPhase setting (phase_with phase.claim (run_of phase.raised.words (set (set phase.raised.callers who (merged raise raise')) other newcomer)) (run_of phase.killed.words (set (set phase.killed.callers who (merged kill kill')) other newcomer))
      (set (set phase.claimers who (claimer_with (claimer.births ++ taken.births) [] (claimer.allowance + taken.allowance))) other (claimer_with [] [] 0)))
  merge-holds who other claimer taken raise raise' kill kill' differ at at' raise_at raise_at' kill_at kill_at' pending pending' idle idle' rests rests' =
      let joined : Claimer = claimer_with (claimer.births ++ taken.births) [] (claimer.allowance + taken.allowance) in
      let spent : Claimer = claimer_with [] [] 0 in
      let between : List Claimer = set phase.claimers who joined in
      let there : get_elem? between other ≡ some taken = set_else phase.claimers who other joined differ ∙ at' in
      let callers : List Caller = set phase.raised.callers who (merged raise raise') in
      let own = holds.claimers who claimer at in
      let its = holds.claimers other taken at' in
      let born : map (index_at setting) claimer.births ≡ map called raise.calls =
      own.2.born ∙ (λ j. map called (calls_of (some-injective own.0 raise (sym own.1 ∙ raise_at) j)) ++ map (index_at setting) (pending j)) ∙ append-nil _ ∙ ap (map called) (calls-idle raise idle) in
      let born' : map (index_at setting) taken.births ≡ map called raise'.calls =
      its.2.born ∙ (λ j. map called (calls_of (some-injective its.0 raise' (sym its.1 ∙ raise_at') j)) ++ map (index_at setting) (pending' j)) ∙ append-nil _ ∙ ap (map called) (calls-idle raise' idle') in
      let whole : IsClaimer setting joined (merged raise raise') = record {
        born = map-append (index_at setting) claimer.births taken.births ∙ (λ j. born j ++ born' j) ∙ sym (append-nil _ ∙ ap (map called) (append-nil (raise.calls ++ raise'.calls)) ∙ map-append called raise.calls raise'.calls);
        waits = inl refl;
      } in
      record {
        range = holds.range;
        claims = λ place.
            let first = total-set (λ (c : Claimer). occurrences place c.births) phase.claimers who claimer joined at in
            let second = total-set (λ (c : Claimer). occurrences place c.births) between other taken spent there in
            let more = occurrences-append place claimer.births taken.births in
            let counted = holds.claims place in omega arith;
        allowances = let first = total-set (λ (c : Claimer). c.allowance) phase.claimers who claimer joined at in let second = total-set (λ (c : Claimer). c.allowance) between other taken spent there in let left = holds.allowances in omega arith;
        raised = merge-sound setting.sizes fits setting.raised phase.raised.words phase.raised.callers who other raise raise' holds.raised raise_at raise_at' differ idle idle';
        killed = merge-sound setting.sizes fits setting.killed phase.killed.words phase.killed.callers who other kill kill' holds.killed kill_at kill_at' differ rests rests';
        claimers = λ place one found. ⊎_elim
            (λ (here : (place ≡ other) × (spent ≡ one)). (
              newcomer,
              ap (get_elem? (set callers other newcomer)) here.0 ∙ set_here callers other newcomer (let low = get_elem-lt phase.raised.callers other raise' raise_at' in let long = length-set phase.raised.callers who (merged raise raise') in omega arith),
              subst (λ (c : Claimer). IsClaimer setting c newcomer) here.1 record { born = refl; waits = inl refl },
            ))
            (λ (away : (place ≢ other) × (get_elem? between place ≡ some one)). ⊎_elim
            (λ (here : (place ≡ who) × (joined ≡ one)). (
              merged raise raise',
              set_else callers other place newcomer away.0 ∙ ap (get_elem? callers) here.0 ∙ set_here phase.raised.callers who (merged raise raise') (get_elem-lt phase.raised.callers who raise raise_at),
              subst (λ (c : Claimer). IsClaimer setting c (merged raise raise')) here.1 whole,
            ))
            (λ there'. let was = holds.claimers place one there'.1 in (was.0, set_else callers other place newcomer away.0 ∙ set_else phase.raised.callers who place (merged raise raise') there'.0 ∙ was.1, was.2))
            (at_set phase.claimers who place joined one away.1))
            (at_set between other place spent one found);
        same = length-set callers other newcomer ∙ length-set phase.raised.callers who (merged raise raise') ∙ holds.same ∙ sym (length-set between other spent ∙ length-set phase.claimers who joined);
        deletions = λ place caller found. ⊎_elim
            (λ (here : (place ≡ other) × (newcomer ≡ caller)). subst (λ (c : Caller). All (λ call. HasLived setting phase.raised.words call.0) (calls_of c)) here.1 (nothing-deleted setting phase.raised.words))
            (λ away. ⊎_elim
            (λ (here : (place ≡ who) × (merged kill kill' ≡ caller)). subst (λ (c : Caller). All (λ call. HasLived setting phase.raised.words call.0) (calls_of c)) here.1
            (All-same (λ (call : ℕ × Bool). HasLived setting phase.raised.words call.0) (calls_of (merged kill kill')) (kill.calls ++ kill'.calls) (append-nil (kill.calls ++ kill'.calls))
            (All-append (λ (call : ℕ × Bool). HasLived setting phase.raised.words call.0) kill.calls kill'.calls
            (All-same (λ (call : ℕ × Bool). HasLived setting phase.raised.words call.0) kill.calls (calls_of kill) (sym (calls-idle kill rests)) (holds.deletions who kill kill_at))
            (All-same (λ (call : ℕ × Bool). HasLived setting phase.raised.words call.0) kill'.calls (calls_of kill') (sym (calls-idle kill' rests')) (holds.deletions other kill' kill_at')))))
            (λ there'. holds.deletions place caller there'.1) (at_set phase.killed.callers who place (merged kill kill') caller away.1))
            (at_set (set phase.killed.callers who (merged kill kill')) other place newcomer caller found);
      }
