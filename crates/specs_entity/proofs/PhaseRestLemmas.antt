-- What the births of a phase say of its callers and of the raised set.
use Rattle.std.proofs.Common.{◌≡◌, ◌≢◌, ◌⊎◌, ℕ, zero, suc, ◌+◌, ◌*◌, ◌<◌, ◌≤◌, ◌==◌, Bool, true, if◌then◌else◌, List, [], ◌∷◌, ◌++◌, map, length, sym, refl, ap, ◌∙◌, subst, arith, inl, inr, ⊎_elim, ne_eqb, append-nil}
use Rattle.std.specs.List.{All}
use native.Mathlib.Decide.{ℕ_discrete}
use mathlib.Core.Option.{some, some-injective, some-ne-none}
use lib.ListN.{get_elem?}
use Rattle.atomic_table.proofs.Lists.{at_longer}
use Rattle.hibitset.specs.declared.atomic_core.Caller.{Caller}
use Rattle.hibitset.specs.AtomicCore.{bit, calls_of, new_report, new_reports, total, HasAllBits}
use Rattle.hibitset.proofs.AtomicWordLemmas.{count-total}
use Rattle.hibitset.proofs.AtomicStepLemmas.{get_elem-lt}
use Rattle.hibitset.proofs.AtomicRestLemmas.{total-some, calls-idle, set-reported, old-set, at-rest}
use Rattle.specs_entity.specs.declared.phase_core.Claimer.{Claimer}
use Rattle.specs_entity.specs.declared.phase_core.Phase.{Phase}
use Rattle.specs_entity.specs.PhaseCore.{Setting, index_at, occurrences, once_below, called, IsPhase, IsPhaseAtRest, IsReserved, HasSettled}

-- two items at different places have at most the whole sum
total-two : {Item : Type 0} (count : Item → ℕ) (items : List Item) (one other : ℕ) (first second : Item) → one ≢ other → get_elem? items one ≡ some first → get_elem? items other ≡ some second → count first + count second ≤ total count items
total-two count [] one other first second differ at at' = absurd (some-ne-none first (sym at))
total-two count (item ∷ items) zero zero first second differ at at' = absurd (differ refl)
total-two count (item ∷ items) zero (suc other) first second differ at at' = let same : count item ≡ count first = ap count (some-injective item first at) in let most = count-total count items other second at' in omega arith
total-two count (item ∷ items) (suc one) zero first second differ at at' = let same : count item ≡ count second = ap count (some-injective item second at') in let most = count-total count items one first at in omega arith
total-two count (item ∷ items) (suc one) (suc other) first second differ at at' = let rest = total-two count items one other first second (λ same. differ (ap suc same)) at at' in omega arith

once_below-le : (place limit : ℕ) → once_below place limit ≤ 1
once_below-le place limit = grind arith

once_below-lt : (place limit : ℕ) → 0 < once_below place limit → place < limit
once_below-lt place limit some_times = grind arith

pub once_below-one : (place limit : ℕ) → place < limit → once_below place limit ≡ 1
once_below-one place limit low = grind arith

-- an index that calls report new is called at some place of the list
reported-place : (index : ℕ) (calls : List (ℕ × Bool)) → 0 < new_reports index calls → (place : ℕ) × (get_elem? (map called calls) place ≡ some index)
reported-place index [] more = absurd (omega arith)
reported-place index (call ∷ calls) more = by (ℕ_discrete call.0 index) (reported-place index calls)
  where
    by : Dec (call.0 ≡ index) → (0 < new_reports index calls → (place : ℕ) × (get_elem? (map called calls) place ≡ some index)) → (place : ℕ) × (get_elem? (map called (call ∷ calls)) place ≡ some index)
    by (yes same) rest = (0, ap some same)
    by (no differ) rest = let none_here : new_report index call ≡ 0 = ap (λ (here : Bool). if here then (if call.1 then 0 else 1) else 0) (ne_eqb call.0 index differ) in let found = rest (omega arith) in (suc found.0, found.1)

-- what stands in a mapped list is the image of a number of the list
image-of : (f : ℕ → ℕ) (index : ℕ) (numbers : List ℕ) (place : ℕ) → get_elem? (map f numbers) place ≡ some index → (number : ℕ) × (f number ≡ index) × (0 < occurrences number numbers)
image-of f index [] place at = absurd (some-ne-none index (sym at))
image-of f index (number ∷ numbers) zero at = (number, some-injective (f number) index at, grind arith)
image-of f index (number ∷ numbers) (suc place) at = let found = image-of f index numbers place at in (found.0, found.1, omega (arith, found.2))

-- one where it is so, else none
abbrev count-if : Bool → ℕ
count-if holds = if holds then 1 else 0

-- and the image of a number of the list stands in it
place-of : (f : ℕ → ℕ) (number : ℕ) (numbers : List ℕ) → 0 < occurrences number numbers → (place : ℕ) × (get_elem? (map f numbers) place ≡ some (f number))
place-of f number [] more = absurd (omega arith)
place-of f number (first ∷ numbers) more = by (ℕ_discrete first number) (place-of f number numbers)
  where
    by : Dec (first ≡ number) → (0 < occurrences number numbers → (place : ℕ) × (get_elem? (map f numbers) place ≡ some (f number))) → (place : ℕ) × (get_elem? (map f (first ∷ numbers)) place ≡ some (f number))
    by (yes same) rest = (0, ap (λ n. some (f n)) same)
    by (no differ) rest = let none_here : count-if (first == number) ≡ 0 = ap count-if (ne_eqb first number differ) in let found = rest (omega (arith, more, none_here)) in (suc found.0, found.1)

-- what all calls have, the one at a place has
called-has : (Holds : ℕ → Type 0) (calls : List (ℕ × Bool)) (place index : ℕ) → All (λ call. Holds call.0) calls → get_elem? (map called calls) place ≡ some index → Holds index
called-has Holds [] place index all at = absurd (some-ne-none index (sym at))
called-has Holds (call ∷ calls) zero index all at = subst Holds (some-injective call.0 index at) (all 0 call (omega arith))
called-has Holds (call ∷ calls) (suc place) index all at = called-has Holds calls place index (λ n other below. all (suc n) other (omega arith)) at

module _ (setting : Setting) (phase : Phase) (holds : IsPhase setting phase) where
  -- no two callers have a birth in common
  pub births-apart : (one other : ℕ) (claimer claimer' : Claimer) → one ≢ other → get_elem? phase.claimers one ≡ some claimer → get_elem? phase.claimers other ≡ some claimer' → (place : ℕ) → 0 < occurrences place claimer.births → 0 < occurrences place claimer'.births → ⊥
  births-apart one other claimer claimer' differ at at' place mine its =
      let two = total-two (λ (c : Claimer). occurrences place c.births) phase.claimers one other claimer claimer' differ at at' in
      let counted = holds.claims place in let once = once_below-le place phase.claim in absurd (omega (arith, two, counted, once, mine, its))

  -- and no caller has one twice
  pub births-once : (one : ℕ) (claimer : Claimer) → get_elem? phase.claimers one ≡ some claimer → (place : ℕ) → occurrences place claimer.births ≤ 1
  births-once one claimer at place = let most = count-total (λ (c : Claimer). occurrences place c.births) phase.claimers one claimer at in let counted = holds.claims place in let once = once_below-le place phase.claim in omega arith

  -- each caller of the raised set has a claimer
  claimer-there : (who : ℕ) (caller : Caller) → get_elem? phase.raised.callers who ≡ some caller → (claimer : Claimer) × (get_elem? phase.claimers who ≡ some claimer)
  claimer-there who caller at = let low = get_elem-lt phase.raised.callers who caller at in at_place phase.claimers who (let same = holds.same in omega arith)
    where
      at_place : (claimers : List Claimer) (place : ℕ) → place < length claimers → (claimer : Claimer) × (get_elem? claimers place ≡ some claimer)
      at_place [] place low = absurd (omega arith)
      at_place (claimer ∷ claimers) zero low = (claimer, refl)
      at_place (claimer ∷ claimers) (suc place) low = at_place claimers place (omega arith)

  -- an index that is raised is an old member, or that of a birth
  pub raised-is : (index : ℕ) → index < 64 * setting.sizes.first → bit phase.raised.words index ≡ 1 → (setting.raised index ≡ true) ⊎ IsReserved setting phase.claim index
  raised-is index within on = ⊎_elim inl
      (λ (new : (who : ℕ) × (caller : Caller) × (get_elem? phase.raised.callers who ≡ some caller) × (0 < new_reports index (calls_of caller))).
      let claimer = claimer-there new.0 new.1 new.2 in
      let its = holds.claimers new.0 claimer.0 claimer.1 in
      let same : its.0 ≡ new.1 = some-injective its.0 new.1 (sym its.1 ∙ new.2) in
      let call = reported-place index (calls_of new.1) new.3 in
      let listed : map (index_at setting) claimer.0.births ≡ map called (calls_of new.1) ++ map (index_at setting) claimer.0.pending = its.2.born ∙ ap (λ (c : Caller). map called (calls_of c) ++ map (index_at setting) claimer.0.pending) same in
      let there : get_elem? (map (index_at setting) claimer.0.births) call.0 ≡ some index = ap (λ (indices : List ℕ). get_elem? indices call.0) listed ∙ at_longer (map called (calls_of new.1)) (map (index_at setting) claimer.0.pending) call.0 index call.1 in
      let birth = image-of (index_at setting) index claimer.0.births call.0 there in
      let most = count-total (λ (c : Claimer). occurrences birth.0 c.births) phase.claimers new.0 claimer.0 claimer.1 in
      let counted = holds.claims birth.0 in
      inr (birth.0, once_below-lt birth.0 phase.claim (omega (arith, most, counted, birth.2)), birth.1))
      (set-reported setting.sizes setting.raised phase.raised holds.raised index within on)

  -- with no call in flight each birth is raised
  birth-raised : IsPhaseAtRest phase → (index : ℕ) → IsReserved setting phase.claim index → bit phase.raised.words index ≡ 1
  birth-raised rest index (place, below, is) =
      let who = total-some (λ (c : Claimer). occurrences place c.births) phase.claimers (let counted = holds.claims place in let once = once_below-one place phase.claim below in omega arith) in
      let its = holds.claimers who.0 who.1 who.2 in
      let at = place-of (index_at setting) place who.1.births who.3 in
      let listed : map (index_at setting) who.1.births ≡ map called its.0.calls =
      its.2.born ∙ ap (λ pending. map called (calls_of its.0) ++ map (index_at setting) pending) (rest.claims who.0 who.1 who.2) ∙ append-nil _ ∙ ap (map called) (calls-idle its.0 (rest.raised who.0 its.0 its.1)) in
      let there : get_elem? (map called its.0.calls) at.0 ≡ some index = ap (λ (indices : List ℕ). get_elem? indices at.0) (sym listed) ∙ at.1 ∙ ap some is in
      (called-has (HasAllBits setting.sizes phase.raised.words) its.0.calls at.0 index (holds.raised.each who.0 its.0 its.1).ended there).1 0 (omega arith)

  pub settled : IsPhaseAtRest phase → HasSettled setting phase
  settled rest =
      let raised = at-rest setting.sizes setting.raised phase.raised holds.raised rest.raised in
      let killed = at-rest setting.sizes setting.killed phase.killed holds.killed rest.killed in
      record {
        raised = λ index within. (
          raised-is index within,
          λ known. ⊎_elim (old-set setting.sizes setting.raised phase.raised holds.raised index within) (birth-raised rest index) known,
        );
        killed = killed.members;
        raised_exact = raised.exact;
        killed_exact = killed.exact;
      }
