-- Each step of each caller keeps what holds of the words and the callers.
use Rattle.std.proofs.Common.{◌≡◌, ◌≢◌, ◌⊎◌, ℕ, zero, suc, ◌+◌, ◌*◌, ◌/◌, ◌%◌, ◌<◌, ◌==◌, Bool, List, [], ◌∷◌, ◌++◌, length, get_or, set, replicate, sym, refl, ap, ◌∙◌, subst, arith, inl, inr, ⊎_elim, length-set}
use Rattle.std.proofs.lemmas.List.Elements.{All-append, All-nil}
use Rattle.std.specs.Int.{bit_at}
use mathlib.Core.Logic.{dite}
use mathlib.Core.Option.{some, some-injective, some-ne-none}
use native.Mathlib.Decide.{ℕ_discrete}
use lib.ListN.{get_elem?}
use Rattle.atomic_table.proofs.Lists.{at_set, set_here, set_else, at_snoc, at_longer}
use Rattle.hibitset.specs.Cut.{number_in}
use Rattle.hibitset.specs.declared.atomic_core.Caller.{Caller}
use Rattle.hibitset.specs.AtomicCore.{Sizes, Fits, AreWordsOf, bit, with_bit, address, bit_count, mark, HasAllBits, new_reports, in_flight, calls_of, total, StaysSet, IsCaller, HasWriter, IsSound, newcomer, begun, risen, ended, looked, merged}
use Rattle.hibitset.proofs.AtomicWordLemmas.{total-set, total-push, new_reports-append, All-push, bit-lt, with_bit-same, with_bit-other, with_bit-keeps, with_bit-report, address-injective, number_in-lt, address-lt, address-above}

-- where a list has an item it is long enough
pub get_elem-lt : {Item : Type 0} (items : List Item) (place : ℕ) (item : Item) → get_elem? items place ≡ some item → place < length items
get_elem-lt [] place item at = absurd (some-ne-none item (sym at))
get_elem-lt (first ∷ items) zero item at = omega arith
get_elem-lt (first ∷ items) (suc place) item at = let rest = get_elem-lt items place item at in omega arith

-- what a caller reports new: its ended calls and the one in flight
pub new_reports-calls : (index : ℕ) (caller : Caller) → new_reports index (calls_of caller) ≡ new_reports index caller.calls + new_reports index (in_flight caller.stage (caller.index, caller.found))
new_reports-calls index caller = new_reports-append index caller.calls (in_flight caller.stage (caller.index, caller.found))

-- the reports of a caller
abbrev reports : ℕ → Caller → ℕ
reports index caller = new_reports index (calls_of caller)

-- its call in flight, at this stage
abbrev flying : ℕ → Caller → ℕ → ℕ
flying index caller stage = new_reports index (in_flight stage (caller.index, caller.found))

module _ (sizes : Sizes) (fits : Fits sizes) where
  -- no bit is cleared
  abbrev Grows : List ℕ → List ℕ → Type 0
  Grows words words' = (number place : ℕ) → bit_at (get_or words number 0) place ≡ 1 → bit_at (get_or words' number 0) place ≡ 1

  caller-grows : (words words' : List ℕ) (caller : Caller) → Grows words words' → IsCaller sizes words caller → IsCaller sizes words' caller
  caller-grows words words' caller grows holds = record {
    ended = λ place call below. let four = holds.ended place call below in (four.0, λ layer low. grows _ _ (four.1 layer low));
    seen = λ place look below bit_place found. grows _ _ (holds.seen place look below bit_place found);
    stage = holds.stage;
    written = λ layer below. grows _ _ (holds.written layer below);
    within = holds.within;
  }

  pub newcomer-holds : (words : List ℕ) → IsCaller sizes words newcomer
  newcomer-holds words = record { ended = All-nil _; seen = All-nil _; stage = omega arith; written = λ layer below. absurd (omega arith); within = λ below. absurd (omega arith) }

  -- what holds of a changed caller and of all others holds of each
  each-set : (words : List ℕ) (callers : List Caller) (who : ℕ) (changed : Caller) → IsCaller sizes words changed
      → ((place : ℕ) (caller : Caller) → get_elem? callers place ≡ some caller → IsCaller sizes words caller)
      → (place : ℕ) (caller : Caller) → get_elem? (set callers who changed) place ≡ some caller → IsCaller sizes words caller
  each-set words callers who changed holds others place caller at =
      ⊎_elim (λ here. subst (IsCaller sizes words) here.1 holds) (λ else. others place caller else.1) (at_set callers who place changed caller at)

  -- a caller changes, and neither its reports nor its stage do
  quiet-step : (old : ℕ → Bool) (words : List ℕ) (callers : List Caller) (who : ℕ) (caller changed : Caller) → IsSound sizes old words callers → get_elem? callers who ≡ some caller → IsCaller sizes words changed
      → changed.stage ≡ caller.stage → changed.index ≡ caller.index → ((index : ℕ) → reports index changed ≡ reports index caller) → IsSound sizes old words (set callers who changed)
  quiet-step old words callers who caller changed sound at holds stage place same = record {
    counts = λ index within. let sum = total-set (reports index) callers who caller changed at in let counted = sound.counts index within in let equal = same index in omega arith;
    each = each-set words callers who changed holds sound.each;
    over = λ layer number low within on. ⊎_elim inl (λ (writer : HasWriter callers layer number). inr (dite (ℕ_discrete writer.0 who)
        (λ here. let is : writer.1 ≡ caller = some-injective writer.1 caller (sym writer.2 ∙ ap (get_elem? callers) here ∙ at) in
        (who, changed, set_here callers who changed (get_elem-lt callers who caller at), stage ∙ ap (λ (c : Caller). c.stage) (sym is) ∙ writer.3, ap (number_in (suc layer)) (place ∙ ap (λ (c : Caller). c.index) (sym is)) ∙ writer.4))
        (λ differ. (writer.0, writer.1, set_else callers who writer.0 changed differ ∙ writer.2, writer.3, writer.4)))) (sound.over layer number low within on);
    under = sound.under;
    wide = sound.wide;
  }

  -- a caller whose call is at this stage sets its bit in that layer
  module _ (old : ℕ → Bool) (words : List ℕ) (callers : List Caller) (who layer index : ℕ) (caller changed : Caller) (sound : IsSound sizes old words callers) (at : get_elem? callers who ≡ some caller)
      (low : layer < 4) (small : index < 64 * sizes.first) (stage : caller.stage ≡ layer) (named : 0 < layer → caller.index ≡ index) where
    abbrev spot : ℕ
    spot = address sizes layer (number_in layer index)

    abbrev now : List ℕ
    now = with_bit words spot

    pub spot-lt : spot < 64 * length words
    spot-lt = let inside = address-lt sizes fits layer (number_in layer index) low (number_in-lt sizes fits layer index low small) in let wide = sound.wide in omega arith

    pub grows : Grows words now
    grows = with_bit-keeps words spot spot-lt

    before : (lower : ℕ) → lower < layer → mark sizes words lower (number_in lower index) ≡ 1
    before lower below = ap (λ i. mark sizes words lower (number_in lower i)) (sym (named (omega arith))) ∙ (sound.each who caller at).written lower (omega (arith, stage))

    -- the index has its bit in this layer and in all below
    pub written-upto : (lower : ℕ) → lower < suc layer → mark sizes now lower (number_in lower index) ≡ 1
    written-upto lower below = dite (ℕ_discrete lower layer) (λ same. ap (λ l. bit now (address sizes l (number_in l index))) same ∙ with_bit-same words spot spot-lt) (λ differ. grows _ _ (before lower (omega arith)))

    -- the bit of a layer is the one that was set, or it stays
    here-or-same : (other number : ℕ) → other < 4 → number < bit_count sizes other → Dec (spot ≡ address sizes other number) → ((layer ≡ other) × (number_in layer index ≡ number)) ⊎ (mark sizes now other number ≡ mark sizes words other number)
    here-or-same other number below within (yes same) = inl (address-injective sizes fits layer other (number_in layer index) number low below (number_in-lt sizes fits layer index low small) within same)
    here-or-same other number below within (no differ) = inr (with_bit-other words spot spot-lt (address sizes other number) differ)

    over-after : (layer < 3 → changed.index ≡ index) → (layer < 3 → changed.stage ≡ suc layer) → (other number : ℕ) → other < 3 → number < bit_count sizes other → mark sizes now other number ≡ 1
        → (mark sizes now (suc other) (number / 64) ≡ 1) ⊎ HasWriter (set callers who changed) other number
    over-after index_after stage_after other number below within on = ⊎_elim
        (λ (here : (layer ≡ other) × (number_in layer index ≡ number)). let lower : layer < 3 = omega (arith, here.0) in
        inr (who, changed, set_here callers who changed (get_elem-lt callers who caller at), stage_after lower ∙ ap suc here.0, ap (number_in (suc other)) (index_after lower) ∙ ap (λ l. number_in l index / 64) (sym here.0) ∙ ap (λ n. n / 64) here.1))
        (λ same. ⊎_elim (λ summed. inl (grows _ _ summed)) (λ (writer : HasWriter callers other number). dite (ℕ_discrete writer.0 who)
        (λ mine. let is : writer.1 ≡ caller = some-injective writer.1 caller (sym writer.2 ∙ ap (get_elem? callers) mine ∙ at) in
        let level : layer ≡ suc other = sym stage ∙ ap (λ (c : Caller). c.stage) (sym is) ∙ writer.3 in
        let over_it : number_in (suc other) index ≡ number / 64 = ap (number_in (suc other)) (sym (named (omega arith)) ∙ ap (λ (c : Caller). c.index) (sym is)) ∙ writer.4 in
        inl (ap (mark sizes now (suc other)) (sym over_it) ∙ written-upto (suc other) (omega arith)))
        (λ differ. inr (writer.0, writer.1, set_else callers who writer.0 changed differ ∙ writer.2, writer.3, writer.4))) (sound.over other number below within (sym same ∙ on)))
        (here-or-same other number (omega arith) within (ℕ_discrete spot (address sizes other number)))

    was-clear : (other : ℕ) → bit now other ≡ 0 → bit words other ≡ 0
    was-clear other clear = dite (ℕ_discrete (bit words other) 1) (λ on. let still = grows (other / 64) (other % 64) on in absurd (omega (arith, clear, still))) (λ off. let two = bit-lt words other in omega arith)

    under-after : (other number : ℕ) → other < 3 → number < bit_count sizes (suc other) → ((below : ℕ) → below < bit_count sizes other → below / 64 ≡ number → mark sizes now other below ≡ 0) → mark sizes now (suc other) number ≡ 0
    under-after other number below within clear = ⊎_elim
        (λ (here : (layer ≡ suc other) × (number_in layer index ≡ number)).
        let off : mark sizes now other (number_in other index) ≡ 0 = clear (number_in other index) (number_in-lt sizes fits other index (omega arith) small) (ap (λ l. number_in l index) (sym here.0) ∙ here.1) in
        let on = written-upto other (omega (arith, here.0)) in absurd (omega (arith, off, on)))
        (λ same. same ∙ sound.under other number below within (λ lower inside part. was-clear (address sizes other lower) (clear lower inside part)))
        (here-or-same (suc other) number (omega arith) within (ℕ_discrete spot (address sizes (suc other) number)))

    -- so the whole is sound again
    pub writes : (layer < 3 → changed.index ≡ index) → (layer < 3 → changed.stage ≡ suc layer) → IsCaller sizes now changed
        → ((other : ℕ) → other < 64 * sizes.first → reports other changed + bit words other ≡ reports other caller + bit now other) → IsSound sizes old now (set callers who changed)
    writes index_after stage_after holds same = record {
      counts = λ other within. let sum = total-set (reports other) callers who caller changed at in let counted = sound.counts other within in let equal = same other within in omega arith;
      each = each-set now callers who changed holds (λ place other found. caller-grows words now other grows (sound.each place other found));
      over = over-after index_after stage_after;
      under = under-after;
      wide = length-set words (spot / 64) _ ∙ sound.wide;
    }

  module _ (old : ℕ → Bool) (words : List ℕ) (callers : List Caller) (who : ℕ) (caller : Caller) (sound : IsSound sizes old words callers) (at : get_elem? callers who ≡ some caller) where
    own : IsCaller sizes words caller
    own = sound.each who caller at

    -- a call begins
    pub begin-sound : (index : ℕ) → index < 64 * sizes.first → caller.stage ≡ 0 → IsSound sizes old (with_bit words index) (set callers who (begun caller index (get_or words (index / 64) 0)))
    begin-sound index small idle =
        let word : ℕ = get_or words (index / 64) 0 in
        let changed : Caller = begun caller index word in
        let inside = spot-lt old words callers who 0 index caller changed sound at (omega arith) small idle (λ none. absurd (omega arith)) in
        let kept = caller-grows words (with_bit words index) caller (with_bit-keeps words index inside) own in
        writes old words callers who 0 index caller changed sound at (omega arith) small idle (λ none. absurd (omega arith)) (λ _. refl) (λ _. refl)
        record {
          ended = kept.ended;
          seen = kept.seen;
          stage = omega arith;
          written = written-upto old words callers who 0 index caller changed sound at (omega arith) small idle (λ none. absurd (omega arith));
          within = λ _. small;
        }
        (λ other within.
        let was = new_reports-calls other caller in
        let none : flying other caller caller.stage ≡ 0 = ap (flying other caller) idle in
        let is = new_reports-append other caller.calls ((index, bit_at word (index % 64) == 1) ∷ []) in
        let more = with_bit-report words index inside other in omega arith)

    module _ (layer : ℕ) (stage : caller.stage ≡ suc layer) (low : layer < 3) where
      small : caller.index < 64 * sizes.first
      small = own.within (omega (arith, stage))

      abbrev above : List ℕ
      above = with_bit words (address sizes (suc layer) (number_in (suc layer) caller.index))

      inside-row : address sizes (suc layer) (number_in (suc layer) caller.index) < 64 * length words
      inside-row = spot-lt old words callers who (suc layer) caller.index caller caller sound at (omega arith) small stage (λ _. refl)

      same-members : (other : ℕ) → other < 64 * sizes.first → bit above other ≡ bit words other
      same-members other within = let behind = address-above sizes fits layer (number_in (suc layer) caller.index) in with_bit-other words _ inside-row other (λ same. omega arith)

      kept : IsCaller sizes above caller
      kept = caller-grows words above caller (with_bit-keeps words _ inside-row) own

      four-upto : (lower : ℕ) → lower < suc (suc layer) → mark sizes above lower (number_in lower caller.index) ≡ 1
      four-upto = written-upto old words callers who (suc layer) caller.index caller caller sound at (omega arith) small stage (λ _. refl)

      one-flies : (other : ℕ) → flying other caller caller.stage ≡ new_reports other ((caller.index, caller.found) ∷ [])
      one-flies other = ap (flying other caller) stage

      -- the second step of a call, and the third
      pub rise-sound : layer < 2 → IsSound sizes old above (set callers who (risen caller))
      rise-sound lower =
          writes old words callers who (suc layer) caller.index caller (risen caller) sound at (omega arith) small stage (λ _. refl) (λ _. refl) (λ _. ap suc stage)
          record {
            ended = kept.ended;
            seen = kept.seen;
            stage = omega (arith, stage);
            written = λ other below. four-upto other (omega (arith, stage));
            within = λ _. small;
          }
          (λ other within. let same = same-members other within in let was = new_reports-calls other caller in let is = new_reports-append other caller.calls ((caller.index, caller.found) ∷ []) in let one = one-flies other in omega arith)

      -- the last step of a call
      pub end-sound : layer ≡ 2 → IsSound sizes old above (set callers who (ended caller))
      end-sound last =
          writes old words callers who (suc layer) caller.index caller (ended caller) sound at (omega arith) small stage (λ _. refl) (λ below. absurd (omega arith)) (λ below. absurd (omega arith))
          record {
            ended = All-push (λ call. HasAllBits sizes above call.0) caller.calls (caller.index, caller.found) kept.ended (small, λ other below. four-upto other (omega arith));
            seen = kept.seen;
            stage = omega arith;
            written = λ other below. absurd (omega arith);
            within = λ below. absurd (omega arith);
          }
          (λ other within. let same = same-members other within in let was = new_reports-calls other caller in let is = new_reports-append other caller.calls ((caller.index, caller.found) ∷ []) in
          let rest = new_reports-append other (caller.calls ++ (caller.index, caller.found) ∷ []) [] in let one = one-flies other in omega arith)

    -- a load
    pub look-sound : (number : ℕ) → IsSound sizes old words (set callers who (looked caller number (get_or words number 0)))
    look-sound number = quiet-step old words callers who caller (looked caller number (get_or words number 0)) sound at record {
      ended = own.ended;
      seen = All-push (StaysSet words) caller.seen (number, get_or words number 0) own.seen (λ place on. on);
      stage = own.stage;
      written = own.written;
      within = own.within;
    } refl refl (λ index. refl)

  -- a newcomer may come between any two steps
  pub come-sound : (old : ℕ → Bool) (words : List ℕ) (callers : List Caller) → IsSound sizes old words callers → IsSound sizes old words (callers ++ newcomer ∷ [])
  come-sound old words callers sound = record {
    counts = λ index within. let sum = total-push (reports index) callers newcomer in let counted = sound.counts index within in omega arith;
    each = λ who caller at. ⊎_elim (sound.each who caller) (λ is. subst (IsCaller sizes words) is (newcomer-holds words)) (at_snoc callers newcomer caller who at);
    over = λ layer number low within on. ⊎_elim inl (λ (writer : HasWriter callers layer number). inr (writer.0, writer.1, at_longer callers (newcomer ∷ []) writer.0 writer.1 writer.2, writer.3, writer.4)) (sound.over layer number low within on);
    under = sound.under;
    wide = sound.wide;
  }

  -- a caller takes in what another did and saw, where neither has a call in flight; the other is a newcomer from then on
  pub merge-sound : (old : ℕ → Bool) (words : List ℕ) (callers : List Caller) (who other : ℕ) (caller taken : Caller) → IsSound sizes old words callers → get_elem? callers who ≡ some caller → get_elem? callers other ≡ some taken
      → other ≢ who → caller.stage ≡ 0 → taken.stage ≡ 0 → IsSound sizes old words (set (set callers who (merged caller taken)) other newcomer)
  merge-sound old words callers who other caller taken sound at at' two idle idle' =
      let one = sound.each who caller at in
      let two_of = sound.each other taken at' in
      let whole : Caller = merged caller taken in
      let between : List Caller = set callers who whole in
      let there : get_elem? between other ≡ some taken = set_else callers who other whole two ∙ at' in
      let holds : IsCaller sizes words whole = record {
        ended = All-append (λ call. HasAllBits sizes words call.0) caller.calls taken.calls one.ended two_of.ended;
        seen = All-append (StaysSet words) caller.seen taken.seen one.seen two_of.seen;
        stage = omega arith;
        written = λ layer below. absurd (omega arith);
        within = λ below. absurd (omega arith);
      } in
      record {
        counts = λ index within.
            let first = total-set (reports index) callers who caller whole at in
            let second = total-set (reports index) between other taken newcomer there in
            let mine = new_reports-calls index caller in
            let its = new_reports-calls index taken in
            let both = new_reports-append index caller.calls taken.calls in
            let ends = new_reports-append index (caller.calls ++ taken.calls) [] in
            let none : flying index caller caller.stage ≡ 0 = ap (flying index caller) idle in
            let none' : flying index taken taken.stage ≡ 0 = ap (flying index taken) idle' in
            let counted = sound.counts index within in omega arith;
        each = each-set words between other newcomer (newcomer-holds words) (each-set words callers who whole holds sound.each);
        over = λ layer number low within on. ⊎_elim inl (λ (writer : HasWriter callers layer number). dite (ℕ_discrete writer.0 other)
            (λ its. absurd (let is : writer.1 ≡ taken = some-injective writer.1 taken (sym writer.2 ∙ ap (get_elem? callers) its ∙ at') in let flies : taken.stage ≡ suc layer = ap (λ (c : Caller). c.stage) (sym is) ∙ writer.3 in omega (arith, flies, idle')))
            (λ differ. dite (ℕ_discrete writer.0 who)
            (λ mine. absurd (let is : writer.1 ≡ caller = some-injective writer.1 caller (sym writer.2 ∙ ap (get_elem? callers) mine ∙ at) in let flies : caller.stage ≡ suc layer = ap (λ (c : Caller). c.stage) (sym is) ∙ writer.3 in omega (arith, flies, idle)))
            (λ differ'. inr (writer.0, writer.1, set_else between other writer.0 newcomer differ ∙ set_else callers who writer.0 whole differ' ∙ writer.2, writer.3, writer.4)))) (sound.over layer number low within on);
        under = sound.under;
        wide = sound.wide;
      }

  -- ---- the opening

  newcomers-at : (count who : ℕ) (caller : Caller) → get_elem? (replicate count newcomer) who ≡ some caller → newcomer ≡ caller
  newcomers-at zero who caller at = absurd (some-ne-none caller (sym at))
  newcomers-at (suc count) zero caller at = some-injective newcomer caller at
  newcomers-at (suc count) (suc who) caller at = newcomers-at count who caller at

  nothing-reported : (index count : ℕ) → total (reports index) (replicate count newcomer) ≡ 0
  nothing-reported index zero = refl
  nothing-reported index (suc count) = let rest = nothing-reported index count in omega arith

  pub start-sound : (old : ℕ → Bool) (words : List ℕ) (count : ℕ) → AreWordsOf sizes old words → IsSound sizes old words (replicate count newcomer)
  start-sound old words count of_old = record {
    counts = λ index within. let none = nothing-reported index count in let member = of_old.members index within in omega arith;
    each = λ who caller at. subst (IsCaller sizes words) (newcomers-at count who caller at) (newcomer-holds words);
    over = λ layer number low within on. inl (of_old.exact.over layer number low within on);
    under = of_old.exact.under;
    wide = of_old.exact.wide;
  }
