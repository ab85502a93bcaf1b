-- Each atomic step on the table of shared entities keeps its rule.
use Rattle.std.proofs.Common.{◌≡◌, ◌⊎◌, ℕ, zero, suc, ◌+◌, ◌-◌, ◌*◌, ◌/◌, ◌%◌, ◌^◌, ◌<◌, ◌≤◌, eqb, true, bit_or, List, [], ◌∷◌, ◌++◌, map, length, get_or, set, sym, refl, ap, ◌∙◌, subst, arith, inl, inr, ⊎_elim}
use Rattle.std.proofs.lemmas.List.{get_or-append-add, get_or_append_left}
use Rattle.std.proofs.lemmas.List.Elements.{All-contains}
use Rattle.std.specs.Int.{bit_at}
use Rattle.std.specs.FinSet as fin
use mathlib.Core.Option.{none, some}
use mathlib.Core.List.{map-append}
use lib.ListN.{get_elem?}
use lib.Seq.{map-set}
use prog.Atomic.{either}
use Rattle.atomic_table.specs.Table.{State, Me, Step, step, keeps, Allows, Splits, Joins}
use Rattle.atomic_table.proofs.Lists.{at_set, at_snoc, at_map, set_again, exchanged}
use Rattle.hibitset.specs.Cut.{number_in}
use Rattle.hibitset.specs.AtomicCore.{Sizes, Fits, word_count, bit, with_bit, address, HasAllBits, StaysSet, newcomer, begun, risen, ended, looked}
use Rattle.hibitset.specs.AtomicRuns.{run_of}
use Rattle.hibitset.proofs.AtomicWordLemmas.{total-set, total-push, count-total, mask-injective}
use Rattle.hibitset.proofs.AtomicRestLemmas.{old-set}
use Rattle.hibitset.proofs.SharedLemmas.{with_bit-mask}
use Rattle.specs_entity.specs.Births.{CanCreate}
use Rattle.specs_entity.specs.declared.phase_core.Claimer.{Claimer}
use Rattle.specs_entity.specs.declared.phase_rule.PhaseKey.{PhaseKey}
use Rattle.specs_entity.specs.declared.phase_rule.EntityView.{EntityView}
use Rattle.specs_entity.specs.PhaseCore.{Setting, index_at, phase_with, claimer_with, raising, occurrences, once_below, HasLived, IsPhase, IsReserved}
use Rattle.specs_entity.specs.PhaseViews.{setting_of, with_raise, with_kill, claiming, begin_raise, HasSeen, HasRaised}
use Rattle.specs_entity.specs.PhaseRule.{raiser, killer, claimer_of, IsView, phase_of, IsTable, Holds, width, planning_parts, planning_allowance, kept, given, both, spent_view, claims, raises, raises_on, raise_ends, kills, buries, bury_ends, looks, plans_parts, plans_allowance}
use Rattle.specs_entity.proofs.PhaseCoreLemmas.{claim-holds, begin-holds, raise-holds, raised-holds, look-holds, kill-holds, bury-holds, buried-holds}
use Rattle.specs_entity.proofs.PhaseSeatLemmas.{come-holds, merge-holds}
use Rattle.specs_entity.proofs.PhaseRestLemmas.{raised-is, births-once}

set-left : (one other : List ℕ) (place word : ℕ) → place < length one → set (one ++ other) place word ≡ set one place word ++ other
set-left [] other place word low = absurd (omega arith)
set-left (first ∷ one) other zero word low = refl
set-left (first ∷ one) other (suc place) word low = ap (λ rest. first ∷ rest) (set-left one other place word (omega arith))

set-right : (one other : List ℕ) (place word : ℕ) → set (one ++ other) (length one + place) word ≡ one ++ set other place word
set-right [] other place word = let same : 0 + place ≡ place = omega arith in ap (λ n. set other n word) same
set-right (first ∷ one) other place word = let next : suc (length one) + place ≡ suc (length one + place) = omega arith in ap (λ n. set (first ∷ one ++ other) n word) next ∙ ap (λ rest. first ∷ rest) (set-right one other place word)

-- a word that is written again leaves the words
set-same : (words : List ℕ) (place : ℕ) → set words place (get_or words place 0) ≡ words
set-same [] place = refl
set-same (first ∷ words) zero = refl
set-same (first ∷ words) (suc place) = ap (λ rest. first ∷ rest) (set-same words place)

-- a number exchanged for itself stays
itself : (word number : ℕ) → either (eqb word number) number word ≡ word
itself word number = exchanged word number number (λ found. found ≡ word) (λ same. sym same) (λ _. refl)

-- a list of images after one item is replaced
moved : {Item : Type 0} (f : EntityView → Item) (views : List EntityView) (who : ℕ) (changed : EntityView) → set (map f views) who (f changed) ≡ map f (set views who changed)
moved f views who changed = sym (map-set f views who changed)

stayed : {Item : Type 0} (f : EntityView → Item) (views : List EntityView) (who : ℕ) (view changed : EntityView) → get_elem? views who ≡ some view → f changed ≡ f view → map f views ≡ map f (set views who changed)
stayed f views who view changed at same = sym (map-set f views who changed ∙ ap (set (map f views) who) same ∙ set_again (map f views) who (f view) (at_map f views who view at))

abbrev parts_of : EntityView → ℕ
parts_of view = view.parts

module _ (key : PhaseKey) (fits : Fits (setting_of key).sizes) (can : CanCreate key.reserve key.before) where
  abbrev setting : Setting
  setting = setting_of key

  abbrev sizes : Sizes
  sizes = (setting_of key).sizes

  abbrev Board : Type 0
  Board = State (Unit {0}) EntityView

  abbrev Mine : Type 0
  Mine = Me (Unit {0}) EntityView

  abbrev board : List ℕ → Board → List EntityView → Board
  board words state views = record { words = words; homes = state.homes; views = views }

  abbrev Each : List EntityView → Type 0
  Each views = (who : ℕ) (view : EntityView) → get_elem? views who ≡ some view → IsView key view

  each-set : (views : List EntityView) (who : ℕ) (changed : EntityView) → IsView key changed → Each views → Each (set views who changed)
  each-set views who changed holds all other view at = ⊎_elim (λ here. subst (IsView key) here.1 holds) (λ there. all other view there.1) (at_set views who other changed view at)

  each-push : (views : List EntityView) (last : EntityView) → IsView key last → Each views → Each (views ++ last ∷ [])
  each-push views last holds all other view at = ⊎_elim (all other view) (λ is. subst (IsView key) is holds) (at_snoc views last view other at)

  -- a view with the parts and the key that it had takes the place of another
  replaced : (state : Board) (words : List ℕ) (claim : ℕ) (raised killed : List ℕ) (who : ℕ) (view changed : EntityView) → IsTable key state → get_elem? state.views who ≡ some view → 0 < view.parts → changed.parts ≡ view.parts → changed.key ≡ view.key
      → words ≡ claim ∷ raised ++ killed → IsPhase setting (phase_of claim raised killed (set state.views who changed)) → IsTable key (board words state (set state.views who changed))
  replaced state words claim raised killed who view changed table at some_part same_parts same_key laid phase = record {
    claim = claim;
    raised = raised;
    killed = killed;
    laid = laid;
    parts = let sum = total-set parts_of state.views who view changed at in let all = table.parts in omega arith;
    phase = phase;
    views = each-set state.views who changed record { holds = λ _. same_key ∙ (table.views who view at).holds some_part; spent = λ none_left. absurd (omega arith) } table.views;
  }

  -- ---- the claim word

  pub claim-allowed : (slots who : ℕ) (mine : Mine) → 0 < mine.0.claimer.allowance → 0 < mine.0.parts → mine.0.claimer.pending ≡ [] → mine.0.raise.stage ≡ 0 → length setting.reserve ≡ key.reserve → key.reserve < 2 ^ 32
      → Allows (Holds key) slots who mine 0 (λ word. (word + 1) % 2 ^ 64) (claims (step slots 0 1 0 none) mine)
  claim-allowed slots who mine some_allowance some_part nothing idle long short state held _ at _ =
      let table = held can in
      let view = mine.0 in
      let place : ℕ = table.claim in
      let found : get_or state.words 0 0 ≡ place = ap (λ words. get_or words 0 0) table.laid in
      let changed : EntityView = claiming view (get_or state.words 0 0) in
      let most = count-total (λ (c : Claimer). c.allowance) (map claimer_of state.views) who view.claimer (at_map claimer_of state.views who view at) in
      let left = table.phase.allowances in
      let next : (get_or state.words 0 0 + 1) % 2 ^ 64 ≡ place + 1 = omega (arith, found, short, most, left, long, some_allowance) in
      let after : EntityView = claiming view place in
      let born = count-total (λ (c : Claimer). occurrences place c.births) (map claimer_of state.views) who view.claimer (at_map claimer_of state.views who view at) in
      let counted = table.phase.claims place in
      let unclaimed : once_below place place ≡ 0 = grind arith in
      let same_key : view.key ≡ key = (table.views who view at).holds some_part in
      let fresh : occurrences place view.claimer.births ≡ 0 = omega (arith, born, counted, unclaimed) in (
        changed,
        keeps,
        tt,
        λ _. replaced state (set state.words 0 ((get_or state.words 0 0 + 1) % 2 ^ 64)) (place + 1) table.raised table.killed who view changed table at some_part refl refl
            (ap (λ words. set words 0 ((get_or state.words 0 0 + 1) % 2 ^ 64)) table.laid ∙ ap (λ word. word ∷ table.raised ++ table.killed) next)
            (subst (λ n. IsPhase setting (phase_of (place + 1) table.raised table.killed (set state.views who (claiming view n)))) (sym found)
            (subst (IsPhase setting) (λ j. phase_with (place + 1) (run_of table.raised (stayed raiser state.views who view after at refl j)) (run_of table.killed (stayed killer state.views who view after at refl j)) (moved claimer_of state.views who after j))
            (claim-holds setting fits (phase_of place table.raised table.killed state.views) who view.claimer view.raise table.phase (at_map claimer_of state.views who view at) (at_map raiser state.views who view at) some_allowance nothing idle))),
        (
          refl,
          refl,
          (let same : view.key.reserve ≡ key.reserve = ap (λ (k : PhaseKey). k.reserve) same_key in omega (arith, found, most, left, long, some_allowance, same)),
          ap (λ n. occurrences n view.claimer.births) found ∙ fresh,
        ),
      )

  -- what changes a view alone
  quiet : (state : Board) (who : ℕ) (view changed : EntityView) (table : IsTable key state) → get_elem? state.views who ≡ some view → 0 < view.parts → changed.parts ≡ view.parts → changed.key ≡ view.key → changed.raise ≡ view.raise → changed.kill ≡ view.kill → changed.claimer ≡ view.claimer
      → IsTable key (board state.words state (set state.views who changed))
  quiet state who view changed table at some_part same_parts same_key same_raise same_kill same_claimer =
      replaced state state.words table.claim table.raised table.killed who view changed table at some_part same_parts same_key table.laid
      (subst (IsPhase setting) (λ j. phase_with table.claim (run_of table.raised (stayed raiser state.views who view changed at same_raise j)) (run_of table.killed (stayed killer state.views who view changed at same_kill j)) (stayed claimer_of state.views who view changed at same_claimer j)) table.phase)

  exchange-leaves : (state : Board) (number : ℕ) (views : List EntityView) → (table : IsTable key state) → IsTable key (board state.words state views) → IsTable key (board (set state.words 0 (either (eqb (get_or state.words 0 0) number) number (get_or state.words 0 0))) state views)
  exchange-leaves state number views table after = subst (λ words. IsTable key (board words state views)) (sym (ap (set state.words 0) (itself (get_or state.words 0 0) number) ∙ same_first state.words table.laid)) after
    where
      same_first : (words : List ℕ) → words ≡ table.claim ∷ table.raised ++ table.killed → set words 0 (get_or words 0 0) ≡ words
      same_first [] laid = refl
      same_first (word ∷ words) laid = refl

  pub plan_parts-allowed : (slots who : ℕ) (mine : Mine) (number : ℕ) → 0 < mine.0.parts → Allows (Holds key) slots who mine 0 (λ word. either (eqb word number) number word) (plans_parts (step slots 0 number number none) mine)
  plan_parts-allowed slots who mine number some_part state held _ at _ = (
    planning_parts mine.0 number,
    keeps,
    tt,
    λ _. exchange-leaves state number _ (held can) (quiet state who mine.0 (planning_parts mine.0 number) (held can) at some_part refl refl refl refl refl),
    (refl, refl),
  )

  pub plan_allowance-allowed : (slots who : ℕ) (mine : Mine) (number : ℕ) → 0 < mine.0.parts → length setting.reserve ≡ key.reserve → Allows (Holds key) slots who mine 0 (λ word. either (eqb word number) number word) (plans_allowance (step slots 0 number number none) mine)
  plan_allowance-allowed slots who mine number some_part long state held _ at _ =
      let table = held can in
      let same_key : mine.0.key ≡ key = (table.views who mine.0 at).holds some_part in
      let same : mine.0.key.reserve ≡ key.reserve = ap (λ (k : PhaseKey). k.reserve) same_key in
      let most = count-total (λ (c : Claimer). c.allowance) (map claimer_of state.views) who mine.0.claimer (at_map claimer_of state.views who mine.0 at) in
      let left = table.phase.allowances in
      let few = count-total parts_of state.views who mine.0 at in
      let all = table.parts in (
        planning_allowance mine.0 number,
        keeps,
        tt,
        λ _. exchange-leaves state number _ table (quiet state who mine.0 (planning_allowance mine.0 number) table at some_part refl refl refl refl refl),
        (refl, refl, omega (arith, few, all), omega (arith, most, left, long, same), λ place. let one = births-once setting (phase_of table.claim table.raised table.killed state.views) table.phase who mine.0.claimer (at_map claimer_of state.views who mine.0 at) place in one),
      )

  -- ---- words of the raised set

  module _ (slots who : ℕ) (mine : Mine) (number place at j : ℕ) (low : place < 64) (some_part : 0 < mine.0.parts) (here : number * 64 + place ≡ at) (is_j : j ≡ suc number) (within : at < 64 * word_count sizes) where
    abbrev masked : ℕ → ℕ
    masked word = bit_or word (1 * 2 ^ place % 2 ^ 64)

    abbrev the_step : Step (Unit {0})
    the_step = step slots j (1 * 2 ^ place % 2 ^ 64) 0 none

    raised-word : (state : Board) (table : IsTable key state) → get_or state.words j 0 ≡ get_or table.raised number 0
    raised-word state table = let wide = table.phase.raised.wide in
        (λ k. get_or (table.laid k) (is_j k) 0) ∙ get_or_append_left table.raised table.killed 0 number (omega (arith, wide, within, here))

    raised-laid : (state : Board) (table : IsTable key state) → set state.words j (masked (get_or state.words j 0)) ≡ table.claim ∷ with_bit table.raised at ++ table.killed
    raised-laid state table = let wide = table.phase.raised.wide in
        ap (λ word. set state.words j (masked word)) (raised-word state table) ∙ (λ k. set (table.laid k) (is_j k) (masked (get_or table.raised number 0)))
        ∙ ap (λ rest. table.claim ∷ rest) (set-left table.raised table.killed number (masked (get_or table.raised number 0)) (omega (arith, wide, within, here)) ∙ ap (λ words. words ++ table.killed) (sym (with_bit-mask table.raised number place at low here)))

    pub raise-allowed : (claim : ℕ) → mine.0.raise.stage ≡ 0 → mine.0.claimer.pending ≡ claim ∷ [] → index_at setting claim ≡ at → Allows (Holds key) slots who mine j masked (raises the_step mine)
    raise-allowed claim idle waits index state held _ found _ =
        let table = held can in
        let view = mine.0 in
        let word : ℕ = get_or state.words j 0 in
        let whole : at / 64 ≡ number = omega (arith, here, low) in
        let same_word : get_or table.raised (at / 64) 0 ≡ word = ap (λ n. get_or table.raised n 0) whole ∙ sym (raised-word state table) in
        let changed : EntityView = begin_raise view at word in (
          changed,
          keeps,
          tt,
          λ _. replaced state _ table.claim (with_bit table.raised at) table.killed who view changed table found some_part refl refl (raised-laid state table)
              (subst (IsPhase setting) (λ k. phase_with table.claim (run_of (with_bit table.raised at) (moved raiser state.views who changed k)) (run_of table.killed (stayed killer state.views who view changed found refl k)) (moved claimer_of state.views who changed k))
              (subst (λ w. IsPhase setting (phase_with table.claim (run_of (with_bit table.raised at) (set (map raiser state.views) who (begun view.raise at w))) (run_of table.killed (map killer state.views)) (set (map claimer_of state.views) who (raising view.claimer)))) same_word
              (subst (λ i. IsPhase setting (phase_with table.claim (run_of (with_bit table.raised i) (set (map raiser state.views) who (begun view.raise i (get_or table.raised (i / 64) 0)))) (run_of table.killed (map killer state.views)) (set (map claimer_of state.views) who (raising view.claimer)))) index
              (begin-holds setting fits (phase_of table.claim table.raised table.killed state.views) who claim view.claimer view.raise table.phase (at_map claimer_of state.views who view found) (at_map raiser state.views who view found) waits idle)))),
          (refl, λ other low' same. ap (λ i. begin_raise view i word) (let equal : place ≡ other = mask-injective place other low low' same in let there : at ≡ (j - 1) * 64 + other = omega (arith, here, is_j, equal) in there)),
        )

    pub raise_on-allowed : (layer : ℕ) → mine.0.raise.stage ≡ suc layer → layer < 2 → at ≡ address sizes (suc layer) (number_in (suc layer) mine.0.raise.index) → Allows (Holds key) slots who mine j masked (raises_on the_step mine)
    raise_on-allowed layer stage lower is state held _ found _ =
        let table = held can in
        let view = mine.0 in
        let changed : EntityView = with_raise view (risen view.raise) in (
          changed,
          keeps,
          tt,
          λ _. replaced state _ table.claim (with_bit table.raised at) table.killed who view changed table found some_part refl refl (raised-laid state table)
              (subst (IsPhase setting) (λ k. phase_with table.claim (run_of (with_bit table.raised at) (moved raiser state.views who changed k)) (run_of table.killed (stayed killer state.views who view changed found refl k)) (stayed claimer_of state.views who view changed found refl k))
              (subst (λ spot. IsPhase setting (phase_with table.claim (run_of (with_bit table.raised spot) (set (map raiser state.views) who (risen view.raise))) (run_of table.killed (map killer state.views)) (map claimer_of state.views))) (sym is)
              (raise-holds setting fits (phase_of table.claim table.raised table.killed state.views) who view.raise layer table.phase stage (omega (arith, lower)) (at_map raiser state.views who view found) lower))),
          (refl, refl),
        )

    pub raise_end-allowed : mine.0.raise.stage ≡ 3 → at ≡ address sizes 3 (number_in 3 mine.0.raise.index) → Allows (Holds key) slots who mine j masked (raise_ends the_step mine)
    raise_end-allowed stage is state held _ found _ =
        let table = held can in
        let view = mine.0 in
        let changed : EntityView = with_raise view (ended view.raise) in (
          changed,
          keeps,
          tt,
          λ _. replaced state _ table.claim (with_bit table.raised at) table.killed who view changed table found some_part refl refl (raised-laid state table)
              (subst (IsPhase setting) (λ k. phase_with table.claim (run_of (with_bit table.raised at) (moved raiser state.views who changed k)) (run_of table.killed (stayed killer state.views who view changed found refl k)) (stayed claimer_of state.views who view changed found refl k))
              (subst (λ spot. IsPhase setting (phase_with table.claim (run_of (with_bit table.raised spot) (set (map raiser state.views) who (ended view.raise))) (run_of table.killed (map killer state.views)) (map claimer_of state.views))) (sym is)
              (raised-holds setting fits (phase_of table.claim table.raised table.killed state.views) who view.raise 2 table.phase stage (omega arith) (at_map raiser state.views who view found) refl))),
          (refl, refl),
        )

  -- a load of a word of the raised set
  module _ (slots who : ℕ) (mine : Mine) (number j : ℕ) (some_part : 0 < mine.0.parts) (is_j : j ≡ suc number) (within : number < sizes.first) (long : length setting.reserve ≡ key.reserve) where
    pub look-allowed : Allows (Holds key) slots who mine j (λ word. word) (looks (step slots j 0 0 none) mine)
    look-allowed state held _ at _ =
        let table = held can in
        let view = mine.0 in
        let wide = table.phase.raised.wide in
        let low : number < length table.raised = omega (arith, wide, within) in
        let word : ℕ = get_or state.words j 0 in
        let is_word : word ≡ get_or table.raised number 0 = (λ k. get_or (table.laid k) (is_j k) 0) ∙ get_or_append_left table.raised table.killed 0 number low in
        let changed : EntityView = with_raise view (looked view.raise (j - 1) word) in
        let is_number : number ≡ j - 1 = omega (arith, is_j) in
        let same_key : view.key ≡ key = (table.views who view at).holds some_part in
        let its = table.phase.raised.each who view.raise (at_map raiser state.views who view at) in
        let bit_of_word : (index : ℕ) → index / 64 ≡ j - 1 → bit table.raised index ≡ bit_at word (index % 64) = λ index in_word. ap (λ n. bit_at (get_or table.raised n 0) (index % 64)) (in_word ∙ sym is_number) ∙ ap (λ w. bit_at w (index % 64)) (sym is_word) in (
          changed,
          keeps,
          tt,
          λ _. subst (λ words. IsTable key (board words state (set state.views who changed))) (sym (set-same state.words j))
              (replaced state state.words table.claim table.raised table.killed who view changed table at some_part refl refl table.laid
              (subst (IsPhase setting) (λ k. phase_with table.claim (run_of table.raised (moved raiser state.views who changed k)) (run_of table.killed (stayed killer state.views who view changed at refl k)) (stayed claimer_of state.views who view changed at refl k))
              (subst (λ (pair : ℕ × ℕ). IsPhase setting (phase_with table.claim (run_of table.raised (set (map raiser state.views) who (looked view.raise pair.0 pair.1))) (run_of table.killed (map killer state.views)) (map claimer_of state.views))) (λ k. (is_number k, sym is_word k))
              (look-holds setting fits (phase_of table.claim table.raised table.killed state.views) who number view.raise table.phase (at_map raiser state.views who view at))))),
          (
            refl,
            refl,
            (λ index in_word known. sym (bit_of_word index in_word) ∙ ⊎_elim
                (λ fresh. old-set sizes setting.raised (run_of table.raised (map raiser state.views)) table.phase.raised index (omega (arith, in_word, is_number, within)) (ap (λ (k : PhaseKey). fin.contains k.before.fresh index) (sym same_key) ∙ fresh))
                (λ seen. ⊎_elim
                (λ (listed : HasRaised view index). sym (ap (bit table.raised) listed.2) ∙ (All-contains (λ call. HasAllBits sizes table.raised call.0) view.raise.calls listed.0 its.ended listed.1).1 0 (omega arith))
                (λ (saw : HasSeen view index). ap (λ n. bit_at (get_or table.raised n 0) (index % 64)) (sym saw.2) ∙ All-contains (StaysSet table.raised) view.raise.seen saw.0 its.seen saw.1 (index % 64) saw.3) seen) known),
            (λ index in_word small on. ⊎_elim (λ fresh. inl (ap (λ (k : PhaseKey). fin.contains k.before.fresh index) same_key ∙ fresh))
                (λ (birth : IsReserved setting table.claim index). inr (birth.0, (let most = table.phase.allowances in let same : view.key.reserve ≡ key.reserve = ap (λ (k : PhaseKey). k.reserve) same_key in let below = birth.1 in omega (arith, most, same, below, long)), ap (λ (k : PhaseKey). index_at (setting_of k) birth.0) same_key ∙ birth.2))
                (raised-is setting (phase_of table.claim table.raised table.killed state.views) table.phase index (omega (arith, in_word, is_number, within)) (bit_of_word index in_word ∙ on))),
          ),
        )

  -- ---- words of the killed set

  module _ (slots who : ℕ) (mine : Mine) (number place at j : ℕ) (low : place < 64) (some_part : 0 < mine.0.parts) (here : number * 64 + place ≡ at) (is_j : j ≡ suc (word_count sizes + number)) (within : at < 64 * word_count sizes) where
    abbrev masked' : ℕ → ℕ
    masked' word = bit_or word (1 * 2 ^ place % 2 ^ 64)

    abbrev its_step : Step (Unit {0})
    its_step = step slots j (1 * 2 ^ place % 2 ^ 64) 0 none

    killed-at : (state : Board) (table : IsTable key state) → j ≡ suc (length table.raised + number)
    killed-at state table = let wide = table.phase.raised.wide in omega (arith, wide, is_j)

    killed-word : (state : Board) (table : IsTable key state) → get_or state.words j 0 ≡ get_or table.killed number 0
    killed-word state table = (λ k. get_or (table.laid k) (killed-at state table k) 0) ∙ get_or-append-add table.raised table.killed number 0

    killed-laid : (state : Board) (table : IsTable key state) → set state.words j (masked' (get_or state.words j 0)) ≡ table.claim ∷ table.raised ++ with_bit table.killed at
    killed-laid state table =
        ap (λ word. set state.words j (masked' word)) (killed-word state table) ∙ (λ k. set (table.laid k) (killed-at state table k) (masked' (get_or table.killed number 0)))
        ∙ ap (λ rest. table.claim ∷ rest) (set-right table.raised table.killed number (masked' (get_or table.killed number 0)) ∙ ap (λ words. table.raised ++ words) (sym (with_bit-mask table.killed number place at low here)))

    -- a view that knows that an entity lives there
    abbrev KnowsLived : EntityView → ℕ → Type 0
    KnowsLived view index = (setting.lives index ≡ true) ⊎ HasSeen view index

    pub kill-allowed : mine.0.kill.stage ≡ 0 → at < 64 * sizes.first → KnowsLived mine.0 at → Allows (Holds key) slots who mine j masked' (kills its_step mine)
    kill-allowed idle small known state held _ found _ =
        let table = held can in
        let view = mine.0 in
        let word : ℕ = get_or state.words j 0 in
        let whole : at / 64 ≡ number = omega (arith, here, low) in
        let same_word : get_or table.killed (at / 64) 0 ≡ word = ap (λ n. get_or table.killed n 0) whole ∙ sym (killed-word state table) in
        let changed : EntityView = with_kill view (begun view.kill at word) in
        let its = table.phase.raised.each who view.raise (at_map raiser state.views who view found) in
        let same_key : view.key ≡ key = (table.views who view found).holds some_part in
        let lived : HasLived setting table.raised at = ⊎_elim inl (λ (saw : HasSeen view at). inr (ap (λ n. bit_at (get_or table.raised n 0) (at % 64)) (sym saw.2) ∙ All-contains (StaysSet table.raised) view.raise.seen saw.0 its.seen saw.1 (at % 64) saw.3)) known in (
          changed,
          keeps,
          tt,
          λ _. replaced state _ table.claim table.raised (with_bit table.killed at) who view changed table found some_part refl refl (killed-laid state table)
              (subst (IsPhase setting) (λ k. phase_with table.claim (run_of table.raised (stayed raiser state.views who view changed found refl k)) (run_of (with_bit table.killed at) (moved killer state.views who changed k)) (stayed claimer_of state.views who view changed found refl k))
              (subst (λ w. IsPhase setting (phase_with table.claim (run_of table.raised (map raiser state.views)) (run_of (with_bit table.killed at) (set (map killer state.views) who (begun view.kill at w))) (map claimer_of state.views))) same_word
              (kill-holds setting fits (phase_of table.claim table.raised table.killed state.views) who at view.kill table.phase (at_map killer state.views who view found) idle small lived))),
          (
            refl,
            λ other low' same. ap (λ i. with_kill view (begun view.kill i word)) (
                let equal : place ≡ other = mask-injective place other low low' same in
                let same_width : width view ≡ word_count sizes = ap (λ (k : PhaseKey). word_count (setting_of k).sizes) same_key in
                let there : at ≡ (j - 1 - width view) * 64 + other = omega (arith, here, is_j, equal, same_width) in there),
          ),
        )

    pub bury-allowed : (layer : ℕ) → mine.0.kill.stage ≡ suc layer → layer < 2 → at ≡ address sizes (suc layer) (number_in (suc layer) mine.0.kill.index) → Allows (Holds key) slots who mine j masked' (buries its_step mine)
    bury-allowed layer stage lower is state held _ found _ =
        let table = held can in
        let view = mine.0 in
        let changed : EntityView = with_kill view (risen view.kill) in (
          changed,
          keeps,
          tt,
          λ _. replaced state _ table.claim table.raised (with_bit table.killed at) who view changed table found some_part refl refl (killed-laid state table)
              (subst (IsPhase setting) (λ k. phase_with table.claim (run_of table.raised (stayed raiser state.views who view changed found refl k)) (run_of (with_bit table.killed at) (moved killer state.views who changed k)) (stayed claimer_of state.views who view changed found refl k))
              (subst (λ spot. IsPhase setting (phase_with table.claim (run_of table.raised (map raiser state.views)) (run_of (with_bit table.killed spot) (set (map killer state.views) who (risen view.kill))) (map claimer_of state.views))) (sym is)
              (bury-holds setting fits (phase_of table.claim table.raised table.killed state.views) who view.kill layer table.phase stage (omega (arith, lower)) (at_map killer state.views who view found) lower))),
          (refl, refl),
        )

    pub bury_end-allowed : mine.0.kill.stage ≡ 3 → at ≡ address sizes 3 (number_in 3 mine.0.kill.index) → Allows (Holds key) slots who mine j masked' (bury_ends its_step mine)
    bury_end-allowed stage is state held _ found _ =
        let table = held can in
        let view = mine.0 in
        let changed : EntityView = with_kill view (ended view.kill) in (
          changed,
          keeps,
          tt,
          λ _. replaced state _ table.claim table.raised (with_bit table.killed at) who view changed table found some_part refl refl (killed-laid state table)
              (subst (IsPhase setting) (λ k. phase_with table.claim (run_of table.raised (stayed raiser state.views who view changed found refl k)) (run_of (with_bit table.killed at) (moved killer state.views who changed k)) (stayed claimer_of state.views who view changed found refl k))
              (subst (λ spot. IsPhase setting (phase_with table.claim (run_of table.raised (map raiser state.views)) (run_of (with_bit table.killed spot) (set (map killer state.views) who (ended view.kill))) (map claimer_of state.views))) (sym is)
              (buried-holds setting fits (phase_of table.claim table.raised table.killed state.views) who view.kill 2 table.phase stage (omega arith) (at_map killer state.views who view found) refl))),
          (refl, refl),
        )

  -- ---- seats

  pub split-allowed : (who : ℕ) (view : EntityView) → 0 < view.plan_parts → view.plan_parts < view.parts → view.plan_allowance ≤ view.claimer.allowance → Splits (Holds key) who view (kept view) (given view)
  split-allowed who view some_part fewer most state held at _ =
      let table = held can in
      let views : List EntityView = set state.views who (kept view) in
      let holds = table.views who view at in
      record {
        claim = table.claim;
        raised = table.raised;
        killed = table.killed;
        laid = table.laid;
        parts = let sum = total-set parts_of state.views who view (kept view) at in let more = total-push parts_of views (given view) in let all = table.parts in omega (arith, sum, more, all, fewer);
        phase = subst (IsPhase setting) (λ k. phase_with table.claim
            (run_of table.raised ((ap (λ callers. callers ++ newcomer ∷ []) (stayed raiser state.views who view (kept view) at refl) ∙ sym (map-append raiser views (given view ∷ []))) k))
            (run_of table.killed ((ap (λ callers. callers ++ newcomer ∷ []) (stayed killer state.views who view (kept view) at refl) ∙ sym (map-append killer views (given view ∷ []))) k))
            ((ap (λ claimers. claimers ++ (given view).claimer ∷ []) (moved claimer_of state.views who (kept view)) ∙ sym (map-append claimer_of views (given view ∷ []))) k))
            (come-holds setting fits (phase_of table.claim table.raised table.killed state.views) table.phase who view.claimer (kept view).claimer (given view).claimer (at_map claimer_of state.views who view at) refl refl (omega (arith, most)) refl refl);
        views = each-push views (given view) record { holds = λ _. holds.holds (omega (arith, some_part, fewer)); spent = λ none_left. absurd (omega (arith, some_part, none_left)) }
            (each-set state.views who (kept view) record { holds = λ _. holds.holds (omega (arith, some_part, fewer)); spent = λ none_left. absurd (omega (arith, none_left, fewer)) } table.views);
      }

  pub join-allowed : (who : ℕ) (view : EntityView) (other : ℕ) (taken : EntityView) → 0 < view.parts → view.raise.stage ≡ 0 → taken.raise.stage ≡ 0 → view.kill.stage ≡ 0 → taken.kill.stage ≡ 0 → view.claimer.pending ≡ [] → taken.claimer.pending ≡ []
      → Joins (Holds key) who view other taken (both view taken) spent_view
  join-allowed who view other taken some_part idle idle' rests rests' pending pending' state held at differ at' _ =
      let table = held can in
      let views : List EntityView = set state.views who (both view taken) in
      let was : get_elem? state.views other ≡ some taken = ⊎_elim (λ here. absurd (differ here.0)) (λ there. there.1) (at_set state.views who other (both view taken) taken at') in
      let holds = table.views who view at in
      record {
        claim = table.claim;
        raised = table.raised;
        killed = table.killed;
        laid = table.laid;
        parts = let sum = total-set parts_of state.views who view (both view taken) at in let less = total-set parts_of views other taken spent_view at' in let all = table.parts in omega (arith, sum, less, all);
        phase = subst (IsPhase setting) (λ k. phase_with table.claim
            (run_of table.raised ((ap (λ callers. set callers other newcomer) (moved raiser state.views who (both view taken)) ∙ moved raiser views other spent_view) k))
            (run_of table.killed ((ap (λ callers. set callers other newcomer) (moved killer state.views who (both view taken)) ∙ moved killer views other spent_view) k))
            ((ap (λ claimers. set claimers other (claimer_with [] [] 0)) (moved claimer_of state.views who (both view taken)) ∙ moved claimer_of views other spent_view) k))
            (merge-holds setting fits (phase_of table.claim table.raised table.killed state.views) table.phase who other view.claimer taken.claimer view.raise taken.raise view.kill taken.kill differ
            (at_map claimer_of state.views who view at) (at_map claimer_of state.views other taken was) (at_map raiser state.views who view at) (at_map raiser state.views other taken was) (at_map killer state.views who view at) (at_map killer state.views other taken was)
            pending pending' idle idle' rests rests');
        views = each-set views other spent_view record { holds = λ some. absurd (omega (arith, some)); spent = λ _. (refl, refl, refl) }
            (each-set state.views who (both view taken) record { holds = λ _. holds.holds some_part; spent = λ none_left. absurd (omega (arith, none_left, some_part)) } table.views);
      }
