-- Each atomic step on the table of a shared set keeps its rule, and what a seat with all parts knows of the words.
use Rattle.std.proofs.Common.{◌≡◌, ◌≢◌, ℕ, zero, suc, ◌+◌, ◌*◌, ◌/◌, ◌%◌, ◌^◌, ◌<◌, Bool, true, false, eqb, ne_eqb, bit_or, List, [], ◌∷◌, ◌++◌, map, length, get_or, set, sym, refl, ap, ◌∙◌, subst, arith, ⊎_elim}
use Rattle.std.proofs.lemmas.Bool.{true≢false, false_from_ne_true}
use Rattle.std.proofs.lemmas.List.Elements.{All-contains, All-weaker}
use Rattle.std.proofs.lemmas.Nat.Bits.{bit_at-zero}
use Rattle.std.specs.Int.{bit_at}
use mathlib.Core.Logic.{dite}
use native.Mathlib.Decide.{ℕ_discrete}
use mathlib.Core.Option.{none, some, some-injective, some-ne-none}
use mathlib.Core.List.{map-append}
use lib.ListN.{get_elem?}
use lib.Seq.{map-set}
use Rattle.atomic_table.specs.Table.{State, Me, Step, step, keeps, stepped, Allows, Splits, Joins, Final, Seen, opening}
use Rattle.atomic_table.proofs.Lists.{at_set, at_index, at_snoc, at_map, set_again}
use Rattle.hibitset_sets.specs.BitSet.{SetWithRoom, has_member}
use Rattle.hibitset.specs.Cut.{number_in}
use Rattle.hibitset.specs.declared.atomic_core.Caller.{Caller}
use Rattle.hibitset.specs.declared.shared_rule.SeatView.{SeatView}
use Rattle.hibitset.specs.AtomicCore.{Fits, AreWordsOf, one_if, bit, with_bit, address, mark, HasAllBits, new_reports, in_flight, calls_of, total, StaysSet, HasWriter, IsSound, newcomer, begun, risen, ended, looked}
use Rattle.hibitset.specs.SeatViews.{whole_view, with_caller, Lists, HasSeen, Knows, AreSettled}
use Rattle.hibitset_sets.specs.Bits.{has_bit}
use Rattle.hibitset.proofs.RowLemmas.{one_if-bit, has_bit-bit_at}
use Rattle.hibitset.specs.SharedRule.{full, caller_of, IsView, IsShared, planning, kept, given, both, spent_view, begins, rises, ends, looks, plans, Settles}
use Rattle.hibitset.proofs.AtomicWordLemmas.{total-set, total-push, count-total, bit-in_word, bit-lt, mask-injective}
use Rattle.hibitset.proofs.AtomicStepLemmas.{new_reports-calls, begin-sound, rise-sound, end-sound, look-sound, come-sound, merge-sound, start-sound}

pub full-fits : Fits full
full-fits = record { second = omega arith; third = omega arith; fourth = omega arith }

-- what is at a place is what a read of it gives
pub get_elem-get_or : (words : List ℕ) (place word : ℕ) → get_elem? words place ≡ some word → get_or words place 0 ≡ word
get_elem-get_or [] place word at = absurd (some-ne-none word (sym at))
get_elem-get_or (first ∷ words) zero word at = some-injective first word at
get_elem-get_or (first ∷ words) (suc place) word at = get_elem-get_or words place word at

-- a word that is there stays when it is written again
pub set-word_again : (words : List ℕ) (place : ℕ) → place < length words → set words place (get_or words place 0) ≡ words
set-word_again words place low = set_again words place _ (at_index words place _ low (same words place low))
  where
    same : (numbers : List ℕ) (at : ℕ) → at < length numbers → get_or numbers at 0 ≡ get_or numbers at (get_or numbers at 0)
    same [] at below = absurd (omega arith)
    same (first ∷ numbers) zero below = refl
    same (first ∷ numbers) (suc at) below = same numbers at (omega arith)

-- a bit set by its word and its mask is the bit at its address
pub with_bit-mask : (words : List ℕ) (number place at : ℕ) → place < 64 → number * 64 + place ≡ at → with_bit words at ≡ set words number (bit_or (get_or words number 0) (1 * 2 ^ place % 2 ^ 64))
with_bit-mask words number place at low here =
    let whole : at / 64 ≡ number = omega arith in
    let rest : at % 64 ≡ place = omega arith in
    λ j. set words (whole j) (bit_or (get_or words (whole j) 0) (1 * 2 ^ rest j % 2 ^ 64))

-- ---- one holder of all

-- where a share counts only in items with parts, and one item has them all, its share is the sum
module _ {View : Type 0} (parts count : View → ℕ) where
  abbrev pub OnlyWithParts : List View → Type 0
  OnlyWithParts views = (who : ℕ) (view : View) → get_elem? views who ≡ some view → parts view ≡ 0 → count view ≡ 0

  nothing-left : (views : List View) → OnlyWithParts views → total parts views ≡ 0 → total count views ≡ 0
  nothing-left [] only none_left = refl
  nothing-left (view ∷ views) only none_left = let rest = nothing-left views (λ who. only (suc who)) (omega arith) in let here = only 0 view refl (omega arith) in omega arith

  pub whole-count : (views : List View) (who : ℕ) (view : View) → OnlyWithParts views → get_elem? views who ≡ some view → total parts views ≡ parts view → total count views ≡ count view
  whole-count [] who view only at all = absurd (some-ne-none view (sym at))
  whole-count (first ∷ views) zero view only at all =
      let same : parts first ≡ parts view = ap parts (some-injective first view at) in
      let same_count : count first ≡ count view = ap count (some-injective first view at) in
      let rest = nothing-left views (λ who. only (suc who)) (omega arith) in omega arith
  whole-count (first ∷ views) (suc who) view only at all =
      let most = count-total parts views who view at in
      let here = only 0 first refl (omega arith) in
      let rest = whole-count views who view (λ place. only (suc place)) at (omega arith) in omega arith

-- then nobody else has parts
pub others-spent : {View : Type 0} (parts : View → ℕ) (views : List View) (who : ℕ) (view : View) → get_elem? views who ≡ some view → total parts views ≡ parts view
    → (other : ℕ) (its : View) → other ≢ who → get_elem? views other ≡ some its → parts its ≡ 0
others-spent parts [] who view at all other its differ at' = absurd (some-ne-none view (sym at))
others-spent parts (first ∷ views) zero view at all zero its differ at' = absurd (differ refl)
others-spent parts (first ∷ views) zero view at all (suc other) its differ at' = let same : parts first ≡ parts view = ap parts (some-injective first view at) in let most = count-total parts views other its at' in omega arith
others-spent parts (first ∷ views) (suc who) view at all zero its differ at' = let most = count-total parts views who view at in let same : parts first ≡ parts its = ap parts (some-injective first its at') in omega arith
others-spent parts (first ∷ views) (suc who) view at all (suc other) its differ at' = let most = count-total parts views who view at in others-spent parts views who view at (omega arith) other its (λ same. differ (ap suc same)) at'

abbrev parts_of : SeatView → ℕ
parts_of view = view.parts

total-callers : (count : Caller → ℕ) (views : List SeatView) → total count (map caller_of views) ≡ total (λ view. count view.caller) views
total-callers count [] = refl
total-callers count (view ∷ views) = ap (λ rest. count view.caller + rest) (total-callers count views)

caller-at : (views : List SeatView) (who : ℕ) (caller : Caller) → get_elem? (map caller_of views) who ≡ some caller → (view : SeatView) × (get_elem? views who ≡ some view) × (view.caller ≡ caller)
caller-at [] who caller at = absurd (some-ne-none caller (sym at))
caller-at (view ∷ views) zero caller at = (view, refl, some-injective view.caller caller at)
caller-at (view ∷ views) (suc who) caller at = caller-at views who caller at

module _ (old : SetWithRoom) where
  abbrev Board : Type 0
  Board = State (Unit {0}) SeatView

  abbrev Mine : Type 0
  Mine = Me (Unit {0}) SeatView

  abbrev board : List ℕ → Board → List SeatView → Board
  board words state views = record { words = words; homes = state.homes; views = views }

  abbrev Each : List SeatView → Type 0
  Each views = (who : ℕ) (view : SeatView) → get_elem? views who ≡ some view → IsView old view

  each-set : (views : List SeatView) (who : ℕ) (changed : SeatView) → IsView old changed → Each views → Each (set views who changed)
  each-set views who changed holds all other view at = ⊎_elim (λ here. subst (IsView old) here.1 holds) (λ there. all other view there.1) (at_set views who other changed view at)

  each-push : (views : List SeatView) (last : SeatView) → IsView old last → Each views → Each (views ++ last ∷ [])
  each-push views last holds all other view at = ⊎_elim (all other view) (λ is. subst (IsView old) is holds) (at_snoc views last view other at)

  -- a view that keeps its parts and the set at `share` changes
  moves : (state : Board) (words : List ℕ) (who : ℕ) (view changed : SeatView) → IsShared old state → get_elem? state.views who ≡ some view → 0 < view.parts → changed.parts ≡ view.parts → changed.old ≡ view.old
      → IsSound full (has_member old) words (set (map caller_of state.views) who changed.caller) → IsShared old (board words state (set state.views who changed))
  moves state words who view changed shared at some_part same_parts same_old sound = record {
    parts = let sum = total-set parts_of state.views who view changed at in let all = shared.parts in omega arith;
    sound = subst (IsSound full (has_member old) words) (sym (map-set caller_of state.views who changed)) sound;
    views = each-set state.views who changed record { holds = λ _. same_old ∙ (shared.views who view at).holds some_part; spent = λ none_left. absurd (omega arith) } shared.views;
  }

  -- a load leaves the words
  load-leaves : (state : Board) (number : ℕ) (views : List SeatView) → number < length state.words → IsShared old (board state.words state views) → IsShared old (board (set state.words number (get_or state.words number 0)) state views)
  load-leaves state number views low shared = subst (λ words. IsShared old (board words state views)) (sym (set-word_again state.words number low)) shared

  module _ (slots who : ℕ) (mine : Mine) (number place at : ℕ) (low : place < 64) (some_part : 0 < mine.0.parts) (here : number * 64 + place ≡ at) where
    abbrev masked : ℕ → ℕ
    masked word = bit_or word (1 * 2 ^ place % 2 ^ 64)

    abbrev the_step : Step (Unit {0})
    the_step = step slots number (1 * 2 ^ place % 2 ^ 64) 0 none

    advance : (state : Board) (changed : SeatView) → IsShared old state → get_elem? state.views who ≡ some mine.0 → changed.parts ≡ mine.0.parts → changed.old ≡ mine.0.old
        → IsSound full (has_member old) (with_bit state.words at) (set (map caller_of state.views) who changed.caller) → IsShared old (stepped state number (masked (get_or state.words number 0)) who mine.1 changed keeps)
    advance state changed shared found same_parts same_old sound =
        subst (λ words. IsShared old (board words state (set state.views who changed))) (with_bit-mask state.words number place at low here) (moves state (with_bit state.words at) who mine.0 changed shared found some_part same_parts same_old sound)

    pub begin-allowed : mine.0.caller.stage ≡ 0 → at < 16777216 → Allows (IsShared old) slots who mine number masked (begins the_step mine)
    begin-allowed idle small state shared _ found _ =
        let word : ℕ = get_or state.words number 0 in
        let changed : SeatView = with_caller mine.0 (begun mine.0.caller at word) in
        let whole : at / 64 ≡ number = omega arith in (
          changed,
          keeps,
          tt,
          advance state changed shared found refl refl
              (subst (λ found_word. IsSound full (has_member old) (with_bit state.words at) (set (map caller_of state.views) who (begun mine.0.caller at found_word))) (ap (λ n. get_or state.words n 0) whole)
              (begin-sound full full-fits (has_member old) state.words (map caller_of state.views) who mine.0.caller shared.sound (at_map caller_of state.views who mine.0 found) at small idle)),
          (refl, λ other low' same. ap (λ index. with_caller mine.0 (begun mine.0.caller index word)) (let equal : place ≡ other = mask-injective place other low low' same in let there : at ≡ number * 64 + other = omega arith in there)),
        )

    pub rise-allowed : (layer : ℕ) → mine.0.caller.stage ≡ suc layer → layer < 2 → at ≡ address full (suc layer) (number_in (suc layer) mine.0.caller.index) → Allows (IsShared old) slots who mine number masked (rises the_step mine)
    rise-allowed layer stage lower is state shared _ found _ =
        let changed : SeatView = with_caller mine.0 (risen mine.0.caller) in (
          changed,
          keeps,
          tt,
          advance state changed shared found refl refl (subst (λ spot. IsSound full (has_member old) (with_bit state.words spot) (set (map caller_of state.views) who (risen mine.0.caller))) (sym is)
              (rise-sound full full-fits (has_member old) state.words (map caller_of state.views) who mine.0.caller shared.sound (at_map caller_of state.views who mine.0 found) layer stage (omega arith) lower)),
          (refl, refl),
        )

    pub end-allowed : mine.0.caller.stage ≡ 3 → at ≡ address full 3 (number_in 3 mine.0.caller.index) → Allows (IsShared old) slots who mine number masked (ends the_step mine)
    end-allowed stage is state shared _ found _ =
        let changed : SeatView = with_caller mine.0 (ended mine.0.caller) in (
          changed,
          keeps,
          tt,
          advance state changed shared found refl refl (subst (λ spot. IsSound full (has_member old) (with_bit state.words spot) (set (map caller_of state.views) who (ended mine.0.caller))) (sym is)
              (end-sound full full-fits (has_member old) state.words (map caller_of state.views) who mine.0.caller shared.sound (at_map caller_of state.views who mine.0 found) 2 stage (omega arith) refl)),
          (refl, refl),
        )

  -- what a view knows is set
  known-set : (state : Board) (who : ℕ) (view : SeatView) (index : ℕ) → IsShared old state → get_elem? state.views who ≡ some view → 0 < view.parts → index < 16777216 → Knows view index → bit state.words index ≡ 1
  known-set state who view index shared at some_part low knows =
      let holds = shared.views who view at in
      let its = shared.sound.each who view.caller (at_map caller_of state.views who view at) in
      ⊎_elim
      (λ member.
      let same : one_if (has_member old index) ≡ 1 = ap one_if (ap (λ (members : SetWithRoom). has_member members index) (sym (holds.holds some_part)) ∙ member) in
      let counted = shared.sound.counts index low in
      let two = bit-lt state.words index in omega arith)
      (λ other. ⊎_elim
      (λ (listed : Lists view index). sym (ap (bit state.words) listed.2) ∙ (All-contains (λ call. HasAllBits full state.words call.0) view.caller.calls listed.0 its.ended listed.1).1 0 (omega arith))
      (λ (saw : HasSeen view index). ap (λ number. bit_at (get_or state.words number 0) (index % 64)) (sym saw.2) ∙ All-contains (StaysSet state.words) view.caller.seen saw.0 its.seen saw.1 (index % 64) saw.3) other) knows

  pub look-allowed : (slots who : ℕ) (mine : Mine) (number : ℕ) → number < 262144 → 0 < mine.0.parts → Allows (IsShared old) slots who mine number (λ word. word) (looks (step slots number 0 0 none) mine)
  look-allowed slots who mine number low some_part state shared _ at _ =
      let view = mine.0 in
      let word : ℕ = get_or state.words number 0 in
      let changed : SeatView = with_caller view (looked view.caller number word) in
      let wide = shared.sound.wide in (
        changed,
        keeps,
        tt,
        load-leaves state number _ (omega arith) (moves state state.words who view changed shared at some_part refl refl (look-sound full full-fits (has_member old) state.words (map caller_of state.views) who view.caller shared.sound (at_map caller_of state.views who view at) number)),
        (refl, refl, λ index in_word knows. ap (λ n. bit_at (get_or state.words n 0) (index % 64)) (sym in_word) ∙ known-set state who view index shared at some_part (omega arith) knows),
      )

  -- a view changes, and its caller does not
  same-callers : (state : Board) (who : ℕ) (view changed : SeatView) → IsShared old state → get_elem? state.views who ≡ some view → changed.caller ≡ view.caller → IsSound full (has_member old) state.words (set (map caller_of state.views) who changed.caller)
  same-callers state who view changed shared at same =
      subst (IsSound full (has_member old) state.words) (sym (ap (set (map caller_of state.views) who) same ∙ set_again (map caller_of state.views) who view.caller (at_map caller_of state.views who view at))) shared.sound

  pub plan-allowed : (slots who : ℕ) (mine : Mine) (number : ℕ) → number < 266305 → 0 < mine.0.parts → Allows (IsShared old) slots who mine number (λ word. word) (plans (step slots number 0 0 none) mine)
  plan-allowed slots who mine number low some_part state shared _ at _ =
      let view = mine.0 in
      let changed : SeatView = planning view number in
      let wide = shared.sound.wide in (
        changed,
        keeps,
        tt,
        load-leaves state number _ (omega arith) (moves state state.words who view changed shared at some_part refl refl (same-callers state who view changed shared at refl)),
        (refl, refl, let most = count-total parts_of state.views who view at in let all = shared.parts in omega arith),
      )

  pub split-allowed : (who : ℕ) (view : SeatView) → 0 < view.plan → view.plan < view.parts → Splits (IsShared old) who view (kept view) (given view)
  split-allowed who view some_part fewer state shared at =
      let holds = shared.views who view at in
      let views : List SeatView = set state.views who (kept view) in
      record {
        parts = let sum = total-set parts_of state.views who view (kept view) at in let more = total-push parts_of views (given view) in let all = shared.parts in omega arith;
        sound = subst (IsSound full (has_member old) state.words) (sym (map-append caller_of views (given view ∷ []) ∙ ap (λ callers. callers ++ newcomer ∷ []) (map-set caller_of state.views who (kept view))))
            (come-sound full full-fits (has_member old) state.words _ (same-callers state who view (kept view) shared at refl));
        views = each-push views (given view) record { holds = λ _. holds.holds (omega arith); spent = λ none_left. absurd (omega arith) }
            (each-set state.views who (kept view) record { holds = λ _. holds.holds (omega arith); spent = λ none_left. absurd (omega arith) } shared.views);
      }

  pub join-allowed : (who : ℕ) (view : SeatView) (other : ℕ) (taken : SeatView) → 0 < view.parts → view.caller.stage ≡ 0 → taken.caller.stage ≡ 0 → Joins (IsShared old) who view other taken (both view taken) spent_view
  join-allowed who view other taken some_part idle idle' state shared at differ at' =
      let holds = shared.views who view at in
      let views : List SeatView = set state.views who (both view taken) in
      let was : get_elem? state.views other ≡ some taken = ⊎_elim (λ here. absurd (differ here.0)) (λ there. there.1) (at_set state.views who other (both view taken) taken at') in
      record {
        parts = let sum = total-set parts_of state.views who view (both view taken) at in let less = total-set parts_of views other taken spent_view at' in let all = shared.parts in omega arith;
        sound = subst (IsSound full (has_member old) state.words) (sym (map-set caller_of views other spent_view ∙ ap (λ callers. set callers other newcomer) (map-set caller_of state.views who (both view taken))))
            (merge-sound full full-fits (has_member old) state.words (map caller_of state.views) who other view.caller taken.caller shared.sound (at_map caller_of state.views who view at) (at_map caller_of state.views other taken was) differ idle idle');
        views = each-set views other spent_view record { holds = λ some. absurd (omega arith); spent = λ _. (refl, refl) }
            (each-set state.views who (both view taken) record { holds = λ _. holds.holds some_part; spent = λ none_left. absurd (omega arith) } shared.views);
      }

  pub opening-allowed : (words : List ℕ) (slots : List (Unit {0})) → AreWordsOf full (has_member old) words → IsShared old (opening words slots (whole_view old))
  opening-allowed words slots of_old = record {
    parts = refl;
    sound = start-sound full full-fits (has_member old) words 1 of_old;
    views = first;
  }
    where
      first : (who : ℕ) (view : SeatView) → get_elem? (whole_view old ∷ []) who ≡ some view → IsView old view
      first zero view at = subst (IsView old) (some-injective (whole_view old) view at) record { holds = λ _. refl; spent = λ none_left. absurd (omega arith) }
      first (suc who) view at = absurd (some-ne-none view (sym at))

  -- ---- the end

  module _ (state : Board) (who : ℕ) (view : SeatView) (shared : IsShared old state) (at : get_elem? state.views who ≡ some view) (all : view.parts ≡ 65536) (idle : view.caller.stage ≡ 0) where
    only : total parts_of state.views ≡ view.parts
    only = shared.parts ∙ sym all

    resting : (other : ℕ) (its : SeatView) → get_elem? state.views other ≡ some its → its.caller.stage ≡ 0
    resting other its at' = dite (ℕ_discrete other who)
        (λ here. ap (λ (v : SeatView). v.caller.stage) (some-injective its view (sym at' ∙ ap (get_elem? state.views) here ∙ at)) ∙ idle)
        (λ differ. ((shared.views other its at').spent (others-spent parts_of state.views who view at only other its differ at')).1)

    reports-nothing : (index : ℕ) → OnlyWithParts parts_of (λ v. new_reports index (calls_of v.caller)) state.views
    reports-nothing index other its at' none_left = let spent = (shared.views other its at').spent none_left in ap (new_reports index) (λ j. spent.0 j ++ in_flight (spent.1 j) (its.caller.index, its.caller.found))

    pub settled : Settles view state.words
    settled =
        let holds = shared.views who view at in
        let its = shared.sound.each who view.caller (at_map caller_of state.views who view at) in
        record {
          counts = λ index low.
              let sum = whole-count parts_of (λ v. new_reports index (calls_of v.caller)) state.views who view (reports-nothing index) at only in
              let callers = total-callers (λ c. new_reports index (calls_of c)) state.views in
              let own = new_reports-calls index view.caller in
              let none_flies : new_reports index (in_flight view.caller.stage (view.caller.index, view.caller.found)) ≡ 0 = ap (λ stage. new_reports index (in_flight stage (view.caller.index, view.caller.found))) idle in
              let counted = shared.sound.counts index low in
              let same : one_if (has_member view.old index) ≡ one_if (has_member old index) = ap (λ (members : SetWithRoom). one_if (has_member members index)) (holds.holds (omega arith)) in omega arith;
          listed = its.ended;
          seen = its.seen;
          exact = record {
            over = λ layer number low inside on. ⊎_elim (λ summed. summed) (λ (writer : HasWriter (map caller_of state.views) layer number). absurd (
                let its_view = caller-at state.views writer.0 writer.1 writer.2 in
                let rest : its_view.0.caller.stage ≡ 0 = resting writer.0 its_view.0 its_view.1 in
                let flies : its_view.0.caller.stage ≡ suc layer = ap (λ (c : Caller). c.stage) its_view.2 ∙ writer.3 in omega (arith, rest, flies))) (shared.sound.over layer number low inside on);
            under = shared.sound.under;
            wide = shared.sound.wide;
          };
        }

  pub closed-settles : (words : List ℕ) (slots : List (Unit {0})) (who : ℕ) (view : SeatView) → Final (Seen (IsShared old) who view) words slots → view.parts ≡ 65536 → view.caller.stage ≡ 0 → Settles view words
  closed-settles words slots who view last all idle = subst (Settles view) last.2 (settled last.0 who view last.1.0 last.1.1 all idle)

-- ---- what the words have, of the set that comes back

-- a bit that is set, as a test
bit-has_bit : (words : List ℕ) (index : ℕ) → bit words index ≡ 1 → has_bit (get_or words (index / 64) 0) (index % 64) ≡ true
bit-has_bit words index on = has_bit-bit_at (get_or words (index / 64) 0) (index % 64) ∙ ap (λ value. eqb value 1) on

has_bit-bit : (words : List ℕ) (index : ℕ) → has_bit (get_or words (index / 64) 0) (index % 64) ≡ true → bit words index ≡ 1
has_bit-bit words index on = dite (ℕ_discrete (bit words index) 1) (λ is. is)
    (λ differ. absurd (true≢false (sym on ∙ (has_bit-bit_at (get_or words (index / 64) 0) (index % 64) ∙ ne_eqb (bit words index) 1 differ))))

pub has_bit-one_if : (words : List ℕ) (index : ℕ) → one_if (has_bit (get_or words (index / 64) 0) (index % 64)) ≡ bit words index
has_bit-one_if words index = ap one_if (has_bit-bit_at (get_or words (index / 64) 0) (index % 64)) ∙ sym (one_if-bit (bit words index) (bit-lt words index))

one_if-true : (test : Bool) → one_if test ≡ 1 → test ≡ true
one_if-true true is = refl
one_if-true false is = absurd (let none : 0 ≡ 1 = is in omega (arith, none))

module _ (view : SeatView) (words : List ℕ) (known : Settles view words) where
  -- an old member has its bit
  pub old-has_bit : (index : ℕ) → index < 16777216 → has_member view.old index ≡ true → has_bit (get_or words (index / 64) 0) (index % 64) ≡ true
  old-has_bit index low is = let one : one_if (has_member view.old index) ≡ 1 = ap one_if is in let counted = known.counts index low in let two = bit-lt words index in bit-has_bit words index (omega arith)

  -- under a word of layer 1 that is zero no bit is set
  pub empty-block : (block index : ℕ) → block < 4096 → get_or words (262144 + block) 0 ≡ 0 → index / 4096 ≡ block → has_bit (get_or words (index / 64) 0) (index % 64) ≡ false
  empty-block block index low empty same = false_from_ne_true _ (λ on.
      let above : mark full words 1 (index / 64) ≡ 1 = known.exact.over 0 index (omega arith) (omega (arith, same, low)) (has_bit-bit words index on) in
      let word : address full 1 (index / 64) / 64 ≡ 262144 + block = omega (arith, same) in
      let zero_bit : mark full words 1 (index / 64) ≡ 0 = ap (λ number. bit_at (get_or words number 0) (address full 1 (index / 64) % 64)) word ∙ (ap (λ found. bit_at found (address full 1 (index / 64) % 64)) empty ∙ bit_at-zero (address full 1 (index / 64) % 64)) in
      absurd (omega (arith, above, zero_bit)))

  -- a set with the bits of the words is what the view says
  pub settled-set : (after : SetWithRoom) → ((index : ℕ) → index < 16777216 → has_member after index ≡ has_bit (get_or words (index / 64) 0) (index % 64)) → AreSettled view after
  settled-set after bits =
      let one_bit : (index : ℕ) → index < 16777216 → one_if (has_member after index) ≡ bit words index = λ index low. ap one_if (bits index low) ∙ has_bit-one_if words index in
      record {
        counts = λ index low. known.counts index low ∙ sym (one_bit index low);
        listed = All-weaker (λ call. HasAllBits full words call.0) (λ call. has_member after call.0 ≡ true) (λ call four. one_if-true (has_member after call.0) (one_bit call.0 four.0 ∙ four.1 0 (omega arith))) view.caller.calls known.listed;
        seen = All-weaker (StaysSet words) (λ look. (place : ℕ) → place < 64 → look.0 < 262144 → bit_at look.1 place ≡ 1 → has_member after (look.0 * 64 + place) ≡ true)
            (λ look stays place low inside on. one_if-true (has_member after (look.0 * 64 + place)) (one_bit (look.0 * 64 + place) (omega (arith, low, inside)) ∙ (bit-in_word words look.0 place low ∙ stays place on))) view.caller.seen known.seen;
      }
