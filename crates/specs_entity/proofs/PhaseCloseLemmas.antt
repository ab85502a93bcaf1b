-- What a seat with all parts says of the last words of a phase.
use Rattle.std.proofs.Common.{◌≡◌, ◌⊎◌, ℕ, zero, suc, ◌+◌, ◌*◌, ◌/◌, ◌%◌, ◌<◌, ◌≤◌, ◌==◌, ◌||◌, eqb, Bool, true, false, Option, Some, None, List, [], ◌∷◌, ◌++◌, map, length, get_or, slice_index, refl, sym, ap, ◌∙◌, subst, arith, inl, inr, ⊎_elim, eq-eqb, ne_eqb}
use Rattle.std.proofs.lemmas.Bool.{true≢false, or_right}
use Rattle.std.proofs.lemmas.List.{get_or-take, get_or-append-add}
use Rattle.std.proofs.lemmas.List.Elements.{All-contains}
use Rattle.std.specs.Int.{bit_at}
use Rattle.std.specs.List.{All, Contains}
use Rattle.std.specs.Option.{is_some}
use Rattle.std.specs.FinSet as fin
use mathlib.Core.Logic.{dite}
use native.Mathlib.Decide.{ℕ_discrete}
use mathlib.Core.Option.{some, some-injective, some-ne-none}
use lib.ListN.{get_elem?}
use Rattle.atomic_table.specs.Table.{State, Final, Seen}
use Rattle.atomic_table.proofs.Lists.{at_map}
use Rattle.hibitset_sets.specs.Bits.{has_bit}
use Rattle.hibitset.specs.declared.atomic_core.Caller.{Caller}
use Rattle.hibitset.specs.AtomicCore.{word_count, bit, total, new_reports, in_flight, calls_of, HasAllBits, StaysSet}
use Rattle.hibitset.specs.AtomicRuns.{run_of}
use Rattle.hibitset.proofs.AtomicRestLemmas.{reported-listed, set-reported, calls-idle}
use Rattle.hibitset.proofs.RowLemmas.{has_bit-bit_at}
use Rattle.hibitset.proofs.SharedLemmas.{whole-count, others-spent}
use Rattle.specs_entity.specs.Life.{Life, LifeAt, first_life}
use Rattle.specs_entity.specs.Births.{Births, living, all_created, newborns, CanCreate}
use Rattle.specs_entity.specs.Layout.{AreBirths}
use Rattle.specs_entity.specs.declared.phase_core.Claimer.{Claimer}
use Rattle.specs_entity.specs.declared.phase_rule.PhaseKey.{PhaseKey}
use Rattle.specs_entity.specs.declared.phase_rule.EntityView.{EntityView}
use Rattle.specs_entity.specs.PhaseCore.{occurrences, once_below, called, HasLived, IsReserved}
use Rattle.specs_entity.specs.PhaseViews.{setting_of, reserved, HasRaised, HasSeen}
use Rattle.specs_entity.specs.PhaseRule.{raiser, killer, claimer_of, phase_of, IsTable, Holds}
use Rattle.specs_entity.proofs.BirthLemmas.{some-none, living-fresh}
use Rattle.specs_entity.proofs.NewLemmas.{newborns-new, all_created-live_on}
use Rattle.specs_entity.proofs.PhaseReserveLemmas.{newborns-length, first-newborns, index-reserved, reserve-length}
use Rattle.specs_entity.proofs.PhaseRestLemmas.{raised-is}
use Rattle.specs_entity.proofs.AcceptLemmas.{is_in}

total-map : {One Other : Type 0} (count : Other → ℕ) (f : One → Other) (items : List One) → total count (map f items) ≡ total (λ item. count (f item)) items
total-map count f [] = refl
total-map count f (item ∷ items) = ap (λ rest. count (f item) + rest) (total-map count f items)

view-at : (views : List EntityView) (who : ℕ) (caller : Caller) → get_elem? (map killer views) who ≡ some caller → (view : EntityView) × (get_elem? views who ≡ some view) × (view.kill ≡ caller)
view-at [] who caller at = absurd (some-ne-none caller (sym at))
view-at (view ∷ views) zero caller at = (view, refl, some-injective view.kill caller at)
view-at (view ∷ views) (suc who) caller at = view-at views who caller at

can-fewer : (number few : ℕ) (births : Births) → few ≤ number → CanCreate number births → CanCreate few births
can-fewer zero few births most can = subst (λ n. CanCreate n births) (let none_left : 0 ≡ few = omega arith in none_left) can
can-fewer (suc more) few births most can = dite (ℕ_discrete few (suc more)) (λ same. subst (λ n. CanCreate n births) (sym same) can) (λ differ. can-fewer more few births (omega arith) can.0)

contains-is_in : (calls : List (ℕ × Bool)) (index : ℕ) (found : Bool) → Contains calls (index, found) → is_in (map called calls) index ≡ true
contains-is_in [] index found at = absurd (let low = at.1 in omega arith)
contains-is_in (call ∷ calls) index found (zero, low, is) = ap (λ test. test || is_in (map called calls) index) (eq-eqb index call.0 (sym (ap (λ (c : ℕ × Bool). c.0) is)))
contains-is_in (call ∷ calls) index found (suc place, low, is) = or_right (index == call.0) (is_in (map called calls) index) (contains-is_in calls index found (place, omega arith, is))

is_in-listed : (Holds' : ℕ → Type 0) (calls : List (ℕ × Bool)) (index : ℕ) → All (λ call. Holds' call.0) calls → is_in (map called calls) index ≡ true → Holds' index
is_in-listed Holds' [] index all is = absurd (true≢false (sym is))
is_in-listed Holds' (call ∷ calls) index all is = dite (ℕ_discrete index call.0)
    (λ same. subst Holds' (sym same) (all 0 call (omega arith)))
    (λ differ. is_in-listed Holds' calls index (λ place other low. all (suc place) other (omega arith)) (sym (ap (λ test. test || is_in (map called calls) index) (ne_eqb index call.0 differ)) ∙ is))

some-living : (births : Births) (index : ℕ) (life : Life) → living births index ≡ Some life → living births index ≡ None → ⊥
some-living births index life is none_there = some-none life (sym is ∙ none_there)

is_some-living : (found : Option Life) → is_some found ≡ true → (life : Life) × (found ≡ Some life)
is_some-living None is = absurd (true≢false (sym is))
is_some-living (Some life) is = (life, refl)

none-or : (found : Option Life) → (found ≡ None → ⊥) → (life : Life) × (found ≡ Some life)
none-or None no_way = absurd (no_way refl)
none-or (Some life) no_way = (life, refl)

-- what the last words are
pub record IsClosed (key : PhaseKey) (view : EntityView) (words : List ℕ) : Type 0 where
  pub most : get_or words 0 0 ≤ key.reserve
  pub births : (place : ℕ) → occurrences place view.claimer.births ≡ once_below place (get_or words 0 0)
  pub killed : (index : ℕ) → index < 64 * (setting_of key).sizes.first → has_bit (get_or words (1 + word_count (setting_of key).sizes + index / 64) 0) (index % 64) ≡ true
      → (is_in (map called view.kill.calls) index ≡ true) ⊎ (fin.contains key.before.deletions index ≡ true)
  pub deleted : (index : ℕ) → is_in (map called view.kill.calls) index ≡ true → (index < 64 * (setting_of key).sizes.first) × (has_bit (get_or words (1 + word_count (setting_of key).sizes + index / 64) 0) (index % 64) ≡ true)
  pub raised : (index : ℕ) → index < 64 * (setting_of key).sizes.first → HasRaised view index ⊎ HasSeen view index → (fin.contains key.before.fresh index ≡ true) ⊎ IsReserved (setting_of key) (get_or words 0 0) index
  pub lives : (index : ℕ) → index < 64 * (setting_of key).sizes.first → has_bit (get_or words (1 + word_count (setting_of key).sizes + index / 64) 0) (index % 64) ≡ true → living (all_created (get_or words 0 0) key.before) index ≡ None → ⊥

abbrev parts_of : EntityView → ℕ
parts_of view = view.parts

module _ (key : PhaseKey) (kept : AreBirths key.before) (can : CanCreate key.reserve key.before) (state : State (Unit {0}) EntityView) (who : ℕ) (view : EntityView) (table : IsTable key state) (at : get_elem? state.views who ≡ some view) (all : view.parts ≡ 65536) (idle : view.kill.stage ≡ 0) where
  only : total parts_of state.views ≡ view.parts
  only = table.parts ∙ sym all

  claim-most : table.claim ≤ key.reserve
  claim-most = let left = table.phase.allowances in let long = reserve-length key kept in omega (arith, left, long)

  born : (place : ℕ) → occurrences place view.claimer.births ≡ once_below place table.claim
  born place = sym (whole-count parts_of (λ v. occurrences place v.claimer.births) state.views who view (λ other its at' none_left. ap (occurrences place) ((table.views other its at').spent none_left).0) at only)
      ∙ (sym (total-map (λ (c : Claimer). occurrences place c.births) claimer_of state.views) ∙ table.phase.claims place)

  killed-word : (index : ℕ) → get_or state.words (1 + word_count (setting_of key).sizes + index / 64) 0 ≡ get_or table.killed (index / 64) 0
  killed-word index =
      let wide = table.phase.killed.wide in
      let wide' = table.phase.raised.wide in
      let place : 1 + word_count (setting_of key).sizes + index / 64 ≡ suc (length table.raised + index / 64) = omega (arith, wide') in
      (λ j. get_or (table.laid j) (place j) 0) ∙ get_or-append-add table.raised table.killed (index / 64) 0

  bit-of : (index : ℕ) → has_bit (get_or state.words (1 + word_count (setting_of key).sizes + index / 64) 0) (index % 64) ≡ true → bit table.killed index ≡ 1
  bit-of index on = dite (ℕ_discrete (bit table.killed index) 1) (λ is. is)
      (λ differ. absurd (true≢false (sym on ∙ (ap (λ w. has_bit w (index % 64)) (killed-word index) ∙ (has_bit-bit_at (get_or table.killed (index / 64) 0) (index % 64) ∙ ne_eqb (bit table.killed index) 1 differ)))))

  of-bit : (index : ℕ) → bit table.killed index ≡ 1 → has_bit (get_or state.words (1 + word_count (setting_of key).sizes + index / 64) 0) (index % 64) ≡ true
  of-bit index on = ap (λ w. has_bit w (index % 64)) (killed-word index) ∙ (has_bit-bit_at (get_or table.killed (index / 64) 0) (index % 64) ∙ ap (λ value. eqb value 1) on)

  -- who deletes anything is the seat
  deleter : (index other : ℕ) (caller : Caller) → get_elem? (map killer state.views) other ≡ some caller → 0 < new_reports index (calls_of caller) → view.kill ≡ caller
  deleter index other caller at' new =
      let its = view-at state.views other caller at' in
      dite (ℕ_discrete other who)
      (λ same. ap (λ (v : EntityView). v.kill) (some-injective view its.0 (sym at ∙ ap (get_elem? state.views) (sym same) ∙ its.1)) ∙ its.2)
      (λ differ.
      let none_left = others-spent parts_of state.views who view at only other its.0 differ its.1 in
      let spent = (table.views other its.0 its.1).spent none_left in
      let nothing : new_reports index (calls_of its.0.kill) ≡ 0 = ap (new_reports index) (λ j. spent.1 j ++ in_flight (spent.2 j) (its.0.kill.index, its.0.kill.found)) in
      let same : new_reports index (calls_of its.0.kill) ≡ new_reports index (calls_of caller) = ap (λ (c : Caller). new_reports index (calls_of c)) its.2 in
      absurd (omega (arith, nothing, same, new)))

  before-lives : (index : ℕ) (life : Life) → living key.before index ≡ Some life → living (all_created table.claim key.before) index ≡ None → ⊥
  before-lives index life is = some-living (all_created table.claim key.before) index life
      (all_created-live_on table.claim key.before kept (can-fewer key.reserve table.claim key.before claim-most can) (record { id = index; generation = life }) is)

  reserved-lives : (index : ℕ) → IsReserved (setting_of key) table.claim index → living (all_created table.claim key.before) index ≡ None → ⊥
  reserved-lives index (place, low, is) =
      let few = can-fewer key.reserve table.claim key.before claim-most can in
      let nobody : LifeAt = record { id = 0; generation = first_life } in
      let long = newborns-length table.claim key.before in
      let alive = (newborns-new table.claim key.before kept few).live.alive place nobody (omega (arith, long, low)) in
      let same : get_or (newborns table.claim key.before) place nobody ≡ reserved key place = ap (λ (list : List LifeAt). get_or list place nobody) (sym (first-newborns key.reserve table.claim key.before claim-most)) ∙ get_or-take table.claim (newborns key.reserve key.before) place nobody low in
      let index_is : (get_or (newborns table.claim key.before) place nobody).id ≡ index = ap (λ (e : LifeAt). e.id) same ∙ (sym (index-reserved key kept place) ∙ is) in
      some-living (all_created table.claim key.before) index (get_or (newborns table.claim key.before) place nobody).generation (ap (living (all_created table.claim key.before)) (sym index_is) ∙ alive)

  lived-lives : (index : ℕ) → index < 64 * (setting_of key).sizes.first → HasLived (setting_of key) table.raised index → living (all_created table.claim key.before) index ≡ None → ⊥
  lived-lives index within lived = ⊎_elim
      (λ lives. let found = is_some-living (living key.before index) lives in before-lives index found.0 found.1)
      (λ on. ⊎_elim
      (λ fresh. before-lives index _ (living-fresh key.before index fresh))
      (reserved-lives index) (raised-is (setting_of key) (phase_of table.claim table.raised table.killed state.views) table.phase index within on)) lived

  -- what the view raised or saw raised has its bit
  raised-bit : (index : ℕ) → HasRaised view index ⊎ HasSeen view index → bit table.raised index ≡ 1
  raised-bit index seen =
      let caller = table.phase.raised.each who view.raise (at_map raiser state.views who view at) in
      ⊎_elim
      (λ (made : HasRaised view index). subst (λ i. bit table.raised i ≡ 1) made.2 ((All-contains (λ call. HasAllBits (setting_of key).sizes table.raised call.0) view.raise.calls made.0 caller.ended made.1).1 0 (omega arith)))
      (λ (look : HasSeen view index). subst (λ place. bit_at (slice_index table.raised place) (index % 64) ≡ 1) look.2 (All-contains (StaysSet table.raised) view.raise.seen look.0 caller.seen look.1 (index % 64) look.3)) seen

  pub closed : IsClosed key view state.words
  closed =
      let found : table.claim ≡ get_or state.words 0 0 = sym (ap (λ words. get_or words 0 0) table.laid) in
      record {
        most = let most = claim-most in omega (arith, found, most);
        births = λ place. born place ∙ ap (once_below place) found;
        killed = λ index within on. ⊎_elim inr
            (λ (new : (other : ℕ) × (caller : Caller) × (get_elem? (map killer state.views) other ≡ some caller) × (0 < new_reports index (calls_of caller))).
            let same = deleter index new.0 new.1 new.2 new.3 in
            let mine : 0 < new_reports index view.kill.calls = subst (λ calls. 0 < new_reports index calls) (calls-idle view.kill idle) (subst (λ (c : Caller). 0 < new_reports index (calls_of c)) (sym same) new.3) in
            let listed = reported-listed index view.kill.calls mine in
            inl (contains-is_in view.kill.calls index listed.0 listed.1))
            (set-reported (setting_of key).sizes (setting_of key).killed (run_of table.killed (map killer state.views)) table.phase.killed index within (bit-of index on));
        deleted = λ index is. let four = is_in-listed (HasAllBits (setting_of key).sizes table.killed) view.kill.calls index (table.phase.killed.each who view.kill (at_map killer state.views who view at)).ended is in (four.0, of-bit index (four.1 0 (omega arith)));
        raised = λ index within seen. subst (λ n. (fin.contains key.before.fresh index ≡ true) ⊎ IsReserved (setting_of key) n index) found
            (raised-is (setting_of key) (phase_of table.claim table.raised table.killed state.views) table.phase index within (raised-bit index seen));
        lives = λ index within on. subst (λ n. living (all_created n key.before) index ≡ None → ⊥) found (⊎_elim
            (λ old. let some_there = none-or (living key.before index) (kept.deletions index old) in before-lives index some_there.0 some_there.1)
            (λ (new : (other : ℕ) × (caller : Caller) × (get_elem? (map killer state.views) other ≡ some caller) × (0 < new_reports index (calls_of caller))).
            let listed = reported-listed index (calls_of new.1) new.3 in
            lived-lives index within (All-contains (λ call. HasLived (setting_of key) table.raised call.0) (calls_of new.1) (index, listed.0) (table.phase.deletions new.0 new.1 new.2) listed.1))
            (set-reported (setting_of key).sizes (setting_of key).killed (run_of table.killed (map killer state.views)) table.phase.killed index within (bit-of index on)));
      }

pub closed-is : (key : PhaseKey) (kept : AreBirths key.before) (can : CanCreate key.reserve key.before) (words : List ℕ) (slots : List (Unit {0})) (who : ℕ) (view : EntityView) → Final (Seen (Holds key) who view) words slots → view.parts ≡ 65536 → view.kill.stage ≡ 0 → IsClosed key view words
closed-is key kept can words slots who view last all idle = subst (IsClosed key view) last.2 (closed key kept can last.0 who view (last.1.0 can) last.1.1 all idle)

-- births by `create` leave the deletions
pub deletions-created : (number : ℕ) (births : Births) → (all_created number births).deletions ≡ births.deletions
deletions-created zero births = refl
deletions-created (suc more) births = deletions-created more births
