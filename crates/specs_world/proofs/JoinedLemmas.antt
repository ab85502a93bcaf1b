-- The list of a join of which it is known where parts are.
use Rattle.std.proofs.Common.{◌≡◌, ◌≤◌, ◌<◌, ◌+◌, ℕ, zero, suc, Bool, true, false, cond, ◌&&◌, ◌||◌, eqb, leb, ltb, List, [], ◌∷◌, Option, Some, None, is_some, refl, sym, ap, ◌∙◌, arith}
use Rattle.std.proofs.lemmas.Bool.{and_parts, eq-eqb, leb-true, ltb-true, ne_eqb}
use Rattle.std.specs.Prelude.{filter}
use Rattle.std.specs.List.{list_any, range_with_len}
use Rattle.hibitset_sets.specs.Walk.{walk}
use Rattle.hibitset_sets.proofs.WalkLemmas.{filter-none, walk-first, walk-none}
use Rattle.specs_join.specs.Joins.{join_list, values_at}
use Rattle.specs_join.proofs.CallerLemmas.{walk-is}
use Rattle.specs_world.specs.Stocked.{are_below, edited, rises}

-- a test that fails from an index on is passed only by those before
filter-below : (p : ℕ → Bool) (count total from : ℕ) → count ≤ total → ((index : ℕ) → from + count ≤ index → p index ≡ false) → filter p (range_with_len from total) ≡ filter p (range_with_len from count)
filter-below p zero total from within none = filter-none total from p (λ index low high. none index (omega (arith, low)))
filter-below p (suc count) zero from within none = absurd (let n : suc count ≤ 0 = within in omega (arith, n))
filter-below p (suc count) (suc total) from within none =
    ap (λ rest. cond (p from) (from ∷ rest) rest) (filter-below p count total (from + 1) (omega (arith, within)) (λ index low. none index (omega (arith, low))))

walk-below : (p : ℕ → Bool) (count : ℕ) → count ≤ 16777216 → ((index : ℕ) → count ≤ index → p index ≡ false) → walk p ≡ filter p (range_with_len 0 count)
walk-below p count within none = walk-is p ∙ filter-below p count 16777216 0 within (λ index low. none index (omega (arith, low)))

-- where no part is from an index on, a join lists those before
pub joined-below : {T : Type 0} (parts : ℕ → Option T) (count : ℕ) → count ≤ 16777216 → ((index : ℕ) → count ≤ index → is_some (parts index) ≡ false)
    → join_list parts ≡ values_at parts (filter (λ index. is_some (parts index)) (range_with_len 0 count))
joined-below parts count within none = ap (values_at parts) (walk-below (λ index. is_some (parts index)) count within none)

-- ---- parts that were edited

edited-none : {T : Type 0} (edits : List (ℕ × Option T)) (count index : ℕ) → are_below count edits ≡ true → count ≤ index → is_some (edited edits index) ≡ false
edited-none [] count index below far = refl
edited-none (edit ∷ edits) count index below far =
    let parts = and_parts (ltb edit.0 count) (are_below count edits) below in
    ap (λ b. is_some (cond b edit.1 (edited edits index))) (ne_eqb index edit.0 (λ same. later index edit.0 count far (ltb-true edit.0 count parts.0) same)) ∙ edited-none edits count index parts.1 far
  where
    later : (index at count : ℕ) → count ≤ index → at < count → index ≡ at → ⊥
    later index at count far within same = omega (arith, far, within, same)

-- a join of parts that were edited below an index alone lists those before it
pub joined-edits : {T : Type 0} (edits : List (ℕ × Option T)) (count : ℕ) → (leb count 16777216 && are_below count edits) ≡ true
    → join_list (edited edits) ≡ values_at (edited edits) (filter (λ index. is_some (edited edits index)) (range_with_len 0 count))
joined-edits edits count is =
    let parts = and_parts (leb count 16777216) (are_below count edits) is in
    joined-below (edited edits) count (leb-true count 16777216 parts.0) (λ index far. edited-none edits count index parts.1 far)

-- ---- parts at a rising list of indices

rise-parts : (low first : ℕ) (indices : List ℕ) → rises low (first ∷ indices) ≡ true → (low ≤ first) × (first < 16777216) × (rises (first + 1) indices ≡ true)
rise-parts low first indices rise =
    let parts = and_parts (leb low first) (ltb first 16777216 && rises (first + 1) indices) rise in
    let rest = and_parts (ltb first 16777216) (rises (first + 1) indices) parts.1 in
    (leb-true low first parts.0, ltb-true first 16777216 rest.0, rest.1)

rises-apart : (low : ℕ) (indices : List ℕ) → rises low indices ≡ true → (index : ℕ) → index < low → list_any (eqb index) indices ≡ false
rises-apart low [] rise index below = refl
rises-apart low (first ∷ indices) rise index below =
    let parts = rise-parts low first indices rise in
    ap (λ b. b || list_any (eqb index) indices) (ne_eqb index first (λ same. before index low first below parts.0 same))
    ∙ rises-apart (first + 1) indices parts.2 index (omega (arith, below, parts.0))
  where
    before : (index low first : ℕ) → index < low → low ≤ first → index ≡ first → ⊥
    before index low first below least same = omega (arith, below, least, same)

walk-known : (p : ℕ → Bool) (indices : List ℕ) (low : ℕ) → rises low indices ≡ true → ((index : ℕ) → index < 16777216 → p index ≡ list_any (eqb index) indices) → walk p ≡ indices
walk-known p [] low rise is = walk-none p is
walk-known p (first ∷ indices) low rise is =
    let parts = rise-parts low first indices rise in
    let later : ℕ → Bool = λ index. list_any (eqb index) indices in
    let other : (index : ℕ) → index < 16777216 → (index ≡ first → ⊥) → p index ≡ later index = λ index within apart. is index within ∙ ap (λ b. b || later index) (ne_eqb index first apart) in
    walk-first p later first parts.1 (is first parts.1 ∙ ap (λ b. b || later first) (eq-eqb first first refl))
    (λ index below. other index (omega (arith, below, parts.1)) (λ same. irreflexive index first below same) ∙ rises-apart (first + 1) indices parts.2 index (omega (arith, below)))
    (rises-apart (first + 1) indices parts.2 first (omega arith)) other
    ∙ ap (λ rest. first ∷ rest) (walk-known later indices (first + 1) parts.2 (λ _ _. refl))
  where
    irreflexive : (index first : ℕ) → index < first → index ≡ first → ⊥
    irreflexive index first below same = omega (arith, below, same)

-- where parts are at the indices of a rising list alone, a join lists those
pub joined-known : {T : Type 0} (parts : ℕ → Option T) (indices : List ℕ) → rises 0 indices ≡ true → ((index : ℕ) → index < 16777216 → is_some (parts index) ≡ list_any (eqb index) indices)
    → join_list parts ≡ values_at parts indices
joined-known parts indices rise is = ap (values_at parts) (walk-known (λ index. is_some (parts index)) indices 0 rise is)
