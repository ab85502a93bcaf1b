-- How many systems are staged among entries.
use Rattle.std.proofs.Common.{◌≡◌, ℕ, suc, ◌+◌, Bool, true, false, cond, List, [], ◌∷◌, ◌++◌, length, ap, sym, ◌∙◌, append_assoc, arith}
use Rattle.std.specs.Prelude.{count_by, if◌then◌else◌}
use Rattle.std.proofs.lemmas.List.{length_push}
use Rattle.std.proofs.lemmas.List.Sums.{sum_by_push}
use Rattle.scene_document.specs.Drafts.{DraftEntry}
use Rattle.scene_document.specs.Openings.{is_staged, next_number}

-- how many of entries are staged systems
abbrev pub staged_count : List DraftEntry → ℕ
staged_count entries = count_by is_staged entries

-- a number and one more, if a test passes
next_by : (b : Bool) (number : ℕ) → number + cond b 1 0 ≡ (if b then suc number else number)
next_by true number = omega arith
next_by false number = omega arith

-- with one entry more
pub count-more : (early : List DraftEntry) (entry : DraftEntry) → staged_count (early ++ entry ∷ []) ≡ next_number (staged_count early) entry
count-more early entry = sum_by_push (λ one. cond (is_staged one) 1 0) early entry ∙ next_by (is_staged entry) (staged_count early)

-- the number after that of an entry
pub next-counted : (early : List DraftEntry) (entry : DraftEntry) (number : ℕ) → number ≡ staged_count early → next_number number entry ≡ staged_count (early ++ entry ∷ [])
next-counted early entry number counted = ap (λ n. next_number n entry) counted ∙ sym (count-more early entry)

-- entries that begin with some begin with one more
pub further : (all early : List DraftEntry) (entry : DraftEntry) (later : List DraftEntry) → all ≡ early ++ entry ∷ later → all ≡ (early ++ entry ∷ []) ++ later
further all early entry later is = is ∙ sym (append_assoc early (entry ∷ []) later)

-- one entry more makes a list longer by one
length-more : (early : List DraftEntry) (entry : DraftEntry) → length (early ++ entry ∷ []) ≡ suc (length early)
length-more early entry = length_push early entry ∙ omega arith

-- the place behind one entry more
pub next-place : (early : List DraftEntry) (entry : DraftEntry) (place : ℕ) → place ≡ suc (length early) → suc place ≡ suc (length (early ++ entry ∷ []))
next-place early entry place at = ap suc (at ∙ sym (length-more early entry))
