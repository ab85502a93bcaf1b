-- A list that was written whole.
use Rattle.std.proofs.Common.{◌≡◌, ℕ, List, [], ◌++◌, length, take, drop, ap, sym, ◌∙◌, arith, append-nil}
use Rattle.std.proofs.lemmas.List.{take_all, drop_all}

-- what a slice of the whole list leaves is the list
pub take-whole : {A : Type 0} (len : ℕ) (new old : List A) → len ≡ length old → length new ≡ length old → take len (new ++ drop (length new) old) ≡ new
take-whole {A} len new old long same =
    let none : drop (length new) old ≡ [] = ap (λ n. drop n old) same ∙ drop_all (length old) old (omega arith) in
    ap (λ n. take n (new ++ drop (length new) old)) (long ∙ sym same) ∙ ap (λ list. take (length new) (new ++ list)) none ∙ ap (take (length new)) (append-nil new) ∙ take_all (length new) new (omega arith)
