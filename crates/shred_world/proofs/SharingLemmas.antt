-- What two slices share, told from the walks over them.
use Rattle.std.proofs.Common.{◌≡◌, suc, Bool, true, false, ◌||◌, List, [], ◌∷◌, ◌++◌, length, sym, ap, ◌∙◌, arith, refl, Result, Ok, Err, IfOk, IsOk}
use Rattle.std.proofs.lemmas.Bool.{true≢false}
use Rattle.std.specs.Borrow.{Bor}
use Rattle.std.specs.List.{All, list_any}
use Rattle.std.specs.Iterator.{Yields}
use Rattle.std.specs.declared.slice.Iter.{Iter}
use Rattle.std.specs.Slice.Iter.{iter_rest, iter_steps}
use Rattle.shred_world.specs.Sharing.{Shares}

or-true : (b : Bool) → (b || true) ≡ true
or-true true = refl
or-true false = refl

none_left : {T : Type 0} (list : List T) (P : T → Bool) → length list ≡ 0 → list_any P list ≡ false
none_left [] P none = refl
none_left (x ∷ list) P none = absurd (omega (none, arith))

module _ {T : Type 0} (P : T → Bool) where
  -- an item that passes is among what was left
  any-of : (from : Iter T) (before : List (Bor T)) (item : Bor T) (after : Iter T) → Yields iter_steps from (before ++ item ∷ []) after → P item.now ≡ true → list_any P (iter_rest from) ≡ true
  any-of from [] item after run passes = ap (list_any P) run.1 ∙ ap (λ b. b || list_any P (iter_rest run.0)) passes
  any-of from (x ∷ before) item after run passes = ap (list_any P) run.1 ∙ (ap (λ b. P x.now || b) (any-of run.0 before item after run.2 passes) ∙ or-true (P x.now))

  -- where none of the items passes up to the end, none of what was left does
  none-of : (from : Iter T) (items : List (Bor T)) (after : Iter T) → Yields iter_steps from items after → length (iter_rest after) ≡ 0 → All (λ item. P item.now ≡ false) items → list_any P (iter_rest from) ≡ false
  none-of from [] after run none all = ap (λ s. list_any P (iter_rest s)) run ∙ none_left (iter_rest after) P none
  none-of from (x ∷ items) after run none all =
      ap (list_any P) run.1 ∙ (ap (λ b. b || list_any P (iter_rest run.0)) (all 0 x (omega arith)) ∙ none-of run.0 items after run.2 none (λ k d low. all (suc k) d (omega arith)))

-- what is told of the walks over two slices is told of the slices
pub shares-slices : {T : Type 0} (same : T → T → Bool) (shared : Bool) (left right : Iter T)
    → Shares same iter_steps iter_steps (λ from copy. iter_rest copy ≡ iter_rest from) shared left right
    → shared ≡ list_any (λ x. list_any (same x) (iter_rest right)) (iter_rest left)
shares-slices same true left right told =
    let inner = told.4 in
    let found = ap (list_any (same told.1.now)) (sym inner.1) ∙ any-of (same told.1.now) inner.0 inner.2.0 inner.2.1 inner.2.2 inner.2.3 inner.2.4 in
    sym (any-of (λ x. list_any (same x) (iter_rest right)) left told.0 told.1 told.2 told.3 found)
shares-slices same false left right told =
    sym (none-of (λ x. list_any (same x) (iter_rest right)) left told.0 told.1.1.0 told.1.1.1 told.1.1.2.0
    (λ k d low. let inner = told.2 k d low in
    ap (list_any (same _)) (sym inner.1) ∙ none-of (same _) inner.0 inner.2.0 inner.2.1.1.0 inner.2.1.1.1 inner.2.1.1.2.0 inner.2.2))

-- so it is of an answer that is never refused
pub slices-share : {T E : Type 0} (same : T → T → Bool) (left right : Iter T) (these those : List T) → iter_rest left ≡ these → iter_rest right ≡ those
    → (answer : Result Bool E) → IfOk answer (λ shared. Shares same iter_steps iter_steps (λ from copy. iter_rest copy ≡ iter_rest from) shared left right) → IsOk answer
    → answer ≡ Ok (list_any (λ x. list_any (same x) those) these)
slices-share same left right these those first second (Ok shared) told fine =
    ap Ok (shares-slices same shared left right told ∙ (ap (λ l. list_any (λ x. list_any (same x) (iter_rest right)) l) first ∙ ap (λ l. list_any (λ x. list_any (same x) l) these) second))
slices-share same left right these those first second (Err refused) told fine = elim (true≢false (sym fine)) [ ]
