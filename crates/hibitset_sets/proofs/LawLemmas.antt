-- Lemmas of the laws: a drain that was dropped early, and walks over two members.
use Rattle.std.proofs.Common.{◌≡◌, ℕ, zero, suc, ◌+◌, ◌<◌, ◌≤◌, List, [], ◌∷◌, ◌++◌, length, take, drop, Bool, true, false, not, ◌&&◌, ◌||◌, eqb, refl, sym, ap, ◌∙◌, subst, arith}
use Rattle.std.specs.List.{list_any}
use Rattle.std.proofs.lemmas.List.{drop-drop, length-drop}
use Rattle.std.proofs.lemmas.List.Folds.{list_any-append}
use Rattle.hibitset_sets.specs.Drain.{WithoutAll, Without}

-- the front of what is left of a list, and what is left behind it
pub record IsNextAt {X : Type 0} (xs : List X) (place : ℕ) (x : X) (rest : List X) : Type 0 where
  pub within : place < length xs
  pub front : take (place + 1) xs ≡ take place xs ++ (x ∷ [])
  pub behind : drop (place + 1) xs ≡ rest

pub next-at : {X : Type 0} (xs : List X) (place : ℕ) (x : X) (rest : List X) → drop place xs ≡ x ∷ rest → IsNextAt xs place x rest
next-at [] zero x rest is = cc
next-at [] (suc place) x rest is = cc
next-at (y ∷ ys) zero x rest is =
    record {
      within = omega arith;
      front = (λ j. head-is j ∷ []);
      behind = cc;
    }
  where
    head-is : y ≡ x
    head-is = cc
next-at {X} (y ∷ ys) (suc place) x rest is =
    let next = next-at ys place x rest is in
    let low = next.within in
    let front : take (suc (place + 1)) (y ∷ ys) ≡ take (suc place) (y ∷ ys) ++ (x ∷ []) = ap (λ zs. y ∷ zs) next.front in
    record {
      within = omega arith;
      front = subst (λ n. take n (y ∷ ys) ≡ take (suc place) (y ∷ ys) ++ (x ∷ [])) (let e : suc (place + 1) ≡ suc place + 1 = omega arith in e) front;
      behind = subst (λ n. drop n (y ∷ ys) ≡ rest) (let e : suc (place + 1) ≡ suc place + 1 = omega arith in e) next.behind;
    }

without-both : (a b m : Bool) → (not b && (not a && m)) ≡ (not (a || (b || false)) && m)
without-both true true m = refl
without-both true false m = refl
without-both false true m = refl
without-both false false m = refl

-- without the indices of a list and then without one more
pub without-more : (members between after : ℕ → Bool) (gone : List ℕ) (i : ℕ) → WithoutAll members gone between → Without between i after → WithoutAll members (gone ++ (i ∷ [])) after
without-more members between after gone i all one j =
    one j
    ∙ ap (λ m. not (eqb j i) && m) (all j)
    ∙ without-both (list_any (λ i. eqb j i) gone) (eqb j i) (members j)
    ∙ ap (λ b. not b && members j) (sym (list_any-append (λ i. eqb j i) gone (i ∷ [])))

-- what is the same from a place on is so from the next on
pub drop-same_more : {X : Type 0} (place : ℕ) (xs ys : List X) → drop place xs ≡ drop place ys → drop (place + 1) xs ≡ drop (place + 1) ys
drop-same_more place xs ys same = sym (drop-drop 1 place xs) ∙ ap (drop 1) same ∙ drop-drop 1 place ys

-- where nothing is left behind a place that isn't past the end, it is the end
pub none-left : {X : Type 0} (xs : List X) (place : ℕ) → place ≤ length xs → drop place xs ≡ [] → place ≡ length xs
none-left {X} xs place upto none = let long : length (drop place xs) ≡ 0 = ap length none in omega (arith, length-drop {A = X})
