-- Facts on lists that are related place by place.
use Rattle.std.proofs.Common.{◌≡◌, List, [], ◌∷◌, ◌++◌, subst, sym}
use Rattle.std.specs.List.{AllZip}

module _ {A B : Type 0} (R : A → B → Type 0) where
  zip-append : (first others : List A) (first2 others2 : List B) → AllZip R first first2 → AllZip R others others2 → AllZip R (first ++ others) (first2 ++ others2)
  zip-append [] others [] others2 a b = b
  zip-append [] others (y ∷ ys) others2 a b = absurd a
  zip-append (x ∷ xs) others [] others2 a b = absurd a
  zip-append (x ∷ xs) others (y ∷ ys) others2 a b = (a.0, zip-append xs others ys others2 a.1 b)

  -- two halves of a list
  pub zip-both : (all first others : List A) (first2 others2 : List B) → all ≡ first ++ others → AllZip R first first2 → AllZip R others others2 → AllZip R all (first2 ++ others2)
  zip-both all first others first2 others2 is a b = let P : List A → Type 0 = λ list. AllZip R list (first2 ++ others2) in subst P (sym is) (zip-append first others first2 others2 a b)

  -- one more at the end
  pub zip-push : (first : List A) (first2 : List B) (all : List A) (all2 : List B) (x : A) (y : B) → all ≡ first ++ x ∷ [] → all2 ≡ first2 ++ y ∷ [] → AllZip R first first2 → R x y → AllZip R all all2
  zip-push first first2 all all2 x y is is2 a r =
      let P : List A → Type 0 = λ list. AllZip R list all2 in
      let Q : List B → Type 0 = λ list. AllZip R (first ++ x ∷ []) list in
      subst P (sym is) (subst Q (sym is2) (zip-append first (x ∷ []) first2 (y ∷ []) a (r, _)))
