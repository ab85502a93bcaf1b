-- What is gathered one step after another: kinds that pass a test, pairs of entities, and ids.
use Rattle.std.proofs.Common.{◌≡◌, ◌<◌, ◌+◌, ℕ, Bool, true, false, cond, List, [], ◌∷◌, ◌++◌, append_assoc, length, get_or, map, take, filter, refl, ap, sym, ◌∙◌}
use Rattle.std.specs.List.{flat_map}
use Rattle.std.proofs.lemmas.List.{map-append, take_more, flat_map_more, append-nil}
use denote.Ref.{Bor}
use Rattle.scene_model.specs.Parts.{Name}
use Rattle.scene_model.specs.Declaring.{texts}
use Rattle.scene_model.proofs.CallerLemmas.{front_at}
use Rattle.scene_commands.proofs.DropLemmas.{texts-more}

-- a test on one more
filter-more : {X : Type 0} (test : X → Bool) (xs : List X) (x : X) → filter test (xs ++ x ∷ []) ≡ filter test xs ++ cond (test x) (x ∷ []) []
filter-more test [] x = refl
filter-more {X} test (y ∷ xs) x = by (test y) (filter-more test xs x)
  where
    by : (b : Bool) → filter test (xs ++ x ∷ []) ≡ filter test xs ++ cond (test x) (x ∷ []) [] → cond b (y ∷ filter test (xs ++ x ∷ [])) (filter test (xs ++ x ∷ [])) ≡ cond b (y ∷ filter test xs) (filter test xs) ++ cond (test x) (x ∷ []) []
    by true e = ap (λ (l : List X). y ∷ l) e
    by false e = e

-- what is gathered of the kinds so far that pass, and of the next one
module _ {Y : Type 0} (test : Name → Bool) (f : Name → List Y) (kinds names : List (Bor Name)) (k : ℕ) (d : Bor Name) (below : k < length names) (so_far : flat_map f (texts kinds) ≡ flat_map f (filter test (texts (take k names)))) where
  abbrev next : Name
  next = (get_or names k d).now

  one-more : flat_map f (filter test (texts (take (k + 1) names))) ≡ flat_map f (texts kinds) ++ cond (test next) (f next) []
  one-more =
      ap (λ l. flat_map f (filter test l)) (texts-more names k d below) ∙ ap (flat_map f) (filter-more test (texts (take k names)) next)
      ∙ by (test next) ∙ ap (λ l. l ++ cond (test next) (f next) []) (sym so_far)
    where
      by : (b : Bool) → flat_map f (filter test (texts (take k names)) ++ cond b (next ∷ []) []) ≡ flat_map f (filter test (texts (take k names))) ++ cond b (f next) []
      by true = sym (flat_map_more f [] (filter test (texts (take k names))) next)
      by false = ap (flat_map f) (append-nil (filter test (texts (take k names)))) ∙ sym (append-nil (flat_map f (filter test (texts (take k names)))))

  pub kind-owns : test next ≡ true → flat_map f (texts (kinds ++ get_or names k d ∷ [])) ≡ flat_map f (filter test (texts (take (k + 1) names)))
  kind-owns is =
      ap (flat_map f) (map-append (λ (name : Bor Name). name.now) kinds (get_or names k d ∷ [])) ∙ sym (flat_map_more f [] (texts kinds) next)
      ∙ sym (one-more ∙ ap (λ b. flat_map f (texts kinds) ++ cond b (f next) []) is)

  pub kind-owns_not : (test next ≡ true → f next ≡ []) → flat_map f (texts kinds) ≡ flat_map f (filter test (texts (take (k + 1) names)))
  kind-owns_not none = sym (one-more ∙ ap (λ l. flat_map f (texts kinds) ++ l) (nothing (test next) none) ∙ append-nil (flat_map f (texts kinds)))
    where
      nothing : (b : Bool) → (b ≡ true → f next ≡ []) → cond b (f next) [] ≡ []
      nothing true empty = empty refl
      nothing false empty = refl

-- one more behind what was gathered
pub mapped-more : {X Y : Type 0} (f : X → Y) (xs : List X) (k : ℕ) (x : X) → k < length xs → x ≡ get_or xs k x → (before so_far after : List Y) → so_far ≡ before ++ map f (take k xs) → after ≡ so_far ++ f x ∷ [] → after ≡ before ++ map f (take (k + 1) xs)
mapped-more f xs k x below is before so_far after gathered pushed =
    pushed ∙ ap (λ l. l ++ f x ∷ []) gathered ∙ append_assoc before (map f (take k xs)) (f x ∷ []) ∙ ap (λ l. before ++ l) (sym (front_at f xs k x below is))

-- and those of one more kind
pub kinds-more : {Y : Type 0} (f : Name → List Y) (names : List (Bor Name)) (k : ℕ) (d : Bor Name) → k < length names → (before so_far after : List Y) → so_far ≡ before ++ flat_map f (texts (take k names)) → after ≡ so_far ++ f (get_or names k d).now
    → after ≡ before ++ flat_map f (texts (take (k + 1) names))
kinds-more f names k d below before so_far after gathered pushed =
    pushed ∙ ap (λ l. l ++ f (get_or names k d).now) gathered ∙ flat_map_more f before (texts (take k names)) (get_or names k d).now
    ∙ ap (λ l. before ++ flat_map f l) (sym (texts-more names k d below))

-- and of one more item
pub items-more : {X Y : Type 0} (f : X → List Y) (xs : List X) (k : ℕ) (x : X) → k < length xs → x ≡ get_or xs k x → (so_far after : List Y) → so_far ≡ flat_map f (take k xs) → after ≡ so_far ++ f x → after ≡ flat_map f (take (k + 1) xs)
items-more f xs k x below is so_far after gathered pushed =
    pushed ∙ ap (λ l. l ++ f x) gathered ∙ flat_map_more f [] (take k xs) x
    ∙ ap (flat_map f) (ap (λ y. take k xs ++ y ∷ []) is ∙ sym (take_more xs k x below))
