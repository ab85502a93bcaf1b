-- Births in a row, and how the last is undone.
use Rattle.std.proofs.Common.{◌≡◌, ℕ, zero, suc, ◌-◌, ◌<◌, ◌≤◌, List, [], ◌∷◌, ◌++◌, true, false, length, get_or, take, refl, sym, ap, ◌∙◌, arith, Option, Some, None, not, eqb, inl, inr, subst, ◌⊎◌, ◌&&◌, ◌||◌, length-append}
use Rattle.std.specs.Prelude.{Result, Ok, Err}
use Rattle.std.specs.FinSet as fin
use Rattle.std.specs.Ordering.{nat_cmp}
use Rattle.std.specs.Cmp.{nat_cmp_total}
use Rattle.std.proofs.lemmas.Bool.{cond-true, cond-false, eq-eqb, cases_eq, true≢false, false≢true, or_right}
use Rattle.std.proofs.lemmas.List.{get_or_past}
use Rattle.std.proofs.lemmas.Map.Steps.{length-le_from_distinct_below}
use Rattle.std.specs.Option.{is_some, option_to_list, IsSome}
use Rattle.std.specs.List.{list_any}
use Rattle.hibitset_sets.proofs.CallerLemmas.{contains-with, contains-without}
use Rattle.specs_entity.specs.Life.{Life, LifeAt}
use Rattle.specs_entity.specs.Births.{Births, number_of, persistent_at, created, all_created, newborn, newborns, next_index, with_next_taken, CanCreate, IndicesAreSpent, GenerationsAreSpent}
use Rattle.specs_entity.specs.Layout.{AreBirths, AreMade, IsCreated}
use Rattle.specs_entity.proofs.BirthLemmas.{AreBirths-fresh, next-taken, not-equal, dead-lasting, front-last, more-none, births-same}

pub ok-err : {A E : Type 0} (r : Result A E) (x : A) (e : E) → r ≡ Ok x → r ≡ Err e → ⊥
ok-err r x e one other = cc

pub AreBirths-created : (births : Births) → AreBirths births → ¬ (IndicesAreSpent births) → ¬ (GenerationsAreSpent births) → AreBirths (created births)
AreBirths-created births kept left room =
    let taken = next-taken births kept left in
    let many : births.generations ≤ number_of (persistent_at births (next_index births)) → ⊥ = λ h. room (left, h) in
    let same = ap number_of taken.same in
    AreBirths-fresh (with_next_taken births) (next_index births) taken.kept taken.free (omega arith)

pub AreBirths-all_created : (number : ℕ) (births : Births) → AreBirths births → CanCreate number births → AreBirths (all_created number births)
AreBirths-all_created zero births kept can = kept
AreBirths-all_created (suc number) births kept can = AreBirths-created (all_created number births) (AreBirths-all_created number births kept can.0) can.1 can.2

pub AreMade-none : (births : Births) → AreBirths births → AreMade births [] births
AreMade-none births kept = record { kept = kept; can = tt; run = refl; made = refl }

longer : (entities : List LifeAt) (entity : LifeAt) → length (entities ++ entity ∷ []) ≡ suc (length entities)
longer entities entity = omega (arith, length-append entities (entity ∷ []))

-- one birth more
pub AreMade-more : (before : Births) (entities : List LifeAt) (after new : Births) (entity : LifeAt) → AreMade before entities after → ¬ (IndicesAreSpent after) → ¬ (GenerationsAreSpent after) → entity ≡ newborn after → new ≡ created after → AreMade before (entities ++ entity ∷ []) new
AreMade-more before entities after new entity made left room is run =
    let n = sym (longer entities entity) in
    record {
      kept = made.kept;
      can = subst (λ k. CanCreate k before) n (made.can, subst (λ (b : Births). ¬ (IndicesAreSpent b)) made.run left, subst (λ (b : Births). ¬ (GenerationsAreSpent b)) made.run room);
      run = run ∙ (ap created made.run ∙ ap (λ k. all_created k before) n);
      made = ap (λ xs. xs ++ entity ∷ []) made.made ∙ (ap (λ e. newborns (length entities) before ++ e ∷ []) (is ∙ ap newborn made.run) ∙ ap (λ k. newborns k before) n);
    }

not-nil : {A : Type 0} (xs : List A) (x : A) → xs ++ x ∷ [] ≡ [] → ⊥
not-nil xs x h = let e = ap length h in let n = length-append xs (x ∷ []) in omega arith

cons-parts : {A : Type 0} (x y : A) (xs ys : List A) → x ∷ xs ≡ y ∷ ys → (x ≡ y) × (xs ≡ ys)
cons-parts x y xs ys h = (cc, cc)

-- lists with one item more are the same where the lists and the items are
pub snoc-parts : {A : Type 0} (xs ys : List A) (x y : A) → xs ++ x ∷ [] ≡ ys ++ y ∷ [] → (xs ≡ ys) × (x ≡ y)
snoc-parts [] [] x y h = (refl, (cons-parts x y [] [] h).0)
snoc-parts [] (b ∷ ys) x y h = absurd (not-nil ys y (sym (cons-parts x b [] (ys ++ y ∷ []) h).1))
snoc-parts (a ∷ xs) [] x y h = absurd (not-nil xs x (cons-parts a y (xs ++ x ∷ []) [] h).1)
snoc-parts {A} (a ∷ xs) (b ∷ ys) x y h =
    let parts = cons-parts a b (xs ++ x ∷ []) (ys ++ y ∷ []) h in
    let rest = snoc-parts {A = A} xs ys x y parts.1 in
    (ap (λ z. z ∷ xs) parts.0 ∙ ap (λ zs. b ∷ zs) rest.0, rest.1)

-- one birth less: the last was that entity's
pub AreMade-less : (before : Births) (entities : List LifeAt) (entity : LifeAt) (after : Births) → AreMade before (entities ++ entity ∷ []) after → AreMade before entities (all_created (length entities) before) × IsCreated (all_created (length entities) before) entity.id after
AreMade-less before entities entity after made =
    let n = longer entities entity in
    let can = subst (λ k. CanCreate k before) n made.can in
    let parts = snoc-parts entities (newborns (length entities) before) entity (newborn (all_created (length entities) before)) (made.made ∙ ap (λ k. newborns k before) n) in (
      record { kept = made.kept; can = can.0; run = refl; made = parts.0 },
      record {
        kept = AreBirths-all_created (length entities) before made.kept can.0;
        left = can.1;
        room = can.2;
        run = made.run ∙ ap (λ k. all_created k before) n;
        named = ap (λ (e : LifeAt). e.id) parts.1;
      },
    )

-- the last birth of those that are left
pub last-made : (before : Births) (items rest : List LifeAt) (entity : LifeAt) (id : _) (births : Births) → items ≡ rest ++ entity ∷ [] → id ≡ entity.id → AreMade before items births → AreMade before rest (all_created (length rest) before) × IsCreated (all_created (length rest) before) id births
last-made before items rest entity id births split named made =
    let less = AreMade-less before rest entity births (subst (λ xs. AreMade before xs births) split made) in
    (less.0, subst (λ i. IsCreated (all_created (length rest) before) i births) (sym named) less.1)

-- ---- the last birth undone

remove-insert : (s : fin.FinSet nat_cmp) (index : ℕ) → fin.contains s index ≡ false → fin.remove (fin.insert s index) index ≡ s
remove-insert s index out =
    fin.same_set nat_cmp_total fin.nat_cmp-IsAntisymmetric (fin.remove (fin.insert s index) index) s (λ q.
    contains-without (fin.insert s index) index q
    ∙ (ap (λ b. not (eqb q index) && b) (contains-with s index q)
    ∙ elim (cases_eq q index) [
      | inl e ↦ ap (λ b. not b && (b || fin.contains s q)) (eq-eqb q index e) ∙ sym (ap (fin.contains s) e ∙ out)
      | inr ne ↦ ap (λ b. not b && (b || fin.contains s q)) (not-equal q index ne)
    ]))

-- the index that comes next has no fresh birth
pub next-unfresh : (births : Births) → AreBirths births → ¬ (IndicesAreSpent births) → fin.remove (created births).fresh (next_index births) ≡ births.fresh
next-unfresh births kept left =
    let taken = next-taken births kept left in
    remove-insert births.fresh (next_index births) (dead-lasting (with_next_taken births) (next_index births) taken.free.dead)

-- a birth at an index that was never used
pub record IsNewIndex (births : Births) : Type 0 where
  pub persistent : (created births).persistent ≡ births.persistent ++ None ∷ []
  pub cache : (created births).cache ≡ births.cache
  pub index : next_index births ≡ length births.persistent

pub new-index : (births : Births) → births.cache ≡ [] → IsNewIndex births
new-index births empty = record {
  persistent = cond-true (eqb (length births.cache) 0) _ _ (eq-eqb (length births.cache) 0 (ap length empty));
  cache = ap (λ xs. take (length xs - 1) xs) empty ∙ sym empty;
  index = ap (λ xs. get_or xs (length xs - 1) (length births.persistent)) empty;
}

-- a birth at an index of the cache
pub record IsCachedIndex (births : Births) : Type 0 where
  pub persistent : (created births).persistent ≡ births.persistent
  pub cache : births.cache ≡ (created births).cache ++ next_index births ∷ []

pub cached-index : (births : Births) → 0 < length births.cache → IsCachedIndex births
cached-index births some = record {
  persistent = cond-false (eqb (length births.cache) 0) _ _ (not-equal (length births.cache) 0 (λ h. absurd (omega arith)));
  cache = front-last births.cache (length births.persistent) some;
}

last-cached : (xs : List ℕ) (x : ℕ) → list_any (λ other. eqb x other) (xs ++ x ∷ []) ≡ true
last-cached [] x = ap (λ b. b || false) (eq-eqb x x refl)
last-cached (y ∷ ys) x = or_right (eqb x y) _ (last-cached ys x)

length-cases : {A : Type 0} (xs : List A) → (xs ≡ []) ⊎ (0 < length xs)
length-cases [] = inl refl
length-cases (x ∷ xs) = inr (omega arith)

module _ (before : Births) (id : ℕ) (births : Births) (is : IsCreated before id births) where
  unfresh : fin.remove births.fresh id ≡ before.fresh
  unfresh = ap (λ (b : Births). fin.remove b.fresh id) is.run ∙ (ap (fin.remove (created before).fresh) is.named ∙ next-unfresh before is.kept is.left)

  -- an index of the cache had a birth before
  cached-some : 0 < length before.cache → 0 < number_of (persistent_at births id)
  cached-some some =
      let from = cached-index before some in
      let inside : list_any (λ other. eqb (next_index before) other) before.cache ≡ true =
      ap (list_any (λ other. eqb (next_index before) other)) from.cache ∙ last-cached (created before).cache (next_index before) in
      let born = is.kept.cached_born (next_index before) inside in
      let same : persistent_at births id ≡ persistent_at before (next_index before) =
      ap (λ (b : Births). persistent_at b id) is.run ∙ (ap (persistent_at (created before)) is.named ∙ ap (λ xs. get_or xs (next_index before) None) from.persistent) in
      let n = ap number_of same in
      omega arith

  -- an index that was never used had none
  new-none : before.cache ≡ [] → persistent_at births id ≡ None
  new-none empty =
      let new = new-index before empty in
      ap (λ (b : Births). persistent_at b id) is.run
      ∙ (ap (λ xs. get_or xs id None) new.persistent
      ∙ (more-none before.persistent id
      ∙ get_or_past before.persistent id None (let e = is.named in let f = new.index in omega arith)))

  pub undo-new : persistent_at births id ≡ None → (front : List (Option Life)) (x : Option Life) → births.persistent ≡ front ++ x ∷ [] → record births { persistent = front; fresh = fin.remove births.fresh id } ≡ before
  undo-new none front x split =
      elim (length-cases before.cache) [
        | inl empty ↦
            let new = new-index before empty in
            births-same (record births { persistent = front; fresh = fin.remove births.fresh id }) before
            (snoc-parts front before.persistent x None (sym split ∙ (ap (λ (b : Births). b.persistent) is.run ∙ new.persistent))).0
            unfresh
            (ap (λ (b : Births). b.deletions) is.run)
            (ap (λ (b : Births). b.cache) is.run ∙ new.cache)
            (ap (λ (b : Births). b.indices) is.run)
            (ap (λ (b : Births). b.generations) is.run)
        | inr some ↦ let born = cached-some some in let n = ap number_of none in absurd (omega arith)
      ]

  some-cached : (persistent_at births id ≡ None → ⊥) → 0 < length before.cache
  some-cached some = elim (length-cases before.cache) [ inl empty ↦ absurd (some (new-none empty)) | inr more ↦ more ]

  pub undo-cached : (persistent_at births id ≡ None → ⊥) → record births { fresh = fin.remove births.fresh id; cache = births.cache ++ id ∷ [] } ≡ before
  undo-cached some =
      let from = cached-index before (some-cached some) in
      births-same (record births { fresh = fin.remove births.fresh id; cache = births.cache ++ id ∷ [] }) before
      (ap (λ (b : Births). b.persistent) is.run ∙ from.persistent)
      unfresh
      (ap (λ (b : Births). b.deletions) is.run)
      (ap (λ (b : Births). b.cache ++ id ∷ []) is.run ∙ (ap (λ q. (created before).cache ++ q ∷ []) is.named ∙ sym from.cache))
      (ap (λ (b : Births). b.indices) is.run)
      (ap (λ (b : Births). b.generations) is.run)

  -- the cache has room for the index again
  pub undo-room : (persistent_at births id ≡ None → ⊥) → length births.cache < length births.persistent
  undo-room some =
      let from = cached-index before (some-cached some) in
      let few = length-le_from_distinct_below before.cache (length before.persistent) is.kept.distinct is.kept.cached_used in
      let cache : length births.cache ≡ length (created before).cache = ap (λ (b : Births). length b.cache) is.run in
      let more = ap length from.cache in
      let n = length-append (created before).cache (next_index before ∷ []) in
      let long : length births.persistent ≡ length before.persistent = ap (λ (b : Births). length b.persistent) is.run ∙ ap length from.persistent in
      omega arith

-- a last item that is there
pub last-there : {A : Type 0} (xs front : List A) (r : Option A) → xs ≡ front ++ option_to_list r → (IsSome r → ⊥) ⊎ ((x : A) × (xs ≡ front ++ x ∷ []))
last-there xs front None is = inl (λ h. false≢true h)
last-there xs front (Some x) is = inr (x, is)

pub some-false : (r : Option Life) → is_some r ≡ false → r ≡ None
some-false None is = refl
some-false (Some x) is = absurd (true≢false is)

pub some-true : (r : Option Life) → is_some r ≡ true → r ≡ None → ⊥
some-true r is none = false≢true (sym (ap is_some none) ∙ is)

-- a birth leaves an index in use
pub used-created : (before : Births) (id : ℕ) (births : Births) → IsCreated before id births → 0 < length births.persistent
used-created before id births is =
    let used = (next-taken before is.kept is.left).free.used in
    let n = ap (λ (b : Births). length b.persistent) is.run in
    omega arith
