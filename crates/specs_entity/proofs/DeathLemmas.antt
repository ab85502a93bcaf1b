-- The entities whose deletion is accepted can be killed, and a walk that empties its set goes on with the rest.
use Rattle.std.proofs.Common.{◌≡◌, ℕ, zero, suc, ◌+◌, ◌<◌, List, [], ◌∷◌, Bool, true, false, cond, eqb, filter, map, refl, sym, ap, ◌∙◌, subst, arith, Option, Some, None, is_some, MatchOption, unwrap_or, inl, inr}
use Rattle.std.specs.Prelude.{IfSome}
use Rattle.std.specs.FinSet as fin
use Rattle.std.specs.Ordering.{nat_cmp}
use Rattle.std.specs.List.{AllByRecursion, IsDistinct, list_any, range_with_len}
use Rattle.std.proofs.lemmas.List.Elements.{All-map, All-weaker}
use Rattle.std.proofs.lemmas.List.Folds.{list_any_none}
use Rattle.std.proofs.lemmas.Bool.{true≢false, cases_Bool}
use Rattle.hibitset_sets.specs.Walk.{walk, is_pending}
use Rattle.hibitset_sets.proofs.CallerLemmas.{any-walk, contains-without, members-walked, walk-without}
use Rattle.specs_entity.specs.Life.{Life, LifeAt, first_life}
use Rattle.specs_entity.specs.Births.{Births, CanKill, all_deleted, all_living, entity_at, indices_of, living, persistent_at}
use Rattle.specs_entity.specs.Layout.{AreBirths}
use Rattle.specs_entity.specs.Emptied.{GaveFirst, still_in}
use Rattle.specs_entity.specs.declared.emptying.Emptying.{Emptying}
use Rattle.specs_entity.proofs.BirthLemmas.{not-equal, used-living}
use Rattle.specs_entity.proofs.ListLemmas.{walk-rest}

-- ---- walks

-- what a step of a walk tells of the set, out of which the index is to be taken that came
pub emptied-first : (s : fin.FinSet nat_cmp) (next : Option ℕ) (left after : List ℕ) (it : Emptying) → left ≡ walk (fin.contains s) → after ≡ still_in s it → MatchOption next ((left ≡ []) × (after ≡ [])) (λ x. left ≡ x ∷ after) → IfSome next (λ i. is_pending (fin.contains s) it.masks it.prefix i ≡ false) → MatchOption next (walk (fin.contains s) ≡ []) (λ first. GaveFirst s first it)
emptied-first s None left after it is rest gave gone = sym is ∙ gave.0
emptied-first s (Some x) left after it is rest gave gone =
    let tail = walk-rest s x after (sym is ∙ gave) in
    record {
      member = tail.0;
      came = sym is ∙ (gave ∙ ap (λ xs. x ∷ xs) (sym tail.1));
      left =
          walk-without (fin.contains s) (fin.contains (fin.remove s x)) it.masks it.prefix x gone (contains-without s x)
          ∙ (sym rest ∙ sym tail.1);
    }

filtered-above : (n a low : ℕ) (p : ℕ → Bool) → low < a → AllByRecursion (λ y. eqb low y ≡ false) (filter p (range_with_len a n))
filtered-above zero a low p below = tt
filtered-above (suc n) a low p below =
    let rest : List ℕ = filter p (range_with_len (a + 1) n) in
    let above = filtered-above n (a + 1) low p (omega arith) in
    elim (cases_Bool (p a)) [
      | inl holds ↦ subst (AllByRecursion (λ y. eqb low y ≡ false)) (sym (ap (λ b. cond b (a ∷ rest) rest) holds)) (not-equal low a (λ e. absurd (omega arith)), above)
      | inr lacks ↦ subst (AllByRecursion (λ y. eqb low y ≡ false)) (sym (ap (λ b. cond b (a ∷ rest) rest) lacks)) above
    ]

filtered-distinct : (n a : ℕ) (p : ℕ → Bool) → IsDistinct eqb (filter p (range_with_len a n))
unfolding IsDistinct
filtered-distinct zero a p = tt
filtered-distinct (suc n) a p =
    let rest : List ℕ = filter p (range_with_len (a + 1) n) in
    let apart = filtered-distinct n (a + 1) p in
    elim (cases_Bool (p a)) [
      | inl holds ↦ subst (IsDistinct eqb) (sym (ap (λ b. cond b (a ∷ rest) rest) holds)) (filtered-above n (a + 1) a p (omega arith), apart)
      | inr lacks ↦ subst (IsDistinct eqb) (sym (ap (λ b. cond b (a ∷ rest) rest) lacks)) apart
    ]

-- a walk comes to no index twice
pub walk-distinct : (p : ℕ → Bool) → IsDistinct eqb (walk p)
unfolding walk
walk-distinct p = filtered-distinct 16777216 0 p

-- ---- accepted deletions

pub indices-at : (births : Births) (indices : List ℕ) → indices_of (map (entity_at births) indices) ≡ indices
indices-at births [] = refl
indices-at births (index ∷ indices) = ap (λ rest. index ∷ rest) (indices-at births indices)

pub deleted-indices : (births : Births) → indices_of (all_deleted births) ≡ walk (fin.contains births.deletions)
deleted-indices births = indices-at births (walk (fin.contains births.deletions))

some-or : (one : Option Life) (other : Life) → ¬ (one ≡ None) → one ≡ Some (unwrap_or one other)
some-or None other some = absurd (some refl)
some-or (Some life) other some = refl

-- they live, and none is named twice
pub deleted-killable : (births : Births) → AreBirths births → CanKill (living births) (all_deleted births)
deleted-killable births kept =
    let indices : List ℕ = walk (fin.contains births.deletions) in
    record {
      alive =
          All-map (λ (e : LifeAt). living births e.id ≡ Some e.generation) (entity_at births) indices
          (All-weaker (λ i. fin.contains births.deletions i ≡ true) (λ i. living births i ≡ Some (entity_at births i).generation)
          (λ i is. some-or (living births i) (unwrap_or (persistent_at births i) first_life) (kept.deletions i is))
          indices (members-walked (fin.contains births.deletions)));
      apart = subst (IsDistinct eqb) (sym (deleted-indices births)) (walk-distinct (fin.contains births.deletions));
    }

pub some-is : (one : Option Life) (other : Life) → is_some one ≡ true → one ≡ Some (unwrap_or one other)
some-is None other some = cc
some-is (Some life) other some = refl

-- those that live can be killed
pub living-killable : (births : Births) → CanKill (living births) (all_living births)
living-killable births =
    let indices : List ℕ = walk (λ index. is_some (living births index)) in
    record {
      alive =
          All-map (λ (e : LifeAt). living births e.id ≡ Some e.generation) (entity_at births) indices
          (All-weaker (λ i. is_some (living births i) ≡ true) (λ i. living births i ≡ Some (entity_at births i).generation)
          (λ i is. some-is (living births i) (unwrap_or (persistent_at births i) first_life) is)
          indices (members-walked (λ index. is_some (living births index))));
      apart = subst (IsDistinct eqb) (sym (indices-at births indices)) (walk-distinct (λ index. is_some (living births index)));
    }

-- a list can be killed where the same entities live
pub CanKill-same : (lives lives' : ℕ → Option Life) (entities : List LifeAt) → ((index : ℕ) → lives' index ≡ lives index) → CanKill lives entities → CanKill lives' entities
CanKill-same lives lives' entities same can =
    record {
      alive = All-weaker (λ (e : LifeAt). lives e.id ≡ Some e.generation) (λ (e : LifeAt). lives' e.id ≡ Some e.generation) (λ e is. same e.id ∙ is) entities can.alive;
      apart = can.apart;
    }

-- a walk over the accepted deletions comes to just these
pub walked-deletions : (births : Births) → AreBirths births → (index : ℕ) → list_any (λ other. eqb index other) (walk (fin.contains births.deletions)) ≡ fin.contains births.deletions index
walked-deletions births kept index = elim (cases_Bool (fin.contains births.deletions index)) [
  | inl is ↦ any-walk (fin.contains births.deletions) index (let used = used-living births kept index (kept.deletions index is) in let few = kept.used in let limit = kept.indices in omega arith) is ∙ sym is
  | inr out ↦
      list_any_none (λ other. eqb index other) (walk (fin.contains births.deletions))
      (All-weaker (λ i. fin.contains births.deletions i ≡ true) (λ i. eqb index i ≡ false)
      (λ i member. not-equal index i (λ same. true≢false (sym member ∙ ap (fin.contains births.deletions) (sym same) ∙ out)))
      (walk (fin.contains births.deletions)) (members-walked (fin.contains births.deletions))) ∙ sym out
]
