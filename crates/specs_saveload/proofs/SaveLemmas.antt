-- Lists of what is saved, entity by entity.
use Rattle.std.proofs.Common.{◌≡◌, ℕ, List, [], ◌∷◌, ◌++◌, Bool, true, false, cond, filter, map, Option, Some, None, is_some, IsSome, IsErrOf, Result, Ok, Err, option_map, inl, inr, refl, sym, ap, subst, ◌∙◌, append_assoc, append-nil}
use Rattle.std.specs.List.{range_with_len, cons_option}
use Rattle.hibitset_sets.specs.BitSet.{SetWithRoom, has_member}
use Rattle.hibitset_sets.specs.Walk.{walk}
use Rattle.specs_entity.specs.Births.{Births}
use Rattle.specs_entity.specs.Life.{LifeAt}
use Rattle.specs_layouts.specs.Masked.{Agrees}
use Rattle.specs_layouts.specs.ToCome.{IsToCome}
use Rattle.specs_join.specs.Joins.{both, join_list, living_entity, values_at}
use Rattle.specs_join.proofs.CallerLemmas.{walk-members}
use Rattle.specs_saveload.specs.Saved.{IsSavedNext, all_some, marked_at}

refused_for : {T E : Type 0} → E → Result T E → E
refused_for default (Ok value) = default
refused_for default (Err error) = error

-- two answers are refused for one reason
pub same-refusal : {T U E : Type 0} (result : Result T E) (answer : Result U E) (one other : E) → result ≡ Err one → answer ≡ Err one → IsErrOf result other → IsErrOf answer other
unfolding refused_for
same-refusal result answer one other was is for =
    is ∙ ap Err (ap (refused_for one) (sym was ∙ for))

-- ---- the indices of a mask, some of which have nothing

none-there : {S : Type 0} (o : Option S) → is_some o ≡ false → o ≡ None
none-there None is = refl
none-there (Some x) is = cc

module _ {S : Type 0} (value : ℕ → Option S) where
  skip : (p : ℕ → Bool) (first : ℕ) (rest : List ℕ) (test : Bool) → p first ≡ test → (p first ≡ false → value first ≡ None) → values_at value (cond test (first ∷ rest) rest) ≡ cons_option (value first) (values_at value rest)
  skip p first rest true is none = refl
  skip p first rest false is none = ap (λ o. cons_option o (values_at value rest)) (sym (none is))

  filtered : (p : ℕ → Bool) → ((index : ℕ) → p index ≡ false → value index ≡ None) → (indices : List ℕ) → values_at value (filter p indices) ≡ values_at value indices
  filtered p none [] = refl
  filtered p none (first ∷ rest) =
      skip p first (filter p rest) (p first) refl (none first) ∙ ap (cons_option (value first)) (filtered p none rest)

  walk-is : (p : ℕ → Bool) → walk p ≡ filter p (range_with_len 0 16777216)
  unfolding walk
  walk-is p = refl

  walked : (p : ℕ → Bool) → ((index : ℕ) → p index ≡ false → value index ≡ None) → values_at value (walk p) ≡ values_at value (range_with_len 0 16777216)
  walked p none = ap (values_at value) (walk-is p) ∙ filtered p none (range_with_len 0 16777216)

  -- the values at a mask's indices are all, where an index outside of it has none
  pub values-walked : (p : ℕ → Bool) → ((index : ℕ) → p index ≡ false → value index ≡ None) → values_at value (walk p) ≡ join_list value
  values-walked p none = walked p none ∙ sym (walked (λ index. is_some (value index)) (λ index is. none-there (value index) is))

-- what is at an index is both of two, where the first is none
pub none-both : {A B : Type 0} (one : Option A) (other : Option B) → other ≡ None → both one other ≡ None
none-both None other is = refl
none-both (Some a) other is = ap (both (Some a)) is

-- ---- entry by entry

-- a list with one entry more
pub saved-next : {X : Type 0} (entry : Option X) (before after : List X) (value : X) (ok : Bool) → entry ≡ Some value → after ≡ cond ok (before ++ value ∷ []) before → ok ≡ true → IsSavedNext entry before after
saved-next entry before after value ok saved behind is =
    record { value = value; saved = saved; behind = behind ∙ ap (λ b. cond b (before ++ value ∷ []) before) is }

-- nothing more is to come
pub none-more : {X : Type 0} (done : List X) → option_map (λ more. done ++ more) (all_some {X = X} []) ≡ Some done
none-more done = ap Some (append-nil done)

-- nothing is done yet
pub none-done : {X : Type 0} (all : Option (List X)) → option_map (λ more. [] ++ more) all ≡ all
none-done None = refl
none-done (Some values) = refl

mapped : {X : Type 0} (done : List X) (value : X) (rest : Option (List X)) → option_map (λ more. (done ++ value ∷ []) ++ more) rest ≡ option_map (λ more. done ++ more) (option_map (λ values. value ∷ values) rest)
mapped done value None = refl
mapped done value (Some values) = ap Some (append_assoc done (value ∷ []) values)

-- the first that was to come is done
pub one-more : {X : Type 0} (done after : List X) (first : Option X) (rest : List (Option X)) → IsSavedNext first done after → option_map (λ more. after ++ more) (all_some rest) ≡ option_map (λ more. done ++ more) (all_some (first ∷ rest))
one-more done after first rest next =
    ap (λ (items : List _). option_map (λ more. items ++ more) (all_some rest)) next.behind
    ∙ (mapped done next.value (all_some rest) ∙ ap (λ o. option_map (λ more. done ++ more) (all_some (o ∷ rest))) (sym next.saved))

-- the first that was to come is none
pub none-first : {X : Type 0} (done : List X) (first : Option X) (rest : List (Option X)) → first ≡ None → option_map (λ more. done ++ more) (all_some (first ∷ rest)) ≡ None
none-first done first rest is = ap (λ o. option_map (λ more. done ++ more) (all_some (o ∷ rest))) is

-- ---- a save that is under way

module _ {M E : Type 0} (entry : LifeAt × M → Option E) (births : Births) (markers : ℕ → Option M) where
  abbrev Marked : ℕ → Option (LifeAt × M)
  Marked = marked_at births markers

  abbrev all_saved : Option (List E)
  all_saved = all_some (map entry (join_list Marked))

  -- each index to come has a marker, and what is saved so far, with what is saved of these, is all
  pub record IsUnderWay (done : List E) (left : List ℕ) : Type 0 where
    pub known : (index : ℕ) → IsToCome index left → IsSome (markers index)
    pub saved : option_map (λ more. done ++ more) (all_some (map entry (values_at (marked_at births markers) left))) ≡ all_some (map entry (join_list (marked_at births markers)))

  no-marker : (mask : SetWithRoom) → Agrees mask markers → (index : ℕ) → has_member mask index ≡ false → Marked index ≡ None
  no-marker mask agrees index is = none-both (living_entity births index) (markers index) (none-there (markers index) (sym (agrees index) ∙ is))

  begun-empty : (mask : SetWithRoom) → Agrees mask markers → (left : List ℕ) → left ≡ walk (has_member mask) → IsUnderWay [] left
  begun-empty mask agrees left is =
      record {
        known = λ index come. sym (agrees index) ∙ (walk-members (has_member mask) index (subst (IsToCome index) is come)).0;
        saved = none-done (all_some (map entry (values_at Marked left)))
            ∙ ap (λ (items : List (LifeAt × M)). all_some (map entry items)) (ap (values_at Marked) is ∙ values-walked Marked (has_member mask) (no-marker mask agrees));
      }

  -- it begins with the indices of the markers' mask
  pub begun : (mask : SetWithRoom) → Agrees mask markers → (left : List ℕ) → left ≡ walk (has_member mask) → (done : List E) → done ≡ [] → IsUnderWay done left
  begun mask agrees left is done none = subst (λ (items : List E). IsUnderWay items left) (sym none) (begun-empty mask agrees left is)

  module _ (done : List E) (left : List ℕ) (under : IsUnderWay done left) where
    -- where none are to come, all is saved
    pub ended : left ≡ [] → all_saved ≡ Some done
    ended is =
        sym under.saved ∙ (ap (λ (l : List ℕ). option_map (λ more. done ++ more) (all_some (map entry (values_at Marked l)))) is ∙ none-more done)

    module _ (id : ℕ) (rest : List ℕ) (is : left ≡ id ∷ rest) where
      pub first-known : IsSome (markers id)
      first-known = under.known id (subst (IsToCome id) (sym is) (inl refl))

      rest-known : (index : ℕ) → IsToCome index rest → IsSome (markers index)
      rest-known index come = under.known index (subst (IsToCome index) (sym is) (inr come))

      at-first : (found : Option (LifeAt × M)) → Marked id ≡ found → option_map (λ more. done ++ more) (all_some (map entry (cons_option found (values_at Marked rest)))) ≡ all_saved
      at-first found there =
          ap (λ o. option_map (λ more. done ++ more) (all_some (map entry (cons_option o (values_at Marked rest))))) (sym there)
          ∙ (ap (λ (l : List ℕ). option_map (λ more. done ++ more) (all_some (map entry (values_at Marked l)))) (sym is) ∙ under.saved)

      -- no entity lives at the first
      pub passed : living_entity births id ≡ None → IsUnderWay done rest
      passed dead = record { known = rest-known; saved = at-first None (ap (λ (o : Option LifeAt). both o (markers id)) dead) }

      module _ (entity : LifeAt) (marker : M) (lives : living_entity births id ≡ Some entity) (has : markers id ≡ Some marker) where
        there : Marked id ≡ Some (entity, marker)
        there = ap (λ (o : Option LifeAt). both o (markers id)) lives ∙ ap (both (Some entity)) has

        -- the first is saved
        pub went-on : (after : List E) → IsSavedNext (entry (entity, marker)) done after → IsUnderWay after rest
        went-on after next =
            record {
              known = rest-known;
              saved = one-more done after (entry (entity, marker)) (map entry (values_at Marked rest)) next ∙ at-first (Some (entity, marker)) there;
            }

        -- the first can't be
        pub stopped : entry (entity, marker) ≡ None → all_saved ≡ None
        stopped none = sym (at-first (Some (entity, marker)) there) ∙ none-first done (entry (entity, marker)) (map entry (values_at Marked rest)) none
