-- Changes that are taken out one after the other.
use Rattle.std.specs.Iterator.{MakesProgress, item_count}
use Rattle.std.specs.Prelude.{option_map, OnOk, IsOk}
use Rattle.std.specs.List.{cons_option}
use Rattle.std.proofs.Common.{rules, length, ◌≡◌, ℕ, ◌<◌, List, [], ◌∷◌, Bool, true, ◌&&◌, Option, Some, None, is_some, IsSome, Result, Ok, Err, inl, inr, refl, sym, ap, subst, ◌∙◌, arith}
use Rattle.std.proofs.lemmas.Bool.{and_parts, false≢true}
use Rattle.hibitset_sets.specs.Walk.{walk}
use Rattle.hibitset_sets.specs.Operators.{members_of_and}
use Rattle.hibitset_sets.proofs.CallerLemmas.{walk-same}
use Rattle.specs_layouts.specs.Parts.{Puts}
use Rattle.specs_layouts.specs.ToCome.{IsToCome}
use Rattle.specs_layouts.specs.Dense.{Dense, dense_part}
use Rattle.specs_join.specs.Joins.{values_at, join_list, both}
use Rattle.specs_join.specs.JoinLemmas.{some-both}
use Rattle.specs_join.proofs.NewLemmas.{walk-members, values-agree}
use Rattle.specs_join.proofs.WalkedLemmas.{walk-later}
use Rattle.specs_join.specs.declared.changeset.Change.{Change}
use Rattle.specs_join.specs.Changes.{changes_in}
use Rattle.specs_join.specs.Taking.{taken_at, HasBoth}

some-mapped : {A B : Type 0} (f : A → B) (value : Option A) → is_some (option_map f value) ≡ is_some value
some-mapped f None = refl
some-mapped f (Some value) = refl

-- a change is there where its layout has a part
pub has-change : {T : Type 0} (inner : Dense (Change T)) (index : ℕ) → is_some (changes_in inner index) ≡ is_some (dense_part inner index)
has-change inner index = some-mapped (λ change. change.0) (dense_part inner index)

-- where a layout lost its part at an index, the changes lost theirs
pub loses-change : {T : Type 0} (before after : Dense (Change T)) (index : ℕ) → Puts (dense_part before) index None (dense_part after) → Puts (changes_in before) index None (changes_in after)
loses-change before after index puts =
    record {
      here = ap (option_map (λ change. change.0)) puts.here;
      others = λ other apart. ap (option_map (λ change. change.0)) (puts.others other apart);
    }

-- what holds where a call is accepted, holds of one that is
pub on-ok : {A E P : Type 0} (r : Result A E) → OnOk r P → IsOk r → P
on-ok (Ok value) holds ok = holds
on-ok (Err error) holds ok = absurd (false≢true ok)

-- ---- the walk that begins

module _ {T S : Type 0} (set members : ℕ → Bool) (changes : ℕ → Option T) (values joins : ℕ → Option S) (has : (index : ℕ) → set index ≡ is_some (changes index)) (mask : (index : ℕ) → index < 16777216 → members index ≡ is_some (joins index)) (agree : (index : ℕ) → index < 16777216 → IsSome (joins index) → values index ≡ joins index) (left : List ℕ) (begins : left ≡ walk (members_of_and set members)) where
  shared-walk : left ≡ walk (λ index. is_some (both (changes index) (joins index)))
  shared-walk =
      begins
      ∙ walk-same (members_of_and set members) (λ index. is_some (both (changes index) (joins index)))
      (λ index low. ap (λ b. b && members index) (has index) ∙ (ap (λ b. is_some (changes index) && b) (mask index low) ∙ sym (some-both (changes index) (joins index))))

  at-index : (index : ℕ) → IsToCome index left → IsSome (changes index) × IsSome (joins index) × (index < 16777216)
  at-index index come =
      let is = walk-members (members_of_and set members) index (subst (IsToCome index) begins come) in
      let parts = and_parts (set index) (members index) is.0 in
      (sym (has index) ∙ parts.0, sym (mask index is.1) ∙ parts.1, is.1)

  -- each index of it has a change and a value
  pub begins-known : HasBoth changes values left
  begins-known index come = let there = at-index index come in (there.0, ap is_some (agree index there.2 there.1) ∙ there.1)

  -- and it has all that the join of both has
  pub begins-all : taken_at changes values left ≡ join_list (λ index. both (changes index) (joins index))
  begins-all =
      values-agree (λ index. both (changes index) (values index)) (λ index. both (changes index) (joins index)) left
      (λ index come. let there = at-index index come in ap (both (changes index)) (agree index there.2 there.1))
      ∙ ap (values_at (λ index. both (changes index) (joins index))) shared-walk

-- ---- a step

module _ {T S : Type 0} (p : ℕ → Bool) (first : ℕ) (rest : List ℕ) (is : walk p ≡ first ∷ rest) (before after : ℕ → Option T) (values : ℕ → Option S) (puts : Puts before first None after) where
  stays : (index : ℕ) → IsToCome index rest → after index ≡ before index
  stays index come = puts.others index (λ here. let less = walk-later p first rest is index come in absurd (omega (arith, here, less)))

  -- the indices after the first still have both
  pub step-known : HasBoth before values (walk p) → HasBoth after values rest
  step-known known index come =
      let there = known index (subst (IsToCome index) (sym is) (inr come)) in
      (ap is_some (stays index come) ∙ there.0, there.1)

  -- the first comes out, and then what is left
  pub step-taken : (change : T) → before first ≡ Some change → (item : S) → values first ≡ Some item → taken_at before values (walk p) ≡ (change, item) ∷ taken_at after values rest
  step-taken change there item value =
      ap (taken_at before values) is
      ∙ (ap (λ o. cons_option o (taken_at before values rest)) (ap (λ c. both c (values first)) there ∙ ap (both (Some change)) value)
      ∙ ap (λ list. (change, item) ∷ list) (values-agree (λ index. both (before index) (values index)) (λ index. both (after index) (values index)) rest (λ index come. ap (λ c. both c (values index)) (sym (stays index come)))))

-- a step that gives an item has less to come
pub goes-on : {S A B : Type 0} (can : S → Type 0) (rest : S → List B) (before after : S) (item : A) (first : B) → can after → rest before ≡ first ∷ rest after → MakesProgress can (item_count rest) before (Some item) after
goes-on can rest before after item first may is =
    let shorter = ap length is in
    record {
      on = λ _. (may, search rules, omega (arith, shorter));
      keeps = may;
      rests = λ _. tt;
    }
