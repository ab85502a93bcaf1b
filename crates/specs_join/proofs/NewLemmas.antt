-- A join that begins: its walk has the indices with a value.
use Rattle.std.proofs.Common.{◌≡◌, ℕ, zero, suc, ◌+◌, ◌<◌, ltb, List, [], ◌∷◌, Bool, true, false, ◌&&◌, cond, filter, Option, Some, None, is_some, IsSome, inl, inr, ◌⊎◌, refl, sym, ap, subst, ◌∙◌, arith}
use Rattle.std.proofs.lemmas.Bool.{lt-ltb, true≢false}
use Rattle.std.specs.List.{range_with_len, cons_option}
use Rattle.hibitset_sets.specs.Walk.{walk}
use Rattle.hibitset_sets.proofs.CallerLemmas.{walk-same}
use Rattle.specs_layouts.specs.ToCome.{IsToCome}
use Rattle.specs_join.specs.Joins.{values_at, join_list}
use Rattle.specs_join.specs.Joining.{IsJoining}

-- an index in a list that is longer where a test passes
in-either : (p : ℕ → Bool) (first index : ℕ) (rest : List ℕ) (test : Bool) → p first ≡ test → IsToCome index (cond test (first ∷ rest) rest) → ((first ≡ index) × (p first ≡ true)) ⊎ IsToCome index rest
in-either p first index rest true is (inl here) = inl (here, is)
in-either p first index rest true is (inr there) = inr there
in-either p first index rest false is there = inr there

filter-members : (n a : ℕ) (p : ℕ → Bool) (index : ℕ) → IsToCome index (filter p (range_with_len a n)) → (p index ≡ true) × (index < a + n)
filter-members zero a p index come = absurd come
filter-members (suc n) a p index come = elim (in-either p a index (filter p (range_with_len (a + 1) n)) (p a) refl come) [
  | inl here ↦ (ap p (sym here.0) ∙ here.1, omega (arith, here.0))
  | inr there ↦ let rest = filter-members n (a + 1) p index there in (rest.0, omega (arith, rest.1))
]

below : (index count : ℕ) → index < 0 + count → index < count
below index count within = omega (arith, within)

members-of : (p : ℕ → Bool) (count : ℕ) (indices : List ℕ) → indices ≡ filter p (range_with_len 0 count) → (index : ℕ) → IsToCome index indices → (p index ≡ true) × (index < count)
members-of p count indices same index come =
    let h = filter-members count 0 p index (subst (IsToCome index) same come) in
    (h.0, below index count h.1)

pub walk-is : (p : ℕ → Bool) → walk p ≡ filter p (range_with_len 0 16777216)
unfolding walk
walk-is p = refl

-- what a walk gives is a member
pub walk-members : (p : ℕ → Bool) (index : ℕ) → IsToCome index (walk p) → (p index ≡ true) × (index < 16777216)
walk-members p index come = members-of p 16777216 (walk p) (walk-is p) index come

-- two look-ups that agree at the indices of a list have the same values there
pub values-agree : {S : Type 0} (one other : ℕ → Option S) (indices : List ℕ) → ((index : ℕ) → IsToCome index indices → one index ≡ other index) → values_at one indices ≡ values_at other indices
values-agree one other [] same = refl
values-agree one other (first ∷ rest) same =
    ap (λ o. cons_option o (values_at one rest)) (same first (inl refl))
    ∙ ap (cons_option (other first)) (values-agree one other rest (λ index come. same index (inr come)))

nothing-there : {S : Type 0} (value : Option S) → is_some value ≡ false → None ≡ value
nothing-there None is = refl
nothing-there (Some value) is = absurd (true≢false is)

module _ {S : Type 0} (members : ℕ → Bool) (joins value_at : ℕ → Option S) (left : List ℕ) (mask : (index : ℕ) → index < 16777216 → members index ≡ is_some (joins index)) (values : (index : ℕ) → index < 16777216 → IsSome (joins index) → value_at index ≡ joins index) (begins : left ≡ walk members) where
  left-is : left ≡ walk (λ index. is_some (joins index))
  left-is = begins ∙ walk-same members (λ index. is_some (joins index)) mask

  has-value : (index : ℕ) → IsToCome index left → IsSome (joins index) × (index < 16777216)
  has-value index come = walk-members (λ i. is_some (joins i)) index (subst (IsToCome index) left-is come)

  same-value : (index : ℕ) → IsToCome index left → value_at index ≡ joins index
  same-value index come = let has = has-value index come in values index has.1 has.0

  pub begun-known : (index : ℕ) → IsToCome index left → IsSome (value_at index)
  begun-known index come = ap is_some (same-value index come) ∙ (has-value index come).0

  pub begun-items : values_at value_at left ≡ join_list joins
  begun-items = values-agree value_at joins left same-value ∙ ap (values_at joins) left-is

  pub begun-complete : (index : ℕ) → index < 16777216 → members index ≡ true → IsSome (value_at index)
  begun-complete index low is = let has = sym (mask index low) ∙ is in ap is_some (values index low has) ∙ has

  pub begun-joining : IsJoining members value_at left
  begun-joining = record { known = begun-known; complete = begun-complete }

  found-where : (index : ℕ) → index < 16777216 → (is : Bool) → members index ≡ is → cond is (value_at index) None ≡ joins index
  found-where index low true is = values index low (sym (mask index low) ∙ is)
  found-where index low false is = nothing-there (joins index) (sym (mask index low) ∙ is)

  pub begun-found : (index : ℕ) → index < 16777216 → cond (ltb index 16777216 && members index) (value_at index) None ≡ joins index
  begun-found index low = ap (λ b. cond (b && members index) (value_at index) None) (lt-ltb index 16777216 low) ∙ found-where index low (members index) refl
