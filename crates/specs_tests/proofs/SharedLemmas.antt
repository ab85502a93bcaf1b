-- Walks over the indices that two storages share.
use Rattle.std.proofs.Common.{◌≡◌, ℕ, ◌<◌, List, ◌∷◌, length, Bool, true, false, ◌&&◌, Option, Some, None, is_some, IsSome, refl, sym, ap, subst, ◌∙◌, arith}
use Rattle.std.proofs.lemmas.Bool.{and_parts, true≢false}
use Rattle.hibitset_sets.specs.BitSet.{SetWithRoom, has_member}
use Rattle.hibitset_sets.specs.Walk.{walk}
use Rattle.hibitset_sets.proofs.CallerLemmas.{walk-same}
use Rattle.specs_layouts.specs.Masked.{Agrees}
use Rattle.specs_layouts.specs.ToCome.{IsToCome}
use Rattle.specs_join.specs.Cursor.{shared}
use Rattle.specs_join.proofs.CallerLemmas.{walk-members}

-- what is there
pub there-is : {T : Type 0} (part : Option T) → IsSome part → (value : T) × (part ≡ Some value)
there-is None there = absurd (true≢false (sym there))
there-is (Some value) there = (value, refl)

pub shorter : (left rest : List ℕ) (index : ℕ) → left ≡ index ∷ rest → length rest < length left
shorter left rest index is = subst (λ l. length rest < length l) (sym is) (omega arith)

-- what is said of two sets is said of equal ones
pub of-equals : (P : SetWithRoom → SetWithRoom → Type 0) (one one' other other' : SetWithRoom) → one ≡ one' → other ≡ other' → P one other → P one' other'
of-equals P one one' other other' same same' is = subst (λ m. P m other') same (subst (P one) same' is)

and-turned : (one other : Bool) → (one && other) ≡ (other && one)
and-turned true true = refl
and-turned true false = refl
and-turned false true = refl
and-turned false false = refl

module _ {T S : Type 0} (mask mask' : SetWithRoom) (parts : ℕ → Option T) (parts' : ℕ → Option S) (agrees : Agrees mask parts) (agrees' : Agrees mask' parts') (left : List ℕ) (begins : left ≡ walk (shared has_member mask mask')) where
  -- the walk is that over the one mask and the other's parts
  pub begins-one : left ≡ walk (λ index. has_member mask index && is_some (parts' index))
  begins-one = begins ∙ walk-same (shared has_member mask mask') (λ index. has_member mask index && is_some (parts' index)) (λ index low. ap (λ b. has_member mask index && b) (agrees' index))

  -- and that over the other mask and the one's parts
  pub begins-other : left ≡ walk (λ index. has_member mask' index && is_some (parts index))
  begins-other =
      begins
      ∙ walk-same (shared has_member mask mask') (λ index. has_member mask' index && is_some (parts index))
      (λ index low. and-turned (has_member mask index) (has_member mask' index) ∙ ap (λ b. has_member mask' index && b) (agrees index))

  -- each index to come has both
  pub both-come : (index : ℕ) → IsToCome index left → IsSome (parts index) × IsSome (parts' index)
  both-come index come =
      let both = and_parts (has_member mask index) (has_member mask' index) (walk-members (shared has_member mask mask') index (subst (IsToCome index) begins come)).0 in
      (sym (agrees index) ∙ both.0, sym (agrees' index) ∙ both.1)
