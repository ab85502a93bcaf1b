-- What two planners are told side by side, and plans that have one shape.
use Rattle.std.specs.Prelude.{◌≡◌, Bool, List, [], ◌∷◌}
use Rattle.std.specs.List.{All, AllPairs, AllZip, Contains}
use Rattle.shred_plan.specs.Plan.{Placing, Stage, Added, fence, placing, conflict}

-- what is told to two planners at once: a fence to both, or to each its own of two partners
pub data Beside (I J : Type 0) : Type 0 where
  fences : Beside I J
  both : Placing I → Placing J → Beside I J

-- what the one planner is told, and what the other
abbrev pub to_one : {I J : Type 0} → Beside I J → Added I
to_one fences = fence
to_one (both one other) = placing one

abbrev pub to_other : {I J : Type 0} → Beside I J → Added J
to_other fences = fence
to_other (both one other) = placing other

-- the partners of a list, without the fences
abbrev pub partners_of : {I J : Type 0} → List (Beside I J) → List (Placing I × Placing J)
partners_of [] = []
partners_of (fences ∷ later) = partners_of later
partners_of (both one other ∷ later) = (one, other) ∷ partners_of later

-- two partners have one number, come after the same numbers, and take as long
pub record AreNumberedAlike {I J : Type 0} (pair : Placing I × Placing J) : Type 0 where
  pub number : pair.1.number ≡ pair.0.number
  pub after : pair.1.after ≡ pair.0.after
  pub time : pair.1.time ≡ pair.0.time

module _ {I J : Type 0} (same_one : I → I → Bool) (same_other : J → J → Bool) where
  -- the later of two pairs of partners conflicts with the earlier in the one plan just where it does in the other
  abbrev pub ConflictAlike : (earlier later : Placing I × Placing J) → Type 0
  ConflictAlike earlier later = conflict same_one later.0 earlier.0 ≡ conflict same_other later.1 earlier.1

  -- two planners are told alike
  pub record AreAlike (list : List (Beside I J)) : Type 0 where
    pub numbered : All AreNumberedAlike (partners_of list)
    pub conflicts : AllPairs ConflictAlike (partners_of list)

-- two systems are partners of a list
abbrev pub ArePartners : {I J : Type 0} → List (Beside I J) → Placing I → Placing J → Type 0
ArePartners list one other = Contains (partners_of list) (one, other)

-- two plans have one shape: stage for stage and group for group the partner of each system stands at the system's place
abbrev pub HaveOneShape : {I J : Type 0} → List (Beside I J) → List (Stage I) → List (Stage J) → Type 0
HaveOneShape list stages others = AllZip (AllZip (AllZip (ArePartners list))) stages others
