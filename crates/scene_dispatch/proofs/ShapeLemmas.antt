-- Planners that are told alike make plans of one shape.
use Rattle.std.proofs.Common.{◌≡◌, zero, suc, Bool, List, [], ◌∷◌, length, map, refl, ap, sym, ◌∙◌, subst, arith}
use Rattle.std.specs.List.{All, AllPairs, AllZip, fold}
use Rattle.std.proofs.lemmas.List.Elements.{All-head, All-tail, All-contains_itself}
use Rattle.shred_plan.specs.Plan.{Placing, Stage, Planning, added, placed, plan, plan_order, systems_of, order}
use Rattle.scene_dispatch.specs.Alike.{Beside, fences, both, to_one, to_other, partners_of, AreNumberedAlike, ConflictAlike, AreAlike, ArePartners, HaveOneShape}
use Rattle.scene_dispatch.proofs.ZipLemmas.{zip-weaker, zip-append, zip-length}
use Rattle.scene_dispatch.proofs.AlikeListLemmas.{ByGroup, ByStage, zip-systems, IsKnown, placed-zip}

-- what holds of the systems of two plans holds of them in their order
pub zip-order : {I J : Type 0} (R : Placing I → Placing J → Type 0) (stages : List (Stage I)) (others : List (Stage J)) → ByStage R stages others → AllZip R (plan_order stages) (plan_order others)
zip-order R [] [] zipped = tt
zip-order R [] (partners ∷ others) zipped = absurd zipped
zip-order R (stage ∷ stages) [] zipped = absurd zipped
zip-order R (stage ∷ stages) (partners ∷ others) zipped = zip-append R (systems_of stage) (plan_order stages) (systems_of partners) (plan_order others) (zip-systems R stage partners zipped.0) (zip-order R stages others zipped.1)

-- what is weaker holds of the systems of two plans
pub weaker-plan : {I J : Type 0} (R S : Placing I → Placing J → Type 0) → ((one : Placing I) (other : Placing J) → R one other → S one other)
    → (stages : List (Stage I)) (others : List (Stage J)) → ByStage R stages others → ByStage S stages others
weaker-plan R S weaker = zip-weaker (ByGroup R) (ByGroup S) (zip-weaker (AllZip R) (AllZip S) (zip-weaker R S weaker))

-- the numbers of partners are the same
zip-numbers : {I J : Type 0} (R : Placing I → Placing J → Type 0) → ((one : Placing I) (other : Placing J) → R one other → other.number ≡ one.number)
    → (systems : List (Placing I)) (others : List (Placing J)) → AllZip R systems others → map (λ system. system.number) others ≡ map (λ system. system.number) systems
zip-numbers R known [] [] zipped = refl
zip-numbers R known [] (other ∷ others) zipped = absurd zipped
zip-numbers R known (one ∷ systems) [] zipped = absurd zipped
zip-numbers R known (one ∷ systems) (other ∷ others) zipped =
    ap (λ number. number ∷ map (λ system. system.number) others) (known one other zipped.0)
    ∙ ap (λ numbers. one.number ∷ numbers) (zip-numbers R known systems others zipped.1)

-- a system that is placed, and its partner: each pair that is told later conflicts with them alike
record Stands {I J : Type 0} (same_one : I → I → Bool) (same_other : J → J → Bool) (Inside : Placing I → Placing J → Type 0) (later : List (Placing I × Placing J)) (one : Placing I) (other : Placing J) : Type 0 where
  inside : Inside one other
  numbered : AreNumberedAlike (one, other)
  conflicts : All (ConflictAlike same_one same_other (one, other)) later

module _ {I J : Type 0} (same_one : I → I → Bool) (same_other : J → J → Bool) (Inside : Placing I → Placing J → Type 0) where
  -- that of one system and its partner
  abbrev StandsBefore : List (Placing I × Placing J) → Placing I → Placing J → Type 0
  StandsBefore later one other = Stands same_one same_other Inside later one other

  -- one pair less is told later
  fewer : (pair : Placing I × Placing J) (later : List (Placing I × Placing J)) (one : Placing I) (other : Placing J) → StandsBefore (pair ∷ later) one other → StandsBefore later one other
  fewer pair later one other stands = record { inside = stands.inside; numbered = stands.numbered; conflicts = All-tail (ConflictAlike same_one same_other (one, other)) pair later stands.conflicts }

  -- what is known where the next pair is placed
  known-next : (next : Placing I) (partner : Placing J) (later : List (Placing I × Placing J)) (one : Placing I) (other : Placing J) → StandsBefore ((next, partner) ∷ later) one other → IsKnown same_one same_other next partner one other
  known-next next partner later one other stands = record {
    numbered = stands.numbered;
    conflicts = All-head (ConflictAlike same_one same_other (one, other)) (next, partner) later stands.conflicts;
  }

  -- whatever is told, each system stands where its partner does
  folded : (list : List (Beside I J)) → All (λ pair. Inside pair.0 pair.1) (partners_of list) → All AreNumberedAlike (partners_of list) → AllPairs (ConflictAlike same_one same_other) (partners_of list)
      → (one : Planning I) (other : Planning J) → one.first ≡ other.first → ByStage (StandsBefore (partners_of list)) one.stages other.stages
      → ByStage (StandsBefore []) (fold (added same_one) one (map to_one list)).stages (fold (added same_other) other (map to_other list)).stages
  folded [] inside numbered conflicts one other first stand = stand
  folded (fences ∷ list) inside numbered conflicts one other first stand =
      folded list inside numbered conflicts (record { first = length one.stages; stages = one.stages }) (record { first = length other.stages; stages = other.stages })
      (zip-length (ByGroup (StandsBefore (partners_of list))) one.stages other.stages stand) stand
  folded (both next partner ∷ list) inside numbered conflicts one other first stand =
      let later : List (Placing I × Placing J) = partners_of list in
      let new : AreNumberedAlike (next, partner) = All-head AreNumberedAlike (next, partner) later numbered in
      folded list
      (All-tail (λ pair. Inside pair.0 pair.1) (next, partner) later inside)
      (All-tail AreNumberedAlike (next, partner) later numbered)
      (λ i j d lt within. conflicts (suc i) (suc j) d (omega arith) (omega arith))
      (record { first = one.first; stages = placed same_one one.first next next.after one.stages }) (record { first = other.first; stages = placed same_other other.first partner partner.after other.stages })
      first
      (subst (λ closed. ByStage (StandsBefore later) (placed same_one one.first next next.after one.stages) (placed same_other closed partner partner.after other.stages)) first
      (placed-zip same_one same_other (StandsBefore later) next partner new.time
      (record { inside = All-head (λ pair. Inside pair.0 pair.1) (next, partner) later inside; numbered = new; conflicts = λ k d within. conflicts zero (suc k) d (omega arith) (omega arith) })
      one.stages other.stages one.first next.after partner.after (sym new.after)
      (weaker-plan (StandsBefore ((next, partner) ∷ later)) (IsKnown same_one same_other next partner) (known-next next partner later) one.stages other.stages stand)
      (weaker-plan (StandsBefore ((next, partner) ∷ later)) (StandsBefore later) (fewer (next, partner) later) one.stages other.stages stand)))

module _ {I J : Type 0} (same_one : I → I → Bool) (same_other : J → J → Bool) (list : List (Beside I J)) (alike : AreAlike same_one same_other list) where
  -- each system of the one plan stands where its partner does, and they are numbered alike
  planned : ByStage (Stands same_one same_other (ArePartners list) []) (plan same_one (map to_one list)) (plan same_other (map to_other list))
  planned =
      folded same_one same_other (ArePartners list) list (All-contains_itself (partners_of list)) alike.numbered alike.conflicts
      (record { first = 0; stages = [] }) (record { first = 0; stages = [] }) refl tt

  -- so the plans have one shape
  pub one-shape : HaveOneShape list (plan same_one (map to_one list)) (plan same_other (map to_other list))
  one-shape = weaker-plan (Stands same_one same_other (ArePartners list) []) (ArePartners list) (λ one other stands. stands.inside) (plan same_one (map to_one list)) (plan same_other (map to_other list)) planned

  -- and the numbers one order
  pub one-order : order same_other (map to_other list) ≡ order same_one (map to_one list)
  one-order =
      zip-numbers (Stands same_one same_other (ArePartners list) []) (λ one other stands. stands.numbered.number) _ _
      (zip-order (Stands same_one same_other (ArePartners list) []) (plan same_one (map to_one list)) (plan same_other (map to_other list)) planned)
