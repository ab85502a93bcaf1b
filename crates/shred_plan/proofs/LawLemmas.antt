-- The laws of plans, from what happens to a stage that takes a system.
use Rattle.std.proofs.Common.{◌≡◌, ℕ, ◌<◌, ◌≤◌, ◌+◌, ◌-◌, Bool, true, false, ◌||◌, zero, suc, List, [], ◌∷◌, ◌++◌, length, get_or, arith, Option, Some, None, refl, sym, ◌∙◌, subst, append_assoc, length-append, append-nil, cond, ◌&&◌}
use Rattle.std.specs.Prelude.{◌==◌, if◌then◌else◌, count_by}
use Rattle.std.specs.List.{All, AllPairs, fold, list_any, position}
use Rattle.std.specs.List.Sorted.{IsPermutation}
use Rattle.std.specs.Option.{option_map, option_map_or}
use Rattle.std.proofs.Math.ListN.{set}
use Rattle.std.proofs.Math.Bool.{or_comm}
use Rattle.std.proofs.lemmas.Bool.{and_parts, false≢true, eqb-true, or_from, or_parts}
use Rattle.std.proofs.lemmas.List.Folds.{list_any-append}
use Rattle.std.proofs.lemmas.List.Quantifiers.{position-Some}
use Rattle.std.proofs.lemmas.List.Sums.{sum_by-cons}
use Rattle.std.proofs.lemmas.Grind.{flat_map-append}
use Rattle.std.proofs.lemmas.List.Sorted.{IsPermutation-refl, IsPermutation-trans, IsPermutation-to_front, IsPermutation-middle, IsPermutation-append_left, IsPermutation-append_right, IsPermutation-sym}
use Rattle.shred_plan.specs.declared.stage.Way.{Way}
use Rattle.shred_plan.specs.declared.stage.Way.TheVariants.{Alone, Behind}
use Rattle.shred_plan.specs.Plan.{Placing, Group, Stage, Added, fence, placing, Planning, conflict, touches, hits, joins, completes, admitted, placed, taken, added, plan, plan_order, rest_after, systems_of}
use Rattle.shred_plan.specs.Places.{HasRoom}
use Rattle.shred_plan.specs.Laws.{systems_added, groups_conflict, GroupsAreApart, GroupsAreShort, EachStandsOnce}
use Rattle.shred_plan.proofs.EachLemmas.{Each, each-all, each-map, each-planned}
use Rattle.shred_plan.proofs.PlaceLemmas.{admitted-room}

-- the edit of the group at a place
abbrev pub longer : {Id : Type 0} → Placing Id → Stage Id → ℕ → Stage Id
longer one stage i = set stage i (get_or stage i [] ++ one ∷ [])

-- at most four systems

abbrev Short : {Id : Type 0} → Stage Id → Type 0
Short stage = Each (λ group. length group ≤ 4) stage

short-new : {Id : Type 0} (one : Placing Id) (stage : Stage Id) → Short stage → Short (stage ++ (one ∷ []) ∷ [])
short-new one [] short = (omega arith, tt)
short-new one (group ∷ stage) short = (short.0, short-new one stage short.1)

short-longer : {Id : Type 0} (one : Placing Id) (stage : Stage Id) (i : ℕ) → i < length stage → length (get_or stage i []) < 4 → Short stage → Short (longer one stage i)
short-longer one [] i h room short = absurd (omega arith)
short-longer one (group ∷ stage) zero h room short = (rw (length-append group (one ∷ [])) (omega arith), short.1)
short-longer one (group ∷ stage) (suc i) h room short = (short.0, short-longer one stage i (omega arith) room short.1)

short-taken : {Id : Type 0} (one : Placing Id) (stage : Stage Id) (way : Way) → HasRoom stage way → Short stage → Short (taken one stage way)
short-taken one stage Alone room short = short-new one stage short
short-taken one stage (Behind i) room short = short-longer one stage i room.0 room.1 short

pub groups-short : {Id : Type 0} (same : Id → Id → Bool) (list : List (Added Id)) → GroupsAreShort (plan same list)
groups-short same list =
    each-all _ (plan same list)
    (each-map Short (λ stage. All (λ group. length group ≤ 4) stage) (plan same list) (λ stage short. each-all _ stage short)
    (each-planned same Short (λ one. (omega arith, tt)) (λ one rest stage way short is. short-taken one stage way (admitted-room same one rest stage way is) short) list))

-- each system once

systems-longer : {Id : Type 0} (one : Placing Id) (stage : Stage Id) (i : ℕ) → i < length stage → IsPermutation (systems_of (longer one stage i)) (one ∷ systems_of stage)
systems-longer one [] i h = absurd (omega arith)
systems-longer one (group ∷ stage) zero h =
    let e : (group ++ one ∷ []) ++ systems_of stage ≡ group ++ one ∷ systems_of stage = append_assoc group (one ∷ []) (systems_of stage) in
    rw e (IsPermutation-middle group one (systems_of stage))
systems-longer one (group ∷ stage) (suc i) h =
    IsPermutation-trans _ _ _
    (IsPermutation-append_right group _ _ (systems-longer one stage i (omega arith)))
    (IsPermutation-middle group one (systems_of stage))

pub systems-taken : {Id : Type 0} (one : Placing Id) (stage : Stage Id) (way : Way) → HasRoom stage way → IsPermutation (systems_of (taken one stage way)) (one ∷ systems_of stage)
systems-taken one stage Alone room =
    let e : systems_of (stage ++ (one ∷ []) ∷ []) ≡ systems_of stage ++ one ∷ [] = flat_map-append (λ group. group) stage ((one ∷ []) ∷ []) in
    rw e (IsPermutation-to_front (systems_of stage) one)
systems-taken one stage (Behind i) room = systems-longer one stage i room.0

module _ {Id : Type 0} (same : Id → Id → Bool) where
  pub systems-placed : (stages : List (Stage Id)) (closed : ℕ) (one : Placing Id) (rest : List ℕ) → IsPermutation (plan_order (placed same closed one rest stages)) (one ∷ plan_order stages)
  systems-placed [] closed one rest = IsPermutation-refl (one ∷ [])
  systems-placed (stage ∷ later) closed one rest =
      by (closed == 0) (admitted same one rest stage) refl (systems-placed later (closed - 1) one (rest_after rest (systems_of stage)))
    where
      passed : IsPermutation (plan_order (placed same (closed - 1) one (rest_after rest (systems_of stage)) later)) (one ∷ plan_order later)
          → IsPermutation (systems_of stage ++ plan_order (placed same (closed - 1) one (rest_after rest (systems_of stage)) later)) (one ∷ (systems_of stage ++ plan_order later))
      passed once = IsPermutation-trans _ _ _ (IsPermutation-append_right (systems_of stage) _ _ once) (IsPermutation-middle (systems_of stage) one (plan_order later))

      by : (b : Bool) (way : Option Way) → admitted same one rest stage ≡ way
          → IsPermutation (plan_order (placed same (closed - 1) one (rest_after rest (systems_of stage)) later)) (one ∷ plan_order later)
          → IsPermutation (plan_order (option_map_or (λ w. taken one stage w ∷ later) (if b then way else None) (stage ∷ placed same (closed - 1) one (rest_after rest (systems_of stage)) later))) (one ∷ (systems_of stage ++ plan_order later))
      by true (Some way) is once = IsPermutation-append_left (plan_order later) _ (one ∷ systems_of stage) (systems-taken one stage way (admitted-room same one rest stage way is))
      by true None is once = passed once
      by false way is once = passed once

  systems-folded : (list : List (Added Id)) (planning : Planning Id) → IsPermutation (plan_order (fold (added same) planning list).stages) (plan_order planning.stages ++ systems_added list)
  systems-folded [] planning = rw (append-nil (plan_order planning.stages)) (IsPermutation-refl (plan_order planning.stages))
  systems-folded (fence ∷ later) planning = systems-folded later (added same planning fence)
  systems-folded (placing one ∷ later) planning =
      IsPermutation-trans _ _ _ (systems-folded later (added same planning (placing one)))
      (IsPermutation-trans _ _ _
      (IsPermutation-append_left (systems_added later) _ (one ∷ plan_order planning.stages) (systems-placed planning.stages planning.first one one.after))
      (IsPermutation-sym _ _ (IsPermutation-middle (plan_order planning.stages) one (systems_added later))))

  pub stands-once : (list : List (Added Id)) → EachStandsOnce (systems_added list) (plan same list)
  stands-once list = systems-folded list (record { first = 0; stages = [] })

-- groups of a stage are apart

pub count-none : {A : Type 0} (p : A → Bool) (xs : List A) → count_by p xs ≡ 0 → list_any p xs ≡ false
count-none p [] e = refl
count-none p (x ∷ xs) e = by (p x) (sym (sum_by-cons (λ y. cond (p y) 1 0) x xs) ∙ e) (count-none p xs)
  where
    by : (b : Bool) → cond b 1 0 + count_by p xs ≡ 0 → (count_by p xs ≡ 0 → list_any p xs ≡ false) → (b || list_any p xs) ≡ false
    by true q later = absurd (omega arith)
    by false q later = later (omega arith)

pub none-at : {A : Type 0} (p : A → Bool) (xs : List A) (i : ℕ) (d : A) → i < length xs → list_any p xs ≡ false → p (get_or xs i d) ≡ false
none-at p [] i d h e = absurd (omega arith)
none-at p (x ∷ xs) zero d h e = (or_parts (p x) (list_any p xs) e).0
none-at p (x ∷ xs) (suc i) d h e = none-at p xs i d (omega arith) ((or_parts (p x) (list_any p xs) e).1)

-- the first group that passes a test, as a way
pub behind-found : {Id : Type 0} (test : Group Id → Bool) (stage : Stage Id) (way : Way) → option_map Behind (position test stage) ≡ Some way
    → (i : ℕ) × (way ≡ Behind i) × (i < length stage) × (test (get_or stage i []) ≡ true)
behind-found {Id} test stage way e = by (position test stage) refl e
  where
    by : (o : Option ℕ) → position test stage ≡ o → option_map Behind o ≡ Some way → (i : ℕ) × (way ≡ Behind i) × (i < length stage) × (test (get_or stage i []) ≡ true)
    by None found q = cc
    by (Some i) found q = let f = position-Some test stage i [] found in (i, (cc), f.0, f.1)

module _ {Id : Type 0} (same : Id → Id → Bool) where
  abbrev Apart : Stage Id → Type 0
  Apart [] = Unit {0}
  Apart (group ∷ stage) = (list_any (groups_conflict same group) stage ≡ false) × Apart stage

  -- a system misses all groups but the one at a place
  abbrev OthersMiss : Placing Id → Stage Id → ℕ → Type 0
  OthersMiss one [] i = Unit {0}
  OthersMiss one (group ∷ stage) zero = list_any (hits same one) stage ≡ false
  OthersMiss one (group ∷ stage) (suc i) = (hits same one group ≡ false) × OthersMiss one stage i

  module _ (one : Placing Id) where
    missed : (group : Group Id) → hits same one group ≡ false → groups_conflict same group (one ∷ []) ≡ false
    missed [] e = refl
    missed (x ∷ group) e =
        let p = or_parts (conflict same one x) (hits same one group) e in
        or_from _ _ (or_from _ _ (or_comm (touches same x one) (touches same one x) ∙ p.0) refl) (missed group p.1)

    apart-longer : (group other : Group Id) → groups_conflict same group other ≡ false → hits same one group ≡ false → groups_conflict same group (other ++ one ∷ []) ≡ false
    apart-longer [] other e m = refl
    apart-longer (x ∷ group) other e m =
        let p = or_parts (hits same x other) (groups_conflict same group other) e in
        let q = or_parts (conflict same one x) (hits same one group) m in
        let swapped : conflict same x one ≡ false = or_comm (touches same x one) (touches same one x) ∙ q.0 in
        or_from _ _ (list_any-append (conflict same x) other (one ∷ []) ∙ or_from _ _ p.0 (or_from _ _ swapped refl)) (apart-longer group other p.1 q.1)

    longer-apart : (group other : Group Id) → groups_conflict same group other ≡ false → hits same one other ≡ false → groups_conflict same (group ++ one ∷ []) other ≡ false
    longer-apart group other e m = list_any-append (λ x. hits same x other) group (one ∷ []) ∙ or_from _ _ e (or_from _ _ m refl)

    all-longer : (group : Group Id) (stage : Stage Id) → list_any (groups_conflict same group) stage ≡ false → list_any (hits same one) stage ≡ false → list_any (groups_conflict same (group ++ one ∷ [])) stage ≡ false
    all-longer group [] e m = refl
    all-longer group (other ∷ stage) e m =
        let p = or_parts (groups_conflict same group other) (list_any (groups_conflict same group) stage) e in
        let q = or_parts (hits same one other) (list_any (hits same one) stage) m in
        or_from _ _ (longer-apart group other p.0 q.0) (all-longer group stage p.1 q.1)

    from-longer : (group : Group Id) (stage : Stage Id) (i : ℕ) → i < length stage → list_any (groups_conflict same group) stage ≡ false → hits same one group ≡ false → list_any (groups_conflict same group) (longer one stage i) ≡ false
    from-longer group [] i h e m = absurd (omega arith)
    from-longer group (other ∷ stage) zero h e m =
        let p = or_parts (groups_conflict same group other) (list_any (groups_conflict same group) stage) e in
        or_from _ _ (apart-longer group other p.0 m) p.1
    from-longer group (other ∷ stage) (suc i) h e m =
        let p = or_parts (groups_conflict same group other) (list_any (groups_conflict same group) stage) e in
        or_from _ _ p.0 (from-longer group stage i (omega arith) p.1 m)

    stage-longer : (stage : Stage Id) (i : ℕ) → i < length stage → Apart stage → OthersMiss one stage i → Apart (longer one stage i)
    stage-longer [] i h apart miss = absurd (omega arith)
    stage-longer (group ∷ stage) zero h apart miss = (all-longer group stage apart.0 miss, apart.1)
    stage-longer (group ∷ stage) (suc i) h apart miss = (from-longer group stage i (omega arith) apart.0 miss.0, stage-longer stage i (omega arith) apart.1 miss.1)

    stage-new : (stage : Stage Id) → Apart stage → list_any (hits same one) stage ≡ false → Apart (stage ++ (one ∷ []) ∷ [])
    stage-new [] apart miss = (refl, tt)
    stage-new (group ∷ stage) apart miss =
        let p = or_parts (hits same one group) (list_any (hits same one) stage) miss in
        (list_any-append (groups_conflict same group) stage ((one ∷ []) ∷ []) ∙ or_from _ _ apart.0 (or_from _ _ (missed group p.0) refl), stage-new stage apart.1 p.1)

    none-hit : (stage : Stage Id) (i : ℕ) → list_any (hits same one) stage ≡ false → OthersMiss one stage i
    none-hit [] i miss = tt
    none-hit (group ∷ stage) zero miss = (or_parts (hits same one group) (list_any (hits same one) stage) miss).1
    none-hit (group ∷ stage) (suc i) miss = let p = or_parts (hits same one group) (list_any (hits same one) stage) miss in (p.0, none-hit stage i p.1)

    not-there : (stage : Stage Id) (i : ℕ) → i < length stage → list_any (hits same one) stage ≡ false → hits same one (get_or stage i []) ≡ true → ⊥
    not-there [] i h miss hit = omega arith
    not-there (group ∷ stage) zero h miss hit = let p = or_parts (hits same one group) (list_any (hits same one) stage) miss in false≢true (sym p.0 ∙ hit)
    not-there (group ∷ stage) (suc i) h miss hit = let p = or_parts (hits same one group) (list_any (hits same one) stage) miss in not-there stage i (omega arith) p.1 hit

    single-hit : (stage : Stage Id) (i : ℕ) → i < length stage → count_by (hits same one) stage ≡ 1 → hits same one (get_or stage i []) ≡ true → OthersMiss one stage i
    single-hit [] i h single hit = tt
    single-hit (group ∷ stage) zero h single hit =
        let counted : count_by (hits same one) stage ≡ 0 = by (hits same one group) (sym (sum_by-cons (λ y. cond (hits same one y) 1 0) group stage) ∙ single) hit in
        count-none (hits same one) stage counted
      where
        by : (b : Bool) → cond b 1 0 + count_by (hits same one) stage ≡ 1 → b ≡ true → count_by (hits same one) stage ≡ 0
        by true q r = omega arith
        by false q r = cc
    single-hit (group ∷ stage) (suc i) h single hit = by (hits same one group) (sym (sum_by-cons (λ y. cond (hits same one y) 1 0) group stage) ∙ single) (λ counted. single-hit stage i (omega arith) counted hit)
      where
        by : (b : Bool) → cond b 1 0 + count_by (hits same one) stage ≡ 1 → (count_by (hits same one) stage ≡ 1 → OthersMiss one stage i) → (b ≡ false) × OthersMiss one stage i
        by true q later = absurd (not-there stage i (omega arith) (count-none (hits same one) stage (omega arith)) hit)
        by false q later = (refl, later (omega arith))

    apart-taken : (rest : List ℕ) (stage : Stage Id) (way : Way) → Apart stage → admitted same one rest stage ≡ Some way → Apart (taken one stage way)
    apart-taken rest stage way apart e =
        by (count_by (hits same one) stage == 0) (length rest == 0) (count_by (hits same one) stage == 1) refl refl e
      where
        P : Way → Type 0
        P w = Apart (taken one stage w)

        found : (test : Group Id → Bool) → ((i : ℕ) → i < length stage → test (get_or stage i []) ≡ true → OthersMiss one stage i) → option_map Behind (position test stage) ≡ Some way → P way
        found test miss q =
            let f = behind-found test stage way q in
            subst P (sym f.1) (stage-longer stage f.0 f.2 apart (miss f.0 f.2 f.3))

        alone : (w : Way) → Alone ≡ w → list_any (hits same one) stage ≡ false → P w
        alone Alone q miss = stage-new stage apart miss
        alone (Behind i) q miss = cc

        by : (none nothing single : Bool) → (count_by (hits same one) stage == 0) ≡ none → (count_by (hits same one) stage == 1) ≡ single
            → (if none
            then (if nothing then Some Alone else option_map Behind (position (λ group. completes rest group && joins one stage group) stage))
            else (if single && nothing then option_map Behind (position (λ group. hits same one group && joins one stage group) stage) else None)) ≡ Some way
            → P way
        by true true single zero_is one_is q = alone way (cc) (count-none (hits same one) stage (eqb-true _ _ zero_is))
        by true false single zero_is one_is q = found _ (λ i h t. none-hit stage i (count-none (hits same one) stage (eqb-true _ _ zero_is))) q
        by false true true zero_is one_is q = found _ (λ i h t. single-hit stage i h (eqb-true _ _ one_is) ((and_parts _ _ t).0)) q
        by false true false zero_is one_is q = cc
        by false false true zero_is one_is q = cc
        by false false false zero_is one_is q = cc

  apart-pairs : (stage : Stage Id) → Apart stage → AllPairs (λ group other. groups_conflict same group other ≡ false) stage
  apart-pairs [] apart i j d before h = absurd (omega arith)
  apart-pairs (group ∷ stage) apart zero zero d before h = absurd (omega arith)
  apart-pairs (group ∷ stage) apart zero (suc j) d before h = none-at (groups_conflict same group) stage j d (omega arith) apart.0
  apart-pairs (group ∷ stage) apart (suc i) zero d before h = absurd (omega arith)
  apart-pairs (group ∷ stage) apart (suc i) (suc j) d before h = apart-pairs stage apart.1 i j d (omega arith) (omega arith)

  pub groups-apart : (list : List (Added Id)) → GroupsAreApart same (plan same list)
  groups-apart list =
      each-all _ (plan same list)
      (each-map Apart (λ stage. AllPairs (λ group other. groups_conflict same group other ≡ false) stage) (plan same list) apart-pairs
      (each-planned same Apart (λ one. (refl, tt)) (λ one rest stage way apart is. apart-taken one rest stage way apart is) list))
