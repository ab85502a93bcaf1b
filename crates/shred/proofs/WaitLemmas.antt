-- Systems that come after others by their names run later than they.
use Rattle.std.proofs.Common.{◌≡◌, inl, inr, ℕ, zero, suc, Bool, true, false, ◌||◌, List, [], ◌∷◌, ◌++◌, length, Option, Some, None, refl, ap, sym, ◌∙◌, subst, arith}
use Rattle.std.specs.Prelude.{◌⊎◌, ◌==◌, ◌+◌, if◌then◌else◌, is_none}
use Rattle.std.specs.List.{Contains, cons_option}
use Rattle.std.specs.Str.{bytes_eq}
use Rattle.std.proofs.lemmas.Option.{none-some}
use Rattle.std.proofs.lemmas.Bool.{false≢true, or_right}
use Rattle.std.proofs.lemmas.Bool.Decides.{Decides-eqb}
use Rattle.std.proofs.lemmas.List.Sorted.{IsPermutation-sym, Contains-permutation}
use Rattle.shred_world.specs.declared.resource_id.ResourceId.{ResourceId}
use Rattle.shred_plan.specs.Plan.{Placing, Group, Stage, Planning, plan, systems_of, plan_order}
use Rattle.shred_plan.specs.Laws.{has, numbers_of, GroupWaits, StageWaits, StagesWait, systems_added}
use Rattle.shred_plan.proofs.CallerLemmas.{stands-once}
use Rattle.shred_stages.specs.Orders.{IsIn}
use Rattle.shred_stages.proofs.CallerLemmas.{contains-in, in-contains, planned-more, planned-fence, planned-start}
use Rattle.shred.specs.Names.{Named, number_under, numbers_under, lacks_one, with_name}
use Rattle.shred.specs.Building.{Building, Declared, nothing_built, refusal}
use Rattle.shred.specs.Histories.{Asked, system, barrier, with_asked, built_from, told, IsPlannedIn}
use Rattle.shred.specs.Waits.{StandsFirst, StandsFirstInOne, RunsEarlier}
use Rattle.shred.proofs.HistoryLemmas.{planned, named-wait, none-unknown}

-- numbers in lists

has-first : (k n : ℕ) (rest : Bool) → k ≡ n → ((k == n) || rest) ≡ true
has-first k n rest is = ap (λ b. b || rest) ((Decides-eqb k n).1 is)

-- a number that is found is the first, or is found later
has-either : (k n : ℕ) (rest : Bool) → ((k == n) || rest) ≡ true → (k ≡ n) ⊎ (rest ≡ true)
has-either k n rest = by (k == n) refl
  where
    by : (b : Bool) → (k == n) ≡ b → (b || rest) ≡ true → (k ≡ n) ⊎ (rest ≡ true)
    by true same is = inl ((Decides-eqb k n).0 same)
    by false same is = inr is

has-split : {Id : Type 0} (list others : List (Placing Id)) (n : ℕ) → has (numbers_of (list ++ others)) n ≡ true → (has (numbers_of list) n ≡ true) ⊎ (has (numbers_of others) n ≡ true)
has-split [] others n is = inr is
has-split (one ∷ list) others n is = by (has-either one.number n (has (numbers_of (list ++ others)) n) is) (has-split list others n)
  where
    by : (one.number ≡ n) ⊎ (has (numbers_of (list ++ others)) n ≡ true) → (has (numbers_of (list ++ others)) n ≡ true → (has (numbers_of list) n ≡ true) ⊎ (has (numbers_of others) n ≡ true))
        → (has (numbers_of (one ∷ list)) n ≡ true) ⊎ (has (numbers_of others) n ≡ true)
    by (inl same) later = inl (has-first one.number n (has (numbers_of list) n) same)
    by (inr there) later = onward (later there)
      where
        onward : (has (numbers_of list) n ≡ true) ⊎ (has (numbers_of others) n ≡ true) → (has (numbers_of (one ∷ list)) n ≡ true) ⊎ (has (numbers_of others) n ≡ true)
        onward (inl early) = inl (or_right (one.number == n) (has (numbers_of list) n) early)
        onward (inr late) = inr late

has-in : {Id : Type 0} (list : List (Placing Id)) (one : Placing Id) → IsIn one list → has (numbers_of list) one.number ≡ true
has-in [] one there = absurd there
has-in (x ∷ list) one (inl is) = has-first x.number one.number (has (numbers_of list) one.number) (ap (λ p. p.number) is)
has-in (x ∷ list) one (inr there) = or_right (x.number == one.number) (has (numbers_of list) one.number) (has-in list one there)

in-split : {Id : Type 0} (list others : List (Placing Id)) (one : Placing Id) → IsIn one (list ++ others) → IsIn one list ⊎ IsIn one others
in-split [] others one there = inr there
in-split (x ∷ list) others one (inl is) = inl (inl is)
in-split (x ∷ list) others one (inr there) = by (in-split list others one there)
  where
    by : IsIn one list ⊎ IsIn one others → IsIn one (x ∷ list) ⊎ IsIn one others
    by (inl early) = inl (inr early)
    by (inr late) = inr late

-- a system that comes after another stands behind it
module _ {Id : Type 0} (one : Placing Id) (wanted : ℕ) (after : has one.after wanted ≡ true) where
  abbrev Known : List (Placing Id) → Type 0
  Known before = has (numbers_of before) wanted ≡ true

  in-group : (before : List (Placing Id)) (group : Group Id) → GroupWaits before group → IsIn one group → Known before ⊎ StandsFirst wanted one.number group
  in-group before [] waits there = absurd there
  in-group before (x ∷ group) waits (inl is) = inl (waits.0 wanted (let P : Placing Id → Type 0 = λ p. has p.after wanted ≡ true in subst P (sym is) after))
  in-group before (x ∷ group) waits (inr there) = by (in-group (before ++ x ∷ []) group waits.1 there)
    where
      by : Known (before ++ x ∷ []) ⊎ StandsFirst wanted one.number group → Known before ⊎ StandsFirst wanted one.number (x ∷ group)
      by (inr later) = inr (inr later)
      by (inl known) = onward (has-split before (x ∷ []) wanted known)
        where
          onward : Known before ⊎ (has (numbers_of (x ∷ [])) wanted ≡ true) → Known before ⊎ StandsFirst wanted one.number (x ∷ group)
          onward (inl early) = inl early
          onward (inr here) = first (has-either x.number wanted false here)
            where
              first : (x.number ≡ wanted) ⊎ (false ≡ true) → Known before ⊎ StandsFirst wanted one.number (x ∷ group)
              first (inl is) = inr (inl (is, has-in group one there))
              first (inr no_more) = absurd (false≢true no_more)

  in-stage : (before : List (Placing Id)) (stage : Stage Id) → StageWaits before stage → IsIn one (systems_of stage) → Known before ⊎ StandsFirstInOne wanted one.number stage
  in-stage before [] waits there = absurd there
  in-stage before (group ∷ stage) waits there = by (in-split group (systems_of stage) one there) (in-group before group waits.0) (in-stage before stage waits.1)
    where
      by : IsIn one group ⊎ IsIn one (systems_of stage) → (IsIn one group → Known before ⊎ StandsFirst wanted one.number group) → (IsIn one (systems_of stage) → Known before ⊎ StandsFirstInOne wanted one.number stage)
          → Known before ⊎ StandsFirstInOne wanted one.number (group ∷ stage)
      by (inl here) first later = onward (first here)
        where
          onward : Known before ⊎ StandsFirst wanted one.number group → Known before ⊎ StandsFirstInOne wanted one.number (group ∷ stage)
          onward (inl known) = inl known
          onward (inr behind) = inr (inl behind)
      by (inr there) first later = onward (later there)
        where
          onward : Known before ⊎ StandsFirstInOne wanted one.number stage → Known before ⊎ StandsFirstInOne wanted one.number (group ∷ stage)
          onward (inl known) = inl known
          onward (inr behind) = inr (inr behind)

  in-stages : (before : List (Placing Id)) (stages : List (Stage Id)) → StagesWait before stages → IsIn one (plan_order stages) → Known before ⊎ RunsEarlier wanted one.number stages
  in-stages before [] waits there = absurd there
  in-stages before (stage ∷ stages) waits there = by (in-split (systems_of stage) (plan_order stages) one there) (in-stage before stage waits.0) (in-stages (before ++ systems_of stage) stages waits.1)
    where
      by : IsIn one (systems_of stage) ⊎ IsIn one (plan_order stages) → (IsIn one (systems_of stage) → Known before ⊎ StandsFirstInOne wanted one.number stage)
          → (IsIn one (plan_order stages) → Known (before ++ systems_of stage) ⊎ RunsEarlier wanted one.number stages) → Known before ⊎ RunsEarlier wanted one.number (stage ∷ stages)
      by (inl here) first later = onward (first here)
        where
          onward : Known before ⊎ StandsFirstInOne wanted one.number stage → Known before ⊎ RunsEarlier wanted one.number (stage ∷ stages)
          onward (inl known) = inl known
          onward (inr behind) = inr (inr (inl behind))
      by (inr there) first later = onward (later there)
        where
          onward : Known (before ++ systems_of stage) ⊎ RunsEarlier wanted one.number stages → Known before ⊎ RunsEarlier wanted one.number (stage ∷ stages)
          onward (inr behind) = inr (inr (inr behind))
          onward (inl known) = split (has-split before (systems_of stage) wanted known)
            where
              split : Known before ⊎ (has (numbers_of (systems_of stage)) wanted ≡ true) → Known before ⊎ RunsEarlier wanted one.number (stage ∷ stages)
              split (inl early) = inl early
              split (inr here) = inr (inl (here, has-in (plan_order stages) one there))

  pub runs-earlier : (stages : List (Stage Id)) → StagesWait [] stages → IsIn one (plan_order stages) → RunsEarlier wanted one.number stages
  runs-earlier stages waits there = by (in-stages [] stages waits there)
    where
      by : Known [] ⊎ RunsEarlier wanted one.number stages → RunsEarlier wanted one.number stages
      by (inl known) = absurd (false≢true known)
      by (inr earlier) = earlier

-- names

-- a name that is known keeps its number
found-more : (names more : List Named) (name : List ℕ) (n : ℕ) → number_under names name ≡ Some n → number_under (names ++ more) name ≡ Some n
found-more [] more name n is = absurd (none-some n is)
found-more (first ∷ names) more name n is = by (bytes_eq name first.0) is (found-more names more name n)
  where
    by : (b : Bool) → (if b then Some first.1 else number_under names name) ≡ Some n → (number_under names name ≡ Some n → number_under (names ++ more) name ≡ Some n)
        → (if b then Some first.1 else number_under (names ++ more) name) ≡ Some n
    by true here later = here
    by false here later = later here

found-with : (names : List Named) (name other : List ℕ) (number n : ℕ) → number_under names other ≡ Some n → number_under (with_name names name number) other ≡ Some n
found-with names name other number n is = by (bytes_eq name [])
  where
    by : (b : Bool) → number_under (if b then names else names ++ (name, number) ∷ []) other ≡ Some n
    by true = is
    by false = found-more names ((name, number) ∷ []) other n is

-- each of some names has a number, which is among theirs
numbered : (names : List Named) (after : List (List ℕ)) (other : List ℕ) → lacks_one names after ≡ false → Contains after other → (n : ℕ) × (number_under names other ≡ Some n) × (has (numbers_under names after) n ≡ true)
numbered names [] other known (k, within, is) = absurd (omega (arith, within))
numbered names (name ∷ after) other known (zero, within, is) = by (number_under names name) refl known
  where
    by : (o : Option ℕ) → number_under names name ≡ o → (is_none o || lacks_one names after) ≡ false → (n : ℕ) × (number_under names other ≡ Some n) × (has (cons_option o (numbers_under names after)) n ≡ true)
    by None found lacks = absurd (false≢true (sym lacks))
    by (Some n) found lacks = (n, ap (number_under names) (sym is) ∙ found, has-first n n (has (numbers_under names after) n) refl)
numbered names (name ∷ after) other known (suc k, within, is) = by (number_under names name) known (λ lacks. numbered names after other lacks (k, omega (arith, within), is))
  where
    by : (o : Option ℕ) → (is_none o || lacks_one names after) ≡ false → (lacks_one names after ≡ false → (n : ℕ) × (number_under names other ≡ Some n) × (has (numbers_under names after) n ≡ true))
        → (n : ℕ) × (number_under names other ≡ Some n) × (has (cons_option o (numbers_under names after)) n ≡ true)
    by None lacks later = absurd (false≢true (sym lacks))
    by (Some m) lacks later = let found = later lacks in (found.0, found.1, or_right (m == found.0) (has (numbers_under names after) found.0) found.2)

snoc-length : {A : Type 0} (list : List A) (x : A) → length (list ++ x ∷ []) ≡ length list + 1
snoc-length [] x = refl
snoc-length (y ∷ list) x = let later = snoc-length list x in omega (arith, later)

-- builders
module _ {S : Type 0} (same : ResourceId → ResourceId → Bool) where
  planned-from : (building : Building S) (list : List (Asked S)) → IsPlannedIn same building → IsPlannedIn same (built_from same building list)
  planned-from building [] made = made
  planned-from building (system one declared name after ∷ later) made =
      let adding : Placing ResourceId = record { number = length building.staging.systems; reads = declared.reads; writes = declared.writes; after = numbers_under building.names after; time = declared.time } in
      let with_one = with_asked same building (system one declared name after) in
      planned-from with_one later
      (planned-more same building.staging.planning with_one.staging.planning (length building.staging.systems) (length with_one.staging.systems) adding made refl refl (snoc-length building.staging.systems one))
  planned-from building (barrier ∷ later) made =
      let fenced = with_asked same building barrier in
      planned-from fenced later (planned-fence same building.staging.planning fenced.staging.planning (length building.staging.systems) made refl)

  pub built-planned : (list : List (Asked S)) → IsPlannedIn same (built_from same nothing_built list)
  built-planned list = planned-from nothing_built list (planned-start same)

  found-from : (building : Building S) (list : List (Asked S)) (name : List ℕ) (n : ℕ) → number_under building.names name ≡ Some n → number_under (built_from same building list).names name ≡ Some n
  found-from building [] name n is = is
  found-from building (system one declared other after ∷ later) name n is =
      found-from (with_asked same building (system one declared other after)) later name n (found-with building.names other name (length building.staging.systems) n is)
  found-from building (barrier ∷ later) name n is = found-from (with_asked same building barrier) later name n is

  built-then : (building : Building S) (early late : List (Asked S)) → built_from same building (early ++ late) ≡ built_from same (built_from same building early) late
  built-then building [] late = refl
  built-then building (asked ∷ early) late = built-then (with_asked same building asked) early late

  module _ (one : S) (declared : Declared) (name : List ℕ) (after : List (List ℕ)) where
    -- how the planner is told of a system
    abbrev placing_in : Building S → Placing ResourceId
    placing_in building = record { number = length building.staging.systems; reads = declared.reads; writes = declared.writes; after = numbers_under building.names after; time = declared.time }

    told-in : (building : Building S) (early late : List (Asked S)) → IsIn (placing_in (built_from same building early)) (systems_added (told same building (early ++ system one declared name after ∷ late)))
    told-in building [] late = inl refl
    told-in building (system other facts called behind ∷ early) late = inr (told-in (with_asked same building (system other facts called behind)) early late)
    told-in building (barrier ∷ early) late = told-in (with_asked same building barrier) early late

    stands-in : (early late : List (Asked S)) → IsIn (placing_in (built_from same nothing_built early)) (plan_order (built_from same nothing_built (early ++ system one declared name after ∷ late)).staging.planning.stages)
    stands-in early late =
        let list = told same nothing_built (early ++ system one declared name after ∷ late) in
        let P : Planning ResourceId → Type 0 = λ planning. IsIn (placing_in (built_from same nothing_built early)) (plan_order planning.stages) in
        subst P (sym (planned same nothing_built (early ++ system one declared name after ∷ late)))
        (in-contains (plan_order (plan same list)) (placing_in (built_from same nothing_built early))
        (Contains-permutation (systems_added list) (plan_order (plan same list)) (placing_in (built_from same nothing_built early)) (IsPermutation-sym _ _ (stands-once same list)) (contains-in (systems_added list) _ (told-in nothing_built early late))))

    pub named-earlier : (early late : List (Asked S)) (other : List ℕ) → refusal (built_from same nothing_built early) name after ≡ None → Contains after other
        → (n : ℕ) × (number_under (built_from same nothing_built (early ++ system one declared name after ∷ late)).names other ≡ Some n)
        × RunsEarlier n (length (built_from same nothing_built early).staging.systems) (built_from same nothing_built (early ++ system one declared name after ∷ late)).staging.planning.stages
    named-earlier early late other taken there =
        let before = built_from same nothing_built early in
        let found = numbered before.names after other (none-unknown before name after taken) there in
        let P : Building S → Type 0 = λ building. number_under building.names other ≡ Some found.0 in (
          found.0,
          subst P (sym (built-then nothing_built early (system one declared name after ∷ late))) (found-from before (system one declared name after ∷ late) other found.0 found.1),
          runs-earlier (placing_in before) found.0 found.2 _ (named-wait same (early ++ system one declared name after ∷ late)) (stands-in early late),
        )

    -- so it is in a builder that was asked this
    pub named-earlier-in : (early late : List (Asked S)) (other : List ℕ) (building : Building S) → building ≡ built_from same nothing_built (early ++ system one declared name after ∷ late)
        → refusal (built_from same nothing_built early) name after ≡ None → Contains after other
        → (n : ℕ) × (number_under building.names other ≡ Some n) × RunsEarlier n (length (built_from same nothing_built early).staging.systems) building.staging.planning.stages
    named-earlier-in early late other building is taken there =
        let found = named-earlier early late other taken there in
        let P : Building S → Type 0 = λ building. (number_under building.names other ≡ Some found.0) × RunsEarlier found.0 (length (built_from same nothing_built early).staging.systems) building.staging.planning.stages in
        let holds = subst P (sym is) (found.1, found.2) in
        (found.0, holds.0, holds.1)
