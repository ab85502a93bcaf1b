-- A system stands after those that it comes after.
use Rattle.std.proofs.Common.{◌≡◌, ℕ, ◌<◌, ◌-◌, Bool, true, false, ◌||◌, ◌&&◌, zero, suc, List, [], ◌∷◌, ◌++◌, length, get_or, map, arith, Option, Some, None, refl, ap, sym, ◌∙◌, subst, append_assoc, append-nil}
use Rattle.std.specs.Prelude.{◌==◌, if◌then◌else◌, count_by}
use Rattle.std.specs.List.{fold, position}
use Rattle.std.specs.List.Sorted.{IsPermutation}
use Rattle.std.specs.Option.{option_map, option_map_or}
use Rattle.std.proofs.lemmas.Bool.{and_parts, eqb-true, or_right, or_left}
use Rattle.std.proofs.lemmas.List.Folds.{list_any-append}
use Rattle.std.proofs.lemmas.List.Sums.{fold-append}
use Rattle.std.proofs.lemmas.List.Sorted.{IsPermutation-map, list_any-IsPermutation}
use Rattle.shred_plan.specs.declared.stage.Way.{Way}
use Rattle.shred_plan.specs.declared.stage.Way.TheVariants.{Alone, Behind}
use Rattle.shred_plan.specs.Plan.{Placing, Group, Stage, Added, fence, placing, Planning, hits, joins, completes, admitted, placed, taken, added, plan, plan_order, rest_after, systems_of, without}
use Rattle.shred_plan.specs.Laws.{has, AreAmong, numbers_of, ComeAfter, GroupWaits, StageWaits, StagesWait}
use Rattle.shred_plan.proofs.PlaceLemmas.{admitted-room}
use Rattle.shred_plan.proofs.LawLemmas.{longer, behind-found, systems-taken, systems-placed}

-- numbers of lists

map-append : {A B : Type 0} (f : A → B) (xs ys : List A) → map f (xs ++ ys) ≡ map f xs ++ map f ys
map-append f [] ys = refl
map-append f (x ∷ xs) ys = ap (λ list. f x ∷ list) (map-append f xs ys)

-- one of two passes: by cases
or-either : {P : Type 0} (a b : Bool) → (a || b) ≡ true → (a ≡ true → P) → (b ≡ true → P) → P
or-either true b e f g = f refl
or-either false b e f g = g e

-- what stands in a list is the number that is taken out, or still stands in it
without-kept : (ds : List ℕ) (n d : ℕ) → has ds d ≡ true → ((n == d) || has (without ds n) d) ≡ true
without-kept [] n d e = cc
without-kept (first ∷ ds) n d e = by (first == n) refl (without-kept ds n d)
  where
    by : (b : Bool) → (first == n) ≡ b → (has ds d ≡ true → ((n == d) || has (without ds n) d) ≡ true) → ((n == d) || has (if b then ds else first ∷ without ds n) d) ≡ true
    by true is later = or-either (first == d) (has ds d) e (λ h. or_left _ _ (ap (λ x. x == d) (sym (eqb-true first n is)) ∙ h)) (λ h. or_right _ _ h)
    by false is later = or-either (first == d) (has ds d) e (λ h. or_right _ _ (or_left _ _ h)) (λ h. or-either (n == d) (has (without ds n) d) (later h) (λ q. or_left _ _ q) (λ q. or_right _ _ (or_right _ _ q)))

module _ {Id : Type 0} where
  -- with the same systems behind both
  among-append : (before after more : List (Placing Id)) → AreAmong (numbers_of before) (numbers_of after) → AreAmong (numbers_of (before ++ more)) (numbers_of (after ++ more))
  among-append before after more a d e =
      let split : has (numbers_of (before ++ more)) d ≡ (has (numbers_of before) d || has (numbers_of more) d)
      = ap (λ list. has list d) (map-append (λ s. s.number) before more) ∙ list_any-append (λ n. n == d) (numbers_of before) (numbers_of more) in
      let joined : has (numbers_of (after ++ more)) d ≡ (has (numbers_of after) d || has (numbers_of more) d)
      = ap (λ list. has list d) (map-append (λ s. s.number) after more) ∙ list_any-append (λ n. n == d) (numbers_of after) (numbers_of more) in
      joined ∙ or-either _ _ (sym split ∙ e) (λ h. or_left _ _ (a d h)) (λ h. or_right _ _ h)

  -- with the more behind the same
  among-behind : (before more after : List (Placing Id)) → AreAmong (numbers_of more) (numbers_of after) → AreAmong (numbers_of (before ++ more)) (numbers_of (before ++ after))
  among-behind before more after a d e =
      let split : has (numbers_of (before ++ more)) d ≡ (has (numbers_of before) d || has (numbers_of more) d)
      = ap (λ list. has list d) (map-append (λ s. s.number) before more) ∙ list_any-append (λ n. n == d) (numbers_of before) (numbers_of more) in
      let joined : has (numbers_of (before ++ after)) d ≡ (has (numbers_of before) d || has (numbers_of after) d)
      = ap (λ list. has list d) (map-append (λ s. s.number) before after) ∙ list_any-append (λ n. n == d) (numbers_of before) (numbers_of after) in
      joined ∙ or-either _ _ (sym split ∙ e) (λ h. or_left _ _ h) (λ h. or_right _ _ (a d h))

  among-more : (before more : List (Placing Id)) → AreAmong (numbers_of before) (numbers_of (before ++ more))
  among-more before more d e =
      ap (λ list. has list d) (map-append (λ s. s.number) before more) ∙ list_any-append (λ n. n == d) (numbers_of before) (numbers_of more) ∙ or_left _ _ e

  -- a list and one in another order
  among-permuted : (xs ys : List (Placing Id)) → IsPermutation xs ys → AreAmong (numbers_of ys) (numbers_of xs)
  among-permuted xs ys p d e = list_any-IsPermutation (λ n. n == d) (numbers_of xs) (numbers_of ys) (IsPermutation-map (λ s. s.number) xs ys p) ∙ e

  -- what is taken out of a list until it is empty was in it
  rest-none : (systems : List (Placing Id)) (ds : List ℕ) → rest_after ds systems ≡ [] → AreAmong ds (numbers_of systems)
  rest-none [] ds e d h = ap (λ list. has list d) (sym e) ∙ h
  rest-none (one ∷ systems) ds e d h =
      or-either (one.number == d) (has (without ds one.number) d) (without-kept ds one.number d h)
      (λ q. or_left _ _ q)
      (λ q. or_right _ _ (rest-none systems (without ds one.number) e d q))

  -- more may stand before

  group-more : (group before after : List (Placing Id)) → AreAmong (numbers_of before) (numbers_of after) → GroupWaits before group → GroupWaits after group
  group-more [] before after a waits = tt
  group-more (one ∷ others) before after a waits =
      ((λ d h. a d (waits.0 d h)), group-more others (before ++ one ∷ []) (after ++ one ∷ []) (among-append before after (one ∷ []) a) waits.1)

  stage-more : (stage : Stage Id) (before after : List (Placing Id)) → AreAmong (numbers_of before) (numbers_of after) → StageWaits before stage → StageWaits after stage
  stage-more [] before after a waits = tt
  stage-more (group ∷ stage) before after a waits = (group-more group before after a waits.0, stage-more stage before after a waits.1)

  stages-more : (stages : List (Stage Id)) (before after : List (Placing Id)) → AreAmong (numbers_of before) (numbers_of after) → StagesWait before stages → StagesWait after stages
  stages-more [] before after a waits = tt
  stages-more (stage ∷ later) before after a waits =
      (stage-more stage before after a waits.0, stages-more later (before ++ systems_of stage) (after ++ systems_of stage) (among-append before after (systems_of stage) a) waits.1)

  -- a system at the end of a group, and of a stage

  group-end : (one : Placing Id) (group before : List (Placing Id)) → AreAmong one.after (numbers_of (before ++ group)) → GroupWaits before group → GroupWaits before (group ++ one ∷ [])
  group-end one [] before a waits = (let P : List (Placing Id) → Type 0 = λ list. AreAmong one.after (numbers_of list) in subst P (append-nil before) a, tt)
  group-end one (other ∷ group) before a waits =
      let P : List (Placing Id) → Type 0 = λ list. AreAmong one.after (numbers_of list) in
      (waits.0, group-end one group (before ++ other ∷ []) (subst P (sym (append_assoc before (other ∷ []) group)) a) waits.1)

  stage-longer : (one : Placing Id) (stage : Stage Id) (before : List (Placing Id)) (i : ℕ) → i < length stage → AreAmong one.after (numbers_of (before ++ get_or stage i [])) → StageWaits before stage → StageWaits before (longer one stage i)
  stage-longer one [] before i h a waits = tt
  stage-longer one (group ∷ stage) before zero h a waits = (group-end one group before a waits.0, waits.1)
  stage-longer one (group ∷ stage) before (suc i) h a waits = (waits.0, stage-longer one stage before i (omega arith) a waits.1)

  stage-new : (one : Placing Id) (stage : Stage Id) (before : List (Placing Id)) → AreAmong one.after (numbers_of before) → StageWaits before stage → StageWaits before (stage ++ (one ∷ []) ∷ [])
  stage-new one [] before a waits = ((a, tt), tt)
  stage-new one (group ∷ stage) before a waits = (waits.0, stage-new one stage before a waits.1)

empty : {A : Type 0} (xs : List A) → length xs ≡ 0 → xs ≡ []
empty [] e = refl
empty (x ∷ xs) e = absurd (omega arith)

module _ {Id : Type 0} (same : Id → Id → Bool) (one : Placing Id) where
  stage-taken : (rest : List ℕ) (stage : Stage Id) (way : Way) (before : List (Placing Id)) → rest ≡ rest_after one.after before → admitted same one rest stage ≡ Some way
      → StageWaits before stage → StageWaits before (taken one stage way)
  stage-taken rest stage way before known e waits =
      by (count_by (hits same one) stage == 0) (length rest == 0) (count_by (hits same one) stage == 1) refl e
    where
      P : Way → Type 0
      P w = StageWaits before (taken one stage w)

      nothing-left : (length rest == 0) ≡ true → AreAmong one.after (numbers_of before)
      nothing-left q = rest-none before one.after (sym known ∙ empty rest (eqb-true _ _ q))

      found : (test : Group Id → Bool) → ((group : Group Id) → test group ≡ true → AreAmong one.after (numbers_of (before ++ group))) → option_map Behind (position test stage) ≡ Some way → P way
      found test among q =
          let f = behind-found test stage way q in
          subst P (sym f.1) (stage-longer one stage before f.0 f.2 (among (get_or stage f.0 []) f.3) waits)

      alone : (w : Way) → Alone ≡ w → AreAmong one.after (numbers_of before) → P w
      alone Alone q a = stage-new one stage before a waits
      alone (Behind i) q a = cc

      by : (none nothing single : Bool) → (length rest == 0) ≡ nothing
          → (if none
          then (if nothing then Some Alone else option_map Behind (position (λ group. completes rest group && joins one stage group) stage))
          else (if single && nothing then option_map Behind (position (λ group. hits same one group && joins one stage group) stage) else None)) ≡ Some way
          → P way
      by true true single is q = alone way (cc) (nothing-left is)
      by true false single is q =
          found _ (λ group t.
          let left : length (rest_after rest group) ≡ 0 = eqb-true _ _ ((and_parts _ _ ((and_parts _ _ t).0)).0) in
          rest-none (before ++ group) one.after (fold-append (λ r s. without r s.number) one.after before group ∙ ap (λ r. rest_after r group) (sym known) ∙ empty _ left)) q
      by false true true is q = found _ (λ group t d h. among-more before group d (nothing-left is d h)) q
      by false true false is q = cc
      by false false true is q = cc
      by false false false is q = cc

  stages-placed : (stages : List (Stage Id)) (closed : ℕ) (rest : List ℕ) (before : List (Placing Id)) → rest ≡ rest_after one.after before → AreAmong one.after (numbers_of (before ++ plan_order stages))
      → StagesWait before stages → StagesWait before (placed same closed one rest stages)
  stages-placed [] closed rest before known among waits =
      let P : List (Placing Id) → Type 0 = λ list. AreAmong one.after (numbers_of list) in
      (((subst P (append-nil before) among, tt), tt), tt)
  stages-placed (stage ∷ later) closed rest before known among waits =
      let P : List (Placing Id) → Type 0 = λ list. AreAmong one.after (numbers_of list) in
      by (closed == 0) (admitted same one rest stage) refl
      (stages-placed later (closed - 1) (rest_after rest (systems_of stage)) (before ++ systems_of stage)
      (ap (λ r. rest_after r (systems_of stage)) known ∙ sym (fold-append (λ r s. without r s.number) one.after before (systems_of stage)))
      (subst P (sym (append_assoc before (systems_of stage) (plan_order later))) among) waits.1)
    where
      by : (b : Bool) (way : Option Way) → admitted same one rest stage ≡ way
          → StagesWait (before ++ systems_of stage) (placed same (closed - 1) one (rest_after rest (systems_of stage)) later)
          → StagesWait before (option_map_or (λ w. taken one stage w ∷ later) (if b then way else None) (stage ∷ placed same (closed - 1) one (rest_after rest (systems_of stage)) later))
      by true (Some way) is passed =
          let more : AreAmong (numbers_of (systems_of stage)) (numbers_of (systems_of (taken one stage way)))
          = λ d h. among-permuted _ _ (systems-taken one stage way (admitted-room same one rest stage way is)) d (or_right _ _ h) in (
            stage-taken rest stage way before known is waits.0,
            stages-more later (before ++ systems_of stage) (before ++ systems_of (taken one stage way)) (among-behind before (systems_of stage) (systems_of (taken one stage way)) more) waits.1,
          )
      by true None is passed = (waits.0, passed)
      by false way is passed = (waits.0, passed)

module _ {Id : Type 0} (same : Id → Id → Bool) where
  stages-folded : (list : List (Added Id)) (planning : Planning Id) (known : List ℕ) → AreAmong known (numbers_of (plan_order planning.stages)) → ComeAfter known list
      → StagesWait [] planning.stages → StagesWait [] (fold (added same) planning list).stages
  stages-folded [] planning known among after waits = waits
  stages-folded (fence ∷ later) planning known among after waits = stages-folded later (added same planning fence) known among after waits
  stages-folded (placing one ∷ later) planning known among after waits =
      stages-folded later (added same planning (placing one)) (one.number ∷ known)
      (λ d h. among-permuted _ _ (systems-placed same planning.stages planning.first one one.after) d
      (or-either (one.number == d) (has known d) h (λ q. or_left _ _ q) (λ q. or_right _ _ (among d q))))
      after.1
      (stages-placed same one planning.stages planning.first one.after [] refl (λ d h. among d (after.0 d h)) waits)

  pub systems-wait : (list : List (Added Id)) → ComeAfter [] list → StagesWait [] (plan same list)
  systems-wait list after = stages-folded list (record { first = 0; stages = [] }) [] (λ d h. h) after tt
