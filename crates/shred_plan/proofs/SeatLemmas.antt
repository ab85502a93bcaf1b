-- Facts on seats: what two of them tell of a stage, and how a plan that grows keeps them.
use Rattle.std.proofs.Common.{◌≡◌, ◌≢◌, ℕ, ◌+◌, ◌/◌, ◌%◌, ◌<◌, ◌≤◌, zero, suc, Bool, true, false, ◌||◌, ◌&&◌, List, [], ◌∷◌, ◌++◌, length, get_or, refl, ap, sym, ◌∙◌, arith, Option, Some, None, ◌⊎◌, inl, inr, subst, cond}
use Rattle.std.specs.Prelude.{◌==◌, count_by}
use Rattle.std.specs.List.{list_any}
use Rattle.std.specs.declared.cmp.Ordering.{Ordering}
use Rattle.std.proofs.Math.Bool.{or-true}
use Rattle.std.proofs.Math.ListN.{set}
use Rattle.std.proofs.lemmas.Bool.{false≢true, cases_eq, cases_lt, or_cases, and_parts, eqb-true}
use Rattle.std.proofs.lemmas.List.{get_or_past, get_or_append_left, get_or_push, get_or-set_same, get_or-set_other, length_push, length-set}
use Rattle.std.proofs.lemmas.List.Sums.{sum_by-cons}
use Rattle.std.proofs.lemmas.List.Folds.{list_any-append, list_any_at}
use Rattle.shred_plan.specs.declared.stage.Way.{Way}
use Rattle.shred_plan.specs.declared.stage.Way.TheVariants.{Alone, Behind}
use Rattle.shred_plan.specs.declared.stage_set.StageSet.{StageSet}
use Rattle.shred_plan.specs.declared.id_table.IdTable.{IdTable}
use Rattle.shred_plan.specs.declared.planner.Place.{Place}
use Rattle.shred_plan.specs.Plan.{Placing, Group, Stage, hits, taken}
use Rattle.shred_plan.specs.Places.{HasRoom, IsPlace, placed_at}
use Rattle.shred_plan.specs.Index.{has_stage, has_for, finds, stage_at, writes, uses, is_blocked, rest_at, way_at}
use Rattle.shred_plan.specs.Kept.{Marks}
use Rattle.shred_plan.specs.Seats.{HasSeat, KeepsSeats, HitsSeats, HasTwo, group_of}
use Rattle.shred_plan.proofs.IndexLemmas.{conflicts-by}
use Rattle.shred_plan.proofs.WayLemmas.{joined-many}
use Rattle.shred_plan.proofs.FirstLemmas.{loose-way}

-- counts

count-more : {A : Type 0} (test : A → Bool) (x : A) (xs : List A) → count_by test (x ∷ xs) ≡ cond (test x) 1 0 + count_by test xs
count-more test x xs = sum_by-cons (λ y. cond (test y) 1 0) x xs

count-one : {A : Type 0} (test : A → Bool) (xs : List A) (d : A) (i : ℕ) → i < length xs → test (get_or xs i d) ≡ true → 1 ≤ count_by test xs
count-one test [] d i h e = absurd (omega arith)
count-one test (x ∷ xs) d zero h e = omega (arith, count-more test x xs, ap {B = ℕ} (λ b. cond b 1 0) e)
count-one test (x ∷ xs) d (suc i) h e = omega (arith, count-more test x xs, count-one test xs d i (omega arith) e)

count-two : {A : Type 0} (test : A → Bool) (xs : List A) (d : A) (i j : ℕ) → i < j → j < length xs → test (get_or xs i d) ≡ true → test (get_or xs j d) ≡ true → 2 ≤ count_by test xs
count-two test [] d i j apart h e f = absurd (omega arith)
count-two test (x ∷ xs) d i zero apart h e f = absurd (omega arith)
count-two test (x ∷ xs) d zero (suc j) apart h e f = omega (arith, count-more test x xs, ap {B = ℕ} (λ b. cond b 1 0) e, count-one test xs d j (omega arith) f)
count-two test (x ∷ xs) d (suc i) (suc j) apart h e f = omega (arith, count-more test x xs, count-two test xs d i j (omega arith) (omega arith) e f)

-- two seats

-- two seats of a stage are those of two groups
pub seats-two : {Id : Type 0} (test : Group Id → Bool) (stage : Stage Id) (rest other : ℕ) → HasSeat test stage rest → HasSeat test stage other → rest ≢ other → 2 ≤ count_by test stage
seats-two test stage rest other one two apart = by (cases_lt one.place two.place) (cases_lt two.place one.place)
  where
    by : (one.place < two.place) ⊎ (two.place ≤ one.place) → (two.place < one.place) ⊎ (one.place ≤ two.place) → 2 ≤ count_by test stage
    by (inl h) k = count-two test stage [] one.place two.place h two.within one.passes two.passes
    by (inr h) (inl k) = count-two test stage [] two.place one.place k one.within two.passes one.passes
    by (inr h) (inr k) =
        let same : one.place ≡ two.place = omega arith in
        absurd (apart (sym one.leaves ∙ ap (λ place. place % 16) same ∙ two.leaves))

-- a stage with two groups with which a system conflicts admits it in no way
pub two-passed : {Id : Type 0} (same : Id → Id → Bool) (first : ℕ) (one : Placing Id) (stages : List (Stage Id)) (place : ℕ) (set : StageSet) → first ≤ place
    → HitsSeats same one stages set → is_blocked same one (stage_at stages place) ≡ true → (length (rest_at one stages place) == 0) ≡ true → HasTwo set place
    → way_at same first one stages place ≡ None
two-passed same first one stages place set reached hit blocked nothing two =
    loose-way same first one stages place (stage_at stages place) None reached nothing refl
    (sym (joined-many same one (stage_at stages place) blocked
    (λ e. omega (
      arith,
      e,
      seats-two (hits same one) (stage_at stages place) (two.low % 16) (two.high % 16)
          (subst (λ s. HasSeat (hits same one) (stage_at stages s) (two.low % 16)) two.low_of (hit two.low two.is_low))
          (subst (λ s. HasSeat (hits same one) (stage_at stages s) (two.high % 16)) two.high_of (hit two.high two.is_high))
          (λ r. two.apart (omega (arith, r, two.low_of, two.high_of))),
    ))))

-- what a seat tells goes on to a weaker test
seat-weaker : {Id : Type 0} (test other : Group Id → Bool) (stage : Stage Id) (rest : ℕ) → ((group : Group Id) → test group ≡ true → other group ≡ true) → HasSeat test stage rest → HasSeat other stage rest
seat-weaker test other stage rest weaker seat = record { place = seat.place; within = seat.within; leaves = seat.leaves; passes = weaker (get_or stage seat.place []) seat.passes }

-- one of some ids
any-seat : {Id : Type 0} (known : Id → Bool) (test : Id → Group Id → Bool) (stage : Stage Id) (rest : ℕ) (ids : List Id) → ((id : Id) → known id ≡ true → HasSeat (test id) stage rest)
    → list_any known ids ≡ true → HasSeat (λ group. list_any (λ id. test id group) ids) stage rest
any-seat known test stage rest [] each e = absurd (false≢true e)
any-seat {Id} known test stage rest (id ∷ ids) each e = by (or_cases (known id) (list_any known ids) e) (any-seat known test stage rest ids each)
  where
    all : Group Id → Bool
    all group = list_any (λ i. test i group) (id ∷ ids)

    by : (known id ≡ true) ⊎ (list_any known ids ≡ true) → (list_any known ids ≡ true → HasSeat (λ group. list_any (λ i. test i group) ids) stage rest) → HasSeat all stage rest
    by (inl h) more = seat-weaker (test id) all stage rest (λ group f. ap (λ b. b || list_any (λ i. test i group) ids) f) (each id h)
    by (inr h) more = seat-weaker (λ group. list_any (λ i. test i group) ids) all stage rest (λ group f. ap (λ b. test id group || b) f ∙ or-true (test id group)) (more h)

-- the seats that tables find for a system are those of groups with which it conflicts
pub seats-hit : {Id : Type 0} (cmp : Id → Id → Ordering) (same : Id → Id → Bool) (turns : (x y : Id) → same x y ≡ same y x) (seats : IdTable Id) (one : Placing Id) (stages : List (Stage Id)) (set : StageSet)
    → KeepsSeats cmp same seats stages → ((seat : ℕ) → has_stage set seat ≡ finds cmp seats one seat) → HitsSeats same one stages set
seats-hit {Id} cmp same turns seats one stages set keeps found seat e =
    by (or_cases (list_any (λ id. has_for cmp seats.writers id seat) one.reads) (list_any (λ id. has_for cmp seats.users id seat) one.writes) (sym (found seat) ∙ e))
  where
    stage : Stage Id
    stage = stage_at stages (seat / 16)

    read : Group Id → Bool
    read group = list_any (λ id. list_any (λ other. writes same other id) group) one.reads

    written : Group Id → Bool
    written group = list_any (λ id. list_any (λ other. uses same other id) group) one.writes

    by : (list_any (λ id. has_for cmp seats.writers id seat) one.reads ≡ true) ⊎ (list_any (λ id. has_for cmp seats.users id seat) one.writes ≡ true) → HasSeat (hits same one) stage (seat % 16)
    by (inl h) =
        seat-weaker read (hits same one) stage (seat % 16) (λ group f. sym (conflicts-by same turns one group) ∙ ap (λ b. b || written group) f)
        (any-seat (λ id. has_for cmp seats.writers id seat) (λ id group. list_any (λ other. writes same other id) group) stage (seat % 16) one.reads (λ id k. keeps.writers id seat k) h)
    by (inr h) =
        seat-weaker written (hits same one) stage (seat % 16) (λ group f. sym (conflicts-by same turns one group) ∙ ap (λ b. read group || b) f ∙ or-true (read group))
        (any-seat (λ id. has_for cmp seats.users id seat) (λ id group. list_any (λ other. uses same other id) group) stage (seat % 16) one.writes (λ id k. keeps.users id seat k) h)

-- plans that grow

module _ {Id : Type 0} (test : Placing Id → Bool) (one : Placing Id) where
  -- a stage that takes a system in has the seats that it had
  seat-taken : (stage : Stage Id) (way : Way) (rest : ℕ) → HasRoom stage way → HasSeat (list_any test) stage rest → HasSeat (list_any test) (taken one stage way) rest
  seat-taken stage Alone rest room seat = record {
    place = seat.place;
    within = omega (arith, seat.within, length_push stage (one ∷ []));
    leaves = seat.leaves;
    passes = ap (list_any test) (get_or_append_left stage ((one ∷ []) ∷ []) [] seat.place seat.within) ∙ seat.passes;
  }
  seat-taken stage (Behind at) rest room seat = record {
    place = seat.place;
    within = omega (arith, seat.within, length-set stage at (get_or stage at [] ++ one ∷ []));
    leaves = seat.leaves;
    passes = by (cases_eq seat.place at);
  }
    where
      by : (seat.place ≡ at) ⊎ (seat.place ≡ at → ⊥) → list_any test (get_or (set stage at (get_or stage at [] ++ one ∷ [])) seat.place []) ≡ true
      by (inl e) =
          ap (λ place. list_any test (get_or (set stage at (get_or stage at [] ++ one ∷ [])) place [])) e
          ∙ ap (list_any test) (get_or-set_same stage at (get_or stage at [] ++ one ∷ []) [] room.0)
          ∙ list_any-append test (get_or stage at []) (one ∷ [])
          ∙ ap (λ b. b || list_any test (one ∷ [])) (ap (λ place. list_any test (get_or stage place [])) (sym e) ∙ seat.passes)
      by (inr ne) = ap (list_any test) (get_or-set_other stage at seat.place (get_or stage at [] ++ one ∷ []) [] ne) ∙ seat.passes

  -- a plan that takes a system in has the seats that it had
  pub seat-placed : (stages : List (Stage Id)) (found : Option Place) (at rest : ℕ) → IsPlace stages found → HasSeat (list_any test) (stage_at stages at) rest → HasSeat (list_any test) (stage_at (placed_at one stages found) at) rest
  seat-placed stages None at rest fits seat = by (cases_lt at (length stages))
    where
      by : (at < length stages) ⊎ (length stages ≤ at) → HasSeat (list_any test) (stage_at (stages ++ ((one ∷ []) ∷ []) ∷ []) at) rest
      by (inl h) = subst (λ stage. HasSeat (list_any test) stage rest) (sym (get_or_append_left stages (((one ∷ []) ∷ []) ∷ []) [] at h)) seat
      by (inr h) = absurd (omega (arith, seat.within, ap (λ (stage : Stage Id). length stage) (get_or_past stages at [] h)))
  seat-placed stages (Some found) at rest fits seat = by (cases_eq at found.stage)
    where
      next : Stage Id
      next = taken one (stage_at stages found.stage) found.way

      by : (at ≡ found.stage) ⊎ (at ≡ found.stage → ⊥) → HasSeat (list_any test) (stage_at (set stages found.stage next) at) rest
      by (inl e) =
          subst (λ place. HasSeat (list_any test) (stage_at (set stages found.stage next) place) rest) (sym e)
          (subst (λ stage. HasSeat (list_any test) stage rest) (sym (get_or-set_same stages found.stage next [] fits.0))
          (seat-taken (stage_at stages found.stage) found.way rest fits.1 (subst (λ place. HasSeat (list_any test) (stage_at stages place) rest) e seat)))
      by (inr ne) = subst (λ stage. HasSeat (list_any test) stage rest) (sym (get_or-set_other stages found.stage at next [] ne)) seat

-- the same of tables
pub seats-placed : {Id : Type 0} (cmp : Id → Id → Ordering) (same : Id → Id → Bool) (seats : IdTable Id) (one : Placing Id) (stages : List (Stage Id)) (found : Option Place) → IsPlace stages found
    → KeepsSeats cmp same seats stages → KeepsSeats cmp same seats (placed_at one stages found)
seats-placed cmp same seats one stages found fits keeps = record {
  writers = λ id seat e. seat-placed (λ other. writes same other id) one stages found (seat / 16) (seat % 16) fits (keeps.writers id seat e);
  users = λ id seat e. seat-placed (λ other. uses same other id) one stages found (seat / 16) (seat % 16) fits (keeps.users id seat e);
}

-- a system stands in a group that has a seat
abbrev pub IsSeated : {Id : Type 0} → Placing Id → List (Stage Id) → ℕ → Type 0
IsSeated {Id} one stages seat = (test : Placing Id → Bool) → test one ≡ true → HasSeat (list_any test) (stage_at stages (seat / 16)) (seat % 16)

-- tables that take in the seat of a system
pub seats-marked : {Id : Type 0} (cmp : Id → Id → Ordering) (same : Id → Id → Bool) (before after : IdTable Id) (one : Placing Id) (stages : List (Stage Id)) (seat : ℕ)
    → KeepsSeats cmp same before stages → Marks cmp same before after one seat → IsSeated one stages seat → KeepsSeats cmp same after stages
seats-marked {Id} cmp same before after one stages seat keeps marks seated = record {
  writers = λ id at e. by (λ other. writes same other id) at (has_for cmp before.writers id at) (keeps.writers id at) (sym (marks.writers id at) ∙ e);
  users = λ id at e. by (λ other. uses same other id) at (has_for cmp before.users id at) (keeps.users id at) (sym (marks.users id at) ∙ e);
}
  where
    by : (test : Placing Id → Bool) (at : ℕ) (had : Bool) → (had ≡ true → HasSeat (list_any test) (stage_at stages (at / 16)) (at % 16)) → (had || ((seat == at) && test one)) ≡ true
        → HasSeat (list_any test) (stage_at stages (at / 16)) (at % 16)
    by test at had old e = elim (or_cases had ((seat == at) && test one) e) [
      | inl h ↦ old h
      | inr h ↦
          let both = and_parts (seat == at) (test one) h in
          subst (λ s. HasSeat (list_any test) (stage_at stages (s / 16)) (s % 16)) (eqb-true seat at both.0) (seated test both.1)
    ]

-- a system of a group is seated there
pub seated-in : {Id : Type 0} (one : Placing Id) (stages : List (Stage Id)) (seat stage place i : ℕ) (d : Placing Id) → seat / 16 ≡ stage → seat % 16 ≡ place % 16 → place < length (stage_at stages stage)
    → i < length (get_or (stage_at stages stage) place []) → one ≡ get_or (get_or (stage_at stages stage) place []) i d → IsSeated one stages seat
seated-in one stages seat stage place i d of rest within inside is test e =
    subst (λ s. HasSeat (list_any test) (stage_at stages s) (seat % 16)) (sym of) (record {
      place = place;
      within = within;
      leaves = sym rest;
      passes = list_any_at test (get_or (stage_at stages stage) place []) i d inside (ap test (sym is) ∙ e);
    })

-- a system that has been taken in is seated in its group
pub seated-placed : {Id : Type 0} (one : Placing Id) (stages : List (Stage Id)) (found : Place) (seat : ℕ) → IsPlace stages (Some found) → seat / 16 ≡ found.stage → seat % 16 ≡ group_of (stage_at stages found.stage) found.way % 16
    → IsSeated one (placed_at one stages (Some found)) seat
seated-placed {Id} one stages found seat fits of rest test e =
    subst (λ s. HasSeat (list_any test) (stage_at (set stages found.stage next) s) (seat % 16)) (sym of)
    (subst (λ stage. HasSeat (list_any test) stage (seat % 16)) (sym (get_or-set_same stages found.stage next [] fits.0))
    (by (stage_at stages found.stage) found.way fits.1 rest))
  where
    next : Stage Id
    next = taken one (stage_at stages found.stage) found.way

    by : (stage : Stage Id) (way : Way) → HasRoom stage way → seat % 16 ≡ group_of stage way % 16 → HasSeat (list_any test) (taken one stage way) (seat % 16)
    by stage Alone room leaves = record {
      place = length stage;
      within = omega (arith, length_push stage (one ∷ []));
      leaves = sym leaves;
      passes = ap (list_any test) (get_or_push stage (one ∷ []) [] (length stage) refl) ∙ ap (λ b. b || false) e;
    }
    by stage (Behind place) room leaves = record {
      place = place;
      within = omega (arith, room.0, length-set stage place (get_or stage place [] ++ one ∷ []));
      leaves = sym leaves;
      passes =
          ap (list_any test) (get_or-set_same stage place (get_or stage place [] ++ one ∷ []) [] room.0)
          ∙ list_any-append test (get_or stage place []) (one ∷ [])
          ∙ ap (λ b. list_any test (get_or stage place []) || (b || false)) e
          ∙ or-true (list_any test (get_or stage place []));
    }
