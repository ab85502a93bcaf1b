-- Facts on the stages that a planner may pass over.
use Rattle.std.proofs.Common.{◌≡◌, ℕ, ◌+◌, ◌-◌, ◌*◌, ◌<◌, zero, suc, Bool, true, false, not, ◌||◌, ◌&&◌, cond, eqb, List, [], ◌∷◌, length, get_or, refl, ap, sym, ◌∙◌, arith, subst, Option, Some, None, ◌⊎◌, inl, inr, eq-eqb, ne_eqb}
use Rattle.std.specs.Prelude.{◌==◌, nat_lt, if◌then◌else◌, count_by}
use Rattle.std.specs.List.{list_any, list_all, filter, position, IsDistinct, AllByRecursion}
use Rattle.std.specs.Option.{option_map}
use Rattle.std.proofs.lemmas.Bool.{cases_eq, cases_Bool, ltb-true, lt-ltb, and_parts, false≢true, or_parts, or_from}
use Rattle.std.proofs.lemmas.List.Folds.{list_any-append}
use Rattle.std.proofs.lemmas.List.Sums.{sum_by-cons}
use Rattle.std.proofs.lemmas.Map.Keys.{IsDistinct-head, IsDistinct-tail, IsDistinct-cons}
use Rattle.shred_plan.specs.declared.stage.Way.{Way}
use Rattle.shred_plan.specs.declared.stage.Way.TheVariants.{Alone, Behind}
use Rattle.shred_plan.specs.Plan.{Placing, Group, Stage, conflict, hits, joins, completes, admitted, longest, time_of, without, rest_after, systems_of}
use Rattle.shred_plan.specs.Index.{is_loose, is_blocked}
use Rattle.shred_plan.proofs.PositionLemmas.{position-none}
use Rattle.shred_plan.proofs.LawLemmas.{count-none, none-at}

-- what is left of different numbers

-- numbers of a list that passes are all other than one that none of them is
all-other : (x : ℕ) (xs : List ℕ) → AllByRecursion (λ y. eqb x y ≡ false) xs → filter (λ y. not (x == y)) xs ≡ xs
all-other x [] other = refl
all-other x (y ∷ xs) other = ap (λ b. cond (not b) (y ∷ filter (λ z. not (x == z)) xs) (filter (λ z. not (x == z)) xs)) other.0 ∙ ap (λ list. y ∷ list) (all-other x xs other.1)

-- a number that is taken out of different ones is gone
without-distinct : (xs : List ℕ) (n : ℕ) → IsDistinct eqb xs → without xs n ≡ filter (λ w. not (n == w)) xs
without-distinct [] n apart = refl
without-distinct (x ∷ xs) n apart = by (cases_eq x n) (without-distinct xs n (IsDistinct-tail eqb x xs apart))
  where
    P : Type 0
    P = (if x == n then xs else x ∷ without xs n) ≡ cond (not (n == x)) (x ∷ filter (λ w. not (n == w)) xs) (filter (λ w. not (n == w)) xs)

    by : (x ≡ n) ⊎ (x ≡ n → ⊥) → without xs n ≡ filter (λ w. not (n == w)) xs → P
    by (inl e) later =
        ap (λ b. if b then xs else x ∷ without xs n) (eq-eqb x n e)
        ∙ sym (all-other x xs (IsDistinct-head eqb x xs apart))
        ∙ ap (λ m. filter (λ w. not (m == w)) xs) e
        ∙ ap (λ b. cond (not b) (x ∷ filter (λ w. not (n == w)) xs) (filter (λ w. not (n == w)) xs)) (sym (eq-eqb n x (sym e)))
    by (inr ne) later =
        ap (λ b. if b then xs else x ∷ without xs n) (ne_eqb x n ne)
        ∙ ap (λ list. x ∷ list) later
        ∙ ap (λ b. cond (not b) (x ∷ filter (λ w. not (n == w)) xs) (filter (λ w. not (n == w)) xs)) (sym (ne_eqb n x (λ e. ne (sym e))))

apart-filter : (p : ℕ → Bool) (x : ℕ) (xs : List ℕ) → AllByRecursion (λ y. eqb x y ≡ false) xs → AllByRecursion (λ y. eqb x y ≡ false) (filter p xs)
apart-filter p x [] other = tt
apart-filter p x (y ∷ xs) other = by (p y) (apart-filter p x xs other.1)
  where
    by : (b : Bool) → AllByRecursion (λ z. eqb x z ≡ false) (filter p xs) → AllByRecursion (λ z. eqb x z ≡ false) (cond b (y ∷ filter p xs) (filter p xs))
    by true later = (other.0, later)
    by false later = later

distinct-filter : (p : ℕ → Bool) (xs : List ℕ) → IsDistinct eqb xs → IsDistinct eqb (filter p xs)
distinct-filter p [] apart = apart
distinct-filter p (x ∷ xs) apart = by (p x) (distinct-filter p xs (IsDistinct-tail eqb x xs apart))
  where
    by : (b : Bool) → IsDistinct eqb (filter p xs) → IsDistinct eqb (cond b (x ∷ filter p xs) (filter p xs))
    by true later = IsDistinct-cons eqb x (filter p xs) (apart-filter p x xs (IsDistinct-head eqb x xs apart)) later
    by false later = later

filter-all : (xs : List ℕ) → filter (λ w. true) xs ≡ xs
filter-all [] = refl
filter-all (x ∷ xs) = ap (λ list. x ∷ list) (filter-all xs)

filter-filter : (p q : ℕ → Bool) (xs : List ℕ) → filter (λ w. not (q w)) (filter (λ w. not (p w)) xs) ≡ filter (λ w. not (p w || q w)) xs
filter-filter p q [] = refl
filter-filter p q (x ∷ xs) = by (p x) (filter-filter p q xs)
  where
    by : (b : Bool) → filter (λ w. not (q w)) (filter (λ w. not (p w)) xs) ≡ filter (λ w. not (p w || q w)) xs
        → filter (λ w. not (q w)) (cond (not b) (x ∷ filter (λ w. not (p w)) xs) (filter (λ w. not (p w)) xs))
        ≡ cond (not (b || q x)) (x ∷ filter (λ w. not (p w || q w)) xs) (filter (λ w. not (p w || q w)) xs)
    by true later = later
    by false later = ap (λ list. cond (not (q x)) (x ∷ list) list) later

-- whether a system of a number is among some
abbrev pub has_number : {Id : Type 0} → List (Placing Id) → ℕ → Bool
has_number systems number = list_any (λ system. system.number == number) systems

-- of different numbers those are left that no system has
pub rest-distinct : {Id : Type 0} (systems : List (Placing Id)) (wanted : List ℕ) → IsDistinct eqb wanted → rest_after wanted systems ≡ filter (λ w. not (has_number systems w)) wanted
rest-distinct [] wanted apart = sym (filter-all wanted)
rest-distinct (one ∷ systems) wanted apart =
    let e = without-distinct wanted one.number apart in
    ap (λ list. rest_after list systems) e
    ∙ rest-distinct systems (filter (λ w. not (one.number == w)) wanted) (distinct-filter (λ w. not (one.number == w)) wanted apart)
    ∙ filter-filter (λ w. one.number == w) (has_number systems) wanted

pub rest-stays-distinct : {Id : Type 0} (systems : List (Placing Id)) (wanted : List ℕ) → IsDistinct eqb wanted → IsDistinct eqb (rest_after wanted systems)
rest-stays-distinct systems wanted apart = subst (IsDistinct eqb) (sym (rest-distinct systems wanted apart)) (distinct-filter (λ w. not (has_number systems w)) wanted apart)

-- nothing is left where all are there
pub filter-none : (p : ℕ → Bool) (xs : List ℕ) → (length (filter (λ w. not (p w)) xs) == 0) ≡ list_all p xs
filter-none p [] = refl
filter-none p (x ∷ xs) = by (p x) (filter-none p xs)
  where
    by : (b : Bool) → (length (filter (λ w. not (p w)) xs) == 0) ≡ list_all p xs
        → (length (cond (not b) (x ∷ filter (λ w. not (p w)) xs) (filter (λ w. not (p w)) xs)) == 0) ≡ (b && list_all p xs)
    by true later = later
    by false later = ne_eqb (suc (length (filter (λ w. not (p w)) xs))) 0 (λ e. omega arith)

all-more : (p q : ℕ → Bool) → ((x : ℕ) → p x ≡ true → q x ≡ true) → (xs : List ℕ) → list_all p xs ≡ true → list_all q xs ≡ true
all-more p q more [] e = refl
all-more p q more (x ∷ xs) e =
    let both = and_parts (p x) (list_all p xs) e in
    ap (λ b. b && list_all q xs) (more x both.0) ∙ all-more p q more xs both.1

-- a number that a group of a stage has, the stage has
has-group : {Id : Type 0} (stage : Stage Id) (i : ℕ) (n : ℕ) → i < length stage → has_number (get_or stage i []) n ≡ true → has_number (systems_of stage) n ≡ true
has-group [] i n h e = absurd (omega arith)
has-group (group ∷ stage) zero n h e = list_any-append (λ s. s.number == n) group (systems_of stage) ∙ ap (λ b. b || has_number (systems_of stage) n) e
has-group (group ∷ stage) (suc i) n h e =
    list_any-append (λ s. s.number == n) group (systems_of stage)
    ∙ ap (λ b. has_number group n || b) (has-group stage i n (omega arith) e)
    ∙ by (has_number group n)
  where
    by : (b : Bool) → (b || true) ≡ true
    by true = refl
    by false = refl

-- the ways of a stage

none-passes : {A : Type 0} (test : A → Bool) (xs : List A) (d : A) → ((i : ℕ) → i < length xs → test (get_or xs i d) ≡ false) → list_any test xs ≡ false
none-passes test [] d none = refl
none-passes test (x ∷ xs) d none = or_from (test x) (list_any test xs) (none 0 (omega arith)) (none-passes test xs d (λ i h. none (suc i) (omega arith)))

module _ {Id : Type 0} (one : Placing Id) (stage : Stage Id) where
  -- a group that a system may join is shorter than the longest
  joined-loose : (group : Group Id) → (nat_lt (length group) 4 && nat_lt (time_of group) (longest stage)) ≡ false → joins one stage group ≡ false
  joined-loose group tight = by (cases_Bool (joins one stage group))
    where
      by : (joins one stage group ≡ true) ⊎ (joins one stage group ≡ false) → joins one stage group ≡ false
      by (inr e) = e
      by (inl e) =
          let both = and_parts (nat_lt (length group) 4) (nat_lt one.time (2 * (longest stage - time_of group))) e in
          let short : one.time < 2 * (longest stage - time_of group) = ltb-true _ _ both.1 in
          let less : time_of group < longest stage = omega arith in
          absurd (false≢true (sym tight ∙ ap (λ b. b && nat_lt (time_of group) (longest stage)) both.0 ∙ lt-ltb _ _ less))

  -- no group of a stage that isn't loose can be joined, whatever else is asked
  pub none-joined : (test : Group Id → Bool) → is_loose stage ≡ false → position (λ group. test group && joins one stage group) stage ≡ None
  none-joined test tight =
      position-none (λ group. test group && joins one stage group) stage
      (none-passes (λ group. test group && joins one stage group) stage []
      (λ i h. ap (λ b. test (get_or stage i []) && b) (joined-loose (get_or stage i []) (none-at (λ group. nat_lt (length group) 4 && nat_lt (time_of group) (longest stage)) stage i [] h tight)) ∙ by (test (get_or stage i []))))
    where
      by : (b : Bool) → (b && false) ≡ false
      by true = refl
      by false = refl

module _ {Id : Type 0} (same : Id → Id → Bool) (one : Placing Id) where
  -- a system conflicts with a system of a stage where it conflicts with one of its groups
  blocked-hits : (stage : Stage Id) → is_blocked same one stage ≡ list_any (hits same one) stage
  blocked-hits [] = refl
  blocked-hits (group ∷ stage) = list_any-append (conflict same one) group (systems_of stage) ∙ ap (λ b. hits same one group || b) (blocked-hits stage)

  counted : (stage : Stage Id) → (count_by (hits same one) stage == 0) ≡ not (is_blocked same one stage)
  counted stage = by (is_blocked same one stage) refl
    where
      none : (stage' : Stage Id) → list_any (hits same one) stage' ≡ false → count_by (hits same one) stage' ≡ 0
      none [] e = refl
      none (group ∷ stage') e =
          let both = or_parts (hits same one group) (list_any (hits same one) stage') e in
          sum_by-cons (λ g. cond (hits same one g) 1 0) group stage' ∙ ap (λ b. cond b 1 0 + count_by (hits same one) stage') both.0 ∙ ap (λ n. 0 + n) (none stage' both.1)

      by : (b : Bool) → is_blocked same one stage ≡ b → (count_by (hits same one) stage == 0) ≡ not b
      by true e = ne_eqb (count_by (hits same one) stage) 0 (λ z. false≢true (sym (count-none (hits same one) stage z) ∙ sym (blocked-hits stage) ∙ e))
      by false e = eq-eqb (count_by (hits same one) stage) 0 (none stage (sym (blocked-hits stage) ∙ e))

  module _ (rest : List ℕ) (stage : Stage Id) where
    -- a stage with which it conflicts doesn't admit a system that comes after more
    pub blocked-waits : is_blocked same one stage ≡ true → (length rest == 0) ≡ false → admitted same one rest stage ≡ None
    blocked-waits blocked more = rw (counted stage, blocked, more) (by (count_by (hits same one) stage == 1))
      where
        by : (b : Bool) → (if b && false then option_map Behind (position (λ group. hits same one group && joins one stage group) stage) else None) ≡ None
        by true = refl
        by false = refl

    -- nor one whose groups are all as long as the longest, or full
    pub blocked-tight : is_blocked same one stage ≡ true → is_loose stage ≡ false → admitted same one rest stage ≡ None
    blocked-tight blocked tight = rw (counted stage, blocked) (by ((count_by (hits same one) stage == 1) && (length rest == 0)) _ (ap (option_map Behind) (none-joined one stage (hits same one) tight)))
      where
        by : (b : Bool) (way : Option Way) → way ≡ None → (if b then way else None) ≡ None
        by true way e = e
        by false way e = refl

    -- the same for one that comes after more
    pub waits-tight : (length rest == 0) ≡ false → is_loose stage ≡ false → admitted same one rest stage ≡ None
    waits-tight more tight = by (cases_Bool (is_blocked same one stage))
      where
        by : (is_blocked same one stage ≡ true) ⊎ (is_blocked same one stage ≡ false) → admitted same one rest stage ≡ None
        by (inl blocked) = blocked-waits blocked more
        by (inr free) = rw (counted stage, free, more, none-joined one stage (completes rest) tight) refl

    -- a stage with which it doesn't conflict admits a system that comes after nothing more, as a group of its own
    pub free-alone : is_blocked same one stage ≡ false → (length rest == 0) ≡ true → admitted same one rest stage ≡ Some Alone
    free-alone free nothing = rw (counted stage, free, nothing) refl

    -- and one that does, behind a group that has all that is left
    pub free-wanted : is_blocked same one stage ≡ false → (length rest == 0) ≡ false → admitted same one rest stage ≡ option_map Behind (position (λ group. completes rest group && joins one stage group) stage)
    free-wanted free more = rw (counted stage, free, more) refl

    -- a stage after which something is left doesn't admit it
    pub incomplete : IsDistinct eqb rest → (length (rest_after rest (systems_of stage)) == 0) ≡ false → (length rest == 0) ≡ false → admitted same one rest stage ≡ None
    incomplete apart left more = by (cases_Bool (is_blocked same one stage))
      where
        missing : (i : ℕ) → i < length stage → completes rest (get_or stage i []) ≡ false
        missing i h = at (cases_Bool (length (rest_after rest (get_or stage i [])) == 0))
          where
            at : ((length (rest_after rest (get_or stage i [])) == 0) ≡ true) ⊎ ((length (rest_after rest (get_or stage i [])) == 0) ≡ false) → completes rest (get_or stage i []) ≡ false
            at (inr e) = ap (λ b. b && nat_lt (length (rest_after rest (get_or stage i []))) (length rest)) e
            at (inl e) =
                let all : list_all (has_number (get_or stage i [])) rest ≡ true =
                sym (filter-none (has_number (get_or stage i [])) rest) ∙ ap (λ list. length list == 0) (sym (rest-distinct (get_or stage i []) rest apart)) ∙ e in
                let here : list_all (has_number (systems_of stage)) rest ≡ true = all-more _ _ (λ n. has-group stage i n h) rest all in
                absurd (false≢true (sym left ∙ ap (λ list. length list == 0) (rest-distinct (systems_of stage) rest apart) ∙ filter-none (has_number (systems_of stage)) rest ∙ here))

        none : position (λ group. completes rest group && joins one stage group) stage ≡ None
        none = position-none _ stage (none-passes _ stage [] (λ i h. ap (λ b. b && joins one stage (get_or stage i [])) (missing i h)))

        by : (is_blocked same one stage ≡ true) ⊎ (is_blocked same one stage ≡ false) → admitted same one rest stage ≡ None
        by (inl blocked) = blocked-waits blocked more
        by (inr free) = free-wanted free more ∙ ap (option_map Behind) none

module _ {Id : Type 0} (same : Id → Id → Bool) (one : Placing Id) (stage : Stage Id) where
  -- a system that conflicts with a stage, and comes after nothing more, may join the one group with which it conflicts
  joined-is : is_blocked same one stage ≡ true
      → admitted same one [] stage ≡ (if count_by (hits same one) stage == 1 then option_map Behind (position (λ group. hits same one group && joins one stage group) stage) else None)
  joined-is blocked = rw (counted same one stage, blocked) (by (count_by (hits same one) stage == 1) (option_map Behind (position (λ group. hits same one group && joins one stage group) stage)))
    where
      by : (b : Bool) (way : Option Way) → (if b && true then way else None) ≡ (if b then way else None)
      by true way = refl
      by false way = refl

  pub joined-one : (place : ℕ) → is_blocked same one stage ≡ true → position (λ group. hits same one group && joins one stage group) stage ≡ Some place → count_by (hits same one) stage ≡ 1
      → admitted same one [] stage ≡ Some (Behind place)
  joined-one place blocked found single =
      joined-is blocked
      ∙ ap (λ b. if b then option_map Behind (position (λ group. hits same one group && joins one stage group) stage) else None) (eq-eqb (count_by (hits same one) stage) 1 single)
      ∙ ap (option_map Behind) found

  pub joined-many : is_blocked same one stage ≡ true → (count_by (hits same one) stage ≡ 1 → ⊥) → admitted same one [] stage ≡ None
  joined-many blocked more =
      joined-is blocked
      ∙ ap (λ b. if b then option_map Behind (position (λ group. hits same one group && joins one stage group) stage) else None) (ne_eqb (count_by (hits same one) stage) 1 more)

  pub joined-none : is_blocked same one stage ≡ true → position (λ group. hits same one group && joins one stage group) stage ≡ None → admitted same one [] stage ≡ None
  joined-none blocked none =
      joined-is blocked
      ∙ ap (λ found. if count_by (hits same one) stage == 1 then option_map Behind found else None) none
      ∙ by (count_by (hits same one) stage == 1) None
    where
      by : (b : Bool) (way : Option Way) → (if b then way else way) ≡ way
      by true way = refl
      by false way = refl
