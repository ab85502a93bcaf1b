-- Facts on what an index keeps of the stages of a plan.
use Rattle.std.proofs.Common.{◌≡◌, ◌≢◌, ℕ, ◌<◌, ◌≤◌, zero, suc, Bool, true, false, ◌||◌, ◌&&◌, List, [], ◌∷◌, ◌++◌, length, take, refl, ap, sym, ◌∙◌, arith, Option, Some, None, ◌⊎◌, inl, inr, eq-eqb, ne_eqb, append-nil}
use Rattle.std.specs.Prelude.{◌==◌, nat_lt}
use Rattle.std.specs.List.{list_any}
use Rattle.std.proofs.Math.Bool.{or_comm}
use Rattle.std.proofs.Math.ListN.{set}
use Rattle.std.proofs.Math.Seq.{take-suc}
use Rattle.std.proofs.lemmas.Bool.{cases_eq, cases_lt, cases_order, lt-ltb, le-ltb}
use Rattle.std.proofs.lemmas.Grind.{flat_map-append}
use Rattle.std.proofs.lemmas.List.{get_or_past, get_or_append_left, get_or_push, get_or-set_same, get_or-set_other, take_all, length_push}
use Rattle.std.proofs.lemmas.List.Folds.{list_any-append}
use Rattle.std.proofs.lemmas.List.Sorted.{list_any-IsPermutation}
use Rattle.shred_plan.specs.declared.planner.Place.{Place}
use Rattle.shred_plan.specs.Plan.{Placing, Stage, conflict, share, taken, systems_of, plan_order}
use Rattle.shred_plan.specs.Places.{IsPlace, placed_at}
use Rattle.shred_plan.specs.Index.{stage_at, writes, uses}
use Rattle.shred_plan.specs.Kept.{stage_of}
use Rattle.shred_plan.proofs.LawLemmas.{systems-taken}

-- tests of lists

any-or : {A : Type 0} (p q : A → Bool) (xs : List A) → (list_any p xs || list_any q xs) ≡ list_any (λ x. p x || q x) xs
any-or p q [] = refl
any-or p q (x ∷ xs) = by (p x) (list_any p xs) (q x) (list_any q xs) ∙ ap (λ b. (p x || q x) || b) (any-or p q xs)
  where
    by : (a b c d : Bool) → ((a || b) || (c || d)) ≡ ((a || c) || (b || d))
    by true b c d = refl
    by false true true d = refl
    by false true false d = refl
    by false false c d = refl

any-same : {A : Type 0} (p q : A → Bool) → ((x : A) → p x ≡ q x) → (xs : List A) → list_any p xs ≡ list_any q xs
any-same p q same [] = refl
any-same p q same (x ∷ xs) = ap (λ b. b || list_any p xs) (same x) ∙ ap (λ b. q x || b) (any-same p q same xs)

any-none : {A : Type 0} (xs : List A) → list_any (λ x. false) xs ≡ false
any-none [] = refl
any-none (x ∷ xs) = any-none xs

-- it is one whether each of one list is looked for in another, or the other way round
any-swap : {A B : Type 0} (r : A → B → Bool) (xs : List A) (ys : List B) → list_any (λ x. list_any (r x) ys) xs ≡ list_any (λ y. list_any (λ x. r x y) xs) ys
any-swap r [] ys = sym (any-none ys)
any-swap r (x ∷ xs) ys = ap (λ b. list_any (r x) ys || b) (any-swap r xs ys) ∙ any-or (r x) (λ y. list_any (λ z. r z y) xs) ys

module _ {Id : Type 0} (same : Id → Id → Bool) (turns : (x y : Id) → same x y ≡ same y x) where
  -- what a system conflicts with, by the ids that the other writes and uses
  conflict-by : (one other : Placing Id) → (list_any (λ id. writes same other id) one.reads || list_any (λ id. uses same other id) one.writes) ≡ conflict same one other
  conflict-by one other =
      ap (λ b. b || list_any (λ id. uses same other id) one.writes) reads
      ∙ ap (λ b. share same other.writes one.reads || b) (sym (any-or (λ id. list_any (λ x. same x id) other.writes) (λ id. list_any (λ x. same x id) other.reads) one.writes))
      ∙ ap (λ b. share same other.writes one.reads || (b || list_any (λ id. list_any (λ x. same x id) other.reads) one.writes)) written
      ∙ ap (λ b. share same other.writes one.reads || (share same other.writes one.writes || b)) read
      ∙ by (share same one.writes other.reads) (share same other.writes one.writes) (share same other.writes one.reads)
      ∙ ap (λ b. (share same one.writes other.reads || b) || (share same other.writes one.reads || share same other.writes one.writes)) (sym turned)
    where
      reads : list_any (λ id. list_any (λ x. same x id) other.writes) one.reads ≡ share same other.writes one.reads
      reads = any-swap (λ id x. same x id) one.reads other.writes

      written : list_any (λ id. list_any (λ x. same x id) other.writes) one.writes ≡ share same other.writes one.writes
      written = any-swap (λ id x. same x id) one.writes other.writes

      read : list_any (λ id. list_any (λ x. same x id) other.reads) one.writes ≡ share same one.writes other.reads
      read = any-same (λ id. list_any (λ x. same x id) other.reads) (λ id. list_any (same id) other.reads) (λ id. any-same (λ x. same x id) (same id) (λ x. turns x id) other.reads) one.writes

      turned : share same one.writes other.writes ≡ share same other.writes one.writes
      turned = any-same (λ id. list_any (same id) other.writes) (λ id. list_any (λ x. same x id) other.writes) (λ id. any-same (same id) (λ x. same x id) (λ x. turns id x) other.writes) one.writes ∙ written

      by : (a b c : Bool) → (c || (b || a)) ≡ ((a || b) || (c || b))
      by true true true = refl
      by true true false = refl
      by true false true = refl
      by true false false = refl
      by false true true = refl
      by false true false = refl
      by false false true = refl
      by false false false = refl

  -- the same of a system and a list of others
  pub conflicts-by : (one : Placing Id) (systems : List (Placing Id))
      → (list_any (λ id. list_any (λ other. writes same other id) systems) one.reads || list_any (λ id. list_any (λ other. uses same other id) systems) one.writes)
      ≡ list_any (conflict same one) systems
  conflicts-by one systems =
      ap (λ b. b || list_any (λ id. list_any (λ other. uses same other id) systems) one.writes) (any-swap (λ id other. writes same other id) one.reads systems)
      ∙ ap (λ b. list_any (λ other. list_any (λ id. writes same other id) one.reads) systems || b) (any-swap (λ id other. uses same other id) one.writes systems)
      ∙ any-or (λ other. list_any (λ id. writes same other id) one.reads) (λ other. list_any (λ id. uses same other id) one.writes) systems
      ∙ any-same _ (conflict same one) (conflict-by one) systems

or-false : (b : Bool) → (b || false) ≡ b
or-false true = refl
or-false false = refl

module _ {Id : Type 0} (test : Placing Id → Bool) (one : Placing Id) where
  -- whether a system of the stage at a place passes a test
  abbrev at : List (Stage Id) → ℕ → Bool
  at stages place = list_any test (systems_of (stage_at stages place))

  away : (stages : List (Stage Id)) (s place : ℕ) → place ≢ s → (at stages place || ((s == place) && test one)) ≡ at stages place
  away stages s place ne = ap (λ b. at stages place || (b && test one)) (ne_eqb s place (λ e. ne (sym e))) ∙ or-false (at stages place)

  there : (stages : List (Stage Id)) (s place : ℕ) → place ≡ s → (at stages place || ((s == place) && test one)) ≡ (at stages place || test one)
  there stages s place e = ap (λ b. at stages place || (b && test one)) (eq-eqb s place (sym e))

  -- the stage that takes a system in has one more that may pass
  pub any-placed : (stages : List (Stage Id)) (found : Option Place) → IsPlace stages found → (place : ℕ)
      → at (placed_at one stages found) place ≡ (at stages place || ((stage_of stages found == place) && test one))
  any-placed stages None fits place = by (cases_order place (length stages))
    where
      new : Stage Id
      new = (one ∷ []) ∷ []

      P : Type 0
      P = at (stages ++ new ∷ []) place ≡ (at stages place || ((length stages == place) && test one))

      by : (place ≡ length stages) ⊎ ((place < length stages) ⊎ (length stages < place)) → P
      by (inl e) =
          ap (λ stage. list_any test (systems_of stage)) (get_or_push stages new [] place (sym e))
          ∙ or-false (test one)
          ∙ sym (there stages (length stages) place e ∙ ap (λ stage. list_any test (systems_of stage) || test one) (get_or_past stages place [] (omega arith)))
      by (inr (inl h)) =
          ap (λ stage. list_any test (systems_of stage)) (get_or_append_left stages (new ∷ []) [] place h)
          ∙ sym (away stages (length stages) place (λ e. omega arith))
      by (inr (inr h)) =
          ap (λ stage. list_any test (systems_of stage)) (get_or_past (stages ++ new ∷ []) place [] (omega (arith, length_push stages new)) ∙ sym (get_or_past stages place [] (omega arith)))
          ∙ sym (away stages (length stages) place (λ e. omega arith))
  any-placed stages (Some found) fits place = by (cases_eq place found.stage)
    where
      next : Stage Id
      next = taken one (stage_at stages found.stage) found.way

      by : (place ≡ found.stage) ⊎ (place ≡ found.stage → ⊥) → at (set stages found.stage next) place ≡ (at stages place || ((found.stage == place) && test one))
      by (inl e) =
          ap (λ p. at (set stages found.stage next) p) e
          ∙ ap (λ stage. list_any test (systems_of stage)) (get_or-set_same stages found.stage next [] fits.0)
          ∙ list_any-IsPermutation test _ _ (systems-taken one (stage_at stages found.stage) found.way fits.1)
          ∙ or_comm (test one) (at stages found.stage)
          ∙ ap (λ p. at stages p || test one) (sym e)
          ∙ sym (there stages found.stage place e)
      by (inr ne) =
          ap (λ stage. list_any test (systems_of stage)) (get_or-set_other stages found.stage place next [] ne)
          ∙ sym (away stages found.stage place ne)

  -- whether a system of a stage before one passes
  abbrev upto : List (Stage Id) → ℕ → Bool
  upto stages zero = false
  upto stages (suc place) = upto stages place || at stages place

  upto-order : (stages : List (Stage Id)) (place : ℕ) → list_any test (plan_order (take place stages)) ≡ upto stages place
  upto-order stages zero = refl
  upto-order stages (suc place) = by (cases_lt place (length stages)) (upto-order stages place)
    where
      by : (place < length stages) ⊎ (length stages ≤ place) → list_any test (plan_order (take place stages)) ≡ upto stages place
          → list_any test (plan_order (take (suc place) stages)) ≡ (upto stages place || at stages place)
      by (inl h) before =
          ap (λ list. list_any test (plan_order list)) (take-suc stages place [] h)
          ∙ ap (list_any test) (flat_map-append systems_of (take place stages) (stage_at stages place ∷ []) ∙ ap (λ list. plan_order (take place stages) ++ list) (append-nil (systems_of (stage_at stages place))))
          ∙ list_any-append test (plan_order (take place stages)) (systems_of (stage_at stages place))
          ∙ ap (λ b. b || at stages place) before
      by (inr h) before =
          ap (λ list. list_any test (plan_order list)) (take_all (suc place) stages (omega arith) ∙ sym (take_all place stages h))
          ∙ before
          ∙ sym (ap (λ stage. upto stages place || list_any test (systems_of stage)) (get_or_past stages place [] h) ∙ or-false (upto stages place))

  sooner : (s place : ℕ) → (nat_lt s place || (s == place)) ≡ nat_lt s (suc place)
  sooner s place = by (cases_order s place)
    where
      by : (s ≡ place) ⊎ ((s < place) ⊎ (place < s)) → (nat_lt s place || (s == place)) ≡ nat_lt s (suc place)
      by (inl e) = ap (λ b. b || (s == place)) (le-ltb s place (omega arith)) ∙ eq-eqb s place e ∙ sym (lt-ltb s (suc place) (omega arith))
      by (inr (inl h)) = ap (λ b. b || (s == place)) (lt-ltb s place h) ∙ sym (lt-ltb s (suc place) (omega arith))
      by (inr (inr h)) = ap (λ b. b || (s == place)) (le-ltb s place (omega arith)) ∙ ne_eqb s place (λ e. omega arith) ∙ sym (le-ltb s (suc place) (omega arith))

  upto-placed : (stages : List (Stage Id)) (found : Option Place) → IsPlace stages found → (place : ℕ)
      → upto (placed_at one stages found) place ≡ (upto stages place || (nat_lt (stage_of stages found) place && test one))
  upto-placed stages found fits zero = ap (λ b. b && test one) (sym (le-ltb (stage_of stages found) zero (omega arith)))
  upto-placed stages found fits (suc place) =
      ap (λ b. b || at (placed_at one stages found) place) (upto-placed stages found fits place)
      ∙ ap (λ b. (upto stages place || (nat_lt (stage_of stages found) place && test one)) || b) (any-placed stages found fits place)
      ∙ by (upto stages place) (nat_lt (stage_of stages found) place) (test one) (at stages place) (stage_of stages found == place)
      ∙ ap (λ b. (upto stages place || at stages place) || (b && test one)) (sooner (stage_of stages found) place)
    where
      by : (u l t a e : Bool) → ((u || (l && t)) || (a || (e && t))) ≡ ((u || a) || ((l || e) && t))
      by true l t a e = refl
      by false true true true e = refl
      by false true true false e = refl
      by false true false true e = refl
      by false true false false true = refl
      by false true false false false = refl
      by false false t true e = refl
      by false false t false e = refl

  -- and so has the order of the stages before a later one
  pub any-before : (stages : List (Stage Id)) (found : Option Place) → IsPlace stages found → (place : ℕ)
      → list_any test (plan_order (take place (placed_at one stages found))) ≡ (list_any test (plan_order (take place stages)) || (nat_lt (stage_of stages found) place && test one))
  any-before stages found fits place =
      upto-order (placed_at one stages found) place
      ∙ upto-placed stages found fits place
      ∙ ap (λ b. b || (nat_lt (stage_of stages found) place && test one)) (sym (upto-order stages place))
