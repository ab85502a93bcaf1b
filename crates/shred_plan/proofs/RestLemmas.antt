-- Facts on lists of numbers from which one is taken out.
use Rattle.std.proofs.Common.{◌+◌, ◌≤◌, false, Bool, true, ◌≢◌, eq-eqb, ne_eqb, ◌≡◌, ℕ, ◌<◌, zero, suc, List, [], ◌∷◌, length, get_or, refl, ap, sym, ◌∙◌, arith}
use Rattle.std.specs.List.{remove, list_any}
use Rattle.std.proofs.lemmas.Bool.{or_parts, eqb-false}
use Rattle.std.specs.Prelude.{if◌then◌else◌, ◌==◌, ◌&&◌, nat_lt}
use Rattle.shred_plan.specs.Plan.{Placing, without, rest_after, completes}

-- where a number stands, and not before, is the place that is taken out
pub without-at : (xs : List ℕ) (n i : ℕ) → i < length xs → get_or xs i 0 ≡ n → ((k : ℕ) → k < i → get_or xs k 0 ≢ n) → without xs n ≡ remove xs i
without-at [] n i h e before = absurd (omega arith)
without-at (x ∷ xs) n zero h e before = rw (eq-eqb x n e) refl
without-at (x ∷ xs) n (suc i) h e before =
    rw (ne_eqb x n (before 0 (omega arith))) (ap (λ t. x ∷ t) (without-at xs n i (omega arith) e (λ k q. before (suc k) (omega arith))))

-- a number that stands nowhere isn't taken out
pub without-nowhere : (xs : List ℕ) (n : ℕ) → ((k : ℕ) → k < length xs → get_or xs k 0 ≢ n) → without xs n ≡ xs
without-nowhere [] n others = refl
without-nowhere (x ∷ xs) n others = rw (ne_eqb x n (others 0 (omega arith))) (ap (λ t. x ∷ t) (without-nowhere xs n (λ k h. others (suc k) (omega arith))))

-- at most one is taken out
length-without : (xs : List ℕ) (n : ℕ) → length xs ≤ length (without xs n) + 1
length-without [] n = omega arith
length-without (x ∷ xs) n = by (x == n) (length-without xs n)
  where
    by : (b : Bool) → length xs ≤ length (without xs n) + 1 → suc (length xs) ≤ length (if b then xs else x ∷ without xs n) + 1
    by true h = omega arith
    by false h = omega arith

length-rest : {Id : Type 0} (systems : List (Placing Id)) (rest : List ℕ) → length rest ≤ length (rest_after rest systems) + length systems
length-rest [] rest = omega arith
length-rest (one ∷ systems) rest = omega (arith, length-without rest one.number, length-rest systems (without rest one.number))

-- a group doesn't complete a longer list
pub completes-longer : {Id : Type 0} (group : List (Placing Id)) (rest : List ℕ) → length group < length rest → completes rest group ≡ false
completes-longer group rest h = rw (ne_eqb (length (rest_after rest group)) 0 (λ e. omega (arith, length-rest group rest))) refl

-- a number that no system of a group has stays
rest-stays : {Id : Type 0} (group : List (Placing Id)) (number : ℕ) (rest : List ℕ) → list_any (λ system. system.number == number) group ≡ false → rest_after (number ∷ rest) group ≡ number ∷ rest_after rest group
rest-stays [] number rest e = refl
rest-stays (one ∷ group) number rest e =
    let both = or_parts (one.number == number) (list_any (λ system. system.number == number) group) e in
    ap (λ b. rest_after (if b then rest else number ∷ without rest one.number) group) (ne_eqb number one.number (λ q. eqb-false one.number number both.0 (sym q)))
    ∙ rest-stays group number (without rest one.number) both.1

-- a group that doesn't have the first doesn't complete the list, and none completes an empty one
pub completes-missing : {Id : Type 0} (group : List (Placing Id)) (rest : List ℕ) (first : ℕ) → 0 < length rest → first ≡ get_or rest 0 first → list_any (λ system. system.number == first) group ≡ false → completes rest group ≡ false
completes-missing group [] first h read e = absurd (omega arith)
completes-missing group (number ∷ rest) first h read e =
    let gone : list_any (λ system. system.number == number) group ≡ false = ap (λ n. list_any (λ system. system.number == n) group) (sym read) ∙ e in
    ap (λ list. (length list == 0) && nat_lt (length list) (suc (length rest))) (rest-stays group number rest gone)
    ∙ ap (λ b. b && nat_lt (suc (length (rest_after rest group))) (suc (length rest))) (ne_eqb (suc (length (rest_after rest group))) 0 (λ q. omega arith))
