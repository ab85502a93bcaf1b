-- Builders by what was asked of them.
use Rattle.std.proofs.Common.{◌≡◌, ℕ, Bool, true, false, ◌||◌, List, [], ◌∷◌, ◌++◌, length, map, Option, Some, None, refl, ap, sym, subst}
use Rattle.std.specs.Prelude.{◌==◌, if◌then◌else◌, is_some, is_none, nat_lt}
use Rattle.std.specs.List.{fold, cons_option}
use Rattle.std.specs.Str.{bytes_eq}
use Rattle.std.proofs.lemmas.Option.{none-some, same_Some}
use Rattle.std.proofs.lemmas.Bool.{false≢true, or_right}
use Rattle.std.proofs.lemmas.Bool.Decides.{Decides-eqb}
use Rattle.shred_world.specs.declared.resource_id.ResourceId.{ResourceId}
use Rattle.shred_plan.specs.Plan.{added}
use Rattle.shred_plan.specs.Laws.{has, AreAmong, ComeAfter, StagesWait}
use Rattle.shred_plan.proofs.CallerLemmas.{systems-wait}
use Rattle.shred.specs.declared.error.AddError.TheVariants.{NoSuchSystem, NameTaken, SystemsFull}
use Rattle.shred.specs.Names.{Named, number_under, numbers_under, lacks_one, with_name}
use Rattle.shred.specs.Building.{Building, nothing_built, refusal}
use Rattle.shred.specs.Histories.{Asked, system, barrier, with_asked, built_from, told, AreNumbersOf}

-- what names give are numbers that are known
abbrev NamesKnown : List Named → List ℕ → Type 0
NamesKnown names known = (name : List ℕ) (n : ℕ) → number_under names name ≡ Some n → has known n ≡ true

-- what is found behind one more name is found before it, or is its number
number-more : {P : Type 0} (names : List Named) (name other : List ℕ) (number n : ℕ) → number_under (names ++ (name, number) ∷ []) other ≡ Some n → (number_under names other ≡ Some n → P) → (n ≡ number → P) → P
number-more {P} [] name other number n e f g = by (bytes_eq other name) e
  where
    by : (b : Bool) → (if b then Some number else None) ≡ Some n → P
    by true is = g (sym (same_Some number n is))
    by false is = absurd (none-some n is)
number-more {P} (first ∷ names) name other number n e f g = by (bytes_eq other first.0) e f (λ is found. number-more names name other number n is found g)
  where
    by : (b : Bool) → (if b then Some first.1 else number_under (names ++ (name, number) ∷ []) other) ≡ Some n → ((if b then Some first.1 else number_under names other) ≡ Some n → P)
        → (number_under (names ++ (name, number) ∷ []) other ≡ Some n → (number_under names other ≡ Some n → P) → P) → P
    by true is found later = found is
    by false is found later = later is found

known-more : (known : List ℕ) (number n : ℕ) → has known n ≡ true → has (number ∷ known) n ≡ true
known-more known number n e = or_right (number == n) (has known n) e

known-first : (known : List ℕ) (number n : ℕ) → n ≡ number → has (number ∷ known) n ≡ true
known-first known number n e = ap (λ b. b || has known n) ((Decides-eqb number n).1 (sym e))

known-with : (names : List Named) (known : List ℕ) (name : List ℕ) (number : ℕ) → NamesKnown names known → NamesKnown (with_name names name number) (number ∷ known)
known-with names known name number old = by (bytes_eq name [])
  where
    by : (b : Bool) → NamesKnown (if b then names else names ++ (name, number) ∷ []) (number ∷ known)
    by true other n e = known-more known number n (old other n e)
    by false other n e = number-more names name other number n e (λ found. known-more known number n (old other n found)) (λ is. known-first known number n is)

known-numbers : (names : List Named) (known : List ℕ) → NamesKnown names known → (after : List (List ℕ)) → AreAmong (numbers_under names after) known
known-numbers names known old [] d e = absurd (false≢true e)
known-numbers names known old (name ∷ after) d e = by (number_under names name) (λ n is. old name n is) e (known-numbers names known old after d)
  where
    by : (o : Option ℕ) → ((n : ℕ) → o ≡ Some n → has known n ≡ true) → has (cons_option o (numbers_under names after)) d ≡ true → (has (numbers_under names after) d ≡ true → has known d ≡ true) → has known d ≡ true
    by None here is later = later is
    by (Some n) here is later = first (n == d) refl is
      where
        first : (b : Bool) → (n == d) ≡ b → (b || has (numbers_under names after) d) ≡ true → has known d ≡ true
        first true same is = subst (λ (x : ℕ). has known x ≡ true) ((Decides-eqb n d).0 same) (here n refl)
        first false same is = later is

module _ {S : Type 0} (same : ResourceId → ResourceId → Bool) where
  pub planned : (building : Building S) (list : List (Asked S)) → (built_from same building list).staging.planning ≡ fold (added same) building.staging.planning (told same building list)
  planned building [] = refl
  planned building (system one declared name after ∷ later) = planned (with_asked same building (system one declared name after)) later
  planned building (barrier ∷ later) = planned (with_asked same building barrier) later

  come-after : (building : Building S) (known : List ℕ) (list : List (Asked S)) → NamesKnown building.names known → ComeAfter known (told same building list)
  come-after building known [] old = tt
  come-after building known (barrier ∷ later) old = come-after (with_asked same building barrier) known later old
  come-after building known (system one declared name after ∷ later) old = (
    known-numbers building.names known old after,
    come-after (with_asked same building (system one declared name after)) (length building.staging.systems ∷ known) later (known-with building.names known name (length building.staging.systems) old),
  )

  pub named-wait : (list : List (Asked S)) → StagesWait [] (built_from same nothing_built list).staging.planning.stages
  named-wait list =
      subst (λ planning. StagesWait [] planning.stages) (sym (planned nothing_built list))
      (systems-wait same (told same nothing_built list) (come-after nothing_built [] list (λ name n e. absurd (none-some n e))))

-- where no name is unknown, each has its number
all-numbered : (names : List Named) (after : List (List ℕ)) → lacks_one names after ≡ false → AreNumbersOf names after (numbers_under names after)
all-numbered names [] e = refl
all-numbered names (name ∷ after) e = by (number_under names name) e (all-numbered names after)
  where
    by : (o : Option ℕ) → (is_none o || lacks_one names after) ≡ false → (lacks_one names after ≡ false → AreNumbersOf names after (numbers_under names after)) → (o ∷ map (number_under names) after) ≡ map Some (cons_option o (numbers_under names after))
    by None is later = absurd (false≢true (sym is))
    by (Some n) is later = ap (λ list. Some n ∷ list) (later is)

-- no name that a system gives is unknown, where it is taken
pub none-unknown : {S : Type 0} (building : Building S) (name : List ℕ) (after : List (List ℕ)) → refusal building name after ≡ None → lacks_one building.names after ≡ false
none-unknown building name after e = by (lacks_one building.names after) e
  where
    by : (b : Bool) → (if b then Some NoSuchSystem else (if is_some (number_under building.names name) then Some NameTaken else (if nat_lt (length building.staging.systems) 65536 then None else Some SystemsFull))) ≡ None → b ≡ false
    by true is = absurd (none-some NoSuchSystem (sym is))
    by false is = refl

pub none-passed-over : {S : Type 0} (building : Building S) (name : List ℕ) (after : List (List ℕ)) → refusal building name after ≡ None → AreNumbersOf building.names after (numbers_under building.names after)
none-passed-over building name after e = all-numbered building.names after (none-unknown building name after e)
