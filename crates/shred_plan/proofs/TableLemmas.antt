-- Facts on the tables of an index.
use Rattle.std.proofs.Common.{◌≡◌, ℕ, ◌+◌, ◌-◌, ◌^◌, ◌<◌, ◌≤◌, min, max, Bool, true, false, not, ◌||◌, ◌&&◌, cond, ltb, leb, List, [], ◌∷◌, ◌++◌, length, get_or, take, refl, ap, sym, ◌∙◌, arith, Some, None, ◌⊎◌, inl, inr, append-nil}
use Rattle.std.specs.Prelude.{◌==◌}
use Rattle.std.specs.List.{list_any, list_all, filter}
use Rattle.std.specs.Option.{option_map_or}
use Rattle.std.specs.Ordering.{nat_cmp, is_eq}
use Rattle.std.specs.declared.cmp.Ordering.{Ordering}
use Rattle.std.specs.declared.cmp.Ordering.TheVariants.{Less, Equal, Greater}
use Rattle.std.specs.Cmp.{IsTotalOrder, IsEquivalence}
use Rattle.std.specs.Map.{lookup}
use Rattle.std.specs.BTreeMap.{BTreeMap, get, get_by, is_at}
use Rattle.std.proofs.lemmas.Bool.{cases_lt, le-leb, lt-leb, lt-ltb, le-ltb}
use Rattle.std.proofs.lemmas.List.Folds.{list_any_more, list_all_more, list_all_at}
use Rattle.std.proofs.lemmas.List.Elements.{filter_more}
use Rattle.shred_plan.specs.declared.stage_set.StageSet.{StageSet}
use Rattle.shred_plan.specs.Index.{has_stage, has_for, stood_before}

or-false : (b : Bool) → (b || false) ≡ b
or-false true = refl
or-false false = refl

and-true : (b : Bool) → (b && true) ≡ b
and-true true = refl
and-true false = refl

and-false : (b : Bool) → (b && false) ≡ false
and-false true = refl
and-false false = refl

-- only one answer is equal
tied : (o : Ordering) → is_eq o ≡ true → o ≡ Equal
tied Less e = cc
tied Equal e = refl
tied Greater e = cc

module _ {Id : Type 0} (cmp : Id → Id → Ordering) (same : Id → Id → Bool) (order : IsTotalOrder cmp) (alike : IsEquivalence same) (ties : (x y : Id) → same x y ≡ is_eq (cmp x y)) where
  -- equal ids have the same value
  get-same : {X : Type 0} (table : BTreeMap Id X) (key id : Id) → same key id ≡ true → get cmp table key ≡ get cmp table id
  get-same table key id e = λ i. lookup (λ z. is_eq (order.congr key id z (tied (cmp key id) (sym (ties key id) ∙ e)) i)) table.entries

  -- a table with a set in which one more stage stands, at a key
  marked : (before after : BTreeMap Id StageSet) (key : Id) (set : StageSet) (stage : ℕ)
      → ((q : Id) → get cmp after q ≡ cond (is_at (cmp key) q) (Some set) (get cmp before q))
      → ((q : Id) → same key q ≡ true → (place : ℕ) → has_stage set place ≡ (has_for cmp before q place || (stage == place)))
      → (q : Id) (place : ℕ) → has_for cmp after q place ≡ (has_for cmp before q place || ((stage == place) && same key q))
  marked before after key set stage updates holds q place =
      ap (λ value. option_map_or (λ s. has_stage s place) value false) (updates q)
      ∙ by (same key q) refl (is_at (cmp key) q) (sym (ties key q))
    where
      by : (b : Bool) → same key q ≡ b → (a : Bool) → a ≡ same key q
          → option_map_or (λ s. has_stage s place) (cond a (Some set) (get cmp before q)) false ≡ (has_for cmp before q place || ((stage == place) && same key q))
      by true is true at = holds q is place ∙ ap (λ b. has_for cmp before q place || b) (sym (ap (λ b. (stage == place) && b) is ∙ and-true (stage == place)))
      by false is false at = sym (ap (λ b. has_for cmp before q place || b) (ap (λ b. (stage == place) && b) is ∙ and-false (stage == place)) ∙ or-false (has_for cmp before q place))
      by true is false at = cc
      by false is true at = cc

  -- where the table had a set at the key, and it took in one more stage
  pub marked-known : (before after : BTreeMap Id StageSet) (key : Id) (old set : StageSet) (stage : ℕ)
      → get_by (cmp key) before ≡ Some old
      → ((q : Id) → get cmp after q ≡ cond (is_at (cmp key) q) (Some set) (get cmp before q))
      → ((place : ℕ) → has_stage set place ≡ (has_stage old place || (stage == place)))
      → (q : Id) (place : ℕ) → has_for cmp after q place ≡ (has_for cmp before q place || ((stage == place) && same key q))
  marked-known before after key old set stage had updates holds =
      marked before after key set stage updates
      (λ q e place. holds place ∙ ap (λ value. option_map_or (λ s. has_stage s place) value false || (stage == place)) (sym had ∙ get-same before key q e))

  -- where it had none at an id that the key is equal to
  pub marked-new : (before after : BTreeMap Id StageSet) (key id : Id) (none set : StageSet) (stage : ℕ)
      → get_by (cmp id) before ≡ None → same key id ≡ true
      → ((q : Id) → get cmp after q ≡ cond (is_at (cmp key) q) (Some set) (get cmp before q))
      → ((place : ℕ) → has_stage none place ≡ false)
      → ((place : ℕ) → has_stage set place ≡ (has_stage none place || (stage == place)))
      → (q : Id) (place : ℕ) → has_for cmp after q place ≡ (has_for cmp before q place || ((stage == place) && same id q))
  marked-new before after key id none set stage had equal updates empty holds q place =
      marked before after key set stage updates
      (λ q e place. holds place ∙ ap (λ b. b || (stage == place)) (empty place ∙ ap (λ value. option_map_or (λ s. has_stage s place) value false) (sym (sym (get-same before key q e) ∙ get-same before key id equal ∙ had))))
      q place
      ∙ ap (λ b. has_for cmp before q place || ((stage == place) && b)) (alike.congr key id q equal)

-- what is marked for two lists
pub marked-both : (x y z w : Bool) → ((x || (y && z)) || (y && w)) ≡ (x || (y && (z || w)))
marked-both true y z w = refl
marked-both false true true w = refl
marked-both false true false w = refl
marked-both false false z w = refl

-- one id more of a list that is marked
pub marked-more : {Id : Type 0} (same : Id → Id → Bool) (ids : List Id) (i : ℕ) (d q : Id) (stage place : ℕ) (before : Bool) → i < length ids
    → ((before || ((stage == place) && list_any (λ other. same other q) (take i ids))) || ((stage == place) && same (get_or ids i d) q))
    ≡ (before || ((stage == place) && list_any (λ other. same other q) (take (i + 1) ids)))
marked-more same ids i d q stage place before h =
    marked-both before (stage == place) (list_any (λ other. same other q) (take i ids)) (same (get_or ids i d) q)
    ∙ ap (λ b. before || ((stage == place) && b)) (sym (list_any_more (λ other. same other q) ids i d h))

-- the same at a step of a loop
pub marked-step : {Id : Type 0} (same : Id → Id → Bool) (ids : List Id) (i : ℕ) (d q : Id) (stage place : ℕ) (first before after : Bool) → i < length ids → d ≡ get_or ids i d
    → after ≡ (before || ((stage == place) && same d q))
    → before ≡ (first || ((stage == place) && list_any (λ other. same other q) (take i ids)))
    → after ≡ (first || ((stage == place) && list_any (λ other. same other q) (take (i + 1) ids)))
marked-step same ids i d q stage place first before after h read step invariant =
    step
    ∙ ap (λ b. b || ((stage == place) && same d q)) invariant
    ∙ ap (λ x. (first || ((stage == place) && list_any (λ other. same other q) (take i ids))) || ((stage == place) && same x q)) read
    ∙ marked-more same ids i d q stage place first h

-- a stage is before one, where it isn't past the end of numbers
later : (first next place : ℕ) → place < 2 ^ 63 → next ≡ min (first + 1) (2 ^ 64 - 1) → ltb first place ≡ leb next place
later first next place small is = by (cases_lt first place)
  where
    by : (first < place) ⊎ (place ≤ first) → ltb first place ≡ leb next place
    by (inl h) = lt-ltb first place h ∙ sym (le-leb next place (omega arith))
    by (inr h) = le-ltb first place h ∙ sym (lt-leb next place (omega arith))

both-before : (x y place : ℕ) → (leb x place && leb y place) ≡ leb (max x y) place
both-before x y place = by (cases_lt place x) (cases_lt place y)
  where
    by : (place < x) ⊎ (x ≤ place) → (place < y) ⊎ (y ≤ place) → (leb x place && leb y place) ≡ leb (max x y) place
    by (inl h) k = ap (λ b. b && leb y place) (lt-leb x place h) ∙ sym (lt-leb (max x y) place (omega arith))
    by (inr h) (inl k) = ap (λ b. b && leb y place) (le-leb x place h) ∙ lt-leb y place k ∙ sym (lt-leb (max x y) place (omega arith))
    by (inr h) (inr k) = ap (λ b. b && leb y place) (le-leb x place h) ∙ le-leb y place k ∙ sym (le-leb (max x y) place (omega arith))

-- the stage before which one number more stands
pub ready-more : (firsts : BTreeMap ℕ ℕ) (numbers : List ℕ) (i ready first more next place : ℕ) → i < length numbers
    → get nat_cmp firsts (get_or numbers i 0) ≡ Some first → more ≡ min (first + 1) (2 ^ 64 - 1) → next ≡ max ready more → place < 2 ^ 63
    → list_all (λ number. stood_before firsts number place) (take i numbers) ≡ leb ready place
    → list_all (λ number. stood_before firsts number place) (take (i + 1) numbers) ≡ leb next place
ready-more firsts numbers i ready first more next place h found is joined small before =
    list_all_more (λ number. stood_before firsts number place) numbers i 0 h
    ∙ ap (λ b. b && stood_before firsts (get_or numbers i 0) place) before
    ∙ ap (λ value. leb ready place && option_map_or (λ f. ltb f place) value false) found
    ∙ ap (λ b. leb ready place && b) (later first more place small is)
    ∙ both-before ready more place
    ∙ ap (λ n. leb n place) (sym joined)

-- a number that stands nowhere
pub ready-never : (firsts : BTreeMap ℕ ℕ) (numbers : List ℕ) (i place : ℕ) → i < length numbers → get nat_cmp firsts (get_or numbers i 0) ≡ None
    → list_all (λ number. stood_before firsts number place) numbers ≡ false
ready-never firsts numbers i place h found =
    list_all_at (λ number. stood_before firsts number place) numbers i 0 h (ap (λ value. option_map_or (λ f. ltb f place) value false) found)

-- one number more of those that are left, and one that isn't
pub rest-kept : (test : ℕ → Bool) (numbers rest : List ℕ) (i : ℕ) → i < length numbers → rest ≡ filter (λ n. not (test n)) (take i numbers) → test (get_or numbers i 0) ≡ false
    → rest ++ get_or numbers i 0 ∷ [] ≡ filter (λ n. not (test n)) (take (i + 1) numbers)
rest-kept test numbers rest i h before is =
    ap (λ list. list ++ get_or numbers i 0 ∷ []) before
    ∙ ap (λ b. filter (λ n. not (test n)) (take i numbers) ++ cond (not b) (get_or numbers i 0 ∷ []) []) (sym is)
    ∙ sym (filter_more (λ n. not (test n)) numbers i 0 h)

pub rest-left : (test : ℕ → Bool) (numbers rest : List ℕ) (i : ℕ) → i < length numbers → rest ≡ filter (λ n. not (test n)) (take i numbers) → test (get_or numbers i 0) ≡ true
    → rest ≡ filter (λ n. not (test n)) (take (i + 1) numbers)
rest-left test numbers rest i h before is =
    before
    ∙ sym (append-nil (filter (λ n. not (test n)) (take i numbers)))
    ∙ ap (λ b. filter (λ n. not (test n)) (take i numbers) ++ cond (not b) (get_or numbers i 0 ∷ []) []) (sym is)
    ∙ sym (filter_more (λ n. not (test n)) numbers i 0 h)
