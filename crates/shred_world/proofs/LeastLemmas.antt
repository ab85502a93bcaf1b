-- The least dynamic number among the slots of a world.
use Rattle.std.proofs.Common.{◌≡◌, ◌≢◌, ℕ, zero, suc, ◌+◌, ◌<◌, ◌≤◌, min, Bool, true, false, cond, ◌&&◌, Option, None, Some, IsSome, List, [], ◌∷◌, drop, length-drop, get_or, ◌⊎◌, inl, inr, refl, sym, ap, subst, ◌∙◌, arith}
use Rattle.std.specs.Prelude.{⊤}
use Rattle.std.specs.Prelude.{◌==◌, is_some, nat_le}
use Rattle.std.specs.Map.{lookup, keys_of}
use Rattle.std.specs.Option.{option_flatten}
use Rattle.std.proofs.lemmas.Bool.Decides.{nat_tests}
use Rattle.std.specs.declared.cmp.Ordering.{Ordering}
use Rattle.std.specs.declared.cmp.Ordering.TheVariants.{Less, Equal, Greater}
use Rattle.std.specs.Ordering.{nat_cmp, ordering_then, MatchOrdering}
use Rattle.std.specs.Cmp.{ranks}
use Rattle.std.specs.List.{IsDistinct, AllByRecursion}
use Rattle.std.specs.List.Sorted.{IsStrictlySortedBy}
use Rattle.std.proofs.lemmas.List.{get_or-drop}
use Rattle.std.specs.FinMap.{get}
use Rattle.shred_world.specs.declared.resource_id.ResourceId.{ResourceId}
use Rattle.shred_world.specs.ResourceIds.{id_of, id_cmp, same_id}
use Rattle.shred_world.specs.Places.{AreSorted, IsStartOf, first_valued}
use Rattle.shred_world.specs.Worlds.{Slots, IsLeastFrom}
use Rattle.std.proofs.lemmas.Bool.{false≢true}
use Rattle.std.proofs.lemmas.Map.{lookup-none}
use Rattle.std.proofs.lemmas.Map.Entries.{none_past_head}
use Rattle.std.proofs.lemmas.Option.{same_Some}
use native.Mathlib.Decide.{dec_le}
use Rattle.shred_world.proofs.IdLemmas.{same_id-is, same_id-itself, same_id_equiv}
use Rattle.shred_world.proofs.PlaceLemmas.{HasLesserBefore, lesser_later, all_at}

-- the lesser of two numbers, where they are there
abbrev pub lesser : Option ℕ → Option ℕ → Option ℕ
lesser None o = o
lesser (Some x) None = Some x
lesser (Some x) (Some y) = Some (min x y)

module _ {V : Type 0} where
  -- whether the entry counts
  abbrev pub counts : (kind from : ℕ) → ResourceId × Option V → Bool
  counts kind from e = is_some e.1 && (e.0.kind == kind && nat_le from e.0.dynamic)

  abbrev pub number_of : (kind from : ℕ) → ResourceId × Option V → Option ℕ
  number_of kind from e = cond (counts kind from e) (Some e.0.dynamic) None

  abbrev pub least_of : (kind from : ℕ) → List (ResourceId × Option V) → Option ℕ
  least_of kind from [] = None
  least_of kind from (e ∷ es) = lesser (number_of kind from e) (least_of kind from es)

lesser_is : (x y : ℕ) → (min x y ≡ x) ⊎ (min x y ≡ y)
lesser_is x y = elim (dec_le x y) [ yes h ↦ inl (omega arith) | no h ↦ inr (omega arith) ]

none_is : (m : ℕ) → None ≡ Some m → ⊥
none_is m e = cc

first_bounds : (d : ℕ) (rest : Option ℕ) → (m : ℕ) × (lesser (Some d) rest ≡ Some m) × (m ≤ d)
first_bounds d None = (d, refl, omega arith)
first_bounds d (Some y) = (min d y, refl, omega arith)

rest_bounds : (o rest : Option ℕ) (m d : ℕ) → rest ≡ Some m → m ≤ d → (k : ℕ) × (lesser o rest ≡ Some k) × (k ≤ d)
rest_bounds None rest m d is below = (m, is, below)
rest_bounds (Some x) rest m d is below = (min x m, ap (lesser (Some x)) is, omega arith)

least_case : (x y m : ℕ) → min x y ≡ m → (P : ℕ → Type 0) → P x → P y → P m
least_case x y m is P p q = elim (lesser_is x y) [ inl e ↦ subst P (sym e ∙ is) p | inr e ↦ subst P (sym e ∙ is) q ]

key_of_number : (kind : ℕ) (id : ResourceId) → id.kind ≡ kind → same_id (id_of kind id.dynamic) id ≡ true
key_of_number kind id same = ap (λ k. same_id (id_of k id.dynamic) id) (sym same) ∙ same_id-itself id

module _ {V : Type 0} (kind from : ℕ) where
  when_counts : (e : ResourceId × Option V) → counts kind from e ≡ true → (is_some e.1 ≡ true) × (e.0.kind ≡ kind) × (from ≤ e.0.dynamic)
  when_counts e counting = (grind (arith, nat_tests), grind (arith, nat_tests), grind (arith, nat_tests))

  pub counted : (id : ResourceId) (slot : Option V) → is_some slot ≡ true → id.kind ≡ kind → from ≤ id.dynamic → counts kind from (id, slot) ≡ true
  counted id slot there same above = grind (arith, nat_tests)

  number_at : (e : ResourceId × Option V) (d : ℕ) (v : V) → id_of kind d ≡ e.0 → e.1 ≡ Some v → from ≤ d → number_of kind from e ≡ Some d
  number_at e d v same there above =
      ap (λ b. cond b (Some e.0.dynamic) None) (counted e.0 e.1 (ap is_some there) (sym (ap (λ id. id.kind) same)) (subst (λ n. from ≤ n) (ap (λ id. id.dynamic) same) above))
      ∙ ap (λ id. Some id.dynamic) (sym same)

  -- what is found under a number is no less than the least
  pub least_found : (d : ℕ) → from ≤ d → (es : List (ResourceId × Option V)) (v : V) → lookup (same_id (id_of kind d)) es ≡ Some (Some v) → (m : ℕ) × (least_of kind from es ≡ Some m) × (m ≤ d)
  least_found d above [] v is = cc
  least_found d above (e ∷ es) v is = by_head (same_id (id_of kind d) e.0) refl is (least_found d above es v)
    where
      by_head : (b : Bool) → same_id (id_of kind d) e.0 ≡ b → cond b (Some e.1) (lookup (same_id (id_of kind d)) es) ≡ Some (Some v)
          → (lookup (same_id (id_of kind d)) es ≡ Some (Some v) → (m : ℕ) × (least_of kind from es ≡ Some m) × (m ≤ d))
          → (m : ℕ) × (lesser (number_of kind from e) (least_of kind from es) ≡ Some m) × (m ≤ d)
      by_head true same is rest =
          let here = number_at e d v (same_id-is (id_of kind d) e.0 same) (same_Some e.1 (Some v) is) above in
          let found = first_bounds d (least_of kind from es) in
          (found.0, ap (λ o. lesser o (least_of kind from es)) here ∙ found.1, found.2)
      by_head false same is rest = let found = rest is in rest_bounds (number_of kind from e) (least_of kind from es) found.0 d found.1 found.2

  -- the number isn't below `from`, and the entries hold a value under it
  abbrev pub stands_at : (d : ℕ) (es : List (ResourceId × Option V)) → Type 0
  stands_at d es = (from ≤ d) × IsSome (option_flatten (lookup (same_id (id_of kind d)) es))

  stands_here : (e : ResourceId × Option V) (es : List (ResourceId × Option V)) → counts kind from e ≡ true → stands_at e.0.dynamic (e ∷ es)
  stands_here e es counting =
      let parts = when_counts e counting in
      (parts.2, ap is_some (ap option_flatten (ap (λ b. cond b (Some e.1) (lookup (same_id (id_of kind e.0.dynamic)) es)) (key_of_number kind e.0 parts.1))) ∙ parts.0)

  stands_later : (e : ResourceId × Option V) (es : List (ResourceId × Option V)) (d : ℕ) → IsDistinct same_id (keys_of (e ∷ es)) → stands_at d es → stands_at d (e ∷ es)
  stands_later e es d distinct later = (later.0, by_head (same_id (id_of kind d) e.0) refl)
    where
      by_head : (b : Bool) → same_id (id_of kind d) e.0 ≡ b → IsSome (option_flatten (cond b (Some e.1) (lookup (same_id (id_of kind d)) es)))
      by_head true same =
          let none = lookup-none (same_id (id_of kind d)) es (none_past_head same_id_equiv (id_of kind d) e es distinct same) in
          absurd (false≢true (ap (λ o. is_some (option_flatten o)) (sym none) ∙ later.1))
      by_head false same = later.1

  -- the least is the number of an entry
  pub least_stands : (es : List (ResourceId × Option V)) → IsDistinct same_id (keys_of es) → (m : ℕ) → least_of kind from es ≡ Some m → stands_at m es
  unfolding IsDistinct
  least_stands [] distinct m is = cc
  least_stands (e ∷ es) distinct m is = by_head (counts kind from e) refl (least_of kind from es) (least_stands es distinct.1) is
    where
      by_head : (b : Bool) → counts kind from e ≡ b → (o : Option ℕ) → ((m : ℕ) → o ≡ Some m → stands_at m es) → lesser (cond b (Some e.0.dynamic) None) o ≡ Some m → stands_at m (e ∷ es)
      by_head true counting None later is = subst (λ d. stands_at d (e ∷ es)) (same_Some _ _ is) (stands_here e es counting)
      by_head true counting (Some y) later is = least_case e.0.dynamic y m (same_Some _ _ is) (λ d. stands_at d (e ∷ es)) (stands_here e es counting) (stands_later e es y distinct (later y refl))
      by_head false skipped o later is = stands_later e es m distinct (later m is)

  -- the least among the entries of a world is the least that it holds
  pub least_is_least : (es : List (ResourceId × Option V)) → IsDistinct same_id (keys_of es) → (w : Slots V) → ((id : ResourceId) → get w id ≡ lookup (same_id id) es) → IsLeastFrom w kind from (least_of kind from es)
  least_is_least es distinct w at = by (least_of kind from es) refl
    where
      none_below : (d : ℕ) (o : Option (Option V)) → lookup (same_id (id_of kind d)) es ≡ o → ((v : V) → o ≡ Some (Some v) → ⊥) → option_flatten (lookup (same_id (id_of kind d)) es) ≡ None
      none_below d None e never = ap option_flatten e
      none_below d (Some None) e never = ap option_flatten e
      none_below d (Some (Some v)) e never = absurd (never v refl)

      by : (o : Option ℕ) → least_of kind from es ≡ o → IsLeastFrom w kind from o
      by None is = λ d above. ap option_flatten (at (id_of kind d)) ∙ none_below d _ refl (λ v found. let f = least_found d above es v found in none_is f.0 (sym is ∙ f.1))
      by (Some m) is =
          let stands = least_stands es distinct m is in (
            stands.0,
            ap (λ o. is_some (option_flatten o)) (at (id_of kind m)) ∙ stands.1,
            λ d above below. ap option_flatten (at (id_of kind d)) ∙ none_below d _ refl (λ v found.
                let f = least_found d above es v found in
                let same : f.0 ≡ m = same_Some _ _ (sym f.1 ∙ is) in
                absurd (omega (arith, f.2, same, below))),
          )

-- an id of a kind before this one, or with a number below this
abbrev LiesBefore : (kind from : ℕ) → ResourceId → Type 0
LiesBefore kind from id = (id.kind < kind) ⊎ ((id.kind ≡ kind) × (id.dynamic < from))

-- an id of a kind behind this one, or with this number or one above it
abbrev LiesFrom : (kind from : ℕ) → ResourceId → Type 0
LiesFrom kind from id = (kind < id.kind) ⊎ ((id.kind ≡ kind) × (from ≤ id.dynamic))

lies_before : (id other : ResourceId) → id_cmp id other ≡ Less → LiesBefore other.kind other.dynamic id
lies_before id other less = by (nat_cmp id.kind other.kind) (ranks id.kind other.kind) (nat_cmp id.dynamic other.dynamic) (ranks id.dynamic other.dynamic) less
  where
    by : (o : Ordering) → MatchOrdering o (id.kind < other.kind) (id.kind ≡ other.kind) (other.kind < id.kind)
        → (p : Ordering) → MatchOrdering p (id.dynamic < other.dynamic) (id.dynamic ≡ other.dynamic) (other.dynamic < id.dynamic) → ordering_then o p ≡ Less → LiesBefore other.kind other.dynamic id
    by Less kinds p numbers e = inl kinds
    by Equal kinds Less numbers e = inr (kinds, numbers)
    by Equal kinds Equal numbers e = cc
    by Equal kinds Greater numbers e = cc
    by Greater kinds p numbers e = cc

lies_from : (id other : ResourceId) → id_cmp id other ≢ Less → LiesFrom other.kind other.dynamic id
lies_from id other unless = by (nat_cmp id.kind other.kind) (ranks id.kind other.kind) (nat_cmp id.dynamic other.dynamic) (ranks id.dynamic other.dynamic) unless
  where
    by : (o : Ordering) → MatchOrdering o (id.kind < other.kind) (id.kind ≡ other.kind) (other.kind < id.kind)
        → (p : Ordering) → MatchOrdering p (id.dynamic < other.dynamic) (id.dynamic ≡ other.dynamic) (other.dynamic < id.dynamic) → ordering_then o p ≢ Less → LiesFrom other.kind other.dynamic id
    by Less kinds p numbers never = absurd (never refl)
    by Equal kinds Less numbers never = absurd (never refl)
    by Equal kinds Equal numbers never = inr (kinds, omega (arith, numbers))
    by Equal kinds Greater numbers never = inr (kinds, omega (arith, numbers))
    by Greater kinds p numbers never = inl kinds

all_more : {P Q : ResourceId → Type 0} → ((id : ResourceId) → P id → Q id) → (ids : List ResourceId) → AllByRecursion P ids → AllByRecursion Q ids
all_more more [] all = tt
all_more more (id ∷ ids) all = (more id all.0, all_more more ids all.1)

-- none, or no less than `d`
abbrev IsNoLess : ℕ → Option ℕ → Type 0
IsNoLess d None = ⊤
IsNoLess d (Some x) = d ≤ x

no_lesser : (d : ℕ) (o rest : Option ℕ) → IsNoLess d o → IsNoLess d rest → IsNoLess d (lesser o rest)
no_lesser d None rest one more = more
no_lesser d (Some x) None one more = one
no_lesser d (Some x) (Some y) one more = omega (arith, one, more)

lesser_first : (d : ℕ) (rest : Option ℕ) → IsNoLess d rest → lesser (Some d) rest ≡ Some d
lesser_first d None more = refl
lesser_first d (Some y) more = ap Some (omega (arith, more))

lesser_none : (o rest : Option ℕ) → o ≡ None → lesser o rest ≡ rest
lesser_none o rest none = ap (λ p. lesser p rest) none

module _ {V : Type 0} (kind from : ℕ) where
  skipped : (e : ResourceId × Option V) → counts kind from e ≡ false → number_of kind from e ≡ None
  skipped e not = ap (λ b. cond b (Some e.0.dynamic) None) not

  skipped_before : (e : ResourceId × Option V) → LiesBefore kind from e.0 → number_of kind from e ≡ None
  skipped_before e before = skipped e (grind (arith, nat_tests))

  skipped_behind : (e : ResourceId × Option V) → kind < e.0.kind → number_of kind from e ≡ None
  skipped_behind e behind = skipped e (grind (arith, nat_tests))

  skipped_empty : (e : ResourceId × Option V) → is_some e.1 ≡ false → number_of kind from e ≡ None
  skipped_empty e empty = skipped e (grind (arith, nat_tests))

  number_no_less : (e : ResourceId × Option V) (d : ℕ) → LiesFrom kind d e.0 → IsNoLess d (number_of kind from e)
  number_no_less e d (inl behind) = subst (IsNoLess d) (sym (skipped_behind e behind)) tt
  number_no_less e d (inr here) = by (counts kind from e)
    where
      by : (b : Bool) → IsNoLess d (cond b (Some e.0.dynamic) None)
      by true = here.1
      by false = tt

  least_no_less : (d : ℕ) (es : List (ResourceId × Option V)) → AllByRecursion (LiesFrom kind d) (keys_of es) → IsNoLess d (least_of kind from es)
  least_no_less d [] all = tt
  least_no_less d (e ∷ es) all = no_lesser d (number_of kind from e) (least_of kind from es) (number_no_less e d all.0) (least_no_less d es all.1)

  least_behind : (es : List (ResourceId × Option V)) → AllByRecursion (λ id. kind < id.kind) (keys_of es) → least_of kind from es ≡ None
  least_behind [] all = refl
  least_behind (e ∷ es) all = lesser_none (number_of kind from e) (least_of kind from es) (skipped_behind e all.0) ∙ least_behind es all.1

  -- what lies before counts nowhere
  pub least_past : (es : List (ResourceId × Option V)) (start : ℕ) → HasLesserBefore es (id_of kind from) start → least_of kind from es ≡ least_of kind from (drop start es)
  least_past es zero before = refl
  least_past [] (suc start) before = refl
  least_past (e ∷ es) (suc start) before =
      lesser_none (number_of kind from e) (least_of kind from es) (skipped_before e (lies_before e.0 (id_of kind from) (before zero e (omega arith))))
      ∙ least_past es start (lesser_later e es (id_of kind from) start before)

  -- among ids that rise from here on, the least is the first with a value
  first_is_least : (es : List (ResourceId × Option V)) → AreSorted es → AllByRecursion (LiesFrom kind from) (keys_of es) → least_of kind from es ≡ first_valued kind es
  unfolding IsStrictlySortedBy
  first_is_least [] sorted all = refl
  first_is_least (e ∷ es) sorted all = by_kind (λ more. first_is_least es sorted.1 more) (e.0.kind == kind) refl
    where
      same_kind : (e.0.kind == kind) ≡ true → e.0.kind ≡ kind
      same_kind same = grind (arith, nat_tests, same)

      behind : (e.0.kind == kind) ≡ false → kind < e.0.kind
      behind other = elim all.0 [ inl more ↦ more | inr here ↦ grind (arith, nat_tests, here.0, other) ]

      above : e.0.kind ≡ kind → from ≤ e.0.dynamic
      above same = elim all.0 [ inl more ↦ absurd (omega (arith, more, same)) | inr here ↦ here.1 ]

      later_from : e.0.kind ≡ kind → (k : ResourceId) → id_cmp e.0 k ≡ Less → LiesFrom kind e.0.dynamic k
      later_from same k less = elim (lies_before e.0 k less) [ inl more ↦ inl (omega (arith, more, same)) | inr here ↦ inr (sym here.0 ∙ same, omega (arith, here.1)) ]

      later_behind : kind < e.0.kind → (k : ResourceId) → id_cmp e.0 k ≡ Less → kind < k.kind
      later_behind more k less = elim (lies_before e.0 k less) [ inl kinds ↦ omega (arith, more, kinds) | inr here ↦ omega (arith, more, here.0) ]

      counting : e.0.kind ≡ kind → is_some e.1 ≡ true → number_of kind from e ≡ Some e.0.dynamic
      counting same there = ap (λ b. cond b (Some e.0.dynamic) None) (counted kind from e.0 e.1 there same (above same))

      by_value : (AllByRecursion (LiesFrom kind from) (keys_of es) → least_of kind from es ≡ first_valued kind es) → e.0.kind ≡ kind → (b : Bool) → is_some e.1 ≡ b → lesser (number_of kind from e) (least_of kind from es) ≡ cond b (Some e.0.dynamic) (first_valued kind es)
      by_value rest same true there =
          ap (λ o. lesser o (least_of kind from es)) (counting same there)
          ∙ lesser_first e.0.dynamic (least_of kind from es) (least_no_less e.0.dynamic es (all_more (later_from same) (keys_of es) sorted.0))
      by_value rest same false empty = lesser_none (number_of kind from e) (least_of kind from es) (skipped_empty e empty) ∙ rest all.1

      by_kind : (AllByRecursion (LiesFrom kind from) (keys_of es) → least_of kind from es ≡ first_valued kind es) → (b : Bool) → (e.0.kind == kind) ≡ b → lesser (number_of kind from e) (least_of kind from es) ≡ cond b (cond (is_some e.1) (Some e.0.dynamic) (first_valued kind es)) None
      by_kind rest true same = by_value rest (same_kind same) (is_some e.1) refl
      by_kind rest false other = lesser_none (number_of kind from e) (least_of kind from es) (skipped_behind e (behind other)) ∙ least_behind es (all_more (later_behind (behind other)) (keys_of es) sorted.0)

  sorted_from : (es : List (ResourceId × Option V)) (start : ℕ) → AreSorted es → AreSorted (drop start es)
  unfolding IsStrictlySortedBy
  sorted_from es zero sorted = sorted
  sorted_from [] (suc start) sorted = tt
  sorted_from (e ∷ es) (suc start) sorted = sorted_from es start sorted.1

  -- the least that the world holds is the first with a value from where the slots of the id begin
  pub first_from_start : (es : List (ResourceId × Option V)) → AreSorted es → (start : ℕ) → IsStartOf es (id_of kind from) start → least_of kind from es ≡ first_valued kind (drop start es)
  first_from_start es sorted start begin =
      least_past es start (λ j d below. begin.parted.0 j d (omega arith) below)
      ∙ first_is_least (drop start es) (sorted_from es start sorted) (all_at (LiesFrom kind from) (drop start es) (λ j d within.
      subst (λ e. LiesFrom kind from e.0) (sym (get_or-drop start es j d)) (lies_from (get_or es (start + j) d).0 (id_of kind from) (begin.parted.1 (start + j) d (omega arith) (omega (arith, length-drop start es, within))))))
