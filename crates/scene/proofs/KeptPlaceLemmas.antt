-- Lemmas on what stands by the places of names, and on the ids of finite maps.
use Rattle.std.proofs.Common.{◌≡◌, ◌<◌, ◌≤◌, ℕ, zero, suc, Bool, true, false, cond, T, ◌&&◌, ◌||◌, List, [], ◌∷◌, map, length, All, Option, Some, None, is_some, option_map, refl, ap, sym, ◌∙◌, arith}
use Rattle.std.specs.Prelude.{option_and_then, slice_get}
use Rattle.std.specs.List.{list_any}
use Rattle.std.specs.declared.cmp.Ordering.{Ordering}
use Rattle.std.specs.declared.cmp.Ordering.TheVariants.{Less, Equal, Greater}
use Rattle.std.specs.Ordering.{nat_cmp, is_eq, is_lt, ord_max}
use Rattle.std.specs.FinMap as finite
use Rattle.std.specs.FinMap.{FinMap, is_sorted}
use Rattle.std.proofs.lemmas.Bool.Decides.{nat_tests}
use Rattle.std.proofs.lemmas.List.Elements.{All-nil, All-cons}
use Rattle.std.proofs.lemmas.List.Kept.{AllPairs-cons}
use Rattle.scene_model.specs.Parts.{Name, is_among, place_of, name_at}
use Rattle.scene_model.specs.Slots.{filled}
use Rattle.scene_model.specs.Scenes.{lives, IdsAscend}
use Rattle.scene_model.proofs.CallerLemmas.{is_eq-nat_cmp}
use Rattle.scene_model.proofs.NameLemmas.{place_of-bound, place_of-name}
use Rattle.scene_document.proofs.CallerLemmas.{is_some-place_of}

module _ {D Y : Type 0} (meaning : D → Y) (read : Name → Option Y) where
  -- what stands at a place is what is read under the name there
  at-place : (names : List Name) (values : List (Option D)) (place : ℕ) → map (option_map meaning) values ≡ map read names → place < length names → option_map meaning (filled (slice_get values place)) ≡ read (name_at names place)
  at-place [] values place same below = absurd (omega arith)
  at-place (name ∷ names) [] place same below = absurd (cc)
  at-place (name ∷ names) (one ∷ values) zero same below = cc
  at-place (name ∷ names) (one ∷ values) (suc place) same below = let rest : map (option_map meaning) values ≡ map read names = cc in at-place names values place rest (omega arith)

  -- so it is under each name
  pub by-name : (names : List Name) (values : List (Option D)) → map (option_map meaning) values ≡ map read names → (name : Name)
      → option_map meaning (option_and_then (λ place. filled (slice_get values place)) (place_of name names)) ≡ cond (is_among name names) (read name) None
  by-name names values same name = by (place_of name names) refl
    where
      by : (place : Option ℕ) → place_of name names ≡ place → option_map meaning (option_and_then (λ place. filled (slice_get values place)) place) ≡ cond (is_among name names) (read name) None
      by None is = ap (λ b. cond b (read name) None) (sym (ap is_some is) ∙ is_some-place_of name names)
      by (Some place) is =
          at-place names values place same (place_of-bound name place names is) ∙ ap read (place_of-name name place names is)
          ∙ ap (λ b. cond b (read name) None) (sym (ap is_some is) ∙ is_some-place_of name names)

-- ---- ids of finite maps

and-parts : (a b c d : Bool) → T ((a && b) && (c && d)) → T a × T (b && d)
and-parts true true true d is = (tt, is)
and-parts true true false d is = absurd is
and-parts true false c d is = absurd is
and-parts false b c d is = absurd is

and-last : (a b : Bool) → T (a && b) → T b
and-last true b is = is
and-last false b is = absurd is

less-below : (x y : ℕ) → T (is_lt (nat_cmp x y)) → x < y
less-below x y is = by (nat_cmp x y) refl is
  where
    by : (order : Ordering) → nat_cmp x y ≡ order → T (is_lt order) → x < y
    by Less same is = grind (arith, nat_tests)
    by Equal same is = absurd is
    by Greater same is = absurd is

module _ {X : Type 0} where
  -- where keys rise, the first is below the others
  first-below : (key : ℕ) (v : X) (entries : List (ℕ × X)) → T (is_sorted nat_cmp ((key, v) ∷ entries)) → All (λ other. key < other) (map (λ e. e.0) entries)
  first-below key v [] rise = All-nil (λ other. key < other)
  first-below key v (e ∷ entries) rise =
      let parts = and-parts (is_lt (nat_cmp key e.0)) _ _ _ rise in
      All-cons (λ other. key < other) e.0 (map (λ e. e.0) entries) (less-below key e.0 parts.0) (first-below key v entries parts.1)

  rising-keys : (entries : List (ℕ × X)) → T (is_sorted nat_cmp entries) → IdsAscend (map (λ e. e.0) entries)
  rising-keys [] rise = λ i j d before inside. absurd (omega (arith, inside))
  rising-keys (e ∷ entries) rise =
      AllPairs-cons (λ one other. one < other) e.0 (map (λ e. e.0) entries) (first-below e.0 e.1 entries rise) (rising-keys entries (and-last _ _ rise))

  -- the ids of a finite map ascend
  pub keys-ascend : (m : FinMap nat_cmp X) → IdsAscend (finite.keys m)
  keys-ascend m = rising-keys (finite.entries m) (finite.entries_sorted m)

  -- and are those under which there is something
  pub keys-there : (m : FinMap nat_cmp X) (id : ℕ) → lives id (finite.keys m) ≡ is_some (finite.get m id)
  keys-there m id = by (finite.keys m) ∙ sym (finite.contains_key-keys m id)
    where
      by : (keys : List ℕ) → lives id keys ≡ list_any (λ key. is_eq (nat_cmp id key)) keys
      by [] = refl
      by (key ∷ keys) = ap (λ b. b || lives id keys) (sym (is_eq-nat_cmp id key)) ∙ ap (λ b. is_eq (nat_cmp id key) || b) (by keys)

-- the greater of two numbers is below neither
pub max-above : (a b : ℕ) → (a ≤ ord_max nat_cmp a b) × (b ≤ ord_max nat_cmp a b)
max-above a b = by (nat_cmp b a) refl
  where
    by : (order : Ordering) → nat_cmp b a ≡ order → (a ≤ cond (is_lt order) a b) × (b ≤ cond (is_lt order) a b)
    by Less same = (omega arith, grind (arith, nat_tests))
    by Equal same = (grind (arith, nat_tests), omega arith)
    by Greater same = (grind (arith, nat_tests), omega arith)
