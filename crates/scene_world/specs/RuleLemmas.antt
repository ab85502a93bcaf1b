-- Lemmas for the author of rules, whatever the rules are, on their names, on what their systems declare, and on parts that are numbers or references.
use Rattle.std.proofs.Common.{◌≡◌, ℕ, Bool, true, false, ◌&&◌, List, [], ◌∷◌, Option, Some, None, is_some, refl, subst, All, below_none}
use Rattle.std.specs.Prelude.{option_map}
use Rattle.std.specs.List.{list_all}
use Rattle.std.specs.Ordering.{nat_cmp, is_lt}
use Rattle.std.specs.Cmp.Lexicographic.{slice_cmp}
use Rattle.std.specs.declared.cmp.Ordering.{Ordering}
use Rattle.std.specs.declared.cmp.Ordering.TheVariants.{Less, Equal, Greater}
use Rattle.std.proofs.lemmas.Bool.{false≢true, and_parts, eq-eqb}
use Rattle.std.proofs.lemmas.Option.{none-some, same_Some}
use Rattle.std.proofs.lemmas.List.Elements.{All-nil, All-cons}
use Rattle.std.proofs.lemmas.List.Kept.{AllPairs-cons}
use Rattle.serde_json.specs.Data.{null, boolean, number, string, array, object}
use Rattle.serde_json.specs.Find.{as_null}
use Rattle.scene_model.specs.Parts.{Json, Name, Part, is_among}
use Rattle.scene_model.specs.Rulebook.{Access, Book}
use Rattle.scene_model.specs.Laws.{Ascend, DeclaresKnown}
use Rattle.scene_world.specs.Numbers.{counted, number_in, part_for, admits_number}

-- a configuration that is null is null
pub null-as_null : (config : Json) → is_some (as_null config) ≡ true → null ≡ config
null-as_null null e = refl
null-as_null (boolean b) e = absurd (false≢true e)
null-as_null (number n) e = absurd (false≢true e)
null-as_null (string s) e = absurd (false≢true e)
null-as_null (array _) e = absurd (false≢true e)
null-as_null (object _) e = absurd (false≢true e)

abbrev Below : Name → Name → Type 0
Below one other = slice_cmp nat_cmp one other ≡ Less

-- whether names ascend by their bytes
abbrev pub do_ascend : List Name → Bool
do_ascend [] = true
do_ascend (name ∷ names) = list_all (λ other. is_lt (slice_cmp nat_cmp name other)) names && do_ascend names

less-is : (o : Ordering) → is_lt o ≡ true → o ≡ Less
less-is Less e = refl
less-is Equal e = absurd (false≢true e)
less-is Greater e = absurd (false≢true e)

all-below : (name : Name) (names : List Name) → list_all (λ other. is_lt (slice_cmp nat_cmp name other)) names ≡ true → All (Below name) names
all-below name [] e = All-nil (Below name)
all-below name (other ∷ names) e =
    let both = and_parts (is_lt (slice_cmp nat_cmp name other)) (list_all (λ other. is_lt (slice_cmp nat_cmp name other)) names) e in
    All-cons (Below name) other names (less-is (slice_cmp nat_cmp name other) both.0) (all-below name names both.1)

-- then they do
pub ascending-names : (names : List Name) → do_ascend names ≡ true → Ascend names
ascending-names [] e = λ i j d lt within. absurd (below_none (λ (k : ℕ). ⊥) j within)
ascending-names (name ∷ names) e =
    let both = and_parts (list_all (λ other. is_lt (slice_cmp nat_cmp name other)) names) (do_ascend names) e in
    AllPairs-cons Below name names (all-below name names both.0) (ascending-names names both.1)

-- whether all of some names are among others
abbrev pub are_among : List Name → List Name → Bool
are_among names some = list_all (λ name. is_among name names) some

all-among : (names some : List Name) → are_among names some ≡ true → All (λ name. is_among name names ≡ true) some
all-among names [] e = All-nil (λ name. is_among name names ≡ true)
all-among names (name ∷ some) e =
    let both = and_parts (is_among name names) (are_among names some) e in
    All-cons (λ one. is_among one names ≡ true) name some both.0 (all-among names some both.1)

-- whether what a system declares is among the names of rules
abbrev pub are_known : Book → Access → Bool
are_known book access = are_among book.part_names access.reads && (are_among book.part_names access.writes && (are_among book.global_names access.read_globals && are_among book.global_names access.written_globals))

-- then it is
pub known-names : (book : Book) (access : Access) → are_known book access ≡ true → DeclaresKnown book access
known-names book access e =
    let one = and_parts (are_among book.part_names access.reads) (are_among book.part_names access.writes && (are_among book.global_names access.read_globals && are_among book.global_names access.written_globals)) e in
    let two = and_parts (are_among book.part_names access.writes) (are_among book.global_names access.read_globals && are_among book.global_names access.written_globals) one.1 in
    let three = and_parts (are_among book.global_names access.read_globals) (are_among book.global_names access.written_globals) two.1 in
    record {
      reads = all-among book.part_names access.reads one.0;
      writes = all-among book.part_names access.writes two.0;
      read_globals = all-among book.global_names access.read_globals three.0;
      written_globals = all-among book.global_names access.written_globals three.1;
    }

-- ---- parts that are numbers or references

-- what is read for a number is admitted under the kind
pub number-admitted : (refers : Bool) (json : Json) (part : Part) → option_map (part_for refers) (number_in json) ≡ Some part → admits_number refers part ≡ true
number-admitted refers json part read = by (number_in json) read
  where
    admitted : (refers : Bool) (n : ℕ) → admits_number refers (part_for refers n) ≡ true
    admitted true n = eq-eqb n n refl
    admitted false n = refl

    by : (o : Option ℕ) → option_map (part_for refers) o ≡ Some part → admits_number refers part ≡ true
    by None e = absurd (none-some part e)
    by (Some n) e = subst (λ (one : Part). admits_number refers one ≡ true) (same_Some (part_for refers n) part e) (admitted refers n)

-- what is written for it is read back under a kind that admits it
pub number-read-back : (refers referred : Bool) (n : ℕ) → admits_number refers (part_for referred n) ≡ true
    → option_map (part_for refers) (number_in (part_for referred n).json) ≡ Some (part_for referred n)
number-read-back true true n admitted = refl
number-read-back true false n admitted = absurd (false≢true admitted)
number-read-back false true n admitted = absurd (false≢true admitted)
number-read-back false false n admitted = refl

-- and so is a global that is a number
pub count-read-back : (json value : Json) → option_map counted (number_in json) ≡ Some value → option_map counted (number_in value) ≡ Some value
count-read-back json value read = by (number_in json) read
  where
    by : (o : Option ℕ) → option_map counted o ≡ Some value → option_map counted (number_in value) ≡ Some value
    by None e = absurd (none-some value e)
    by (Some n) e = subst (λ (one : Json). option_map counted (number_in one) ≡ Some one) (same_Some (counted n) value e) refl
