-- Lemmas on JSON that is read token by token: numbers, and what the readers of items and of members have read so far.
use Rattle.std.proofs.Common.{◌≡◌, ℕ, ◌-◌, ◌<◌, ◌≤◌, ◌^◌, ◌==◌, ◌||◌, Bool, true, false, get_or, List, [], ◌∷◌, ◌++◌, length, map, Option, Some, None, option_map, option_and_then, Ordering, Less, Equal, Greater, refl, ap, sym, ◌∙◌, arith, lt-ltb}
use Rattle.std.specs.Cmp.Lexicographic.{slice_cmp}
use Rattle.std.specs.Option.{SomeIff, IfSome}
use Rattle.std.specs.Ordering.{nat_cmp, match_ordering}
use Rattle.fast_float.specs.Text.{scan, digits_of, IsInteger}
use Rattle.json.specs.Token.{Token}
use Rattle.json.specs.Json as json
use Rattle.json.specs.Json.{Parse, parse_map, after_end_array, read_key, items, members, value, if_last}
use Rattle.json.proofs.Grammar.{items_end, items_more, members_end, members_more, value_is, value-begin_object, value-begin_array, after_end_array-shorter, read_key-shorter}
use Rattle.serde_json.specs.Data.{Data, null, boolean, number, unsigned, string, array, object, Items, no_items, item, Members, no_members, member, put}
use Rattle.serde_json.specs.Read.{number_of, of_json, of_items, of_members, converted}
use Rattle.serde_json.specs.View.{view, items_view}
use Rattle.serde_json.specs.Written.{has_float, items_have_float, members_have_float}
use Rattle.serde_json.specs.declared.value.Value.{Value}
use Rattle.scene_model.specs.Parts.{Json, Name}
use Rattle.scene_document.specs.Drafts.{items_list}
use Rattle.scene_document.specs.TokenWords.{ReadsAs, ReadsItems, ReadsMembers}

-- ---- what is converted as it is read

abbrev pick : {A : Type 0} → A → Option A → A
pick default None = default
pick default (Some one) = one

one_rest : {A B : Type 0} (one : A) (left rest : List Token) (found : Option B) (other : B) → option_map {U = B × List Token} (λ y. (y, left)) found ≡ Some (other, rest) → (left ≡ rest) × (found ≡ Some other)
one_rest one left rest None other is = absurd (cc)
one_rest one left rest (Some y) other is = let same = ap (pick (y, left)) is in (ap (λ pair. pair.1) same, ap (λ pair. Some pair.0) same)

-- what was read, where its conversion is something
converted-from : {A B : Type 0} (f : A → Option B) (read : Option (A × List Token)) (other : B) (rest : List Token) → converted f read ≡ Some (other, rest) → (one : A) × (read ≡ Some (one, rest)) × (f one ≡ Some other)
converted-from f None other rest is = absurd (cc)
converted-from f (Some pair) other rest is = let both = one_rest pair.0 pair.1 rest (f pair.0) other is in (pair.0, ap (λ left. Some (pair.0, left)) both.0, both.1)

after-map : {A B : Type 0} (g : A → B) (rest : List Token) (found : Option A) → option_map (λ b. (b, rest)) (option_map g found) ≡ parse_map g (option_map (λ a. (a, rest)) found)
after-map g rest None = refl
after-map g rest (Some one) = refl

converted-array : (read : Option (json.Items × List Token)) → converted of_json (parse_map json.array read) ≡ parse_map array (converted of_items read)
converted-array None = refl
converted-array (Some pair) = after-map array pair.1 (of_items pair.0)

converted-object : (read : Option (json.Members × List Token)) → converted of_json (parse_map json.object read) ≡ parse_map object (converted (λ all. of_members all no_members) read)
converted-object None = refl
converted-object (Some pair) = after-map object pair.1 (of_members pair.0 no_members)

with_item : (one : json.Json) (held : Data) → of_json one ≡ Some held → (read : Option (json.Items × List Token)) → converted of_items (parse_map (json.item one) read) ≡ parse_map (item held) (converted of_items read)
with_item one held is None = refl
with_item one held is (Some pair) = rw is (after-map (item held) pair.1 (of_items pair.0))

with_member : (key : List ℕ) (one : json.Json) (held : Data) (old : Members) → of_json one ≡ Some held → (read : Option (json.Members × List Token))
    → converted (λ all. of_members all old) (parse_map (json.member key one) read) ≡ converted (λ all. of_members all (put key held old)) read
with_member key one held old is None = refl
with_member key one held old is (Some pair) = rw is

-- ---- a value that opens nothing

pub null-read : (depth : ℕ) (all rest : List Token) → all ≡ Token.null ∷ rest → ReadsAs depth all null rest
null-read depth all rest is = ap (converted of_json) (ap (value depth) is ∙ value_is depth (Token.null ∷ rest))

pub boolean-read : (depth : ℕ) (all rest : List Token) (truth : Bool) → all ≡ Token.boolean truth ∷ rest → ReadsAs depth all (boolean truth) rest
boolean-read depth all rest truth is = ap (converted of_json) (ap (value depth) is ∙ value_is depth (Token.boolean truth ∷ rest))

pub string-read : (depth : ℕ) (all rest : List Token) (text : List ℕ) → all ≡ Token.string text ∷ rest → ReadsAs depth all (string text) rest
string-read depth all rest text is = ap (converted of_json) (ap (value depth) is ∙ value_is depth (Token.string text ∷ rest))

pub number-read : (depth : ℕ) (all rest : List Token) (text : List ℕ) (held : Json) → all ≡ Token.number text ∷ rest → option_map number (number_of text) ≡ Some held → ReadsAs depth all held rest
number-read depth all rest text held is reads = ap (converted of_json) (ap (value depth) is ∙ value_is depth (Token.number text ∷ rest)) ∙ ap (option_map (λ (one : Json). (one, rest))) reads

-- ---- items

-- items behind others
abbrev pub before : List Json → Items → Items
before [] rest = rest
before (one ∷ others) rest = item one (before others rest)

before-push : (done : List Json) (one : Json) (rest : Items) → before done (item one rest) ≡ before (done ++ one ∷ []) rest
before-push [] one rest = refl
before-push (first ∷ done) one rest = ap (item first) (before-push done one rest)

before-more : (done : List Json) (one : Json) (read : Option (Items × List Token)) → parse_map (before done) (parse_map (item one) read) ≡ parse_map (before (done ++ one ∷ [])) read
before-more done one None = refl
before-more done one (Some pair) = ap (λ all. Some (all, pair.1)) (before-push done one pair.0)

none-before : (read : Option (Items × List Token)) → read ≡ parse_map (λ all. all) read
none-before None = refl
none-before (Some pair) = refl

-- the items that a list of values is
pub before-values : (values : List Value) → before (map view values) no_items ≡ items_view values
before-values [] = refl
before-values (one ∷ values) = ap (item (view one)) (before-values values)

-- the list of items that a list is
pub items_list-before : (done : List Json) → items_list (before done no_items) ≡ done
items_list-before [] = refl
items_list-before (one ∷ done) = ap (λ list. one ∷ list) (items_list-before done)

-- of the items behind an opening bracket these were read, and some tokens are left
pub record ItemsSoFar (depth : ℕ) (start left : List Token) (done : List Json) : Type 0 where
  pub turns : ℕ
  pub enough : length left ≤ turns
  pub so_far : converted of_items (items (value depth) (length start) start) ≡ parse_map (before done) (converted of_items (items (value depth) turns left))
  pub no_longer : length left ≤ length start

pub items-begin : (depth : ℕ) (start : List Token) → ItemsSoFar depth start start []
items-begin depth start = record {
  turns = length start;
  enough = omega arith;
  so_far = none-before (converted of_items (items (value depth) (length start) start));
  no_longer = omega arith;
}

item-read : (depth turns : ℕ) (left rest : List Token) (held : Json) → 0 < turns → after_end_array left ≡ None → ReadsAs depth left held rest
    → converted of_items (items (value depth) turns left) ≡ parse_map (item held) (converted of_items (items (value depth) (turns - 1) rest))
item-read depth turns left rest held some going is =
    let one = converted-from of_json (value depth left) held rest is in
    ap (converted of_items) (items_more (value depth) turns left rest one.0 some going one.1) ∙ with_item one.0 held one.2 (items (value depth) (turns - 1) rest)

-- one more is read
pub items-turn : (depth : ℕ) (start left rest : List Token) (done : List Json) (held : Json) → ItemsSoFar depth start left done → after_end_array left ≡ None → ReadsAs depth left held rest → length rest < length left
    → ItemsSoFar depth start rest (done ++ held ∷ [])
items-turn depth start left rest done held had going is less =
    let turns = had.turns in
    let some : 0 < turns = omega (arith, had.enough) in
    record {
      turns = turns - 1;
      enough = omega (arith, had.enough);
      so_far = had.so_far ∙ ap (parse_map (before done)) (item-read depth turns left rest held some going is) ∙ before-more done held (converted of_items (items (value depth) (turns - 1) rest));
      no_longer = omega (arith, had.no_longer);
    }

-- all are read where their array ends
pub items-done : (depth : ℕ) (start left rest : List Token) (done : List Json) → ItemsSoFar depth start left done → after_end_array left ≡ Some rest → ReadsItems depth start (before done no_items) rest
items-done depth start left rest done had ends =
    had.so_far ∙ ap (parse_map (before done)) (ap (converted of_items) (items_end (value depth) had.turns left rest had.enough ends))

pub items-shorter : (depth : ℕ) (start left rest : List Token) (done : List Json) → ItemsSoFar depth start left done → after_end_array left ≡ Some rest → length rest < length start
items-shorter depth start left rest done had ends = omega (arith, had.no_longer, after_end_array-shorter left rest ends)

-- an array is read where its items are
pub array-read : (depth : ℕ) (opened start rest : List Token) (found : Items) → 0 < depth → opened ≡ Token.begin_array ∷ start → ReadsItems (depth - 1) start found rest → ReadsAs depth opened (array found) rest
array-read depth opened start rest found some is read =
    ap (converted of_json) (ap (value depth) is ∙ value-begin_array depth start some) ∙ converted-array (items (value (depth - 1)) (length start) start) ∙ ap (parse_map array) read

-- ---- members

-- of the members behind an opening brace these were read, and some tokens are left
pub record MembersSoFar (depth : ℕ) (start left : List Token) (done : Members) : Type 0 where
  pub turns : ℕ
  pub enough : length left ≤ turns
  pub so_far : converted (λ all. of_members all no_members) (members (value depth) (length start) start) ≡ converted (λ all. of_members all done) (members (value depth) turns left)
  pub no_longer : length left ≤ length start

pub members-begin : (depth : ℕ) (start : List Token) → MembersSoFar depth start start no_members
members-begin depth start = record {
  turns = length start;
  enough = omega arith;
  so_far = refl;
  no_longer = omega arith;
}

member-read : (depth turns : ℕ) (key : List ℕ) (left behind rest : List Token) (held : Json) (old : Members) → 0 < turns → read_key left ≡ Some (Some key, behind) → ReadsAs depth behind held rest
    → converted (λ all. of_members all old) (members (value depth) turns left) ≡ converted (λ all. of_members all (put key held old)) (members (value depth) (turns - 1) rest)
member-read depth turns key left behind rest held old some named is =
    let one = converted-from of_json (value depth behind) held rest is in
    ap (converted (λ all. of_members all old)) (members_more (value depth) turns key left behind rest one.0 some named one.1) ∙ with_member key one.0 held old one.2 (members (value depth) (turns - 1) rest)

-- one more is read
pub members-turn : (depth : ℕ) (start left behind rest : List Token) (done : Members) (key : List ℕ) (held : Json) → MembersSoFar depth start left done → read_key left ≡ Some (Some key, behind) → ReadsAs depth behind held rest → length rest < length behind
    → MembersSoFar depth start rest (put key held done)
members-turn depth start left behind rest done key held had named is less =
    let turns = had.turns in
    let passed = read_key-shorter left (Some key) behind named in
    let some : 0 < turns = omega (arith, had.enough, passed) in
    record {
      turns = turns - 1;
      enough = omega (arith, had.enough, passed);
      so_far = had.so_far ∙ member-read depth turns key left behind rest held done some named is;
      no_longer = omega (arith, had.no_longer, passed);
    }

-- all are read where their object ends
pub members-done : (depth : ℕ) (start left rest : List Token) (done : Members) → MembersSoFar depth start left done → read_key left ≡ Some (None, rest) → ReadsMembers depth start done rest
members-done depth start left rest done had ends =
    had.so_far ∙ ap (converted (λ all. of_members all done)) (members_end (value depth) had.turns left rest had.enough ends)

pub members-shorter : (depth : ℕ) (start left rest : List Token) (done : Members) → MembersSoFar depth start left done → read_key left ≡ Some (None, rest) → length rest < length start
members-shorter depth start left rest done had ends = omega (arith, had.no_longer, read_key-shorter left None rest ends)

-- an object is read where its members are
pub object-read : (depth : ℕ) (opened start rest : List Token) (found : Members) → 0 < depth → opened ≡ Token.begin_object ∷ start → ReadsMembers (depth - 1) start found rest → ReadsAs depth opened (object found) rest
object-read depth opened start rest found some is read =
    ap (converted of_json) (ap (value depth) is ∙ value-begin_object depth start some) ∙ converted-object (members (value (depth - 1)) (length start) start) ∙ ap (parse_map object) read

-- ---- the whole text

abbrev document : Option (json.Json × List Token) → Option Data
document read = option_and_then of_json (option_and_then (λ pair. if_last pair.0 pair.1) read)

-- a text is read where its tokens are
pub document-read : (depth : ℕ) (all : List Token) (held : Json) → ReadsAs depth all held [] → option_and_then of_json (option_and_then (λ pair. if_last pair.0 pair.1) (value depth all)) ≡ Some held
document-read depth all held is = let one = converted-from of_json (value depth all) held [] is in ap document one.1 ∙ one.2

-- ---- numbers

-- the text of a whole number without a sign
pub unsigned-read : (text : List ℕ) (found : Option ℕ) → (get_or text 0 0 == 45) ≡ false → SomeIff found (IsInteger (scan text) × (digits_of (scan text) < 2 ^ 64)) (digits_of (scan text)) → IfSome found (λ whole. number_of text ≡ Some (unsigned whole))
unfolding number_of
unsigned-read text None no_sign is = tt
unsigned-read text (Some whole) no_sign is = rw no_sign (rw (lt-ltb _ _ is.0.0.0, is.0.0.1, is.0.0.2, lt-ltb _ _ is.0.1) (ap (λ n. Some (unsigned n)) (sym is.1)))

-- ---- floats

-- none of these has a float
abbrev pub NoFloats : List Json → Type 0
NoFloats [] = Unit {0}
NoFloats (one ∷ others) = (has_float one ≡ false) × NoFloats others

pub no-floats-more : (done : List Json) (one : Json) → NoFloats done → has_float one ≡ false → NoFloats (done ++ one ∷ [])
no-floats-more [] one none whole = (whole, tt)
no-floats-more (first ∷ done) one none whole = (none.0, no-floats-more done one none.1 whole)

pub items-whole : (done : List Json) → NoFloats done → items_have_float (before done no_items) ≡ false
items-whole [] none = refl
items-whole (one ∷ done) none = ap (λ b. b || items_have_float (before done no_items)) none.0 ∙ items-whole done none.1

either-false : (one other : Bool) → one || other ≡ false → (one ≡ false) × (other ≡ false)
either-false true other is = absurd cc
either-false false other is = (refl, is)

-- no float comes in with a member that has none
pub members-whole-put : (key : Name) (json : Json) (old : Members) → members_have_float old ≡ false → has_float json ≡ false → members_have_float (put key json old) ≡ false
members-whole-put key json no_members none whole = rw whole
members-whole-put key json (member other held members) none whole =
    let both = either-false (has_float held) (members_have_float members) none in
    step both.0 both.1 (members-whole-put key json members both.1 whole) (slice_cmp nat_cmp key other)
  where
    step : has_float held ≡ false → members_have_float members ≡ false → members_have_float (put key json members) ≡ false → (o : Ordering)
        → members_have_float (match_ordering o (member key json (member other held members)) (member other json members) (member other held (put key json members))) ≡ false
    step one rest later Less = rw (whole, one) rest
    step one rest later Equal = rw whole rest
    step one rest later Greater = rw one later
