-- Lemmas on what is printed: tokens behind tokens, members and values one behind the other, and that they are read as what they are.
use Rattle.std.proofs.Common.{◌≡◌, ◌≢◌, ℕ, ◌<◌, ◌≤◌, ◌^◌, ℤ, pos, negsuc, int_lt, SFits, of_z, to_z, w64, true≢false, Bool, true, false, cond, List, [], ◌∷◌, ◌++◌, All, flat_map, fold, Some, option_and_then, option_map, Result, Ok, Err, OnOk, None, append-nil, append_assoc, refl, sym, ap, subst, ◌∙◌, arith}
use Rattle.std.specs.Option.{unwrap_or}
use Rattle.std.proofs.Math.Facts.{to_z-of_z}
use Rattle.std.proofs.lemmas.Bool.{le-ltb}
use Rattle.std.proofs.lemmas.Grind.{flat_map-append}
use Rattle.std.proofs.lemmas.List.Elements.{All-append, All-cons, All-head, All-nil, All-tail}
use Rattle.json.specs.Token.{Token, key, begin_object, end_object, begin_array, end_array, bad}
use Rattle.json.specs.Tree.{items_tokens, members_tokens, json_tokens}
use Rattle.json.specs.Written.{Written, Writes}
use Rattle.json.specs.Json as json
use Rattle.json.specs.Json.{if_last, value}
use Rattle.json.specs.Lex.{tokens}
use Rattle.json.proofs.Printed.Trees.{value-json_tokens}
use Rattle.serde_json.specs.Data.{item, Members, no_members, member, put, null, boolean, string, object, array, number, unsigned, negative, float, depth, items_depth, members_depth}
use Rattle.serde_json.specs.Find.{as_number, as_u64, as_i64}
use Rattle.serde_json.specs.Read.{of_json, of_items, of_members, read, max_depth}
use Rattle.serde_json.specs.View.{items_of}
use Rattle.serde_json.specs.Written.{outline, items_outline, members_outline}
use Rattle.serde_json.proofs.Numbers.{number_of-decimal, number_of-negative}
use Rattle.scene_model.specs.Parts.{Json, Name}
use Rattle.scene_document.specs.Drafts.{members_list}
use Rattle.scene_document.specs.Texts.{members_with}
use Rattle.scene_document.proofs.CallerLemmas.{depth-outline}
use Rattle.scene.specs.Printing.{tokens_of, member_tokens, IsReadable, Adds, AddsJson, AddsMembers, AddsItems}

-- ---- tokens behind tokens

-- what a writer says where it has written a token,
pub wrote : {E : Type 0} (done : Unit {0}) (old new : Written) (token : Token) → Writes {E = E} (Ok done) old new token → Adds (token ∷ []) old new
wrote done old new token written = record { tokens = written.ok; before = written.room.0 }

-- and where it may have
pub on-wrote : {E : Type 0} (r : Result (Unit {0}) E) (old new : Written) (token : Token) (Q : Type 0) → Writes r old new token → (Adds (token ∷ []) old new → Q) → OnOk r Q
on-wrote (Ok done) old new token Q written then = then (wrote done old new token written)
on-wrote (Err e) old new token Q written then = tt

pub adds-then : (first second : List Token) (old mid new : Written) → Adds first old mid → Adds second mid new → Adds (first ++ second) old new
adds-then first second old mid new one two = record {
  tokens = two.tokens ∙ (ap (λ ts. ts ++ second) one.tokens ∙ append_assoc old.tokens first second);
  before = two.before ∙ one.before;
}

-- ---- members and values one behind the other

pub members-none : (front : List Token) (old new : Written) → Adds front old new → AddsMembers front [] old new
members-none front old new opened = record { adds = subst (λ ts. Adds ts old new) (sym (append-nil front)) opened; reads = All-nil (λ pair. IsReadable pair.1) }

-- a member, of its key and its value
pub members-one : (name : Name) (value : Json) (old mid new : Written) → Adds (key name ∷ []) old mid → AddsJson value mid new → AddsMembers [] ((name, value) ∷ []) old new
members-one name value old mid new keyed one = record {
  adds = subst (λ ts. Adds ts old new) (ap (λ ts. key name ∷ ts) (sym (append-nil (tokens_of value)))) (adds-then (key name ∷ []) (tokens_of value) old mid new keyed one.adds);
  reads = All-cons (λ pair. IsReadable pair.1) (name, value) [] one.reads (All-nil (λ pair. IsReadable pair.1));
}

pub members-then : (front : List Token) (pairs more : List (Name × Json)) (old mid new : Written) → AddsMembers front pairs old mid → AddsMembers [] more mid new → AddsMembers front (pairs ++ more) old new
members-then front pairs more old mid new one two = record {
  adds = subst (λ ts. Adds ts old new)
      (append_assoc front (member_tokens pairs) (member_tokens more) ∙ ap (λ ts. front ++ ts) (sym (flat_map-append (λ pair. key pair.0 ∷ tokens_of pair.1) pairs more)))
      (adds-then (front ++ member_tokens pairs) (member_tokens more) old mid new one.adds two.adds);
  reads = All-append (λ pair. IsReadable pair.1) pairs more one.reads two.reads;
}

pub items-none : (front : List Token) (old new : Written) → Adds front old new → AddsItems front [] old new
items-none front old new opened = record { adds = subst (λ ts. Adds ts old new) (sym (append-nil front)) opened; reads = All-nil IsReadable }

pub items-then : (front : List Token) (values : List Json) (one : Json) (old mid new : Written) → AddsItems front values old mid → AddsJson one mid new → AddsItems front (values ++ one ∷ []) old new
items-then front values one old mid new before added = record {
  adds = subst (λ ts. Adds ts old new)
      (append_assoc front (flat_map tokens_of values) (tokens_of one) ∙ ap (λ ts. front ++ ts) (ap (λ ts. flat_map tokens_of values ++ ts) (sym (append-nil (tokens_of one))) ∙ sym (flat_map-append tokens_of values (one ∷ []))))
      (adds-then (front ++ flat_map tokens_of values) (tokens_of one) old mid new before.adds added.adds);
  reads = All-append IsReadable values (one ∷ []) before.reads (All-cons IsReadable one [] added.reads (All-nil IsReadable));
}

-- ---- objects and arrays of what can be read

members-tokens : (members : Members) → members_tokens (members_outline members) ≡ member_tokens (members_list members) ++ end_object ∷ []
members-tokens no_members = refl
members-tokens (member name value members) = ap (λ ts. key name ∷ (tokens_of value ++ ts)) (members-tokens members) ∙ ap (λ ts. key name ∷ ts) (sym (append_assoc (tokens_of value) (member_tokens (members_list members)) (end_object ∷ [])))

members-read : (members found : Members) → All (λ pair. IsReadable pair.1) (members_list members) → members_depth members ≤ max_depth
    → of_members (members_outline members) found ≡ Some (fold (λ some pair. put pair.0 pair.1 some) found (members_list members))
members-read no_members found all fits = refl
members-read (member name value members) found all fits =
    ap (option_and_then (λ d. of_members (members_outline members) (put name d found))) (All-head (λ pair. IsReadable pair.1) (name, value) (members_list members) all (omega (arith, fits)))
    ∙ members-read members (put name value found) (All-tail (λ pair. IsReadable pair.1) (name, value) (members_list members) all) (omega (arith, fits))

-- an object, of members that are those of the pairs that were written
pub object-added : (pairs : List (Name × Json)) (old mid new : Written) → members_list (members_with pairs) ≡ pairs → AddsMembers (begin_object ∷ []) pairs old mid → Adds (end_object ∷ []) mid new → AddsJson (object (members_with pairs)) old new
object-added pairs old mid new listed members closed = record {
  adds = subst (λ ts. Adds (begin_object ∷ ts) old new) (sym (members-tokens (members_with pairs) ∙ ap (λ some. member_tokens some ++ end_object ∷ []) listed))
      (adds-then (begin_object ∷ member_tokens pairs) (end_object ∷ []) old mid new members.adds closed);
  reads = λ fits. ap (option_map object)
      (members-read (members_with pairs) no_members (subst (All (λ pair. IsReadable pair.1)) (sym listed) members.reads) (omega (arith, fits))
      ∙ ap (λ some. Some (fold (λ more pair. put pair.0 pair.1 more) no_members some)) listed);
}

items-tokens : (values : List Json) → items_tokens (items_outline (items_of values)) ≡ flat_map tokens_of values ++ end_array ∷ []
items-tokens [] = refl
items-tokens (one ∷ values) = ap (λ ts. tokens_of one ++ ts) (items-tokens values) ∙ sym (append_assoc (tokens_of one) (flat_map tokens_of values) (end_array ∷ []))

items-read : (values : List Json) → All IsReadable values → items_depth (items_of values) ≤ max_depth → of_items (items_outline (items_of values)) ≡ Some (items_of values)
items-read [] all fits = refl
items-read (one ∷ values) all fits =
    ap (option_and_then (λ d. option_map (item d) (of_items (items_outline (items_of values))))) (All-head IsReadable one values all (omega (arith, fits)))
    ∙ ap (option_map (item one)) (items-read values (All-tail IsReadable one values all) (omega (arith, fits)))

-- an array
pub array-added : (values : List Json) (old mid new : Written) → AddsItems (begin_array ∷ []) values old mid → Adds (end_array ∷ []) mid new → AddsJson (array (items_of values)) old new
array-added values old mid new items closed = record {
  adds = subst (λ ts. Adds (begin_array ∷ ts) old new) (sym (items-tokens values)) (adds-then (begin_array ∷ flat_map tokens_of values) (end_array ∷ []) old mid new items.adds closed);
  reads = λ fits. ap (option_map array) (items-read values items.reads (omega (arith, fits)));
}

-- ---- numbers, and what has a text of its own

pub whole-added : (n : ℕ) (old new : Written) → n < 2 ^ 64 → Adds (tokens_of (number (unsigned n))) old new → AddsJson (number (unsigned n)) old new
whole-added n old new fits added = record { adds = added; reads = λ _. ap (option_map number) (number_of-decimal n fits) }

pub negative-added : (n : ℕ) (old new : Written) → n < 2 ^ 63 → Adds (tokens_of (number (negative (negsuc n)))) old new → AddsJson (number (negative (negsuc n))) old new
negative-added n old new fits added = record { adds = added; reads = λ _. ap (option_map number) (number_of-negative n fits) }

-- a value that has a whole number is that number,
pub is-whole : (json : Json) (n : ℕ) → option_and_then as_u64 (as_number json) ≡ Some n → json ≡ number (unsigned n)
is-whole null n is = absurd cc
is-whole (boolean b) n is = absurd cc
is-whole (number (unsigned m)) n is = ap (λ o. number (unsigned (unwrap_or o n))) is
is-whole (number (negative z)) n is = absurd cc
is-whole (number (float x)) n is = absurd cc
is-whole (string s) n is = absurd cc
is-whole (array ds) n is = absurd cc
is-whole (object ms) n is = absurd cc

-- a signed number under zero, as it is compared
pub is-under : (z : ℤ) → SFits w64 z → int_lt (to_z w64 (of_z w64 z)) (pos 0) ≡ true → (n : ℕ) × (z ≡ negsuc n) × (n < 2 ^ 63)
is-under (pos m) fits less = absurd (true≢false (sym less ∙ ap (λ z. int_lt z (pos 0)) (to_z-of_z fits) ∙ le-ltb m 0 (omega arith)))
is-under (negsuc m) fits less = (m, refl, fits.sfits)

under-zero : (fits : Bool) (m n : ℕ) → cond fits (Some (pos m)) None ≡ Some (negsuc n) → ⊥
under-zero true m n is = cc
under-zero false m n is = cc

-- and one that has a number under zero is that
pub is-negative : (json : Json) (n : ℕ) → option_and_then as_i64 (as_number json) ≡ Some (negsuc n) → json ≡ number (negative (negsuc n))
is-negative null n is = absurd cc
is-negative (boolean b) n is = absurd cc
is-negative (number (unsigned m)) n is = absurd (under-zero _ m n is)
is-negative (number (negative z)) n is = ap (λ o. number (negative (unwrap_or o (negsuc n)))) is
is-negative (number (float x)) n is = absurd cc
is-negative (string s) n is = absurd cc
is-negative (array ds) n is = absurd cc
is-negative (object ms) n is = absurd cc

-- a value that its text is read as can be read
pub readable : (text : List ℕ) (json : Json) → tokens text ≡ tokens_of json → (depth json ≤ max_depth → read text ≡ Some json) → IsReadable json
readable text json is back fits =
    sym (ap (λ o. option_and_then of_json (option_and_then (λ p. if_last p.0 p.1) o))
    (ap (value max_depth) (is ∙ sym (append-nil (tokens_of json))) ∙ value-json_tokens (outline json) max_depth [] (omega (arith, depth-outline json, fits))))
    ∙ back fits

-- ---- no token of a value is bad

only : (token : Token) → token ≢ bad → All (λ other. other ≢ bad) (token ∷ [])
only token apart = All-cons (λ other. other ≢ bad) token [] apart (All-nil (λ other. other ≢ bad))

mutual
  pub none-bad : (one : json.Json) → All (λ token. token ≢ bad) (json_tokens one)
  none-bad json.null = only Token.null (λ e. cc)
  none-bad (json.boolean b) = only (Token.boolean b) (λ e. cc)
  none-bad (json.number s) = only (Token.number s) (λ e. cc)
  none-bad (json.string s) = only (Token.string s) (λ e. cc)
  none-bad (json.array items) = All-cons (λ token. token ≢ bad) begin_array (items_tokens items) (λ e. cc) (no-bad-items items)
  none-bad (json.object members) = All-cons (λ token. token ≢ bad) begin_object (members_tokens members) (λ e. cc) (no-bad-members members)

  no-bad-items : (items : json.Items) → All (λ token. token ≢ bad) (items_tokens items)
  no-bad-items json.no_items = only end_array (λ e. cc)
  no-bad-items (json.item one items) = All-append (λ token. token ≢ bad) (json_tokens one) (items_tokens items) (none-bad one) (no-bad-items items)

  no-bad-members : (members : json.Members) → All (λ token. token ≢ bad) (members_tokens members)
  no-bad-members json.no_members = only end_object (λ e. cc)
  no-bad-members (json.member name one members) =
      All-cons (λ token. token ≢ bad) (key name) (json_tokens one ++ members_tokens members) (λ e. cc)
      (All-append (λ token. token ≢ bad) (json_tokens one) (members_tokens members) (none-bad one) (no-bad-members members))
