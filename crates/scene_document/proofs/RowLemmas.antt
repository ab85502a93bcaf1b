-- Lemmas on entities that are read token by token: names at places that rise, and an entity of its id and its parts.
use Rattle.std.proofs.Common.{◌≡◌, ℕ, zero, suc, ◌+◌, ◌<◌, ◌≤◌, ◌||◌, Bool, true, false, get_or, Bor, List, [], ◌∷◌, ◌++◌, length, map, codes, Option, Some, None, option_map, option_and_then, refl, sym, ap, subst, ◌∙◌, arith}
use Rattle.std.proofs.lemmas.Cmp.{nat_list_cmp_total}
use Rattle.std.proofs.lemmas.List.{get_or-map, length-map, map-append}
use Rattle.std.proofs.lemmas.List.Elements.{All-push}
use Rattle.std.specs.List.{All}
use Rattle.std.proofs.lemmas.Slice.Eq.{bytes_eq-Decides}
use Rattle.std.specs.Cmp.Lexicographic.{slice_cmp}
use Rattle.std.specs.Ordering.{nat_cmp, ordering_reverse}
use Rattle.std.specs.Str.{bytes_eq}
use Rattle.std.specs.declared.cmp.Ordering.TheVariants.{Less}
use Rattle.json.specs.Token.{Token}
use Rattle.json.specs.Json.{read_key}
use Rattle.serde_json.specs.Data.{number, unsigned, object, Members, no_members, member, put}
use Rattle.serde_json.specs.Written.{has_float, members_have_float}
use Rattle.scene_model.specs.Parts.{Json, Name, is_among, name_at}
use Rattle.scene_model.specs.Declaring.{texts}
use Rattle.scene_model.specs.Rulebook.{Book}
use Rattle.scene_model.specs.Laws.{Ascend}
use Rattle.scene_document.specs.Drafts.{DraftPart, each, part_under, entity_from, members_list}
use Rattle.scene_document.specs.TokenWords.{ReadsAs, ReadsMembers, IsKnownFrom}
use Rattle.scene_document.proofs.PairLemmas.{Past}
use Rattle.scene_document.proofs.TokenLemmas.{members-begin, members-turn, members-done, object-read}

-- ---- names

either-true : (one other : Bool) → other ≡ true → one || other ≡ true
either-true true other is = refl
either-true false other is = is

-- a name at a place is among the names
pub among-at : (name : Name) (names : List Name) (place : ℕ) → place < length names → name_at names place ≡ name → is_among name names ≡ true
among-at name [] place within is = absurd (omega arith)
among-at name (first ∷ names) zero within is = rw ((bytes_eq-Decides name first).1 (sym is)) refl
among-at name (first ∷ names) (suc place) within is = either-true (bytes_eq name first) (is_among name names) (among-at name names place (omega arith) is)

-- a name that was compared with that at a place stands there
pub known-from : (names : List (Bor Name)) (from place : ℕ) (name : Name) (unset : Bor Name) → unset.now ≡ [] → from ≤ place → place < length names → true ≡ bytes_eq (get_or names place unset).now name → IsKnownFrom name (texts names) from place
known-from names from place name unset none no_lower within same =
    let text : Bor Name → Name = λ other. other.now in
    let here : get_or (texts names) place unset.now ≡ name = get_or-map text names place unset unset.now within ∙ (bytes_eq-Decides (get_or names place unset).now name).0 (sym same) in
    record {
      no_lower = no_lower;
      within = omega (arith, within, length-map names text);
      is_name = subst (λ other. get_or (texts names) place other ≡ name) none here;
    }

-- the keys of members stand among names, at places below one
abbrev pub KeysBelow : List Name → ℕ → Members → Type 0
KeysBelow names from no_members = Unit {0}
KeysBelow names from (member key json members) = ((place : ℕ) × (place < from) × (name_at names place ≡ key)) × KeysBelow names from members

-- a name at a place that none of them reaches comes after them
pub past-below : (names : List Name) (from place : ℕ) (done : Members) → Ascend names → from ≤ place → place < length names → KeysBelow names from done → Past (name_at names place) done
past-below names from place no_members ascend no_lower within below = tt
past-below names from place (member key json members) ascend no_lower within below =
    let at = below.0 in
    let lower : at.0 < place = omega (arith, at.1, no_lower) in
    let less : slice_cmp nat_cmp key (name_at names place) ≡ Less = subst (λ other. slice_cmp nat_cmp other (name_at names place) ≡ Less) at.2 (ascend at.0 place [] lower within) in
    (nat_list_cmp_total.antisymm (name_at names place) key ∙ ap ordering_reverse less, past-below names from place members ascend no_lower within below.1)

pub keys-put : (names : List Name) (from place : ℕ) (key : Name) (json : Json) (done : Members) → from ≤ place → name_at names place ≡ key → Past key done → KeysBelow names from done → KeysBelow names (place + 1) (put key json done)
keys-put names from place key json no_members no_lower is past below = ((place, omega arith, is), tt)
keys-put names from place key json (member other one members) no_lower is past below =
    rw past.0 ((below.0.0, omega (arith, below.0.1, no_lower), below.0.2), keys-put names from place key json members no_lower is past.1 below.1)

-- ---- lists that are read element by element

-- one more is read at the end
each-more : {X Y : Type 0} (read : X → Option Y) (xs : List X) (x : X) (ys : List Y) (y : Y) → each read xs ≡ Some ys → read x ≡ Some y → each read (xs ++ x ∷ []) ≡ Some (ys ++ y ∷ [])
each-more read [] x ys y all one = let none : ys ≡ [] = cc in rw (one, none)
each-more {X} {Y} read (first ∷ xs) x ys y all one = step (λ zs f. each-more read xs x zs y f one) (read first) refl (each read xs) refl
  where
    step : ((zs : List Y) → each read xs ≡ Some zs → each read (xs ++ x ∷ []) ≡ Some (zs ++ y ∷ [])) → (o : Option Y) → read first ≡ o → (later : Option (List Y)) → each read xs ≡ later → each read (first ∷ xs ++ x ∷ []) ≡ Some (ys ++ y ∷ [])
    step go None e later f = let never = sym (ap (option_and_then (λ one. option_map (λ others. one ∷ others) (each read xs))) e) ∙ all in absurd cc
    step go (Some z) e None f = let never = sym (ap (option_and_then (λ one. option_map (λ others. one ∷ others) (each read xs))) e ∙ ap (option_map (λ others. z ∷ others)) f) ∙ all in absurd cc
    step go (Some z) e (Some zs) f =
        let whole : Some (z ∷ zs) ≡ Some ys = sym (ap (option_and_then (λ one. option_map (λ others. one ∷ others) (each read xs))) e ∙ ap (option_map (λ others. z ∷ others)) f) ∙ all in
        let is : z ∷ zs ≡ ys = cc in
        ap (option_and_then (λ one. option_map (λ others. one ∷ others) (each read (xs ++ x ∷ [])))) e ∙ ap (option_map (λ others. z ∷ others)) (go zs f) ∙ ap (λ list. Some (list ++ y ∷ [])) is

-- one more was pushed, which is what is read of one more
pub each-pushed : {X Y V : Type 0} (read : X → Option Y) (meaning : V → Y) (xs : List X) (x : X) (done pushed : List V) (one : V) → pushed ≡ done ++ one ∷ [] → each read xs ≡ Some (map meaning done) → read x ≡ Some (meaning one)
    → each read (xs ++ x ∷ []) ≡ Some (map meaning pushed)
each-pushed read meaning xs x done pushed one is all next =
    each-more read xs x (map meaning done) (meaning one) all next ∙ ap (λ list. Some list) (sym (map-append meaning done (one ∷ []))) ∙ ap (λ list. Some (map meaning list)) (sym is)

pub all-pushed : {V : Type 0} (P : V → Type 0) (done pushed : List V) (one : V) → pushed ≡ done ++ one ∷ [] → All P done → P one → All P pushed
all-pushed P done pushed one is all next = subst (All P) (sym is) (All-push P done one all next)

-- ---- an entity

-- the members of an entity, its id first
abbrev identified : ℕ → Members
identified id = member (codes "id") (number (unsigned id)) no_members

abbrev pub entity_with : ℕ → Members → Json
entity_with id parts = object (member (codes "id") (number (unsigned id)) (member (codes "parts") (object parts) no_members))

-- an entity is read where its id and its parts are
pub entity-read : (all inner named parted keyed braced behind rest : List Token) (id : ℕ) (parts : Members) → all ≡ Token.begin_object ∷ inner → read_key inner ≡ Some (Some (codes "id"), named)
    → ((depth : ℕ) → ReadsAs depth named (number (unsigned id)) parted) → length parted < length named → read_key parted ≡ Some (Some (codes "parts"), keyed) → keyed ≡ Token.begin_object ∷ braced
    → ReadsMembers 123 braced parts behind → length behind < length braced → read_key behind ≡ Some (None, rest)
    → ReadsAs 125 all (entity_with id parts) rest
entity-read all inner named parted keyed braced behind rest id parts opens first is_id less second opens_again are_parts lesser ends =
    let shorter : length keyed ≡ suc (length braced) = ap length opens_again in
    let below : length behind < length keyed = omega (arith, lesser, shorter) in
    let inside : ReadsAs 124 keyed (object parts) behind = object-read 124 keyed braced behind parts (omega arith) opens_again are_parts in
    let one = members-turn 124 inner inner named parted no_members (codes "id") (number (unsigned id)) (members-begin 124 inner) first (is_id 124) less in
    let two = members-turn 124 inner parted keyed behind (identified id) (codes "parts") (object parts) one second inside below in
    object-read 125 all inner rest _ (omega arith) opens (members-done 124 inner behind rest _ two ends)

pub entity-is : (book : Book) (id : ℕ) (parts : Members) (list : List DraftPart) → each (part_under book) (members_list parts) ≡ Some list → entity_from book (entity_with id parts) ≡ Some (record { id = id; parts = list })
entity-is book id parts list is = ap (option_map (λ (parts : List DraftPart). record { id = id; parts = parts })) is

pub entity-whole : (id : ℕ) (parts : Members) → members_have_float parts ≡ false → has_float (entity_with id parts) ≡ false
entity-whole id parts none = rw none
