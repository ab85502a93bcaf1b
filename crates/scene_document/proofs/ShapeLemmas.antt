-- Lemmas on names among names, on lists that are read element by element, and on the fields of an object.
use Rattle.std.proofs.Common.{◌≡◌, ℕ, suc, ◌+◌, ◌<◌, Bool, true, false, cond, ◌||◌, List, [], ◌∷◌, ◌++◌, map, length, Option, Some, None, option_map, option_and_then, is_some, MatchOption, codes, String, refl, sym, ap, subst, ◌∙◌, arith, append_assoc}
use Rattle.std.specs.List.{position_from, slice_index_or, All, AllByRecursion}
use Rattle.std.specs.List.Sorted.{IsStrictlySortedBy}
use Rattle.std.specs.Str.{bytes_eq}
use Rattle.std.specs.String.{string_cmp, string_bytes}
use Rattle.std.specs.Ordering.{is_eq}
use Rattle.std.specs.declared.cmp.Ordering.TheVariants.{Less}
use Rattle.std.specs.declared.alloc.Global.{Global}
use Rattle.std.proofs.lemmas.Map.Text.{is_eq-slice_cmp}
use Rattle.std.proofs.lemmas.Slice.Eq.{bytes_eq-Decides}
use Rattle.std.proofs.lemmas.List.Elements.{All-nil, All-cons, All-push, All-weaker}
use Rattle.std.proofs.lemmas.Bool.Decides.{same_from_decides}
use Rattle.std.proofs.lemmas.List.{map-append}
use Rattle.scene_document.specs.declared.draft.DocumentDraft.{DocumentDraft}
use Rattle.scene_model.specs.Parts.{Json, Name, Part, is_among, place_of, name_at}
use Rattle.scene_model.specs.Rulebook.{Book, Access}
use Rattle.scene_model.specs.declared.store.Store.{Store}
use Rattle.scene_model.specs.Stores.{store_named}
use Rattle.scene_document.specs.Drafts.{Draft, DraftPart, DraftEntity, DraftEntry, DraftCommand, only_member, each, part_under, read_or, members_list, keys_within, document_keys, whole, whole_32, entities_from, globals_from, entries_from, commands_from, global_under, draft_found, draft_from}
use Rattle.scene_document.specs.DraftViews.{named, plain_entity, plain_draft, plain_list, IsPlaced, IsAdmitted, IsPart, IsEntity, IsOfBook, EntryIsMade, AreMade, IsOther, Differ, AreApart, IsReadable, IsDraft}
use Rattle.serde_json.specs.declared.value.Value.{Value}
use Rattle.serde_json.specs.Data.{null, boolean, number, string, array, object, Members}
use Rattle.serde_json.specs.Find.{as_str, as_object}
use Rattle.scene_document.specs.ShapeWords.{members_seen, draft_in, IsEntry, IsAsked, IsKnownAt, IsReadUpTo, IsOtherKey, KeysDiffer}

-- ---- names

-- names are compared alike from either side
pub bytes_eq-symmetric : (one other : Name) → bytes_eq one other ≡ bytes_eq other one
bytes_eq-symmetric one other =
    let straight = bytes_eq-Decides one other in
    let turned = bytes_eq-Decides other one in
    same_from_decides _ _ straight (λ e. sym (turned.0 e), λ same. turned.1 (sym same))

found_or_later : (b among : Bool) (start : ℕ) (later : Option ℕ) → is_some later ≡ among → is_some (cond b (Some start) later) ≡ b || among
found_or_later true among start later e = refl
found_or_later false among start later e = e

is_some-position_from : (name : Name) (names : List Name) (start : ℕ) → is_some (position_from (λ other. bytes_eq other name) start names) ≡ is_among name names
is_some-position_from name [] start = refl
is_some-position_from name (first ∷ names) start = rw (bytes_eq-symmetric name first) (found_or_later (bytes_eq first name) _ start _ (is_some-position_from name names (start + 1)))

-- a name has a place exactly where it is among the names
pub is_some-place_of : (name : Name) (names : List Name) → is_some (place_of name names) ≡ is_among name names
is_some-place_of name names = is_some-position_from name names 0

-- a place at which a name stands in a list, counted from a start
record IsPlace (name : Name) (names : List Name) (start place : ℕ) : Type 0 where
  here : ℕ
  counted : place ≡ start + here
  within : here < length names
  is_name : slice_index_or names here [] ≡ name

place_first : (b : Bool) (name first : Name) (names : List Name) (start place : ℕ) (later : Option ℕ) → bytes_eq first name ≡ b
    → (later ≡ Some place → IsPlace name names (start + 1) place) → cond b (Some start) later ≡ Some place → IsPlace name (first ∷ names) start place
place_first true name first names start place later same go is = record {
  here = 0;
  counted = let e : start ≡ place = cc in omega arith;
  within = omega arith;
  is_name = (bytes_eq-Decides first name).0 same;
}
place_first false name first names start place later same go is =
    let rest = go is in
    let at = rest.here in
    let counted : place ≡ start + 1 + at = rest.counted in
    let within : at < length names = rest.within in
    record {
      here = suc at;
      counted = omega arith;
      within = omega arith;
      is_name = rest.is_name;
    }

place-position_from : (name : Name) (names : List Name) (start place : ℕ) → position_from (λ other. bytes_eq other name) start names ≡ Some place → IsPlace name names start place
place-position_from name [] start place is = cc
place-position_from name (first ∷ names) start place is = place_first (bytes_eq first name) name first names start place _ refl (place-position_from name names (start + 1) place) is

-- at the place of a name stands that name
pub name_at-place_of : (name : Name) (names : List Name) (place : ℕ) → place_of name names ≡ Some place → name_at names place ≡ name
name_at-place_of name names place is =
    let found = place-position_from name names 0 place is in
    let same : place ≡ found.here = omega (arith, found.counted) in
    ap (λ at. name_at names at) same ∙ found.is_name

-- what `place_of` finds
pub known_at-place_of : (name : Name) (names : List Name) (found : Option ℕ) → found ≡ place_of name names → MatchOption found (is_among name names ≡ false) (IsKnownAt name names)
known_at-place_of name names None is = sym (is_some-place_of name names) ∙ ap is_some (sym is)
known_at-place_of name names (Some place) is =
    let found = place-position_from name names 0 place (sym is) in
    let same : place ≡ found.here = omega (arith, found.counted) in
    record {
      known = sym (is_some-place_of name names) ∙ ap is_some (sym is);
      within = omega (arith, found.within);
      is_name = name_at-place_of name names place (sym is);
    }

-- ---- lists that are read element by element

one_more : {Y : Type 0} (o : Option (List Y)) (done : List Y) (one : Y) → option_map (λ rest. done ++ rest) (option_map (λ others. one ∷ others) o) ≡ option_map (λ rest. (done ++ one ∷ []) ++ rest) o
one_more None done one = refl
one_more (Some list) done one = ap (λ all. Some all) (sym (append_assoc done (one ∷ []) list))

-- one more of what is left is read
pub read_turn : {V X Y : Type 0} (read : X → Option Y) (meaning : V → Y) (good : V → Type 0) (all had left : List X) (x : X) (done : List V) (value : V) → IsReadUpTo read meaning good all had done → had ≡ x ∷ left
    → (read x ≡ Some (meaning value)) × good value → IsReadUpTo read meaning good all left (done ++ value ∷ [])
read_turn read meaning good all had left x done value before is found =
    let turned = subst (λ list. IsReadUpTo read meaning good all list done) is before in
    record {
      so_far = turned.so_far ∙ rw (found.0, map-append) (one_more (each read left) (map meaning done) (meaning value));
      all_good = All-push good done value before.all_good found.1;
    }

-- ---- members whose keys differ

other_keys : (key : String Global) (entries : List (String Global × Value)) → AllByRecursion (λ other. string_cmp key other ≡ Less) (map (λ e. e.0) entries) → IsOtherKey (string_bytes key) (members_seen entries)
other_keys key [] h = tt
other_keys key (e ∷ entries) h = (sym (is_eq-slice_cmp (string_bytes key) (string_bytes e.0)) ∙ ap is_eq (h.0), other_keys key entries h.1)

-- keys that ascend differ
pub keys_differ : (entries : List (String Global × Value)) → IsStrictlySortedBy string_cmp (map (λ e. e.0) entries) → KeysDiffer (members_seen entries)
unfolding IsStrictlySortedBy
keys_differ [] h = tt
keys_differ (e ∷ entries) h = (other_keys e.0 entries h.0, keys_differ entries h.1)

-- what is read under a key is under that key
under_key : (book : Book) (key other : Name) (json : Json) (part : DraftPart) → bytes_eq key other ≡ false → part_under book (other, json) ≡ Some part → IsOther key part
under_key book key other json None apart is = tt
under_key book key other json (Some entry) apart is = under_step (is_among other book.part_names) is
  where
    under_step : (b : Bool) → cond b (option_map (λ part. Some (other, part)) (book.read_part other json)) (Some None) ≡ Some (Some entry) → bytes_eq key entry.0 ≡ false
    under_step true is = read_step (book.read_part other json) is
      where
        read_step : (o : Option Part) → option_map (λ part. Some (other, part)) o ≡ Some (Some entry) → bytes_eq key entry.0 ≡ false
        read_step None is = absurd cc
        read_step (Some part) is = let same : (other, part) ≡ entry = cc in subst (λ (one : Name × Part). bytes_eq key one.0 ≡ false) same apart
    under_step false is = absurd cc

-- the first that is read of a list, and the others
each_cons : {X Y : Type 0} (read : X → Option Y) (x : X) (xs : List X) (list : List Y) → each read (x ∷ xs) ≡ Some list → (one : Y) × (others : List Y) × (read x ≡ Some one) × (each read xs ≡ Some others) × (list ≡ one ∷ others)
each_cons {X} {Y} read x xs list is = step (read x) (each read xs) refl refl is
  where
    step : (o : Option Y) (later : Option (List Y)) → read x ≡ o → each read xs ≡ later → option_and_then (λ one. option_map (λ others. one ∷ others) later) o ≡ Some list → (one : Y) × (others : List Y) × (read x ≡ Some one) × (each read xs ≡ Some others) × (list ≡ one ∷ others)
    step None later e f is = absurd cc
    step (Some one) None e f is = absurd cc
    step (Some one) (Some others) e f is = (one, others, e, f, cc)

each_other : (book : Book) (key : Name) (members : List (Name × Json)) (list : List DraftPart) → IsOtherKey key members → each (part_under book) members ≡ Some list → All (IsOther key) list
each_other book key [] list h is = let none : list ≡ [] = cc in subst (λ all. All (IsOther key) all) (sym none) (All-nil (IsOther key))
each_other book key (first ∷ members) list h is =
    let made = each_cons (part_under book) first members list is in
    subst (λ all. All (IsOther key) all) (sym made.4)
    (All-cons (IsOther key) made.0 made.1 (under_key book key first.0 first.1 made.0 h.0 made.2) (each_other book key members made.1 h.1 made.3))

-- a part that is another than each of these differs from each
differ_from : (first : Name × Json) (book : Book) (one : DraftPart) (others : List DraftPart) → part_under book first ≡ Some one → All (IsOther first.0) others → All (Differ one) others
differ_from first book None others is h = All-weaker (IsOther first.0) (Differ None) (λ other apart. tt) others h
differ_from first book (Some entry) others is h = All-weaker (IsOther first.0) (Differ (Some entry)) (λ other apart. subst (λ name. IsOther name other) (own_key book first entry is) apart) others h
  where
    own_key : (book : Book) (first : Name × Json) (entry : Name × Part) → part_under book first ≡ Some (Some entry) → first.0 ≡ entry.0
    own_key book first entry is = own_step (is_among first.0 book.part_names) (book.read_part first.0 first.1) is
      where
        own_step : (b : Bool) (o : Option Part) → cond b (option_map (λ part. Some (first.0, part)) o) (Some None) ≡ Some (Some entry) → first.0 ≡ entry.0
        own_step true None is = absurd cc
        own_step true (Some part) is = let same : (first.0, part) ≡ entry = cc in ap (λ (one : Name × Part). one.0) same
        own_step false o is = absurd cc

-- parts that are read of members whose keys differ are apart
pub each_apart : (book : Book) (members : List (Name × Json)) (list : List DraftPart) → KeysDiffer members → each (part_under book) members ≡ Some list → AreApart list
each_apart book [] list h is = let none : list ≡ [] = cc in subst AreApart (sym none) tt
each_apart book (first ∷ members) list h is =
    let made = each_cons (part_under book) first members list is in
    subst AreApart (sym made.4) (differ_from first book made.0 made.1 made.2 (each_other book first.0 members made.1 h.0 made.3), each_apart book members made.1 h.1 made.3)

-- ---- commands

-- there is no only member where the members are not one
pub no_only : (entries : List (String Global × Value)) → (length entries ≡ 1 → ⊥) → only_member (members_seen entries) ≡ None
no_only [] many = refl
no_only (one ∷ []) many = absurd (many refl)
no_only (one ∷ other ∷ entries) many = refl

-- ---- values

-- ---- systems

-- ---- documents

object_keeps : (members ms : Members) → Some members ≡ Some ms → keys_within document_keys (members_list members) ≡ true → keys_within document_keys (members_list ms) ≡ true
object_keeps members ms is keys = let same : members ≡ ms = cc in subst (λ these. keys_within document_keys (members_list these) ≡ true) same keys

-- the document of an object with no other keys than a document's is that of what stands under them
pub draft_from-in : (book : Book) (json : Json) (held : Members) → Some held ≡ as_object json → keys_within document_keys (members_list held) ≡ true → draft_from book json ≡ draft_in book json
draft_from-in book null held is keys = cc
draft_from-in book (boolean b) held is keys = cc
draft_from-in book (number n) held is keys = cc
draft_from-in book (string text) held is keys = cc
draft_from-in book (array items) held is keys = cc
draft_from-in book (object ms) held is keys = rw (object_keeps held ms is keys)

-- a document of its fields, if each was read
abbrev draft_of : Option (ℕ) → Option (List DraftEntity) → Option (List (Option (Name × Json))) → Option (List DraftEntry) → Option (ℕ) → Option (List (List DraftCommand)) → Option (ℕ) → Option (Name) → Option Draft
draft_of next entities globals entries frames commands workers store =
    option_and_then (λ next. option_and_then (λ entities. option_and_then (λ globals. option_and_then (λ entries. option_and_then (λ frames. option_and_then (λ commands. option_and_then (λ workers.
    option_map (λ store. record { next = next; entities = entities; globals = globals; entries = entries; frames = frames; commands = commands; workers = workers; store = store })
    store) workers) commands) frames) entries) globals) entities) next

none_listed : (next : Option ℕ) (entities : Option (List DraftEntity)) (globals : Option (List (Option (Name × Json)))) (entries : Option (List DraftEntry)) (frames : Option ℕ) (commands : Option (List (List DraftCommand))) (workers : Option ℕ) (store : Option Name) → entities ≡ None → draft_of next entities globals entries frames commands workers store ≡ None
none_listed None entities globals entries frames commands workers store is = refl
none_listed (Some a) None globals entries frames commands workers store is = refl
none_listed (Some a) (Some b) globals entries frames commands workers store is = absurd cc

none_globals : (next : Option ℕ) (entities : Option (List DraftEntity)) (globals : Option (List (Option (Name × Json)))) (entries : Option (List DraftEntry)) (frames : Option ℕ) (commands : Option (List (List DraftCommand))) (workers : Option ℕ) (store : Option Name) → globals ≡ None → draft_of next entities globals entries frames commands workers store ≡ None
none_globals None entities globals entries frames commands workers store is = refl
none_globals (Some a) None globals entries frames commands workers store is = refl
none_globals (Some a) (Some b) None entries frames commands workers store is = refl
none_globals (Some a) (Some b) (Some d) entries frames commands workers store is = absurd cc

none_entries : (next : Option ℕ) (entities : Option (List DraftEntity)) (globals : Option (List (Option (Name × Json)))) (entries : Option (List DraftEntry)) (frames : Option ℕ) (commands : Option (List (List DraftCommand))) (workers : Option ℕ) (store : Option Name) → entries ≡ None → draft_of next entities globals entries frames commands workers store ≡ None
none_entries None entities globals entries frames commands workers store is = refl
none_entries (Some a) None globals entries frames commands workers store is = refl
none_entries (Some a) (Some b) None entries frames commands workers store is = refl
none_entries (Some a) (Some b) (Some d) None frames commands workers store is = refl
none_entries (Some a) (Some b) (Some d) (Some e) frames commands workers store is = absurd cc

none_frames : (next : Option ℕ) (entities : Option (List DraftEntity)) (globals : Option (List (Option (Name × Json)))) (entries : Option (List DraftEntry)) (frames : Option ℕ) (commands : Option (List (List DraftCommand))) (workers : Option ℕ) (store : Option Name) → frames ≡ None → draft_of next entities globals entries frames commands workers store ≡ None
none_frames None entities globals entries frames commands workers store is = refl
none_frames (Some a) None globals entries frames commands workers store is = refl
none_frames (Some a) (Some b) None entries frames commands workers store is = refl
none_frames (Some a) (Some b) (Some d) None frames commands workers store is = refl
none_frames (Some a) (Some b) (Some d) (Some e) None commands workers store is = refl
none_frames (Some a) (Some b) (Some d) (Some e) (Some f) commands workers store is = absurd cc

none_commands : (next : Option ℕ) (entities : Option (List DraftEntity)) (globals : Option (List (Option (Name × Json)))) (entries : Option (List DraftEntry)) (frames : Option ℕ) (commands : Option (List (List DraftCommand))) (workers : Option ℕ) (store : Option Name) → commands ≡ None → draft_of next entities globals entries frames commands workers store ≡ None
none_commands None entities globals entries frames commands workers store is = refl
none_commands (Some a) None globals entries frames commands workers store is = refl
none_commands (Some a) (Some b) None entries frames commands workers store is = refl
none_commands (Some a) (Some b) (Some d) None frames commands workers store is = refl
none_commands (Some a) (Some b) (Some d) (Some e) None commands workers store is = refl
none_commands (Some a) (Some b) (Some d) (Some e) (Some f) None workers store is = refl
none_commands (Some a) (Some b) (Some d) (Some e) (Some f) (Some g) workers store is = absurd cc

none_workers : (next : Option ℕ) (entities : Option (List DraftEntity)) (globals : Option (List (Option (Name × Json)))) (entries : Option (List DraftEntry)) (frames : Option ℕ) (commands : Option (List (List DraftCommand))) (workers : Option ℕ) (store : Option Name) → workers ≡ None → draft_of next entities globals entries frames commands workers store ≡ None
none_workers None entities globals entries frames commands workers store is = refl
none_workers (Some a) None globals entries frames commands workers store is = refl
none_workers (Some a) (Some b) None entries frames commands workers store is = refl
none_workers (Some a) (Some b) (Some d) None frames commands workers store is = refl
none_workers (Some a) (Some b) (Some d) (Some e) None commands workers store is = refl
none_workers (Some a) (Some b) (Some d) (Some e) (Some f) None workers store is = refl
none_workers (Some a) (Some b) (Some d) (Some e) (Some f) (Some g) None store is = refl
none_workers (Some a) (Some b) (Some d) (Some e) (Some f) (Some g) (Some h) store is = absurd cc

none_store : (next : Option ℕ) (entities : Option (List DraftEntity)) (globals : Option (List (Option (Name × Json)))) (entries : Option (List DraftEntry)) (frames : Option ℕ) (commands : Option (List (List DraftCommand))) (workers : Option ℕ) (store : Option Name) → store ≡ None → draft_of next entities globals entries frames commands workers store ≡ None
none_store None entities globals entries frames commands workers store is = refl
none_store (Some a) None globals entries frames commands workers store is = refl
none_store (Some a) (Some b) None entries frames commands workers store is = refl
none_store (Some a) (Some b) (Some d) None frames commands workers store is = refl
none_store (Some a) (Some b) (Some d) (Some e) None commands workers store is = refl
none_store (Some a) (Some b) (Some d) (Some e) (Some f) None workers store is = refl
none_store (Some a) (Some b) (Some d) (Some e) (Some f) (Some g) None store is = refl
none_store (Some a) (Some b) (Some d) (Some e) (Some f) (Some g) (Some h) None is = refl
none_store (Some a) (Some b) (Some d) (Some e) (Some f) (Some g) (Some h) (Some i) is = absurd cc

-- there is no document where one of its fields is none
module _ (book : Book) (next entities globals systems frames commands workers store : Option Json) where
  pub no_listed : option_and_then (entities_from book) entities ≡ None → draft_found book next entities globals systems frames commands workers store ≡ None
  no_listed is = none_listed (option_and_then whole next) (option_and_then (entities_from book) entities) (read_or [] (globals_from book) globals) (read_or [] (entries_from book) systems) (read_or 0 whole_32 frames) (read_or [] (commands_from book) commands) (read_or 1 whole workers) (read_or (codes "vec") as_str store) is

  pub no_globals : read_or [] (globals_from book) globals ≡ None → draft_found book next entities globals systems frames commands workers store ≡ None
  no_globals is = none_globals (option_and_then whole next) (option_and_then (entities_from book) entities) (read_or [] (globals_from book) globals) (read_or [] (entries_from book) systems) (read_or 0 whole_32 frames) (read_or [] (commands_from book) commands) (read_or 1 whole workers) (read_or (codes "vec") as_str store) is

  pub no_entries : read_or [] (entries_from book) systems ≡ None → draft_found book next entities globals systems frames commands workers store ≡ None
  no_entries is = none_entries (option_and_then whole next) (option_and_then (entities_from book) entities) (read_or [] (globals_from book) globals) (read_or [] (entries_from book) systems) (read_or 0 whole_32 frames) (read_or [] (commands_from book) commands) (read_or 1 whole workers) (read_or (codes "vec") as_str store) is

  pub no_frames : read_or 0 whole_32 frames ≡ None → draft_found book next entities globals systems frames commands workers store ≡ None
  no_frames is = none_frames (option_and_then whole next) (option_and_then (entities_from book) entities) (read_or [] (globals_from book) globals) (read_or [] (entries_from book) systems) (read_or 0 whole_32 frames) (read_or [] (commands_from book) commands) (read_or 1 whole workers) (read_or (codes "vec") as_str store) is

  pub no_commands : read_or [] (commands_from book) commands ≡ None → draft_found book next entities globals systems frames commands workers store ≡ None
  no_commands is = none_commands (option_and_then whole next) (option_and_then (entities_from book) entities) (read_or [] (globals_from book) globals) (read_or [] (entries_from book) systems) (read_or 0 whole_32 frames) (read_or [] (commands_from book) commands) (read_or 1 whole workers) (read_or (codes "vec") as_str store) is

  pub no_workers : read_or 1 whole workers ≡ None → draft_found book next entities globals systems frames commands workers store ≡ None
  no_workers is = none_workers (option_and_then whole next) (option_and_then (entities_from book) entities) (read_or [] (globals_from book) globals) (read_or [] (entries_from book) systems) (read_or 0 whole_32 frames) (read_or [] (commands_from book) commands) (read_or 1 whole workers) (read_or (codes "vec") as_str store) is

  pub no_store : read_or (codes "vec") as_str store ≡ None → draft_found book next entities globals systems frames commands workers store ≡ None
  no_store is = none_store (option_and_then whole next) (option_and_then (entities_from book) entities) (read_or [] (globals_from book) globals) (read_or [] (entries_from book) systems) (read_or 0 whole_32 frames) (read_or [] (commands_from book) commands) (read_or 1 whole workers) (read_or (codes "vec") as_str store) is

-- what is read for a global is readable, where what was read is read back as it was
global_readable : (book : Book) → ((name : Name) (json value : Json) → book.read_global name json ≡ Some value → book.read_global name value ≡ Some value) → (entry : Name × Json) (one : Option (Name × Json)) → global_under book entry ≡ Some one → IsReadable book one
global_readable book back entry None is = tt
global_readable book back entry (Some global) is = here (is_among entry.0 book.global_names) (book.read_global entry.0 entry.1) refl is
  where
    here : (b : Bool) (o : Option Json) → book.read_global entry.0 entry.1 ≡ o → cond b (option_map (λ value. Some (entry.0, value)) o) (Some None) ≡ Some (Some global) → book.read_global global.0 global.1 ≡ Some global.1
    here true None e is = absurd cc
    here true (Some value) e is = let same : (entry.0, value) ≡ global = cc in subst (λ (one : Name × Json). book.read_global one.0 one.1 ≡ Some one.1) same (back entry.0 entry.1 value e)
    here false o e is = absurd cc

each_readable : (book : Book) → ((name : Name) (json value : Json) → book.read_global name json ≡ Some value → book.read_global name value ≡ Some value) → (members : List (Name × Json)) (list : List (Option (Name × Json))) → each (global_under book) members ≡ Some list → All (IsReadable book) list
each_readable book back [] list is = let none : list ≡ [] = cc in subst (λ all. All (IsReadable book) all) (sym none) (All-nil (IsReadable book))
each_readable book back (first ∷ members) list is =
    let made = each_cons (global_under book) first members list is in
    subst (λ all. All (IsReadable book) all) (sym made.4) (All-cons (IsReadable book) made.0 made.1 (global_readable book back first made.0 made.2) (each_readable book back members made.1 made.3))

-- so are all globals of a document
globals_readable : (book : Book) → ((name : Name) (json value : Json) → book.read_global name json ≡ Some value → book.read_global name value ≡ Some value) → (globals : Option Json) (list : List (Option (Name × Json))) → read_or [] (globals_from book) globals ≡ Some list → All (IsReadable book) list
globals_readable book back None list is = let none : list ≡ [] = cc in subst (λ all. All (IsReadable book) all) (sym none) (All-nil (IsReadable book))
globals_readable book back (Some json) list is = here (as_object json) is
  where
    here : (o : Option Members) → option_and_then (λ members. each (global_under book) (members_list members)) o ≡ Some list → All (IsReadable book) list
    here None is = absurd cc
    here (Some members) is = each_readable book back (members_list members) list is

-- the name of the store that is read
name-kept : (o : Option Name) (found : Option Store) → Some found ≡ option_map store_named o → (name : Name) × (o ≡ Some name) × (store_named name ≡ found)
name-kept None found is = absurd cc
name-kept (Some name) found is = (name, refl, cc)

-- no name is read where no store is
pub no-name : (o : Option Name) → None ≡ option_map store_named o → o ≡ None
no-name None is = refl
no-name (Some name) is = absurd cc

-- the document
reads_draft : (book : Book) (next entities globals systems frames commands workers store : Option Json) (count asked hands : ℕ) (listed : List DraftEntity) (valued : List (Option (Name × Json))) (entries : List DraftEntry) (lists : List (List DraftCommand)) (kept : Name)
    → Some count ≡ option_and_then whole next → option_and_then (entities_from book) entities ≡ Some listed → read_or [] (globals_from book) globals ≡ Some valued → read_or [] (entries_from book) systems ≡ Some entries
    → Some asked ≡ read_or 0 whole_32 frames → read_or [] (commands_from book) commands ≡ Some lists → Some hands ≡ read_or 1 whole workers → read_or (codes "vec") as_str store ≡ Some kept
    → draft_found book next entities globals systems frames commands workers store ≡ Some (record { next = count; entities = listed; globals = valued; entries = entries; frames = asked; commands = lists; workers = hands; store = kept })
reads_draft book next entities globals systems frames commands workers store count asked hands listed valued entries lists kept a b d e f g h i = rw (← a, b, d, e, ← f, g, ← h, i)

module _ {D G S : Type 0} (part_of : D → Part) (global_of : G → Json) (kind_of : S → Name) (config_of : S → Json) (declared : S → Access) (said_time : S → ℕ) (made_by : S → Type 0) (book : Book) (back : (name : Name) (json value : Json) → book.read_global name json ≡ Some value → book.read_global name value ≡ Some value) where
  -- the code's draft is the one of what was found
  pub draft_made : (next entities globals systems frames commands workers store : Option Json) (draft : DocumentDraft D G S)
      → Some draft.next ≡ option_and_then whole next
      → ((option_and_then (entities_from book) entities ≡ Some (map (plain_entity part_of book.part_names) draft.entities.items)) × All (IsEntity part_of book) draft.entities.items)
      → ((read_or [] (globals_from book) globals ≡ Some (map (named global_of book.global_names) draft.globals.items)) × All (IsPlaced (length book.global_names)) draft.globals.items)
      → ((read_or [] (entries_from book) systems ≡ Some (map plain_draft draft.entries.items)) × All (IsEntry kind_of config_of declared said_time made_by book) draft.entries.items)
      → Some draft.frames ≡ read_or 0 whole_32 frames
      → ((read_or [] (commands_from book) commands ≡ Some (map (plain_list part_of) draft.commands.items)) × All (λ list. All (IsAsked part_of book) list.items) draft.commands.items)
      → Some draft.workers ≡ read_or 1 whole workers
      → Some draft.store ≡ option_map store_named (read_or (codes "vec") as_str store)
      → (plain : Draft) × (draft_found book next entities globals systems frames commands workers store ≡ Some plain) × IsDraft part_of global_of kind_of config_of book plain draft × AreMade declared said_time made_by draft.entries.items
  draft_made next entities globals systems frames commands workers store draft is_next are_entities are_globals are_entries are_frames are_commands are_workers is_store =
      let kept = name-kept (read_or (codes "vec") as_str store) draft.store is_store in
      let plain : Draft = record { next = draft.next; entities = map (plain_entity part_of book.part_names) draft.entities.items; globals = map (named global_of book.global_names) draft.globals.items; entries = map plain_draft draft.entries.items; frames = draft.frames; commands = map (plain_list part_of) draft.commands.items; workers = draft.workers; store = kept.0 } in (
        plain,
        reads_draft book next entities globals systems frames commands workers store _ _ _ _ _ _ _ _ is_next are_entities.0 are_globals.0 are_entries.0 are_frames are_commands.0 are_workers kept.1,
        record {
          next = refl;
          entities = refl;
          globals = refl;
          entries = refl;
          frames = refl;
          commands = refl;
          workers = refl;
          store = kept.2;
          kinds_placed = All-weaker (IsEntity part_of book) (λ entity. All (IsPlaced (length book.part_names)) entity.parts.items) (λ entity parts. All-weaker (IsPart part_of book) (IsPlaced (length book.part_names)) (λ part is. is.placed) entity.parts.items parts) draft.entities.items are_entities.1;
          globals_placed = are_globals.1;
          admitted = All-weaker (IsEntity part_of book) (λ entity. All (IsAdmitted part_of book) entity.parts.items) (λ entity parts. All-weaker (IsPart part_of book) (IsAdmitted part_of book) (λ part is. is.admitted) entity.parts.items parts) draft.entities.items are_entities.1;
          readable = globals_readable book back globals (map (named global_of book.global_names) draft.globals.items) are_globals.0;
          made = All-weaker (IsEntry kind_of config_of declared said_time made_by book) (IsOfBook kind_of config_of book) (λ entry is. is.of_book) draft.entries.items are_entries.1;
          lawful = are_commands.1;
        },
        All-weaker (IsEntry kind_of config_of declared said_time made_by book) (EntryIsMade declared said_time made_by) (λ entry is. is.made_so) draft.entries.items are_entries.1,
      )
