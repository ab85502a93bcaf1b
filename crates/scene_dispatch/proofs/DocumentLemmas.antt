-- What the reading of a document, and the refusals that don't stand, say of its entries.
use Rattle.std.proofs.Common.{◌≡◌, ℕ, Bool, true, false, List, [], ◌∷◌, Option, Some, None, option_map, refl, ap, sym, ◌∙◌, subst}
use Rattle.std.specs.Prelude.{◌≤◌, length, nat_lt, Ok, Err, codes, if◌then◌else◌}
use Rattle.std.specs.List.{All, AllByRecursion}
use Rattle.std.specs.Option.{option_and_then}
use Rattle.std.specs.Ordering.{nat_cmp, match_ordering, is_eq}
use Rattle.std.proofs.lemmas.Bool.{ltb-false, and_parts}
use Rattle.std.specs.declared.cmp.Ordering.{Ordering}
use Rattle.std.specs.declared.cmp.Ordering.TheVariants.{Less, Equal, Greater}
use Rattle.std.specs.Cmp.Lexicographic.{slice_cmp}
use Rattle.std.specs.Str.{bytes_eq}
use Rattle.std.proofs.lemmas.Map.Text.{is_eq-slice_cmp}
use Rattle.std.proofs.lemmas.Slice.Eq.{bytes_eq-Decides}
use Rattle.std.proofs.lemmas.Option.{option_and_then_some}
use Rattle.serde_json.specs.Data.{null, Members, no_members, member}
use Rattle.serde_json.specs.Find.{get_member, as_array, as_object, as_str, as_bool}
use Rattle.scene_model.specs.declared.refusals.DocRefusal.{DocRefusal}
use Rattle.scene_model.specs.Parts.{Json, Name, is_among}
use Rattle.scene_model.specs.Rulebook.{Book, Facts, Described, misshapen, unknown, known}
use Rattle.scene_document.specs.Drafts.{Draft, DraftEntity, DraftEntry, DraftSystem, DraftCommand, barrier, system, draft_found, draft_from, whole, whole_32, entities_from, globals_from, commands_from, object_with, document_keys, each, items_list, members_list, keys_within, read_or, is_true, says_local, says_barrier, entry_keys, entries_from, names_from, anything, facts_in_shape, system_found, system_from, entry_from}
use Rattle.scene_model.specs.declared.refusals.DocRefusal.TheVariants.{NotWhole}
use Rattle.std.proofs.lemmas.List.Elements.{All-from_recursion}
use Rattle.serde_json.specs.Written.{has_float}
use Rattle.scene_document.specs.Documents.{listed_ids, systems_of, has_unknown_kind, has_double, has_id_past_next, dangles, has_unknown_system, has_taken_name, has_unknown_dependency, lacks_global, writes_reserved, refusal_of, unless_refused, of_shape, document_from}
use Rattle.scene_dispatch.specs.Entries.{systems_among, AreNamed, IsSaid}
use Rattle.scene_dispatch.proofs.EntryLemmas.{each-weaker}

-- what a reading of one element says holds of each that is read
each-read : {X Y : Type 0} (read : X → Option Y) (P : Y → Type 0) → ((x : X) (y : Y) → read x ≡ Some y → P y) → (xs : List X) (ys : List Y) → each read xs ≡ Some ys → AllByRecursion P ys
each-read read P holds [] [] e = tt
each-read read P holds [] (y ∷ ys) e = cc
each-read {X} {Y} read P holds (x ∷ xs) ys e = by (read x) refl (each read xs) (each-read read P holds xs) e
  where
    by : (one : Option Y) → read x ≡ one → (others : Option (List Y)) → ((list : List Y) → others ≡ Some list → AllByRecursion P list)
        → option_and_then (λ one. option_map (λ list. one ∷ list) others) one ≡ Some ys → AllByRecursion P ys
    by None is others rest e = cc
    by (Some one) is None rest e = cc
    by (Some one) is (Some others) rest e = let same : one ∷ others ≡ ys = cc in subst (AllByRecursion P) same (holds x one is, rest others refl)

-- no member of an object is under a key that isn't among its keys
key-absent : (key : Name) (keys : List Name) → is_among key keys ≡ false → (members : Members) → keys_within keys (members_list members) ≡ true → get_member key members ≡ None
key-absent key keys absent no_members within = refl
key-absent key keys absent (member other value members) within =
    by (slice_cmp nat_cmp key other) (is_eq-slice_cmp key other) (both.0) (key-absent key keys absent members both.1)
  where
    both : (is_among other keys ≡ true) × (keys_within keys (members_list members) ≡ true)
    both = and_parts (is_among other keys) (keys_within keys (members_list members)) within

    by : (order : Ordering) → is_eq order ≡ bytes_eq key other → is_among other keys ≡ true → get_member key members ≡ None → match_ordering order (get_member key members) (Some value) (get_member key members) ≡ None
    by Less same there rest = rest
    by Greater same there rest = rest
    by Equal same there rest = let is : key ≡ other = (bytes_eq-Decides key other).0 (sym same) in let among : is_among key keys ≡ true = ap (λ k. is_among k keys) is ∙ there in cc

module _ (book : Book) where
  -- a local system has no name, and what is known of a system is what the rules say of its kind and configuration
  pub record IsRead (one : DraftSystem) : Type 0 where
    pub unnamed : one.local ≡ true → one.name ≡ []
    pub described : (facts : Facts) → one.facts ≡ Some facts → book.system one.kind one.config ≡ known facts

  -- so it is of the system of an entry
  abbrev pub EntryRead : DraftEntry → Type 0
  EntryRead barrier = Unit {0}
  EntryRead (system one) = IsRead one

  -- a system of which its name and whether it is local were read
  system-made : (kind name : Name) (after : List Name) (config : Json) (local : Bool) → (local ≡ true → name ≡ []) → (described : Described) → book.system kind config ≡ described → (entry : DraftEntry)
      → option_map (λ facts. system (record { kind = kind; name = name; after = after; config = config; local = local; facts = facts })) (facts_in_shape described) ≡ Some entry → EntryRead entry
  system-made kind name after config local unnamed misshapen is entry e = cc
  system-made kind name after config local unnamed unknown is entry e =
      let made : DraftEntry = system (record { kind = kind; name = name; after = after; config = config; local = local; facts = None }) in
      let same : made ≡ entry = cc in
      subst EntryRead same (record { unnamed = unnamed; described = λ facts none. cc })
  system-made kind name after config local unnamed (known found) is entry e =
      let made : DraftEntry = system (record { kind = kind; name = name; after = after; config = config; local = local; facts = Some found }) in
      let same : made ≡ entry = cc in
      subst EntryRead same (record { unnamed = unnamed; described = λ facts there. let here : found ≡ facts = cc in is ∙ ap known here })

  -- what is found under the keys of an entry makes such a system
  system-read : (kind name after config local : Option Json) → ((text : Name) → read_or false as_bool local ≡ Some true → read_or [] as_str name ≡ Some text → text ≡ []) → (entry : DraftEntry)
      → system_found book kind name after config local ≡ Some entry → EntryRead entry
  system-read kind name after config local unnamed entry =
      by (option_and_then as_str kind) (read_or [] as_str name) refl (read_or [] names_from after) (read_or null anything config) (read_or false as_bool local) refl
    where
      by : (kind : Option Name) (called : Option Name) → read_or [] as_str name ≡ called → (after : Option (List Name)) (config : Option Json) (told : Option Bool) → read_or false as_bool local ≡ told
          → option_and_then (λ kind. option_and_then (λ name. option_and_then (λ after. option_and_then (λ config. option_and_then (λ local. option_map (λ facts. system (record { kind = kind; name = name; after = after; config = config; local = local; facts = facts })) (facts_in_shape (book.system kind config))) told) config) after) called) kind ≡ Some entry
          → EntryRead entry
      by None called is after config told says e = cc
      by (Some kind) None is after config told says e = cc
      by (Some kind) (Some name) is None config told says e = cc
      by (Some kind) (Some name) is (Some after) None told says e = cc
      by (Some kind) (Some name) is (Some after) (Some config) None says e = cc
      by (Some kind) (Some text) is (Some after) (Some config) (Some local) says e =
          system-made kind text after config local (λ so. unnamed text (says ∙ ap Some so) is) (book.system kind config) refl entry e

  -- a local system's keys have no name among them
  entry-read : (json : Json) (entry : DraftEntry) → entry_from book json ≡ Some entry → EntryRead entry
  entry-read json entry = by (as_object json)
    where
      of_system : (found : Members) (within : Bool) → keys_within (entry_keys (says_local found)) (members_list found) ≡ within → (if within then system_from book found else None) ≡ Some entry → EntryRead entry
      of_system found false are e = cc
      of_system found true are e =
          system-read (get_member (codes "kind") found) (get_member (codes "name") found) (get_member (codes "after") found) (get_member (codes "config") found) (get_member (codes "local") found)
          (λ text local named.
          let told : says_local found ≡ true = ap is_true local in
          let few : keys_within (entry_keys true) (members_list found) ≡ true = ap (λ b. keys_within (entry_keys b) (members_list found)) (sym told) ∙ are in
          let none : get_member (codes "name") found ≡ None = key-absent (codes "name") (entry_keys true) refl found few in
          let empty : Some [] ≡ Some text = ap (read_or [] as_str) (sym none) ∙ named in
          cc)
          entry e

      of_object : (found : Members) (one : Bool) → (if one then (if says_barrier found then Some barrier else None) else (if keys_within (entry_keys (says_local found)) (members_list found) then system_from book found else None)) ≡ Some entry → EntryRead entry
      of_object found false e = of_system found (keys_within (entry_keys (says_local found)) (members_list found)) refl e
      of_object found true e = is_barrier (says_barrier found) e
        where
          is_barrier : (b : Bool) → (if b then Some barrier else None) ≡ Some entry → EntryRead entry
          is_barrier true e = let same : barrier ≡ entry = cc in subst EntryRead same tt
          is_barrier false e = cc

      by : (object : Option Members)
          → option_and_then (λ found. if keys_within (codes "barrier" ∷ []) (members_list found) then (if says_barrier found then Some barrier else None) else (if keys_within (entry_keys (says_local found)) (members_list found) then system_from book found else None)) object ≡ Some entry
          → EntryRead entry
      by None e = cc
      by (Some found) e = of_object found (keys_within (codes "barrier" ∷ []) (members_list found)) e

  -- so it is of each entry of a list
  entries-read : (json : Option Json) (entries : List DraftEntry) → read_or [] (entries_from book) json ≡ Some entries → AllByRecursion EntryRead entries
  entries-read None entries e = let none : [] ≡ entries = cc in subst (AllByRecursion EntryRead) none tt
  entries-read (Some json) entries e =
      option_and_then_some (λ items. each (entry_from book) (items_list items)) (as_array json) entries e (λ items is read. each-read (entry_from book) EntryRead entry-read (items_list items) entries read)

  -- of each entry of a draft that is found
  draft-found : (next entities globals entries frames commands workers store : Option Json) (draft : Draft) → draft_found book next entities globals entries frames commands workers store ≡ Some draft → AllByRecursion EntryRead draft.entries
  draft-found next entities globals entries frames commands workers store draft =
      by (option_and_then whole next) (option_and_then (entities_from book) entities) (read_or [] (globals_from book) globals) (read_or [] (entries_from book) entries) (entries-read entries)
      (read_or 0 whole_32 frames) (read_or [] (commands_from book) commands) (read_or 1 whole workers) (read_or (codes "vec") as_str store)
    where
      by : (next : Option ℕ) (entities : Option (List DraftEntity)) (globals : Option (List (Option (Name × Json)))) (entries : Option (List DraftEntry))
          → ((list : List DraftEntry) → entries ≡ Some list → AllByRecursion EntryRead list)
          → (frames : Option ℕ) (commands : Option (List (List DraftCommand))) (workers : Option ℕ) (store : Option Name)
          → option_and_then (λ next.
          option_and_then (λ entities.
          option_and_then (λ globals.
          option_and_then (λ entries.
          option_and_then (λ frames.
          option_and_then (λ commands.
          option_and_then (λ workers.
          option_map (λ store. record { next = next; entities = entities; globals = globals; entries = entries; frames = frames; commands = commands; workers = workers; store = store })
          store) workers) commands) frames) entries) globals) entities) next ≡ Some draft
          → AllByRecursion EntryRead draft.entries
      by None entities globals entries read frames commands workers store e = cc
      by (Some next) None globals entries read frames commands workers store e = cc
      by (Some next) (Some entities) None entries read frames commands workers store e = cc
      by (Some next) (Some entities) (Some globals) None read frames commands workers store e = cc
      by (Some next) (Some entities) (Some globals) (Some entries) read None commands workers store e = cc
      by (Some next) (Some entities) (Some globals) (Some entries) read (Some frames) None workers store e = cc
      by (Some next) (Some entities) (Some globals) (Some entries) read (Some frames) (Some commands) None store e = cc
      by (Some next) (Some entities) (Some globals) (Some entries) read (Some frames) (Some commands) (Some workers) None e = cc
      by (Some next) (Some entities) (Some globals) (Some entries) read (Some frames) (Some commands) (Some workers) (Some store) e =
          let made : Draft = record { next = next; entities = entities; globals = globals; entries = entries; frames = frames; commands = commands; workers = workers; store = store } in
          let same : made ≡ draft = cc in
          subst (λ one. AllByRecursion EntryRead one.entries) same (read entries refl)

  -- of each entry of a document
  draft-read : (json : Json) (draft : Draft) → draft_from book json ≡ Some draft → AllByRecursion EntryRead draft.entries
  draft-read json draft e =
      option_and_then_some
      (λ found. draft_found book (get_member (codes "next") found) (get_member (codes "entities") found) (get_member (codes "globals") found) (get_member (codes "systems") found) (get_member (codes "frames") found) (get_member (codes "commands") found) (get_member (codes "workers") found) (get_member (codes "store") found))
      (object_with document_keys json) draft e
      (λ found is read. draft-found (get_member (codes "next") found) (get_member (codes "entities") found) (get_member (codes "globals") found) (get_member (codes "systems") found) (get_member (codes "frames") found) (get_member (codes "commands") found) (get_member (codes "workers") found) (get_member (codes "store") found) draft read)

  -- and so of its systems
  systems-read : (entries : List DraftEntry) → AllByRecursion EntryRead entries → AllByRecursion IsRead (systems_among entries)
  systems-read [] read = tt
  systems-read (barrier ∷ entries) read = systems-read entries read.1
  systems-read (system one ∷ entries) read = (read.0, systems-read entries read.1)

  -- a document is a draft that is read, and of which no refusal stands
  document-read : (indices : ℕ) (json : Json) (draft : Draft) → document_from book indices json ≡ Ok draft → (draft_from book json ≡ Some draft) × (refusal_of indices draft ≡ None)
  document-read indices json draft = by (has_float json) (draft_from book json) refl
    where
      unrefused : (found : Draft) (refusal : Option DocRefusal) → refusal_of indices found ≡ refusal → draft_from book json ≡ Some found → unless_refused found refusal ≡ Ok draft → (draft_from book json ≡ Some draft) × (refusal_of indices draft ≡ None)
      unrefused found None none is e = let same : found ≡ draft = cc in subst (λ one. (draft_from book json ≡ Some one) × (refusal_of indices one ≡ None)) same (is, none)
      unrefused found (Some refusal) none is e = cc

      by : (float : Bool) (found : Option Draft) → draft_from book json ≡ found → (if float then Err NotWhole else of_shape indices found) ≡ Ok draft → (draft_from book json ≡ Some draft) × (refusal_of indices draft ≡ None)
      by true found is e = cc
      by false None is e = cc
      by false (Some found) is e = unrefused found (refusal_of indices found) refl is e

-- where no refusal of several stands, a test fails, and none of the later ones stands
unless : (b : Bool) (refusal : DocRefusal) (later : Option DocRefusal) → (if b then Some refusal else later) ≡ None → (b ≡ false) × (later ≡ None)
unless true refusal later e = cc
unless false refusal later e = (refl, e)

-- the systems of a draft without refusals are known, have names of their own, and come after systems that have their names before them; and
-- there are few entries
pub names-unrefused : (indices : ℕ) (draft : Draft) → refusal_of indices draft ≡ None
    → (has_unknown_system draft ≡ false) × (has_taken_name (systems_of draft) ≡ false) × (has_unknown_dependency [] (systems_of draft) ≡ false) × (length draft.entries ≤ 4096)
names-unrefused indices draft none =
    let kinds = unless (has_unknown_kind draft) _ _ none in
    let ids = unless (has_double (listed_ids draft)) _ _ kinds.1 in
    let below = unless (has_id_past_next draft) _ _ ids.1 in
    let refs = unless (dangles draft) _ _ below.1 in
    let systems = unless (has_unknown_system draft) _ _ refs.1 in
    let names = unless (has_taken_name (systems_of draft)) _ _ systems.1 in
    let follow = unless (has_unknown_dependency [] (systems_of draft)) _ _ names.1 in
    let globals = unless (lacks_global draft) _ _ follow.1 in
    let reserved = unless (writes_reserved draft) _ _ globals.1 in
    let workers = unless (nat_lt 64 draft.workers) _ _ reserved.1 in
    let many = unless (nat_lt 4096 (length draft.entries)) _ _ workers.1 in
    (systems.0, names.0, follow.0, ltb-false 4096 (length draft.entries) many.0)

-- so the entries of a document are named, and its systems are what the rules say
module _ (book : Book) (indices : ℕ) (json : Json) (draft : Draft) (is : document_from book indices json ≡ Ok draft) where
  -- what was read of its systems
  reads : AllByRecursion (IsRead book) (systems_among draft.entries)
  reads = systems-read book draft.entries (draft-read book json draft (document-read book indices json draft is).0)

  -- its entries are named
  pub document-named : AreNamed draft.entries
  document-named =
      let names = names-unrefused indices draft (document-read book indices json draft is).1 in
      record {
        none_unknown = names.0;
        unnamed = All-from_recursion (λ one. one.local ≡ true → one.name ≡ []) (systems_among draft.entries)
            (each-weaker (IsRead book) (λ one. one.local ≡ true → one.name ≡ []) (λ one read. read.unnamed) (systems_among draft.entries) reads);
        own = names.1;
        earlier = names.2;
      }

  -- they are few
  pub document-few : length draft.entries ≤ 4096
  document-few = (names-unrefused indices draft (document-read book indices json draft is).1).3

  -- its systems are what the rules say
  pub document-described : All (IsSaid book) (systems_among draft.entries)
  document-described = All-from_recursion (IsSaid book) (systems_among draft.entries) (each-weaker (IsRead book) (IsSaid book) (λ one read. read.described) (systems_among draft.entries) reads)
