-- Lemmas on the tests of a document.
use Rattle.std.proofs.Common.{◌≡◌, ℕ, ◌<◌, Bool, true, false, not, cond, ltb, ◌||◌, ◌&&◌, List, [], ◌∷◌, ◌++◌, map, length, get_or, codes, Option, Some, None, option_map, is_none, refl, ap, sym, ◌∙◌}
use denote.Ref.{Bor}
use Rattle.std.specs.List.{list_any, filter_map, All}
use Rattle.std.specs.Str.{bytes_eq}
use Rattle.std.specs.Option.{option_or}
use Rattle.std.proofs.lemmas.Slice.Eq.{bytes_eq-Decides}
use Rattle.std.proofs.lemmas.Bool.Decides.{same_from_decides}
use Rattle.std.proofs.lemmas.List.{get_or-map, length-map}
use Rattle.std.proofs.lemmas.List.Elements.{All-head, All-tail}
use Rattle.std.proofs.lemmas.List.Folds.{list_any-append}
use Rattle.scene_model.specs.declared.refusals.DocRefusal.{DocRefusal}
use Rattle.scene_model.specs.declared.refusals.DocRefusal.TheVariants.{UnknownKind, DoubleId, IdNotBelowNext, Dangling, UnknownSystem, NameTaken, UnknownDependency, MissingGlobal, ReservedWrite, TooManyWorkers, TooManySystems, UnknownStore, TooManyEntities}
use Rattle.scene_document.specs.declared.draft.EntityDraft.{EntityDraft}
use Rattle.scene_document.specs.declared.draft.EntryDraft.{EntryDraft}
use Rattle.scene_document.specs.declared.draft.EntryDraft.TheVariants as entry
use Rattle.scene_document.specs.declared.draft.DocumentDraft.{DocumentDraft}
use Rattle.scene_document.specs.declared.draft.MadeDraft.{MadeDraft}
use Rattle.scene_document.specs.declared.draft.CommandDraft.{CommandDraft}
use Rattle.scene_document.specs.declared.draft.CommandDraft.TheVariants as asked
use Rattle.std.specs.Global.{Vec}
use Rattle.std.proofs.lemmas.Bool.{lt-ltb}
use Rattle.scene_model.specs.declared.access.SystemAccess.{SystemAccess}
use Rattle.scene_model.specs.Parts.{Json, Name, Ref, living, gone, Part, is_among, name_at}
use Rattle.scene_model.specs.Rulebook.{Book, Access}
use Rattle.scene_model.specs.Scenes.{lives}
use Rattle.scene_model.specs.Commands.{ref_lives}
use Rattle.scene_model.specs.Laws.{refs_to}
use Rattle.scene_model.specs.declared.store.Store.TheVariants as store
use Rattle.scene_model.specs.Stores.{store_named}
use Rattle.scene_document.specs.Drafts.{Draft, system_of_entry, stores}
use Rattle.scene_document.specs.Documents.{listed_ids, systems_of, declares_that, names_unknown, has_unknown_kind, has_double, has_id_past_next, dangles, part_dangles, has_unknown_system, has_taken_name, has_unknown_dependency, is_named, lacks_global, writes_reserved, refusal_of}
use Rattle.scene_document.specs.DraftViews.{named, plain_entity, plain_draft, systems_in, plain_part, plain_asked, plain_list, facts_of, IsPlaced, IsDraft}
use Rattle.scene_model.specs.Ids.{ascending}
use Rattle.scene_model.specs.Declaring.{texts, access_of}
use Rattle.scene_document.specs.Refusals.{datum_dangles, entity_dangles, asks_unknown, stands_for, lacks_one, lacks_declared, is_unmade, made_that, entry_that, has_unknown, number_refusal, draft_refusal}
use Rattle.scene_document.proofs.PlaceLemmas.{ids-plain}
use Rattle.scene_model.proofs.CallerLemmas.{lives-ascending}

-- a name is none of the stores' where no store is meant by it
pub unknown-store : (name : Name) → not (is_among name stores) ≡ is_none (store_named name)
unknown-store name = by (bytes_eq name (codes "vec")) (bytes_eq name (codes "dense")) (bytes_eq name (codes "hash")) (bytes_eq name (codes "btree"))
  where
    by : (first second third fourth : Bool) → not (first || (second || (third || (fourth || false)))) ≡ is_none (cond first (Some store.Vec) (cond second (Some store.Dense) (cond third (Some store.Hash) (cond fourth (Some store.BTree) None))))
    by true second third fourth = refl
    by false true third fourth = refl
    by false false true fourth = refl
    by false false false true = refl
    by false false false false = refl

-- references to ids dangle where one of the ids is not listed
pub dangle-refs_to : (ids wanted : List ℕ) → list_any (λ ref. not (ref_lives ids ref)) (refs_to wanted) ≡ list_any (λ id. not (lives id ids)) wanted
dangle-refs_to ids [] = refl
dangle-refs_to ids (id ∷ wanted) = ap (λ b. not (lives id ids) || b) (dangle-refs_to ids wanted)

-- equal bytes are equal the other way round
same_bytes : (one other : Name) → bytes_eq one other ≡ bytes_eq other one
same_bytes one other = same_from_decides {P = one ≡ other} (bytes_eq one other) (bytes_eq other one) (bytes_eq-Decides one other) (λ t. sym ((bytes_eq-Decides other one).0 t), λ e. (bytes_eq-Decides other one).1 (sym e))

-- a text at a place has a name's bytes
pub stands_at : (names : List (Bor (List ℕ))) (place : ℕ) (name : Name) (d : Bor (List ℕ)) → d.now ≡ [] → place < length names
    → bytes_eq (get_or names place d).now name ≡ (ltb place (length (texts names)) && bytes_eq name (name_at (texts names) place))
stands_at names place name d e h =
    let inside : ltb place (length (texts names)) ≡ true = ap (λ count. ltb place count) (length-map names (λ text. text.now)) ∙ lt-ltb place (length names) h in
    let at : name_at (texts names) place ≡ (get_or names place d).now = get_or-map (λ text. text.now) names place d [] h in
    same_bytes (get_or names place d).now name ∙ sym (ap (λ b. b && bytes_eq name (name_at (texts names) place)) inside ∙ ap (bytes_eq name) at)

-- texts that are wanted
pub lacks-texts : {G : Type 0} (names : List Name) (globals : List (Option (ℕ × G))) (wanted : List (Bor (List ℕ))) → list_any (λ name. not (list_any (stands_for names name.now) globals)) wanted ≡ lacks_one names globals (texts wanted)
lacks-texts names globals [] = refl
lacks-texts names globals (name ∷ wanted) = ap (λ b. not (list_any (stands_for names name.now) globals) || b) (lacks-texts names globals wanted)

-- one of two tests, the second where the first fails
pub or_first : (one other : Bool) → one ≡ true → one ≡ (one || other)
or_first true other e = refl
or_first false other e = absurd cc

pub or_second : (one other : Bool) → one ≡ false → other ≡ (one || other)
or_second true other e = absurd cc
or_second false other e = refl

-- what is known of each stays known in plain terms
pub is_none-named : {D X : Type 0} (meaning : D → X) (names : List Name) (all : List (Option (ℕ × D))) → list_any is_none (map (named meaning names) all) ≡ list_any is_none all
is_none-named meaning names [] = refl
is_none-named meaning names (None ∷ all) = refl
is_none-named meaning names (Some one ∷ all) = is_none-named meaning names all

pub kinds-plain : {D : Type 0} (part_of : D → Part) (names : List Name) (entities : List (EntityDraft D)) → list_any (λ entity. list_any is_none entity.parts) (map (plain_entity part_of names) entities) ≡ list_any (λ entity. list_any is_none entity.parts.items) entities
kinds-plain part_of names [] = refl
kinds-plain part_of names (entity ∷ entities) = rw (is_none-named part_of names entity.parts.items) (ap (λ b. list_any is_none entity.parts.items || b) (kinds-plain part_of names entities))

pub next-plain : {D : Type 0} (part_of : D → Part) (names : List Name) (next : ℕ) (entities : List (EntityDraft D)) → list_any (λ entity. not (ltb entity.id next)) (map (plain_entity part_of names) entities) ≡ list_any (λ entity. not (ltb entity.id next)) entities
next-plain part_of names next [] = refl
next-plain part_of names next (entity ∷ entities) = ap (λ b. not (ltb entity.id next) || b) (next-plain part_of names next entities)

-- references dangle in plain terms as they do among ids in order
ref-ascending : (ids : List ℕ) (ref : Ref) → ref_lives (ascending ids) ref ≡ ref_lives ids ref
ref-ascending ids (living id) = lives-ascending id ids
ref-ascending ids gone = refl

refs-ascending : (ids : List ℕ) (refs : List Ref) → list_any (λ ref. not (ref_lives (ascending ids) ref)) refs ≡ list_any (λ ref. not (ref_lives ids ref)) refs
refs-ascending ids [] = refl
refs-ascending ids (ref ∷ refs) = rw (ref-ascending ids ref) (ap (λ b. not (ref_lives ids ref) || b) (refs-ascending ids refs))

parts-dangle : {D : Type 0} (part_of : D → Part) (names : List Name) (ids : List ℕ) (parts : List (Option (ℕ × D))) → list_any (part_dangles ids) (map (named part_of names) parts) ≡ list_any (datum_dangles part_of (ascending ids)) parts
parts-dangle part_of names ids [] = refl
parts-dangle part_of names ids (None ∷ parts) = parts-dangle part_of names ids parts
parts-dangle part_of names ids (Some part ∷ parts) = rw (refs-ascending ids (part_of part.1).refs) (ap (λ b. list_any (λ ref. not (ref_lives ids ref)) (part_of part.1).refs || b) (parts-dangle part_of names ids parts))

pub dangles-plain : {D : Type 0} (part_of : D → Part) (names : List Name) (ids : List ℕ) (entities : List (EntityDraft D)) → list_any (λ entity. list_any (part_dangles ids) entity.parts) (map (plain_entity part_of names) entities) ≡ list_any (entity_dangles part_of (ascending ids)) entities
dangles-plain part_of names ids [] = refl
dangles-plain part_of names ids (entity ∷ entities) = rw (parts-dangle part_of names ids entity.parts.items) (ap (λ b. list_any (datum_dangles part_of (ascending ids)) entity.parts.items || b) (dangles-plain part_of names ids entities))

-- a global is given where one stands for its name
gives-plain : {G : Type 0} (global_of : G → Json) (names : List Name) (name : Name) (globals : List (Option (ℕ × G))) → All (IsPlaced (length names)) globals → list_any (is_named name) (map (named global_of names) globals) ≡ list_any (stands_for names name) globals
gives-plain global_of names name [] placed = refl
gives-plain global_of names name (None ∷ globals) placed = gives-plain global_of names name globals (All-tail (IsPlaced (length names)) None globals placed)
gives-plain global_of names name (Some pair ∷ globals) placed =
    rw (lt-ltb pair.0 (length names) (All-head (IsPlaced (length names)) (Some pair) globals placed))
    (ap (λ b. bytes_eq name (name_at names pair.0) || b) (gives-plain global_of names name globals (All-tail (IsPlaced (length names)) (Some pair) globals placed)))

-- and one that is wanted lacks where none does
lacks-plain : {G : Type 0} (global_of : G → Json) (names : List Name) (globals : List (Option (ℕ × G))) → All (IsPlaced (length names)) globals → (wanted : List Name)
    → list_any (λ name. not (list_any (is_named name) (map (named global_of names) globals))) wanted ≡ lacks_one names globals wanted
lacks-plain global_of names globals placed [] = refl
lacks-plain global_of names globals placed (name ∷ wanted) =
    rw (gives-plain global_of names name globals placed)
    (ap (λ b. not (list_any (stands_for names name) globals) || b) (lacks-plain global_of names globals placed wanted))

-- ---- commands

parts-unknown : {D : Type 0} (part_of : D → Part) (parts : List (Option (Bor Name × D))) → list_any is_none (map (plain_part part_of) parts) ≡ list_any is_none parts
parts-unknown part_of [] = refl
parts-unknown part_of (None ∷ parts) = refl
parts-unknown part_of (Some part ∷ parts) = parts-unknown part_of parts

asks-plain : {D : Type 0} (part_of : D → Part) (command : CommandDraft D) → names_unknown (plain_asked part_of command) ≡ asks_unknown command
asks-plain part_of (asked.Spawn parts) = parts-unknown part_of parts.items
asks-plain part_of (asked.Kill id) = refl
asks-plain part_of (asked.Put id None) = refl
asks-plain part_of (asked.Put id (Some part)) = refl
asks-plain part_of (asked.Take id None) = refl
asks-plain part_of (asked.Take id (Some kind)) = refl

list-plain : {D : Type 0} (part_of : D → Part) (list : List (CommandDraft D)) → list_any names_unknown (map (plain_asked part_of) list) ≡ list_any asks_unknown list
list-plain part_of [] = refl
list-plain part_of (command ∷ list) = ap (λ b. b || list_any names_unknown (map (plain_asked part_of) list)) (asks-plain part_of command) ∙ ap (λ b. asks_unknown command || b) (list-plain part_of list)

lists-plain : {D : Type 0} (part_of : D → Part) (lists : List (Vec (CommandDraft D))) → list_any (λ list. list_any names_unknown list) (map (plain_list part_of) lists) ≡ list_any (λ list. list_any asks_unknown list.items) lists
lists-plain part_of [] = refl
lists-plain part_of (list ∷ lists) = ap (λ b. b || list_any (λ list. list_any names_unknown list) (map (plain_list part_of) lists)) (list-plain part_of list.items) ∙ ap (λ b. list_any asks_unknown list.items || b) (lists-plain part_of lists)

-- ---- systems

unmade-plain : {S : Type 0} (entries : List (EntryDraft S)) → list_any (λ one. is_none one.facts) (systems_in entries) ≡ list_any is_unmade entries
unmade-plain [] = refl
unmade-plain (entry.Barrier ∷ entries) = unmade-plain entries
unmade-plain {S} (entry.System draft ∷ entries) = ap (λ b. b || list_any (λ one. is_none one.facts) (systems_in entries)) (is_none-facts draft.made) ∙ ap (λ b. is_none draft.made || b) (unmade-plain entries)
  where
    is_none-facts : (made : Option (MadeDraft S)) → is_none (option_map facts_of made) ≡ is_none made
    is_none-facts None = refl
    is_none-facts (Some made) = refl

that-plain : {S : Type 0} (test : Access → Bool) (entries : List (EntryDraft S)) → list_any (λ one. declares_that test one.facts) (systems_in entries) ≡ list_any (entry_that (λ accessor. test (access_of accessor))) entries
that-plain test [] = refl
that-plain test (entry.Barrier ∷ entries) = that-plain test entries
that-plain {S} test (entry.System draft ∷ entries) = ap (λ b. b || list_any (λ one. declares_that test one.facts) (systems_in entries)) (that-made draft.made) ∙ ap (λ b. made_that (λ accessor. test (access_of accessor)) draft.made || b) (that-plain test entries)
  where
    that-made : (made : Option (MadeDraft S)) → declares_that test (option_map facts_of made) ≡ made_that (λ accessor. test (access_of accessor)) made
    that-made None = refl
    that-made (Some made) = refl

that-same : {S : Type 0} (test other : SystemAccess → Bool) → ((accessor : SystemAccess) → test accessor ≡ other accessor) → (entries : List (EntryDraft S)) → list_any (entry_that test) entries ≡ list_any (entry_that other) entries
that-same test other h [] = refl
that-same test other h (entry.Barrier ∷ entries) = that-same test other h entries
that-same {S} test other h (entry.System draft ∷ entries) = ap (λ b. b || list_any (entry_that test) entries) (same-made draft.made) ∙ ap (λ b. made_that other draft.made || b) (that-same test other h entries)
  where
    same-made : (made : Option (MadeDraft S)) → made_that test made ≡ made_that other made
    same-made None = refl
    same-made (Some made) = h made.accessor

-- ---- the least refusal

-- the first of two refusals
pub first_refusal : (one other : Option DocRefusal) (found : DocRefusal) → one ≡ Some found → Some found ≡ option_or one other
first_refusal None other found e = absurd cc
first_refusal (Some one) other found e = sym e

pub later_refusal-none : (one other : Option DocRefusal) → one ≡ None → other ≡ option_or one other
later_refusal-none None other e = refl
later_refusal-none (Some one) other e = absurd cc

-- the tests in three parts, and in one
in_parts : (kinds double next dangling unknown taken after lacks reserved : Bool) (rest : Option DocRefusal)
    → cond kinds (Some UnknownKind) (cond double (Some DoubleId) (cond next (Some IdNotBelowNext) (cond dangling (Some Dangling)
    (cond unknown (Some UnknownSystem) (cond taken (Some NameTaken) (cond after (Some UnknownDependency) (cond lacks (Some MissingGlobal) (cond reserved (Some ReservedWrite) rest))))))))
    ≡ option_or (cond kinds (Some UnknownKind) (cond double (Some DoubleId) (cond next (Some IdNotBelowNext) (cond dangling (Some Dangling) None))))
    (option_or (cond unknown (Some UnknownSystem) (cond taken (Some NameTaken) (cond after (Some UnknownDependency) (cond lacks (Some MissingGlobal) (cond reserved (Some ReservedWrite) None))))) rest)
in_parts true double next dangling unknown taken after lacks reserved rest = refl
in_parts false true next dangling unknown taken after lacks reserved rest = refl
in_parts false false true dangling unknown taken after lacks reserved rest = refl
in_parts false false false true unknown taken after lacks reserved rest = refl
in_parts false false false false true taken after lacks reserved rest = refl
in_parts false false false false false true after lacks reserved rest = refl
in_parts false false false false false false true lacks reserved rest = refl
in_parts false false false false false false false true reserved rest = refl
in_parts false false false false false false false false true rest = refl
in_parts false false false false false false false false false rest = refl

-- equal tests give equal refusals
alike_tests : (kinds double next dangling unknown taken after lacks reserved : Bool) (kinds' double' next' dangling' unknown' taken' after' lacks' reserved' : Bool)
    → kinds ≡ kinds' → double ≡ double' → next ≡ next' → dangling ≡ dangling' → unknown ≡ unknown' → taken ≡ taken' → after ≡ after' → lacks ≡ lacks' → reserved ≡ reserved' → (rest rest' : Option DocRefusal) → rest ≡ rest'
    → cond kinds (Some UnknownKind) (cond double (Some DoubleId) (cond next (Some IdNotBelowNext) (cond dangling (Some Dangling)
    (cond unknown (Some UnknownSystem) (cond taken (Some NameTaken) (cond after (Some UnknownDependency) (cond lacks (Some MissingGlobal) (cond reserved (Some ReservedWrite) rest))))))))
    ≡ cond kinds' (Some UnknownKind) (cond double' (Some DoubleId) (cond next' (Some IdNotBelowNext) (cond dangling' (Some Dangling)
    (cond unknown' (Some UnknownSystem) (cond taken' (Some NameTaken) (cond after' (Some UnknownDependency) (cond lacks' (Some MissingGlobal) (cond reserved' (Some ReservedWrite) rest'))))))))
alike_tests k d n g u t a l r k' d' n' g' u' t' a' l' r' p1 p2 p3 p4 p5 p6 p7 p8 p9 rest rest' p10 = rw (p1, p2, p3, p4, p5, p6, p7, p8, p9, p10) refl

module _ {D G S : Type 0} (part_of : D → Part) (global_of : G → Json) (kind_of : S → Name) (config_of : S → Json) (book : Book) where
  lacking-plain : (globals : List (Option (ℕ × G))) → All (IsPlaced (length book.global_names)) globals → (access : Access)
      → list_any (λ name. not (list_any (is_named name) (map (named global_of book.global_names) globals))) (access.read_globals ++ access.written_globals) ≡ lacks_declared book.global_names globals access
  lacking-plain globals placed access =
      lacks-plain global_of book.global_names globals placed (access.read_globals ++ access.written_globals)
      ∙ list_any-append (λ name. not (list_any (stands_for book.global_names name) globals)) access.read_globals access.written_globals

  sizes : (workers workers' many many' count count' indices : ℕ) (unknown unknown' : Bool) → workers ≡ workers' → many ≡ many' → unknown ≡ unknown' → count ≡ count'
      → cond (ltb 64 workers) (Some TooManyWorkers) (cond (ltb 4096 many) (Some TooManySystems) (cond unknown (Some UnknownStore) (cond (ltb indices count) (Some TooManyEntities) None)))
      ≡ cond (ltb 64 workers') (Some TooManyWorkers) (cond (ltb 4096 many') (Some TooManySystems) (cond unknown' (Some UnknownStore) (cond (ltb indices count') (Some TooManyEntities) None)))
  sizes workers workers' many many' count count' indices unknown unknown' a b d e = rw (a, b, d, e) refl

  pub refusal-plain : (indices : ℕ) (plain : Draft) (draft : DocumentDraft D G S) → IsDraft part_of global_of kind_of config_of book plain draft → refusal_of indices plain ≡ draft_refusal part_of book.global_names indices draft
  refusal-plain indices plain draft is =
      let names = book.part_names in
      let entities = draft.entities.items in
      let entries = draft.entries.items in
      let globals = draft.globals.items in
      let listed : listed_ids plain ≡ map (λ entity. entity.id) entities = ap (λ all. map (λ entity. entity.id) all) is.entities ∙ ids-plain part_of names entities in
      let kinds : has_unknown_kind plain ≡ has_unknown draft =
      ap (λ all. list_any (λ entity. list_any is_none entity.parts) all || list_any is_none plain.globals || list_any (λ list. list_any names_unknown list) plain.commands) is.entities
      ∙ ap (λ b. b || list_any is_none plain.globals || list_any (λ list. list_any names_unknown list) plain.commands) (kinds-plain part_of names entities)
      ∙ ap (λ b. list_any (λ entity. list_any is_none entity.parts.items) entities || b || list_any (λ list. list_any names_unknown list) plain.commands) (ap (list_any is_none) is.globals ∙ is_none-named global_of book.global_names globals)
      ∙ ap (λ b. list_any (λ entity. list_any is_none entity.parts.items) entities || list_any is_none globals || b) (ap (list_any (λ list. list_any names_unknown list)) is.commands ∙ lists-plain part_of draft.commands.items) in
      let next : has_id_past_next plain ≡ list_any (λ entity. not (ltb entity.id draft.next)) entities =
      ap (λ next. list_any (λ entity. not (ltb entity.id next)) plain.entities) is.next
      ∙ ap (λ all. list_any (λ entity. not (ltb entity.id draft.next)) all) is.entities ∙ next-plain part_of names draft.next entities in
      let dangling : dangles plain ≡ list_any (entity_dangles part_of (ascending (map (λ entity. entity.id) entities))) entities =
      ap (λ ids. list_any (λ entity. list_any (part_dangles ids) entity.parts) plain.entities) listed
      ∙ ap (λ all. list_any (λ entity. list_any (part_dangles (map (λ other. other.id) entities)) entity.parts) all) is.entities
      ∙ dangles-plain part_of names (map (λ entity. entity.id) entities) entities in
      let systems : systems_of plain ≡ systems_in entries = ap (filter_map system_of_entry) is.entries in
      let unknown : has_unknown_system plain ≡ list_any is_unmade entries = ap (list_any (λ one. is_none one.facts)) systems ∙ unmade-plain entries in
      let lacking : lacks_global plain ≡ list_any (entry_that (λ accessor. lacks_declared book.global_names globals (access_of accessor))) entries =
      ap (λ all. list_any (λ one. declares_that (λ access. list_any (λ name. not (list_any (is_named name) plain.globals)) (access.read_globals ++ access.written_globals)) one.facts) all) systems
      ∙ ap (λ all. list_any (λ one. declares_that (λ access. list_any (λ name. not (list_any (is_named name) all)) (access.read_globals ++ access.written_globals)) one.facts) (systems_in entries)) is.globals
      ∙ that-plain (λ access. list_any (λ name. not (list_any (is_named name) (map (named global_of book.global_names) globals))) (access.read_globals ++ access.written_globals)) entries
      ∙ that-same _ _ (λ accessor. lacking-plain globals is.globals_placed (access_of accessor)) entries in
      let reserved : writes_reserved plain ≡ list_any (entry_that (λ accessor. accessor.writes_reserved)) entries =
      ap (list_any (λ one. declares_that (λ access. access.reserved) one.facts)) systems ∙ that-plain (λ access. access.reserved) entries in
      alike_tests _ _ _ _ _ _ _ _ _ _ _ _ _ _ _ _ _ _ kinds (ap has_double listed) next dangling unknown (ap has_taken_name systems) (ap (has_unknown_dependency []) systems) lacking reserved _ _
      (sizes plain.workers draft.workers (length plain.entries) (length entries) (length plain.entities) (length entities) indices (not (is_among plain.store stores)) (is_none draft.store)
      is.workers (ap length is.entries ∙ length-map entries plain_draft) (unknown-store plain.store ∙ ap is_none is.store) (ap length is.entities ∙ length-map entities (plain_entity part_of names)))
      ∙ in_parts (has_unknown draft) (has_double (map (λ entity. entity.id) entities)) (list_any (λ entity. not (ltb entity.id draft.next)) entities)
      (list_any (entity_dangles part_of (ascending (map (λ entity. entity.id) entities))) entities) (list_any is_unmade entries) (has_taken_name (systems_in entries)) (has_unknown_dependency [] (systems_in entries))
      (list_any (entry_that (λ accessor. lacks_declared book.global_names globals (access_of accessor))) entries) (list_any (entry_that (λ accessor. accessor.writes_reserved)) entries) (number_refusal indices draft)
