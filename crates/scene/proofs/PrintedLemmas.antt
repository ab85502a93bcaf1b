-- Lemmas on the JSON of a scene, and what is read of it.
use Rattle.std.proofs.Common.{◌≡◌, ◌<◌, ℕ, suc, Bool, true, false, ◌||◌, cond, eqb, List, [], ◌∷◌, ◌++◌, map, Option, Some, None, option_map, option_and_then, Ordering, Less, Equal, Greater, refl, sym, ◌∙◌, ap, arith}
use Rattle.std.specs.Prelude.{codes}
use Rattle.std.specs.List.{All, AllPairs, filter_map, cons_option, fold}
use Rattle.std.specs.Str.{bytes_eq}
use Rattle.std.specs.Ordering.{nat_cmp, match_ordering, ordering_reverse}
use Rattle.std.specs.Cmp.Lexicographic.{slice_cmp}
use Rattle.std.specs.BTreeSet.{insert_key}
use Rattle.std.proofs.Math.Path.{fun_ext}
use Rattle.std.proofs.lemmas.Bool.{false≢true}
use Rattle.std.proofs.lemmas.Bool.Decides.{Decides-eqb, nat_tests}
use Rattle.std.proofs.lemmas.Cmp.{nat_list_cmp_total}
use Rattle.std.proofs.lemmas.List.{append-nil, append_assoc}
use Rattle.std.proofs.lemmas.Option.{none-some}
use Rattle.std.proofs.lemmas.Slice.Eq.{bytes_eq-Decides}
use Rattle.serde_json.specs.Data.{Members, no_members, member, put}
use Rattle.serde_json.specs.View.{items_of}
use Rattle.scene_model.specs.Parts.{Json, Name, Part, is_among}
use Rattle.scene_model.specs.Rulebook.{Book}
use Rattle.scene_model.specs.Scenes.{PlainScene, lives}
use Rattle.scene_model.specs.Laws.{Ascend}
use Rattle.scene_document.specs.Drafts.{Draft, DraftEntity, items_list, members_list, each, part_under, global_under, entity_from, draft_from, DraftEntry, DraftCommand, entries_from, whole_32, commands_from}
use Rattle.scene_document.specs.Documents.{listed_ids}
use Rattle.scene_model.specs.Ids.{ascending}
use Rattle.scene_document.specs.Openings.{part_in, part_among, global_among, first_scene}
use Rattle.scene_document.specs.Texts.{members_with, entity_json, scene_json}
use Rattle.scene_document.proofs.CallerLemmas.{pairs_of, members-pairs, ordered-pairs}
use Rattle.scene.specs.Printed.{CanBeRead, document_json}

-- what a test finds in a longer list
among-more : (name first : Name) (names : List Name) → is_among name names ≡ true → is_among name (first ∷ names) ≡ true
among-more name first names known = here (bytes_eq name first)
  where
    here : (b : Bool) → (b || is_among name names) ≡ true
    here true = refl
    here false = known

-- a lesser number comes first
nat_cmp-less : (x y : ℕ) → x < y → nat_cmp x y ≡ Less
nat_cmp-less x y less = grind (arith, nat_tests, less)

module _ {V : Type 0} (written : V → Json) (get : Name → Option V) where
  -- what stands under names, as it is read back
  abbrev pub read_of : List Name → List (Option (Name × V))
  read_of names = filter_map (λ name. option_map (λ value. Some (name, value)) (get name)) names

  -- what is read of the pairs
  each-back : (read : Name × Json → Option (Option (Name × V))) (names : List Name) → ((name : Name) (value : V) → is_among name names ≡ true → get name ≡ Some value → read (name, written value) ≡ Some (Some (name, value))) → each read (pairs_of written get names) ≡ Some (read_of names)
  each-back read [] know = refl
  each-back read (first ∷ names) know = here (each-back read names (λ name value known is. know name value (among-more name first names known) is)) (get first) refl
    where
      here : each read (pairs_of written get names) ≡ Some (read_of names) → (o : Option V) → get first ≡ o → each read (cons_option (option_map (λ value. (first, written value)) o) (pairs_of written get names)) ≡ Some (cons_option (option_map (λ value. Some (first, value)) o) (read_of names))
      here later None is = later
      here later (Some value) is = ap (λ r. option_and_then (λ one. option_map (λ others. one ∷ others) (each read (pairs_of written get names))) r) (know first value (ap (λ b. b || is_among first names) ((bytes_eq-Decides first first).1 refl)) is) ∙ ap (option_map (λ others. Some (first, value) ∷ others)) later

  -- what is looked up in it
  look-back : (look : List (Option (Name × V)) → Name → Option V) → ((name : Name) → look [] name ≡ None) → ((pair : Name × V) (rest : List (Option (Name × V))) (name : Name) → look (Some pair ∷ rest) name ≡ cond (bytes_eq name pair.0) (Some pair.1) (look rest name)) → (names : List Name) (name : Name) → ((value : V) → get name ≡ Some value → is_among name names ≡ true) → look (read_of names) name ≡ get name
  look-back look nil one [] name known = nil name ∙ here (get name) refl
    where
      here : (o : Option V) → get name ≡ o → None ≡ o
      here None is = refl
      here (Some value) is = absurd (false≢true (known value is))
  look-back look nil one (first ∷ names) name known = here (λ later. look-back look nil one names name later) (bytes_eq name first) refl (get first) refl
    where
      rest-known : bytes_eq name first ≡ false → (value : V) → get name ≡ Some value → is_among name names ≡ true
      rest-known apart value is = sym (ap (λ b. b || is_among name names) apart) ∙ known value is

      here : ((((value : V) → get name ≡ Some value → is_among name names ≡ true)) → look (read_of names) name ≡ get name) → (b : Bool) → bytes_eq name first ≡ b → (o : Option V) → get first ≡ o → look (cons_option (option_map (λ value. Some (first, value)) o) (read_of names)) name ≡ get name
      here later true same None is = later (λ value some. absurd (none-some value (sym is ∙ (ap get (sym ((bytes_eq-Decides name first).0 same)) ∙ some))))
      here later true same (Some value) is = one (first, value) (read_of names) name ∙ (ap (λ b. cond b (Some value) (look (read_of names) name)) same ∙ (sym is ∙ ap get (sym ((bytes_eq-Decides name first).0 same))))
      here later false same None is = later (rest-known same)
      here later false same (Some value) is = one (first, value) (read_of names) name ∙ (ap (λ b. cond b (Some value) (look (read_of names) name)) same ∙ later (rest-known same))

module _ (book : Book) (scene : PlainScene) (kinds : Ascend book.part_names) (names : Ascend book.global_names) (sound : CanBeRead book scene) where
  -- an entity as it is read back
  abbrev pub entity_read : ℕ → DraftEntity
  entity_read id = record { id = id; parts = read_of (λ part. part.json) (scene.part id) book.part_names }

  -- a document as it is read back
  abbrev pub draft_read : Draft
  draft_read = record { next = scene.next; entities = map entity_read scene.ids; globals = read_of (λ value. value) scene.global book.global_names; entries = []; frames = 0; commands = []; workers = 1; store = codes "vec" }

  parts-back : (id : ℕ) → each (part_under book) (members_list (members_with (pairs_of (λ part. part.json) (scene.part id) book.part_names))) ≡ Some (read_of (λ part. part.json) (scene.part id) book.part_names)
  parts-back id = ap (each (part_under book)) (members-pairs (pairs_of (λ part. part.json) (scene.part id) book.part_names) (ordered-pairs (λ part. part.json) (scene.part id) book.part_names kinds)) ∙ each-back (λ part. part.json) (scene.part id) (part_under book) book.part_names (λ kind part known is. ap (λ b. cond b (option_map (λ some. Some (kind, some)) (book.read_part kind part.json)) (Some None)) known ∙ ap (option_map (λ some. Some (kind, some))) (sound.parts id kind part is))

  globals-back : each (global_under book) (members_list (members_with (pairs_of (λ value. value) scene.global book.global_names))) ≡ Some (read_of (λ value. value) scene.global book.global_names)
  globals-back = ap (each (global_under book)) (members-pairs (pairs_of (λ value. value) scene.global book.global_names) (ordered-pairs (λ value. value) scene.global book.global_names names)) ∙ each-back (λ value. value) scene.global (global_under book) book.global_names (λ name value known is. ap (λ b. cond b (option_map (λ some. Some (name, some)) (book.read_global name value)) (Some None)) known ∙ ap (option_map (λ some. Some (name, some))) (sound.globals name value is))

  entity-back : (id : ℕ) → entity_from book (entity_json book scene id) ≡ Some (entity_read id)
  entity-back id = ap (option_map (λ parts. record { id = id; parts = parts })) (parts-back id)

  entities-back : (ids : List ℕ) → each (entity_from book) (items_list (items_of (map (entity_json book scene) ids))) ≡ Some (map entity_read ids)
  entities-back [] = refl
  entities-back (id ∷ ids) = ap (λ r. option_and_then (λ one. option_map (λ others. one ∷ others) (each (entity_from book) (items_list (items_of (map (entity_json book scene) ids))))) r) (entity-back id) ∙ ap (option_map (λ others. entity_read id ∷ others)) (entities-back ids)

  -- the document that the JSON of the scene is
  pub draft-back : draft_from book (scene_json book scene) ≡ Some draft_read
  draft-back = ap (λ es. option_and_then (λ entities. option_and_then (λ globals. Some (record { next = scene.next; entities = entities; globals = globals; entries = []; frames = 0; commands = []; workers = 1; store = codes "vec" })) (each (global_under book) (members_list (members_with (pairs_of (λ value. value) scene.global book.global_names))))) es) (entities-back scene.ids)
      ∙ ap (λ gs. option_and_then (λ globals. Some (record { next = scene.next; entities = map entity_read scene.ids; globals = globals; entries = []; frames = 0; commands = []; workers = 1; store = codes "vec" })) gs) globals-back

  -- ids that ascend are in their order
  ids-back : (ids : List ℕ) → AllPairs (λ one other. one < other) ids → ascending (map (λ entity. entity.id) (map entity_read ids)) ≡ ids
  ids-back [] ascend = refl
  ids-back (id ∷ ids) ascend = ap (λ some. insert_key nat_cmp some id) (ids-back ids (λ i j d less within. ascend (suc i) (suc j) d (omega arith) (omega arith))) ∙ here ids (λ k d within. ascend 0 (suc k) d (omega arith) (omega arith))
    where
      here : (some : List ℕ) → All (λ other. id < other) some → insert_key nat_cmp some id ≡ id ∷ some
      here [] all = refl
      here (other ∷ some) all = ap (λ o. match_ordering o (id ∷ other ∷ some) (other ∷ some) (other ∷ insert_key nat_cmp some id)) (nat_cmp-less id other (all 0 other (omega arith)))

  part-back : (ids : List ℕ) (id : ℕ) (kind : Name) → ((value : Part) → scene.part id kind ≡ Some value → lives id ids ≡ true) → ((value : Part) → scene.part id kind ≡ Some value → is_among kind book.part_names ≡ true) → part_among (map entity_read ids) id kind ≡ scene.part id kind
  part-back [] id kind alive known = here (scene.part id kind) refl
    where
      here : (o : Option Part) → scene.part id kind ≡ o → None ≡ o
      here None is = refl
      here (Some value) is = absurd (false≢true (alive value is))
  part-back (first ∷ ids) id kind alive known = here (λ later. part-back ids id kind later known) (eqb first id) refl
    where
      here : ((((value : Part) → scene.part id kind ≡ Some value → lives id ids ≡ true)) → part_among (map entity_read ids) id kind ≡ scene.part id kind) → (b : Bool) → eqb first id ≡ b → cond b (part_in (read_of (λ part. part.json) (scene.part first) book.part_names) kind) (part_among (map entity_read ids) id kind) ≡ scene.part id kind
      here later true same =
          let one : first ≡ id = (Decides-eqb first id).0 same in
          ap (λ n. part_in (read_of (λ part. part.json) (scene.part n) book.part_names) kind) one ∙ look-back (λ part. part.json) (scene.part id) part_in (λ name. refl) (λ pair rest name. refl) book.part_names kind known
      here later false same = later (λ value is. sym (ap (λ b. b || lives id ids) same) ∙ alive value is)

  -- the scene of that document is the scene
  pub scene-back : first_scene draft_read ≡ scene
  scene-back =
      let ids : ascending (listed_ids draft_read) ≡ scene.ids = ids-back scene.ids sound.ids.ascend in
      let parts : part_among (map entity_read scene.ids) ≡ scene.part = fun_ext (λ id. fun_ext (λ kind. part-back scene.ids id kind (λ value is. sound.owned id kind value is) (λ value is. sound.stand id kind value (sound.owned id kind value is) is))) in
      let globals : global_among (read_of (λ value. value) scene.global book.global_names) ≡ scene.global = fun_ext (λ name. look-back (λ value. value) scene.global global_among (λ one. refl) (λ pair rest one. refl) book.global_names name (λ value is. sound.named name value is)) in
      λ i. record { next = scene.next; ids = ids i; part = parts i; global = globals i }

  -- a document as it is read back, with systems, frames and commands
  abbrev pub course_read : List DraftEntry → ℕ → List (List DraftCommand) → Draft
  course_read entries asked lists = record { next = scene.next; entities = map entity_read scene.ids; globals = read_of (λ value. value) scene.global book.global_names; entries = entries; frames = asked; commands = lists; workers = 1; store = codes "vec" }

  -- the document that the JSON with those is
  pub course-back : (systems frames commands : Json) (entries : List DraftEntry) (asked : ℕ) (lists : List (List DraftCommand)) → entries_from book systems ≡ Some entries → whole_32 frames ≡ Some asked → commands_from book commands ≡ Some lists → draft_from book (document_json book scene systems frames commands) ≡ Some (course_read entries asked lists)
  course-back systems frames commands entries asked lists one two three =
      ap (λ r. option_and_then (λ some. option_and_then (λ globals. option_and_then (λ e. option_and_then (λ n. option_and_then (λ l. Some (record { next = scene.next; entities = some; globals = globals; entries = e; frames = n; commands = l; workers = 1; store = codes "vec" })) (commands_from book commands)) (whole_32 frames)) (entries_from book systems)) (each (global_under book) (members_list (members_with (pairs_of (λ value. value) scene.global book.global_names))))) r) (entities-back scene.ids)
      ∙ (ap (λ r. option_and_then (λ globals. option_and_then (λ e. option_and_then (λ n. option_and_then (λ l. Some (record { next = scene.next; entities = map entity_read scene.ids; globals = globals; entries = e; frames = n; commands = l; workers = 1; store = codes "vec" })) (commands_from book commands)) (whole_32 frames)) (entries_from book systems)) r) globals-back
      ∙ (ap (λ r. option_and_then (λ e. option_and_then (λ n. option_and_then (λ l. Some (course_read e n l)) (commands_from book commands)) (whole_32 frames)) r) one
      ∙ (ap (λ r. option_and_then (λ n. option_and_then (λ l. Some (course_read entries n l)) (commands_from book commands)) r) two
      ∙ ap (λ r. option_and_then (λ l. Some (course_read entries asked l)) r) three)))
