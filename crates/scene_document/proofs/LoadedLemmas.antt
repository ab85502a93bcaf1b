-- Lemmas on what is loaded of a draft that no refusal stands against.
use Rattle.scene_model.specs.declared.refusals.DocRefusal.TheVariants.{NotWhole}
use Rattle.scene_model.specs.declared.refusals.DocRefusal.{DocRefusal}
use Rattle.serde_json.specs.Written.{has_float}
use Rattle.std.proofs.Common.{◌≡◌, ℕ, zero, suc, ◌<◌, ◌≤◌, Bool, true, false, not, cond, eqb, ltb, List, [], ◌∷◌, map, length, Option, Some, None, is_none, AllPairs, option_map, slice_get, vec_len, refl, ap, sym, subst, ◌∙◌, arith, Result, Ok, Err}
use Rattle.std.specs.List.{All, list_any, filter_map, cons_option}
use Rattle.std.specs.Global.{Vec}
use Rattle.std.specs.Ordering.{nat_cmp}
use Rattle.std.specs.Str.{bytes_eq}
use Rattle.std.proofs.lemmas.Bool.{not-false, or_parts, ltb-true}
use Rattle.std.proofs.lemmas.Bool.Decides.{nat_tests}
use Rattle.std.proofs.lemmas.Option.{slice_get-map}
use Rattle.std.proofs.lemmas.List.{length-map}
use Rattle.std.proofs.lemmas.List.Kept.{AllPairs-cons}
use Rattle.std.proofs.lemmas.Map.Views.{All-insert_key}
use Rattle.scene_model.proofs.CallerLemmas.{lives-ascending}
use Rattle.std.proofs.lemmas.Slice.Eq.{bytes_eq-Decides}
use Rattle.std.proofs.lemmas.List.Elements.{All-head, All-tail, All-cons, All-nil, All-map, All-weaker}
use Rattle.scene_document.specs.declared.draft.EntityDraft.{EntityDraft}
use Rattle.scene_document.specs.declared.draft.CommandDraft.{CommandDraft}
use Rattle.scene_document.specs.declared.draft.DocumentDraft.{DocumentDraft}
use Rattle.scene_model.specs.declared.command.Command.{Command}
use Rattle.scene_model.specs.Parts.{Json, Name, Ref, living, gone, Part, is_among, name_at}
use Rattle.scene_model.specs.Rulebook.{Book}
use Rattle.scene_model.specs.Stores.{store_named}
use Rattle.scene_model.specs.Rulebook as plain
use Rattle.scene_model.specs.Queues.{plain_commands}
use Rattle.scene_model.specs.Scenes.{lives, RefLives, RefsLive, PartsAdmitted, GlobalsReadable}
use Rattle.scene_model.specs.Commands.{ref_lives}
use Rattle.scene_model.specs.Lawful.{IsKnownPart, IsLawful}
use Rattle.scene_document.specs.Drafts.{Draft, DraftPart, DraftEntity, DraftCommand, spawn, kill, put, take, draft_from, stores}
use Rattle.scene_document.specs.Documents.{listed_ids, systems_of, has_unknown_kind, has_double, has_id_past_next, dangles, part_dangles, has_unknown_system, has_taken_name, has_unknown_dependency, lacks_global, writes_reserved, refusal_of, document_from, of_shape, unless_refused}
use Rattle.scene_document.specs.DraftViews.{named, plain_entity, plain_draft, plain_asked, plain_list, IsAdmitted, IsReadable, IsDraft, IsKnownDraft, Differ, AreApart, IsLawfulDraft}
use Rattle.scene_model.specs.Ids.{ascending}
use Rattle.scene_document.specs.Openings.{part_in, part_among, global_among, command_of, commands_in}
use Rattle.scene_document.specs.Loading.{commands_found}
use Rattle.scene_document.proofs.RefusalLemmas.{unknown-store}

-- a fact holds of what a document gives, where it is known
abbrev Holds : (Name → Part → Type 0) → DraftPart → Type 0
Holds P one = (name : Name) (part : Part) → one ≡ Some (name, part) → P name part

-- a part that is found has what each of the parts has
has_step : (P : Name → Part → Type 0) (b : Bool) (kind : Name) (part : Name × Part) (later : Option Part) (held : Part) → bytes_eq kind part.0 ≡ b → P part.0 part.1 → (later ≡ Some held → P kind held) → cond b (Some part.1) later ≡ Some held → P kind held
has_step P true kind part later held t h rest e =
    let same : part.1 ≡ held = cc in
    subst (λ name. P name held) (sym ((bytes_eq-Decides kind part.0).0 t)) (subst (λ one. P part.0 one) same h)
has_step P false kind part later held t h rest e = rest e

pub part_in-has : (P : Name → Part → Type 0) (parts : List DraftPart) (kind : Name) (held : Part) → All (Holds P) parts → part_in parts kind ≡ Some held → P kind held
part_in-has P [] kind held h e = absurd cc
part_in-has P (None ∷ parts) kind held h e = part_in-has P parts kind held (All-tail (Holds P) None parts h) e
part_in-has P (Some part ∷ parts) kind held h e =
    has_step P (bytes_eq kind part.0) kind part (part_in parts kind) held refl (All-head (Holds P) (Some part) parts h part.0 part.1 refl)
    (part_in-has P parts kind held (All-tail (Holds P) (Some part) parts h)) e

-- and so has a part of an id
among_step : (P : Type 0) (b : Bool) (here later : Option Part) (held : Part) → (here ≡ Some held → P) → (later ≡ Some held → P) → cond b here later ≡ Some held → P
among_step P true here later held h rest e = h e
among_step P false here later held h rest e = rest e

pub part_among-has : (P : Name → Part → Type 0) (entities : List DraftEntity) (id : ℕ) (kind : Name) (held : Part) → All (λ entity. All (Holds P) entity.parts) entities → part_among entities id kind ≡ Some held → P kind held
part_among-has P [] id kind held h e = absurd cc
part_among-has P (entity ∷ entities) id kind held h e =
    among_step (P kind held) (eqb entity.id id) (part_in entity.parts kind) (part_among entities id kind) held
    (part_in-has P entity.parts kind held (All-head (λ other. All (Holds P) other.parts) entity entities h))
    (part_among-has P entities id kind held (All-tail (λ other. All (Holds P) other.parts) entity entities h)) e

-- what a list of tests that finds nothing says of each
none_passes : {X : Type 0} (test : X → Bool) (xs : List X) → list_any test xs ≡ false → All (λ x. test x ≡ false) xs
none_passes test [] e = All-nil (λ x. test x ≡ false)
none_passes test (x ∷ xs) e = let apart = or_parts (test x) (list_any test xs) e in All-cons (λ y. test y ≡ false) x xs (apart.0) (none_passes test xs (apart.1))

-- a test that is passed over
passed_over : {X : Type 0} (b : Bool) (refusal : X) (rest : Option X) → cond b (Some refusal) rest ≡ None → (b ≡ false) × (rest ≡ None)
passed_over true refusal rest e = absurd cc
passed_over false refusal rest e = (refl, e)

-- the tests that fail where no refusal stands
pub no_double : (indices : ℕ) (draft : Draft) → refusal_of indices draft ≡ None → has_double (listed_ids draft) ≡ false
no_double indices draft e = (passed_over (has_double (listed_ids draft)) _ _ ((passed_over (has_unknown_kind draft) _ _ e).1)).0

pub no_dangling : (indices : ℕ) (draft : Draft) → refusal_of indices draft ≡ None → dangles draft ≡ false
no_dangling indices draft e =
    let kinds = (passed_over (has_unknown_kind draft) _ _ e).1 in
    let ids = (passed_over (has_double (listed_ids draft)) _ _ kinds).1 in
    let next = (passed_over (has_id_past_next draft) _ _ ids).1 in
    (passed_over (dangles draft) _ _ next).0

pub no_past : (indices : ℕ) (draft : Draft) → refusal_of indices draft ≡ None → has_id_past_next draft ≡ false
no_past indices draft e =
    let kinds = (passed_over (has_unknown_kind draft) _ _ e).1 in
    let ids = (passed_over (has_double (listed_ids draft)) _ _ kinds).1 in
    (passed_over (has_id_past_next draft) _ _ ids).0

-- what a part that does not dangle refers to lives
refs_live : (ids : List ℕ) (refs : List Ref) → list_any (λ ref. not (ref_lives ids ref)) refs ≡ false → All (RefLives (ascending ids)) refs
refs_live ids [] e = All-nil (RefLives (ascending ids))
refs_live ids (living id ∷ refs) e =
    let apart = or_parts (not (lives id ids)) (list_any (λ ref. not (ref_lives ids ref)) refs) e in
    All-cons (RefLives (ascending ids)) (living id) refs (lives-ascending id ids ∙ not-false (lives id ids) (apart.0)) (refs_live ids refs (apart.1))
refs_live ids (gone ∷ refs) e = absurd cc

part_lives : (ids : List ℕ) (one : DraftPart) → part_dangles ids one ≡ false → Holds (λ name part. All (RefLives (ascending ids)) part.refs) one
part_lives ids None e name part f = absurd cc
part_lives ids (Some pair) e name part f =
    let same : pair ≡ (name, part) = cc in
    subst (λ one. All (RefLives (ascending ids)) one.1.refs) same (refs_live ids pair.1.refs e)

pub living-loaded : (draft : Draft) → dangles draft ≡ false → RefsLive (ascending (listed_ids draft)) (part_among draft.entities)
living-loaded draft e id kind held lived f =
    part_among-has (λ name part. All (RefLives (ascending (listed_ids draft))) part.refs) draft.entities id kind held
    (All-weaker (λ entity. list_any (part_dangles (listed_ids draft)) entity.parts ≡ false) (λ entity. All (Holds (λ name part. All (RefLives (ascending (listed_ids draft))) part.refs)) entity.parts)
    (λ entity none. All-weaker (λ one. part_dangles (listed_ids draft) one ≡ false) (Holds (λ name part. All (RefLives (ascending (listed_ids draft))) part.refs)) (part_lives (listed_ids draft)) entity.parts (none_passes (part_dangles (listed_ids draft)) entity.parts none))
    draft.entities (none_passes (λ entity. list_any (part_dangles (listed_ids draft)) entity.parts) draft.entities e))
    f

-- what is known of a draft's parts is of their kinds
part_admitted : {D : Type 0} (part_of : D → Part) (book : Book) (one : Option (ℕ × D)) → IsAdmitted part_of book one → Holds (λ name part. book.admits name part ≡ true) (named part_of book.part_names one)
part_admitted part_of book None h name part f = absurd cc
part_admitted part_of book (Some pair) h name part f =
    let same : (name_at book.part_names pair.0, part_of pair.1) ≡ (name, part) = cc in
    subst (λ (one : Name × Part). book.admits one.0 one.1 ≡ true) same h

pub admitted-loaded : {D : Type 0} (part_of : D → Part) (book : Book) (entities : List (EntityDraft D)) → All (λ entity. All (IsAdmitted part_of book) entity.parts.items) entities → PartsAdmitted book (part_among (map (plain_entity part_of book.part_names) entities))
admitted-loaded part_of book entities h id kind held f =
    part_among-has (λ name part. book.admits name part ≡ true) (map (plain_entity part_of book.part_names) entities) id kind held
    (All-map (λ entity. All (Holds (λ name part. book.admits name part ≡ true)) entity.parts) (plain_entity part_of book.part_names) entities
    (All-weaker (λ entity. All (IsAdmitted part_of book) entity.parts.items) (λ entity. All (Holds (λ name part. book.admits name part ≡ true)) (map (named part_of book.part_names) entity.parts.items))
    (λ entity each. All-map (Holds (λ name part. book.admits name part ≡ true)) (named part_of book.part_names) entity.parts.items
    (All-weaker (IsAdmitted part_of book) (λ one. Holds (λ name part. book.admits name part ≡ true) (named part_of book.part_names one)) (part_admitted part_of book) entity.parts.items each))
    entities h))
    f

-- the globals of a draft are readable
readable_step : (book : Book) (name : Name) (b : Bool) (global : Name × Json) (later : Option Json) (value : Json) → bytes_eq name global.0 ≡ b → book.read_global global.0 global.1 ≡ Some global.1 → (later ≡ Some value → book.read_global name value ≡ Some value) → cond b (Some global.1) later ≡ Some value → book.read_global name value ≡ Some value
readable_step book name true global later value same is rest e =
    let equal : name ≡ global.0 = (bytes_eq-Decides name global.0).0 same in
    let held : global.1 ≡ value = cc in
    subst (λ other. book.read_global name other ≡ Some other) held (subst (λ other. book.read_global other global.1 ≡ Some global.1) (sym equal) is)
readable_step book name false global later value same is rest e = rest e

pub readable-loaded : (book : Book) (globals : List (Option (Name × Json))) → All (IsReadable book) globals → GlobalsReadable book (global_among globals)
readable-loaded book [] h name value e = absurd cc
readable-loaded book (None ∷ globals) h name value e = readable-loaded book globals (All-tail (IsReadable book) None globals h) name value e
readable-loaded book (Some global ∷ globals) h name value e =
    readable_step book name (bytes_eq name global.0) global (global_among globals name) value refl (All-head (IsReadable book) (Some global) globals h) (readable-loaded book globals (All-tail (IsReadable book) (Some global) globals h) name value) e

-- ---- commands

-- the commands of a list, if there is one
abbrev listed : {X : Type 0} → Option (List X) → List X
listed None = []
listed (Some list) = list

found-listed : {D : Type 0} (part_of : D → Part) (o : Option (Vec (Command D))) → commands_found part_of o ≡ listed (option_map (λ list. plain_commands part_of list.items) o)
found-listed part_of None = refl
found-listed part_of (Some list) = refl

in-listed : {D : Type 0} (part_of : D → Part) (o : Option (Vec (CommandDraft D))) → commands_in (option_map (plain_list part_of) o) ≡ listed (option_map (λ list. filter_map command_of (plain_list part_of list)) o)
in-listed part_of None = refl
in-listed part_of (Some list) = refl

module _ {D : Type 0} (part_of : D → Part) (lists : List (Vec (CommandDraft D))) (commands : List (Vec (Command D))) (are : map (λ list. plain_commands part_of list.items) commands ≡ map (λ list. filter_map command_of (plain_list part_of list)) lists) where
  -- the commands for a frame
  pub commands-plain : (place : ℕ) → commands_in (slice_get (map (plain_list part_of) lists) place) ≡ commands_found part_of (slice_get commands place)
  commands-plain place =
      ap commands_in (slice_get-map (plain_list part_of) lists place) ∙ in-listed part_of (slice_get lists place)
      ∙ ap listed (sym (slice_get-map (λ list. filter_map command_of (plain_list part_of list)) lists place) ∙ ap (λ all. slice_get all place) (sym are) ∙ slice_get-map (λ list. plain_commands part_of list.items) commands place)
      ∙ sym (found-listed part_of (slice_get commands place))

module _ {D : Type 0} (part_of : D → Part) (book : Book) where
  known_apart : (one : Name × Part) (others : List DraftPart) → All (Differ (Some one)) others → All (λ other. bytes_eq one.0 other.0 ≡ false) (filter_map (λ part. part) others)
  known_apart one [] h = All-nil (λ other. bytes_eq one.0 other.0 ≡ false)
  known_apart one (None ∷ others) h = known_apart one others (All-tail (Differ (Some one)) None others h)
  known_apart one (Some other ∷ others) h = All-cons (λ other. bytes_eq one.0 other.0 ≡ false) other (filter_map (λ part. part) others) (All-head (Differ (Some one)) (Some other) others h) (known_apart one others (All-tail (Differ (Some one)) (Some other) others h))

  parts_apart : (parts : List DraftPart) → AreApart parts → AllPairs (λ one other. bytes_eq one.0 other.0 ≡ false) (filter_map (λ part. part) parts)
  parts_apart [] h = λ i j d below inside. absurd (omega arith)
  parts_apart (None ∷ parts) h = parts_apart parts h.1
  parts_apart (Some one ∷ parts) h = AllPairs-cons (λ one other. bytes_eq one.0 other.0 ≡ false) one (filter_map (λ part. part) parts) (known_apart one parts h.0) (parts_apart parts h.1)

  parts_known : (parts : List DraftPart) → All (IsKnownDraft book) parts → All (IsKnownPart book) (filter_map (λ part. part) parts)
  parts_known [] h = All-nil (IsKnownPart book)
  parts_known (None ∷ parts) h = parts_known parts (All-tail (IsKnownDraft book) None parts h)
  parts_known (Some one ∷ parts) h = All-cons (IsKnownPart book) one (filter_map (λ part. part) parts) (All-head (IsKnownDraft book) (Some one) parts h) (parts_known parts (All-tail (IsKnownDraft book) (Some one) parts h))

  cons-lawful : (command : DraftCommand) (rest : List plain.Command) → IsLawfulDraft book command → All (IsLawful book) rest → All (IsLawful book) (cons_option (command_of command) rest)
  cons-lawful (spawn parts) rest h all = All-cons (IsLawful book) (plain.spawn (filter_map (λ part. part) parts)) rest (parts_known parts h.0, parts_apart parts h.1) all
  cons-lawful (kill id) rest h all = All-cons (IsLawful book) (plain.kill id) rest tt all
  cons-lawful (put id None) rest h all = all
  cons-lawful (put id (Some part)) rest h all = All-cons (IsLawful book) (plain.put id part.0 part.1) rest h all
  cons-lawful (take id None) rest h all = all
  cons-lawful (take id (Some kind)) rest h all = All-cons (IsLawful book) (plain.take id kind) rest h all

  list-lawful : (list : List (CommandDraft D)) → All (λ draft. IsLawfulDraft book (plain_asked part_of draft)) list → All (IsLawful book) (filter_map command_of (map (plain_asked part_of) list))
  list-lawful [] h = All-nil (IsLawful book)
  list-lawful (one ∷ list) h =
      cons-lawful (plain_asked part_of one) (filter_map command_of (map (plain_asked part_of) list)) (All-head (λ draft. IsLawfulDraft book (plain_asked part_of draft)) one list h)
      (list-lawful list (All-tail (λ draft. IsLawfulDraft book (plain_asked part_of draft)) one list h))

  -- the commands of a list at a place are lawful
  pub lists-lawful : (lists : List (Vec (CommandDraft D))) → All (λ list. All (λ draft. IsLawfulDraft book (plain_asked part_of draft)) list.items) lists → (place : ℕ) → All (IsLawful book) (commands_in (slice_get (map (plain_list part_of) lists) place))
  lists-lawful [] h place = All-nil (IsLawful book)
  lists-lawful (list ∷ lists) h zero = list-lawful list.items (All-head (λ list. All (λ draft. IsLawfulDraft book (plain_asked part_of draft)) list.items) list lists h)
  lists-lawful (list ∷ lists) h (suc place) = lists-lawful lists (All-tail (λ list. All (λ draft. IsLawfulDraft book (plain_asked part_of draft)) list.items) list lists h) place

-- ---- ids

-- ids that are below the next one are so in order
pub ids-below : {X : Type 0} (id_of : X → ℕ) (next : ℕ) (xs : List X) → list_any (λ x. not (ltb (id_of x) next)) xs ≡ false → All (λ id. id < next) (ascending (map id_of xs))
ids-below id_of next [] h = All-nil (λ id. id < next)
ids-below id_of next (x ∷ xs) h =
    let apart = or_parts (not (ltb (id_of x) next)) (list_any (λ one. not (ltb (id_of one) next)) xs) h in
    All-insert_key nat_cmp (id_of x) (λ id. id < next) (ascending (map id_of xs)) (ids-below id_of next xs apart.1) (ltb-true (id_of x) next (not-false (ltb (id_of x) next) apart.0))

-- against a document no refusal stands
pub unrefused : (book : Book) (indices : ℕ) (json : Json) (draft : Draft) → document_from book indices json ≡ Ok draft → refusal_of indices draft ≡ None
unrefused book indices json draft made = whole (has_float json) (draft_from book json) made
  where
    kept : (some : Draft) (refusal : Option DocRefusal) → refusal_of indices some ≡ refusal → unless_refused some refusal ≡ Ok draft → refusal_of indices draft ≡ None
    kept some None none is = let same : some ≡ draft = (let h : ◌≡◌ {A = Result Draft DocRefusal} (Ok some) (Ok draft) = is in cc) in subst (λ one. refusal_of indices one ≡ None) same none
    kept some (Some refusal) stands is = absurd (cc)

    shaped : (o : Option Draft) → of_shape indices o ≡ Ok draft → refusal_of indices draft ≡ None
    shaped None is = absurd (cc)
    shaped (Some some) is = kept some (refusal_of indices some) refl is

    whole : (b : Bool) (o : Option Draft) → cond b (Err NotWhole) (of_shape indices o) ≡ Ok draft → refusal_of indices draft ≡ None
    whole true o is = absurd (cc)
    whole false o is = shaped o is

-- a document that is not refused has few entries
pub few-entries : {D G S : Type 0} (part_of : D → Part) (global_of : G → Json) (kind_of : S → Name) (config_of : S → Json) (book : Book) (indices : ℕ) (plain : Draft) (draft : DocumentDraft D G S) → IsDraft part_of global_of kind_of config_of book plain draft → refusal_of indices plain ≡ None → vec_len draft.entries ≤ 4096
few-entries part_of global_of kind_of config_of book indices plain draft is e =
    let a = (passed_over (has_unknown_kind plain) _ _ e).1 in
    let b = (passed_over (has_double (listed_ids plain)) _ _ a).1 in
    let d = (passed_over (has_id_past_next plain) _ _ b).1 in
    let f = (passed_over (dangles plain) _ _ d).1 in
    let g = (passed_over (has_unknown_system plain) _ _ f).1 in
    let h = (passed_over (has_taken_name (systems_of plain)) _ _ g).1 in
    let i = (passed_over (has_unknown_dependency [] (systems_of plain)) _ _ h).1 in
    let j = (passed_over (lacks_global plain) _ _ i).1 in
    let k = (passed_over (writes_reserved plain) _ _ j).1 in
    let l = (passed_over (ltb 64 plain.workers) _ _ k).1 in
    let few : ltb 4096 (length plain.entries) ≡ false = (passed_over (ltb 4096 (length plain.entries)) _ _ l).0 in
    let count : length plain.entries ≡ vec_len draft.entries = ap length is.entries ∙ length-map draft.entries.items plain_draft ∙ sym draft.entries.ok.0 in
    let within : length plain.entries ≤ 4096 = not_more (length plain.entries) few in omega (arith, within, count)
  where
    not_more : (count : ℕ) → ltb 4096 count ≡ false → count ≤ 4096
    not_more count few = grind (arith, nat_tests)

-- the store of a document against which no refusal stands is one of the four
pub store-known : (indices : ℕ) (plain : Draft) → refusal_of indices plain ≡ None → is_none (store_named plain.store) ≡ false
store-known indices plain e =
    let a = (passed_over (has_unknown_kind plain) _ _ e).1 in
    let b = (passed_over (has_double (listed_ids plain)) _ _ a).1 in
    let d = (passed_over (has_id_past_next plain) _ _ b).1 in
    let f = (passed_over (dangles plain) _ _ d).1 in
    let g = (passed_over (has_unknown_system plain) _ _ f).1 in
    let h = (passed_over (has_taken_name (systems_of plain)) _ _ g).1 in
    let i = (passed_over (has_unknown_dependency [] (systems_of plain)) _ _ h).1 in
    let j = (passed_over (lacks_global plain) _ _ i).1 in
    let k = (passed_over (writes_reserved plain) _ _ j).1 in
    let l = (passed_over (ltb 64 plain.workers) _ _ k).1 in
    let m = (passed_over (ltb 4096 (length plain.entries)) _ _ l).1 in
    sym (unknown-store plain.store) ∙ (passed_over (not (is_among plain.store stores)) _ _ m).0
