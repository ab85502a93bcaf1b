-- Lemmas on the refusals of a document, none of which stands for the JSON of a sound scene.
use Rattle.std.proofs.Common.{◌≡◌, ◌<◌, ◌≤◌, ℕ, suc, Bool, true, false, not, ◌||◌, cond, List, [], ◌∷◌, map, length, Option, Some, None, option_map, Ordering, Less, Equal, Greater, refl, sym, ◌∙◌, ap, arith}
use Rattle.std.specs.Prelude.{nat_lt, Ok, Err, is_none}
use Rattle.std.specs.List.{All, AllPairs, list_any, cons_option, fold}
use Rattle.std.specs.Ordering.{nat_cmp, match_ordering}
use Rattle.std.specs.Cmp.Lexicographic.{slice_cmp}
use Rattle.std.proofs.lemmas.Bool.{false≢true, or_parts, or_from}
use Rattle.std.proofs.lemmas.Bool.Decides.{nat_tests}
use Rattle.serde_json.specs.Data.{Members, no_members, member, put}
use Rattle.serde_json.specs.View.{items_of}
use Rattle.serde_json.specs.Written.{has_float, items_have_float, members_have_float}
use Rattle.scene_model.specs.declared.refusals.DocRefusal.TheVariants.{NotWhole, UnknownKind, DoubleId, IdNotBelowNext, Dangling, TooManyEntities}
use Rattle.scene_model.specs.Parts.{Json, Name, Ref, living, gone, Part}
use Rattle.scene_model.specs.Rulebook.{Book}
use Rattle.scene_model.specs.Scenes.{PlainScene, RefLives, lives}
use Rattle.scene_model.specs.Commands.{ref_lives}
use Rattle.scene_model.specs.Laws.{Ascend}
use Rattle.scene_document.specs.Drafts.{draft_from}
use Rattle.scene_document.specs.Documents.{listed_ids, has_unknown_kind, has_double, has_id_past_next, part_dangles, dangles, refusal_of, unless_refused, of_shape, document_from}
use Rattle.scene_document.specs.Texts.{members_with, entity_json, scene_json}
use Rattle.scene.specs.Printed.{CanBeRead, CanBeLoaded}
use Rattle.scene_document.proofs.CallerLemmas.{pairs_of}
use Rattle.scene.proofs.PrintedLemmas.{read_of, entity_read, draft_read, draft-back}
use Rattle.scene_model.proofs.CallerLemmas.{not-above}

-- where members have no float, they have none with one more that has none
floats-put : (key : Name) (value : Json) (members : Members) → has_float value ≡ false → members_have_float members ≡ false → members_have_float (put key value members) ≡ false
floats-put key value no_members one none = or_from (has_float value) false one refl
floats-put key value (member other old members) one none = let parts = or_parts (has_float old) (members_have_float members) none in here (floats-put key value members one parts.1) parts.0 parts.1 (slice_cmp nat_cmp key other)
  where
    here : members_have_float (put key value members) ≡ false → has_float old ≡ false → members_have_float members ≡ false → (o : Ordering) → members_have_float (match_ordering o (member key value (member other old members)) (member other value members) (member other old (put key value members))) ≡ false
    here later first rest Less = or_from (has_float value) (has_float old || members_have_float members) one none
    here later first rest Equal = or_from (has_float value) (members_have_float members) one rest
    here later first rest Greater = or_from (has_float old) (members_have_float (put key value members)) first later

-- nor have the members of pairs that have none
floats-pairs : {V : Type 0} (written : V → Json) (get : Name → Option V) → ((name : Name) (value : V) → get name ≡ Some value → has_float (written value) ≡ false) → (names : List Name) (members : Members) → members_have_float members ≡ false → members_have_float (fold (λ some pair. put pair.0 pair.1 some) members (pairs_of written get names)) ≡ false
floats-pairs written get none [] _ so_far = so_far
floats-pairs {V} written get none (name ∷ names) members so_far = here (λ more later. floats-pairs written get none names more later) (get name) refl
  where
    here : ((more : Members) → members_have_float more ≡ false → members_have_float (fold (λ some pair. put pair.0 pair.1 some) more (pairs_of written get names)) ≡ false) → (o : Option V) → get name ≡ o → members_have_float (fold (λ some pair. put pair.0 pair.1 some) members (cons_option (option_map (λ value. (name, written value)) o) (pairs_of written get names))) ≡ false
    here later None is = later members so_far
    here later (Some value) is = later (put name (written value) members) (floats-put name (written value) members (none name value is) so_far)

-- all that is read back is known
none-unknown : {V : Type 0} (written : V → Json) (get : Name → Option V) (names : List Name) → list_any is_none (read_of written get names) ≡ false
none-unknown written get [] = refl
none-unknown {V} written get (name ∷ names) = here (none-unknown written get names) (get name)
  where
    here : list_any is_none (read_of written get names) ≡ false → (o : Option V) → list_any is_none (cons_option (option_map (λ value. Some (name, value)) o) (read_of written get names)) ≡ false
    here later None = later
    here later (Some value) = later

-- what holds of none of what is made of some holds of none of them
none-over : {X Y : Type 0} (test : Y → Bool) (f : X → Y) (xs : List X) → ((x : X) → test (f x) ≡ false) → list_any test (map f xs) ≡ false
none-over test f [] none = refl
none-over test f (x ∷ xs) none = or_from (test (f x)) (list_any test (map f xs)) (none x) (none-over test f xs none)

-- a number below another is tested to be, and an id above all before it stands once
below-test : (x y : ℕ) → x < y → not (nat_lt x y) ≡ false
below-test x y less = grind (arith, nat_tests, less)

within-test : (x y : ℕ) → x ≤ y → nat_lt y x ≡ false
within-test x y within = grind (arith, nat_tests, within)

once : (ids : List ℕ) → AllPairs (λ one other. one < other) ids → has_double ids ≡ false
once [] ascend = refl
once (id ∷ ids) ascend = or_from (lives id ids) (has_double ids) (not-above id ids (λ k d within. ascend 0 (suc k) d (omega arith) (omega arith))) (once ids (λ i j d less within. ascend (suc i) (suc j) d (omega arith) (omega arith)))

-- references that live are tested to
refs-test : (ids : List ℕ) (refs : List Ref) → All (RefLives ids) refs → list_any (λ ref. not (ref_lives ids ref)) refs ≡ false
refs-test ids [] all = refl
refs-test ids (ref ∷ refs) all = or_from (not (ref_lives ids ref)) (list_any (λ one. not (ref_lives ids one)) refs) (one ref (all 0 ref (omega arith))) (refs-test ids refs (λ k d within. all (suc k) d (omega arith)))
  where
    one : (some : Ref) → RefLives ids some → not (ref_lives ids some) ≡ false
    one (living id) alive = ap not alive
    one gone alive = absurd alive

module _ (book : Book) (scene : PlainScene) (kinds : Ascend book.part_names) (names : Ascend book.global_names) (sound : CanBeRead book scene) (ready : CanBeLoaded scene) where
  -- no float is written for the scene
  entity-whole : (id : ℕ) → has_float (entity_json book scene id) ≡ false
  entity-whole id = or_from (members_have_float (members_with (pairs_of (λ part. part.json) (scene.part id) book.part_names))) false (floats-pairs (λ part. part.json) (scene.part id) (λ kind held is. ready.parts id kind held is) book.part_names no_members refl) refl

  entities-whole : (ids : List ℕ) → items_have_float (items_of (map (entity_json book scene) ids)) ≡ false
  entities-whole [] = refl
  entities-whole (id ∷ ids) = or_from (has_float (entity_json book scene id)) (items_have_float (items_of (map (entity_json book scene) ids))) (entity-whole id) (entities-whole ids)

  whole : has_float (scene_json book scene) ≡ false
  whole = or_from (items_have_float (items_of (map (entity_json book scene) scene.ids))) (members_have_float (members_with (pairs_of (λ value. value) scene.global book.global_names)) || false) (entities-whole scene.ids) (or_from (members_have_float (members_with (pairs_of (λ value. value) scene.global book.global_names))) false (floats-pairs (λ value. value) scene.global ready.globals book.global_names no_members refl) refl)

  -- the ids that the document lists
  listed : (ids : List ℕ) → map (λ entity. entity.id) (map (entity_read book scene kinds names sound) ids) ≡ ids
  listed [] = refl
  listed (id ∷ ids) = ap (λ rest. id ∷ rest) (listed ids)

  known : has_unknown_kind (draft_read book scene kinds names sound) ≡ false
  known = or_from (list_any (λ entity. list_any is_none entity.parts) (map (entity_read book scene kinds names sound) scene.ids) || list_any is_none (read_of (λ value. value) scene.global book.global_names)) false
      (or_from (list_any (λ entity. list_any is_none entity.parts) (map (entity_read book scene kinds names sound) scene.ids)) (list_any is_none (read_of (λ value. value) scene.global book.global_names))
      (none-over (λ entity. list_any is_none entity.parts) (entity_read book scene kinds names sound) scene.ids (λ id. none-unknown (λ part. part.json) (scene.part id) book.part_names))
      (none-unknown (λ value. value) scene.global book.global_names)) refl

  no_double : has_double (listed_ids (draft_read book scene kinds names sound)) ≡ false
  no_double = ap has_double (listed scene.ids) ∙ once scene.ids sound.ids.ascend

  below : (ids : List ℕ) → All (λ id. id < scene.next) ids → list_any (λ entity. not (nat_lt entity.id scene.next)) (map (entity_read book scene kinds names sound) ids) ≡ false
  below [] all = refl
  below (id ∷ ids) all = or_from (not (nat_lt id scene.next)) (list_any (λ entity. not (nat_lt entity.id scene.next)) (map (entity_read book scene kinds names sound) ids)) (below-test id scene.next (all 0 id (omega arith))) (below ids (λ k d within. all (suc k) d (omega arith)))

  -- no part of an id dangles
  part-stays : (id : ℕ) (kinds_left : List Name) → list_any (part_dangles scene.ids) (read_of (λ part. part.json) (scene.part id) kinds_left) ≡ false
  part-stays id [] = refl
  part-stays id (kind ∷ kinds_left) = here (part-stays id kinds_left) (scene.part id kind) refl
    where
      here : list_any (part_dangles scene.ids) (read_of (λ part. part.json) (scene.part id) kinds_left) ≡ false → (o : Option Part) → scene.part id kind ≡ o → list_any (part_dangles scene.ids) (cons_option (option_map (λ value. Some (kind, value)) o) (read_of (λ part. part.json) (scene.part id) kinds_left)) ≡ false
      here later None is = later
      here later (Some held) is = or_from (list_any (λ ref. not (ref_lives scene.ids ref)) held.refs) (list_any (part_dangles scene.ids) (read_of (λ part. part.json) (scene.part id) kinds_left)) (refs-test scene.ids held.refs (ready.living id kind held (sound.owned id kind held is) is)) later

  no_dangling : dangles (draft_read book scene kinds names sound) ≡ false
  no_dangling = ap (λ ids. list_any (λ entity. list_any (part_dangles ids) entity.parts) (map (entity_read book scene kinds names sound) scene.ids)) (listed scene.ids) ∙ none-over (λ entity. list_any (part_dangles scene.ids) entity.parts) (entity_read book scene kinds names sound) scene.ids (λ id. part-stays id book.part_names)

  count : (ids : List ℕ) → length (map (entity_read book scene kinds names sound) ids) ≡ length ids
  count [] = refl
  count (id ∷ ids) = ap (λ n. suc n) (count ids)

  -- none of five tests passes
  none-stands : (a b c d e : Bool) → a ≡ false → b ≡ false → c ≡ false → d ≡ false → e ≡ false → cond a (Some UnknownKind) (cond b (Some DoubleId) (cond c (Some IdNotBelowNext) (cond d (Some Dangling) (cond e (Some TooManyEntities) None)))) ≡ None
  none-stands false false false false false one two three four five = refl
  none-stands true b c d e one two three four five = absurd (false≢true (sym one))
  none-stands false true c d e one two three four five = absurd (false≢true (sym two))
  none-stands false false true d e one two three four five = absurd (false≢true (sym three))
  none-stands false false false true e one two three four five = absurd (false≢true (sym four))
  none-stands false false false false true one two three four five = absurd (false≢true (sym five))

  no_refusal : (indices : ℕ) → length scene.ids ≤ indices → refusal_of indices (draft_read book scene kinds names sound) ≡ None
  no_refusal indices within = none-stands
      (has_unknown_kind (draft_read book scene kinds names sound)) (has_double (listed_ids (draft_read book scene kinds names sound))) (has_id_past_next (draft_read book scene kinds names sound)) (dangles (draft_read book scene kinds names sound)) (nat_lt indices (length (map (entity_read book scene kinds names sound) scene.ids)))
      known no_double (below scene.ids sound.ids.below) no_dangling (ap (nat_lt indices) (count scene.ids) ∙ within-test (length scene.ids) indices within)

  -- the JSON of the scene is a document
  pub document-back : (indices : ℕ) → length scene.ids ≤ indices → document_from book indices (scene_json book scene) ≡ Ok (draft_read book scene kinds names sound)
  document-back indices within = ap (λ b. cond b (Err NotWhole) (of_shape indices (draft_from book (scene_json book scene)))) whole
      ∙ (ap (of_shape indices) (draft-back book scene kinds names sound) ∙ ap (unless_refused (draft_read book scene kinds names sound)) (no_refusal indices within))
