-- Bearers that are looked for one after the other: one list after another, and what stays so.
use Rattle.std.proofs.Common.{◌≡◌, ◌+◌, ◌<◌, ℕ, zero, suc, Bool, true, false, cond, List, [], ◌∷◌, ◌++◌, length, map, take, drop, slice_get, get_or, Option, Some, Result, Ok, Err, IfErr, inl, inr, refl, sym, subst, ap, ◌∙◌, append-nil, append_assoc, length-append, arith}
use Rattle.std.specs.List.{AllZip, flat_map}
use Rattle.std.proofs.Math.Seq.{take-append_seam}
use Rattle.std.proofs.lemmas.Grind.{flat_map-append}
use Rattle.std.proofs.lemmas.List.{map-append, take-append-drop, take-append-le, take_more}
use Rattle.std.proofs.lemmas.List.Concat.{flat_map-cons}
use Rattle.std.proofs.lemmas.Option.{slice_get_within}
use Rattle.specs_entity.specs.Life.{LifeAt}
use Rattle.specs_entity.specs.declared.errors.Error.{Error}
use Rattle.specs_layouts.specs.MaskedLends.{StorageMembers}
use Rattle.specs_markers.specs.Marking.{RefusesRetrieval}
use Rattle.specs_saveload.specs.declared.entity_data.EntityData.{EntityData}
use Rattle.specs_saveload.specs.Finding.{AreBearers}
use Rattle.specs_saveload.specs.Known.{Known}
use Rattle.specs_saveload.proofs.LoadLemmas.{front-get}
use Rattle.specs_saveload.specs.Retrieved.{RefusesNext, Retrieved, Retrievals, RetrievesEach, RetrievesFoundSome, RetrievesLoaded, RetrievesLoadedSome, RetrievesSome}

module _ {A S M I : Type 0} (noted : A → I → Option LifeAt) (allocates : A → LifeAt → Option I → M → A → Type 0) (id_of : M → I) (s : StorageMembers S M) where
  -- ---- one marker

  pub one-retrieved : (marker : M) (entity : LifeAt) (before after : Known A S) → Retrieved noted allocates id_of s marker entity before after → RetrievesEach noted allocates id_of s (marker ∷ []) before after
  one-retrieved marker entity before after retrieved = record { steps = (after, entity, retrieved, refl) }

  -- ---- one list after another

  steps-both : (one other : List M) (before between after : Known A S) → Retrievals noted allocates id_of s one before between → Retrievals noted allocates id_of s other between after → Retrievals noted allocates id_of s (one ++ other) before after
  steps-both [] other before between after first second = subst (λ state. Retrievals noted allocates id_of s other state after) first second
  steps-both (marker ∷ one) other before between after (next, entity, retrieved, first) second = (next, entity, retrieved, steps-both one other next between after first second)

  pub each-both : (one other : List M) (before between after : Known A S) → RetrievesEach noted allocates id_of s one before between → RetrievesEach noted allocates id_of s other between after → RetrievesEach noted allocates id_of s (one ++ other) before after
  each-both one other before between after first second = record { steps = steps-both one other before between after first.steps second.steps }

  module _ (refuses : A → Option I → Error → Type 0) (error : Error) where
    pub one-refused : (marker : M) (before after : Known A S) → RefusesRetrieval noted allocates id_of s (id_of marker) before.births after.births before.allocator after.allocator before.markers after.markers refuses error
        → RetrievesSome noted allocates id_of s refuses error (marker ∷ []) before after
    one-refused marker before after why = record {
      done = [];
      left = marker ∷ [];
      all = refl;
      between = before;
      each = record { steps = refl };
      last = inr (record { next = marker; rest = []; first = refl; why = why });
    }

    -- nothing was looked for
    pub none-retrieved : (list : List M) (state : Known A S) → RetrievesSome noted allocates id_of s refuses error list state state
    none-retrieved list state = record { done = []; left = list; all = refl; between = state; each = record { steps = refl }; last = inl refl }

    -- all were, and that was all
    pub all-retrieved : (list : List M) (before after : Known A S) → RetrievesEach noted allocates id_of s list before after → RetrievesSome noted allocates id_of s refuses error list before after
    all-retrieved list before after each = record { done = list; left = []; all = sym (append-nil list); between = after; each = each; last = inl refl }

    further : (left more : List M) (before after : Known A S) → RefusesNext noted allocates id_of s refuses error left before after → RefusesNext noted allocates id_of s refuses error (left ++ more) before after
    further left more before after refused = record {
      next = refused.next;
      rest = refused.rest ++ more;
      first = ap (λ (l : List M). l ++ more) refused.first;
      why = refused.why;
    }

    -- some of the first of two lists
    pub some-first : (one other : List M) (before after : Known A S) → RetrievesSome noted allocates id_of s refuses error one before after → RetrievesSome noted allocates id_of s refuses error (one ++ other) before after
    some-first one other before after some = record {
      done = some.done;
      left = some.left ++ other;
      all = ap (λ (l : List M). l ++ other) some.all ∙ append_assoc some.done some.left other;
      between = some.between;
      each = some.each;
      last = elim some.last [ inl none ↦ inl none | inr refused ↦ inr (further some.left other some.between after refused) ];
    }

    -- all of the first, and some of the second
    pub some-second : (one other : List M) (before between after : Known A S) → RetrievesEach noted allocates id_of s one before between → RetrievesSome noted allocates id_of s refuses error other between after → RetrievesSome noted allocates id_of s refuses error (one ++ other) before after
    some-second one other before between after each some = record {
      done = one ++ some.done;
      left = some.left;
      all = ap (λ (l : List M). one ++ l) some.all ∙ sym (append_assoc one some.done some.left);
      between = some.between;
      each = each-both one some.done before between some.between each some.each;
      last = some.last;
    }

-- what holds of each error holds of a refusal
pub if-refused : {T E : Type 0} (result : Result T E) (P : E → Type 0) → ((error : E) → P error) → IfErr result P
if-refused (Ok value) P all = tt
if-refused (Err error) P all = all error

-- ---- the entities that bear the markers of a list's entries

module _ {M D : Type 0} where
  pub none-bear : (bearers : M → Option LifeAt) (list : List (EntityData M D)) (found : List LifeAt) → list ≡ [] → found ≡ [] → AreBearers bearers list found
  none-bear bearers list found none nobody = record {
    each = subst (λ f. AllZip (λ (entry : EntityData M D) (entity : LifeAt). bearers entry.marker ≡ Some entity) list f) (sym nobody)
        (subst (λ l. AllZip (λ (entry : EntityData M D) (entity : LifeAt). bearers entry.marker ≡ Some entity) l []) (sym none) tt);
  }

  -- the entries up to one are those before it, and it
  pub up-to-next : (list : List (EntityData M D)) (place : ℕ) (entry : EntityData M D) → place < length list → entry ≡ get_or list place entry → take (place + 1) list ≡ take place list ++ entry ∷ []
  up-to-next list place entry inside is = take_more list place entry inside ∙ ap (λ (e : EntityData M D). take place list ++ e ∷ []) (sym is)

  module _ (one two : M → Option LifeAt) (more : (marker : M) (entity : LifeAt) → one marker ≡ Some entity → two marker ≡ Some entity) where
    zip-still : (list : List (EntityData M D)) (found : List LifeAt) → AllZip (λ entry entity. one entry.marker ≡ Some entity) list found → AllZip (λ entry entity. two entry.marker ≡ Some entity) list found
    zip-still [] [] zip = tt
    zip-still [] (entity ∷ found) zip = absurd zip
    zip-still (entry ∷ list) [] zip = absurd zip
    zip-still (entry ∷ list) (entity ∷ found) zip = (more entry.marker entity zip.0, zip-still list found zip.1)

    -- they bear them still
    pub bear-still : (list : List (EntityData M D)) (found : List LifeAt) → AreBearers one list found → AreBearers two list found
    bear-still list found bear = record { each = zip-still list found bear.each }

    -- also where no more could be noted
    pub bear-kept : (list : List (EntityData M D)) (found after : List LifeAt) (entity : LifeAt) (ok : Bool) → AreBearers one list found → after ≡ cond ok (found ++ entity ∷ []) found → ok ≡ false → AreBearers two list after
    bear-kept list found after entity ok bear behind refused = record {
      each = subst (λ f. AllZip (λ (entry : EntityData M D) (entity : LifeAt). two entry.marker ≡ Some entity) list f) (sym (behind ∙ ap (λ b. cond b (found ++ entity ∷ []) found) refused)) (zip-still list found bear.each);
    }

    zip-next : (list : List (EntityData M D)) (found : List LifeAt) (entry : EntityData M D) (entity : LifeAt) → AllZip (λ entry entity. one entry.marker ≡ Some entity) list found → two entry.marker ≡ Some entity
        → AllZip (λ entry entity. two entry.marker ≡ Some entity) (list ++ entry ∷ []) (found ++ entity ∷ [])
    zip-next [] [] entry entity zip bears = (bears, tt)
    zip-next [] (other ∷ found) entry entity zip bears = absurd zip
    zip-next (first ∷ list) [] entry entity zip bears = absurd zip
    zip-next (first ∷ list) (other ∷ found) entry entity zip bears = (more first.marker other zip.0, zip-next list found entry entity zip.1 bears)

    -- and the next one bears the next marker
    pub bear-next : (list : List (EntityData M D)) (place : ℕ) (entry : EntityData M D) (found after : List LifeAt) (entity : LifeAt) (ok : Bool) → place < length list → entry ≡ get_or list place entry → AreBearers one (take place list) found → two entry.marker ≡ Some entity
        → after ≡ cond ok (found ++ entity ∷ []) found → ok ≡ true → AreBearers two (take (place + 1) list) after
    bear-next list place entry found after entity ok inside is bear bears behind went = record {
      each = subst (λ f. AllZip (λ (entry : EntityData M D) (entity : LifeAt). two entry.marker ≡ Some entity) (take (place + 1) list) f) (sym (behind ∙ ap (λ b. cond b (found ++ entity ∷ []) found) went))
          (subst (λ l. AllZip (λ (entry : EntityData M D) (entity : LifeAt). two entry.marker ≡ Some entity) l (found ++ entity ∷ [])) (sym (up-to-next list place entry inside is))
          (zip-next (take place list) found entry entity bear.each bears));
    }

  module _ (bearers : M → Option LifeAt) where
    zip-at : (done rest : List (EntityData M D)) (next : EntityData M D) (found : List LifeAt) (place : ℕ) → length done ≡ place → AllZip (λ entry entity. bearers entry.marker ≡ Some entity) (done ++ next ∷ rest) found
        → (place < length found) × (bearers next.marker ≡ slice_get found place)
    zip-at [] rest next [] place count zip = absurd zip
    zip-at [] rest next (entity ∷ found) place count zip = (omega (arith, count), zip.0 ∙ ap (slice_get (entity ∷ found)) count)
    zip-at (first ∷ done) rest next [] place count zip = absurd zip
    zip-at (first ∷ done) rest next (entity ∷ found) place count zip =
        let later = zip-at done rest next found (length done) refl zip.1 in
        (let below = later.0 in omega (arith, below, count), later.1 ∙ ap (slice_get (entity ∷ found)) count)

    -- the one at the place of an entry bears its marker
    pub bear-at : (list done left rest : List (EntityData M D)) (next : EntityData M D) (found : List LifeAt) (place : ℕ) → AreBearers bearers list found → list ≡ done ++ left → left ≡ next ∷ rest → length done ≡ place
        → (place < length found) × (bearers next.marker ≡ slice_get found place)
    bear-at list done left rest next found place bear whole is count =
        zip-at done rest next found place count (subst (λ l. AllZip (λ (entry : EntityData M D) (entity : LifeAt). bearers entry.marker ≡ Some entity) l found) (whole ∙ ap (λ (l : List (EntityData M D)). done ++ l) is) bear.each)

-- what is shown of lists is what they are
module _ {M D : Type 0} where
  pub bear-shown : (bearers : M → Option LifeAt) (shown list : List (EntityData M D)) (noted found : List LifeAt) → shown ≡ list → found ≡ noted → AreBearers bearers shown noted → AreBearers bearers list found
  bear-shown bearers shown list noted found same same' bear = subst (λ f. AreBearers bearers list f) (sym same') (subst (λ l. AreBearers bearers l noted) same bear)

  pub bear-front : (bearers : M → Option LifeAt) (shown list front : List (EntityData M D)) (noted found : List LifeAt) (far : ℕ) → shown ≡ list → front ≡ take far list → found ≡ noted → AreBearers bearers (take far shown) noted → AreBearers bearers front found
  bear-front bearers shown list front noted found far same cut same' bear =
      subst (λ f. AreBearers bearers front f) (sym same') (subst (λ l. AreBearers bearers l noted) (ap (take far) same ∙ sym cut) bear)

  pub entry-shown : (shown list : List (EntityData M D)) (far : ℕ) (entry : EntityData M D) → shown ≡ list → slice_get shown far ≡ Some entry → slice_get list far ≡ Some entry
  entry-shown shown list far entry same here = ap (λ (l : List (EntityData M D)). slice_get l far) (sym same) ∙ here

-- ---- a list of entries that is gone through

module _ {A S M I D : Type 0} (noted : A → I → Option LifeAt) (allocates : A → LifeAt → Option I → M → A → Type 0) (id_of : M → I) (s : StorageMembers S M) where
  abbrev marker_of : EntityData M D → M
  marker_of entry = entry.marker

  pub entries-next : (list : List (EntityData M D)) (place : ℕ) (entry : EntityData M D) (before between after : Known A S) → place < length list → entry ≡ get_or list place entry
      → RetrievesEach noted allocates id_of s (map (λ (entry : EntityData M D). entry.marker) (take place list)) before between → RetrievesEach noted allocates id_of s (entry.marker ∷ []) between after
      → RetrievesEach noted allocates id_of s (map (λ (entry : EntityData M D). entry.marker) (take (place + 1) list)) before after
  entries-next list place entry before between after inside is each next =
      subst (λ l. RetrievesEach noted allocates id_of s l before after) (sym (ap (map marker_of) (up-to-next list place entry inside is) ∙ map-append marker_of (take place list) (entry ∷ [])))
      (each-both noted allocates id_of s (map marker_of (take place list)) (entry.marker ∷ []) before between after each next)

  module _ (refuses : A → Option I → Error → Type 0) (error : Error) where
    cut-at : (list : List (EntityData M D)) (place : ℕ) (entry : EntityData M D) → place < length list → entry ≡ get_or list place entry → map marker_of list ≡ map marker_of (take place list) ++ (entry.marker ∷ map marker_of (drop (place + 1) list))
    cut-at list place entry inside is =
        ap (map marker_of) (sym (take-append-drop (place + 1) list) ∙ ap (λ (l : List (EntityData M D)). l ++ drop (place + 1) list) (up-to-next list place entry inside is))
        ∙ (map-append marker_of (take place list ++ entry ∷ []) (drop (place + 1) list)
        ∙ (ap (λ (l : List M). l ++ map marker_of (drop (place + 1) list)) (map-append marker_of (take place list) (entry ∷ []))
        ∙ append_assoc (map marker_of (take place list)) (entry.marker ∷ []) (map marker_of (drop (place + 1) list))))

    -- those before one were found or made, and some of the rest
    pub entries-stop : (list : List (EntityData M D)) (place : ℕ) (entry : EntityData M D) (before between after : Known A S) → place < length list → entry ≡ get_or list place entry
        → RetrievesEach noted allocates id_of s (map (λ (entry : EntityData M D). entry.marker) (take place list)) before between → RetrievesSome noted allocates id_of s refuses error (entry.marker ∷ []) between after
        → RetrievesSome noted allocates id_of s refuses error (map (λ (entry : EntityData M D). entry.marker) list) before after
    entries-stop list place entry before between after inside is each some =
        subst (λ l. RetrievesSome noted allocates id_of s refuses error l before after) (sym (cut-at list place entry inside is))
        (some-second noted allocates id_of s refuses error (map marker_of (take place list)) (entry.marker ∷ map marker_of (drop (place + 1) list)) before between after each
        (some-first noted allocates id_of s refuses error (entry.marker ∷ []) (map marker_of (drop (place + 1) list)) between after some))

  -- ---- what the data of entries names

  module _ (markers_of : D → List M) where
    abbrev data_of : EntityData M D → List M
    data_of entry = markers_of entry.components

    abbrev named_by : List (EntityData M D) → List M
    named_by list = flat_map data_of list

    front-of : (list done left : List (EntityData M D)) (place : ℕ) → list ≡ done ++ left → length done ≡ place → take place list ≡ done
    front-of list done left place whole count = ap (take place) whole ∙ (ap (λ n. take n (done ++ left)) (sym count) ∙ take-append_seam done left)

    front-next : (list done left rest : List (EntityData M D)) (next : EntityData M D) (place : ℕ) → list ≡ done ++ left → left ≡ next ∷ rest → length done ≡ place → take (place + 1) list ≡ take place list ++ next ∷ []
    front-next list done left rest next place whole is count =
        front-of list (done ++ next ∷ []) rest (place + 1)
        (whole ∙ (ap (λ (l : List (EntityData M D)). done ++ l) is ∙ sym (append_assoc done (next ∷ []) rest)))
        (let sum = length-append done (next ∷ []) in omega (arith, sum, count))
        ∙ ap (λ (l : List (EntityData M D)). l ++ next ∷ []) (sym (front-of list done left place whole count))

    -- so of one entry more
    pub data-next : (list done left rest : List (EntityData M D)) (next : EntityData M D) (place : ℕ) (before between after : Known A S) → list ≡ done ++ left → left ≡ next ∷ rest → length done ≡ place
        → RetrievesEach noted allocates id_of s (flat_map (λ (entry : EntityData M D). markers_of entry.components) (take place list)) before between → RetrievesEach noted allocates id_of s (markers_of next.components) between after
        → RetrievesEach noted allocates id_of s (flat_map (λ (entry : EntityData M D). markers_of entry.components) (take (place + 1) list)) before after
    data-next list done left rest next place before between after whole is count each own =
        subst (λ l. RetrievesEach noted allocates id_of s l before after)
        (sym (ap named_by (front-next list done left rest next place whole is count)
        ∙ (flat_map-append data_of (take place list) (next ∷ []) ∙ ap (λ (l : List M). named_by (take place list) ++ l) (flat_map-cons data_of next [] ∙ append-nil (data_of next)))))
        (each-both noted allocates id_of s (named_by (take place list)) (data_of next) before between after each own)

    pub data-all : (list done left : List (EntityData M D)) (place : ℕ) (before after : Known A S) → list ≡ done ++ left → left ≡ [] → length done ≡ place
        → RetrievesEach noted allocates id_of s (flat_map (λ (entry : EntityData M D). markers_of entry.components) (take place list)) before after → RetrievesEach noted allocates id_of s (flat_map (λ (entry : EntityData M D). markers_of entry.components) list) before after
    data-all list done left place before after whole none count each =
        subst (λ l. RetrievesEach noted allocates id_of s (named_by l) before after)
        (front-of list done left place whole count ∙ sym (whole ∙ (ap (λ (l : List (EntityData M D)). done ++ l) none ∙ append-nil done))) each

    at-seam : (list done left rest : List (EntityData M D)) (next : EntityData M D) (place : ℕ) → list ≡ done ++ left → left ≡ next ∷ rest → length done ≡ place → slice_get list place ≡ Some next
    at-seam list done left rest next place whole is count = ap (λ (l : List (EntityData M D)). slice_get l place) (whole ∙ ap (λ (l : List (EntityData M D)). done ++ l) is) ∙ seam done place count
      where
        seam : (front : List (EntityData M D)) (k : ℕ) → length front ≡ k → slice_get (front ++ next ∷ rest) k ≡ Some next
        seam [] zero c = refl
        seam [] (suc k) c = absurd (omega (arith, c))
        seam (first ∷ front) zero c = absurd (omega (arith, c))
        seam (first ∷ front) (suc k) c = seam front k (omega (arith, c))

    module _ (refuses : A → Option I → Error → Type 0) (error : Error) where
      -- the data before an entry was gone through, and some of its own
      pub data-stops : (list done left rest : List (EntityData M D)) (next : EntityData M D) (place : ℕ) (before between after : Known A S) → list ≡ done ++ left → left ≡ next ∷ rest → length done ≡ place
          → RetrievesEach noted allocates id_of s (flat_map (λ (entry : EntityData M D). markers_of entry.components) (take place list)) before between → RetrievesSome noted allocates id_of s refuses error (markers_of next.components) between after
          → RetrievesFoundSome noted allocates id_of s markers_of list refuses place error before after
      data-stops list done left rest next place before between after whole is count each some =
          record { entry = next; here = at-seam list done left rest next place whole is count; named = between; earlier = each; own = some }

      -- the data before an entry was gone through, and that was all
      pub data-before : (list front : List (EntityData M D)) (entry : EntityData M D) (place : ℕ) (before after : Known A S) → slice_get list place ≡ Some entry → front ≡ take place list
          → RetrievesEach noted allocates id_of s (flat_map (λ (entry : EntityData M D). markers_of entry.components) front) before after → RetrievesFoundSome noted allocates id_of s markers_of list refuses place error before after
      data-before list front entry place before after here cut each = record {
        entry = entry;
        here = here;
        named = after;
        earlier = subst (λ l. RetrievesEach noted allocates id_of s (named_by l) before after) cut each;
        own = none-retrieved noted allocates id_of s refuses error (markers_of entry.components) after;
      }

      -- what stops among the first entries of a list stops in it
      pub data-in-front : (list front : List (EntityData M D)) (far place : ℕ) (before after : Known A S) → front ≡ take far list → RetrievesFoundSome noted allocates id_of s markers_of front refuses place error before after → RetrievesFoundSome noted allocates id_of s markers_of list refuses place error before after
      data-in-front list front far place before after cut some =
          let whole : list ≡ front ++ drop far list = sym (take-append-drop far list) ∙ ap (λ (l : List (EntityData M D)). l ++ drop far list) (sym cut) in
          let inside = slice_get_within front place some.entry some.here in
          record {
            entry = some.entry;
            here = ap (λ (l : List (EntityData M D)). slice_get l place) whole ∙ front-get front (drop far list) place some.entry some.here;
            named = some.named;
            earlier = subst (λ l. RetrievesEach noted allocates id_of s (named_by l) before some.named)
                (sym (ap (take place) whole ∙ take-append-le place front (drop far list) (omega (arith, inside)))) some.earlier;
            own = some.own;
          }

  -- ---- a list whose bearers were found, and then its data gone through

  module _ (markers_of : D → List M) (list shown : List (EntityData M D)) (same : shown ≡ list) (before found after : Known A S) where
    pub loaded-all : RetrievesEach noted allocates id_of s (map (λ (entry : EntityData M D). entry.marker) shown) before found → RetrievesEach noted allocates id_of s (flat_map (λ (entry : EntityData M D). markers_of entry.components) list) found after
        → RetrievesLoaded noted allocates id_of s markers_of list before after
    loaded-all each named = (found, subst (λ (l : List (EntityData M D)). RetrievesEach noted allocates id_of s (map marker_of l) before found) same each, named)

    module _ (refuses : A → Option I → Error → Type 0) (place : ℕ) (error : Error) where
      pub loaded-stops : RetrievesEach noted allocates id_of s (map (λ (entry : EntityData M D). entry.marker) shown) before found → RetrievesFoundSome noted allocates id_of s markers_of list refuses place error found after
          → RetrievesLoadedSome noted allocates id_of s markers_of list refuses place error before after
      loaded-stops each named = record {
        found = found;
        bearers = (error, all-retrieved noted allocates id_of s refuses error (map marker_of list) before found (subst (λ (l : List (EntityData M D)). RetrievesEach noted allocates id_of s (map marker_of l) before found) same each));
        named = named;
      }

      pub loaded-some : (why : Error) → RetrievesSome noted allocates id_of s refuses why (map (λ (entry : EntityData M D). entry.marker) shown) before found → RetrievesFoundSome noted allocates id_of s markers_of list refuses place error found after
          → RetrievesLoadedSome noted allocates id_of s markers_of list refuses place error before after
      loaded-some why some named = record {
        found = found;
        bearers = (why, subst (λ (l : List (EntityData M D)). RetrievesSome noted allocates id_of s refuses why (map marker_of l) before found) same some);
        named = named;
      }
