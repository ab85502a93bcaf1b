-- Lists of ids share one just where the lists of the places under them do, and where the lists of resources do.
use Rattle.std.proofs.Common.{◌≡◌, ℕ, Bool, true, false, ◌||◌, List, [], ◌∷◌, ◌++◌, map, refl, ap, ◌∙◌}
use Rattle.std.specs.Prelude.{◌==◌}
use Rattle.std.specs.List.{All, AllByRecursion, list_any}
use Rattle.std.proofs.lemmas.List.Elements.{All-head, All-tail}
use Rattle.shred_world.specs.ResourceIds.{same_id}
use Rattle.shred_plan.specs.Plan.{share}
use Rattle.scene_model.specs.Parts.{Name}
use Rattle.scene_model.specs.Rulebook.{Access}
use Rattle.scene_document.specs.Openings.{Resource, parts_of, value_of, same_resource, reads_of, writes_of}
use Rattle.scene_world.specs.Standing.{Kinds}
use Rattle.scene_world.specs.Lent.{Place, entities, markers, allocator, parts, value, queue, same_place, id_of_place, is_known, StandApart, AreKnown, read_places, written_places}

-- the place of a resource
abbrev pub place_of : Resource → Place
place_of (parts_of kind) = parts kind
place_of (value_of name) = value name

-- two resources are one just where their places are
same-places : (one other : Resource) → same_place (place_of one) (place_of other) ≡ same_resource one other
same-places (parts_of kind) (parts_of other) = refl
same-places (parts_of kind) (value_of other) = refl
same-places (value_of kind) (parts_of other) = refl
same-places (value_of kind) (value_of other) = refl

-- the places of what is named are those of its resources
places-named : (kinds names : List Name) → map parts kinds ++ map value names ≡ map place_of (map parts_of kinds ++ map value_of names)
places-named [] [] = refl
places-named [] (name ∷ names) = ap (λ list. value name ∷ list) (places-named [] names)
places-named (kind ∷ kinds) names = ap (λ list. parts kind ∷ list) (places-named kinds names)

-- no resource stands where a system's queue does, or where what all systems read does
none-in : (place : Place) → ((resource : Resource) → same_place place (place_of resource) ≡ false) → (resources : List Resource) → list_any (same_place place) (map place_of resources) ≡ false
none-in place apart [] = refl
none-in place apart (first ∷ resources) = ap (λ b. b || list_any (same_place place) (map place_of resources)) (apart first) ∙ none-in place apart resources

-- a queue is the place of no resource
no-queue : (position : ℕ) (resource : Resource) → same_place (queue position) (place_of resource) ≡ false
no-queue position (parts_of kind) = refl
no-queue position (value_of name) = refl

-- a resource among others
among-places : (one : Resource) (others : List Resource) → list_any (same_place (place_of one)) (map place_of others) ≡ list_any (same_resource one) others
among-places one [] = refl
among-places one (other ∷ others) =
    ap (λ b. b || list_any (same_place (place_of one)) (map place_of others)) (same-places one other) ∙ ap (λ b. same_resource one other || b) (among-places one others)

-- among what a system reads, and among what it writes
among-read : (one : Resource) (others : List Resource) → list_any (same_place (place_of one)) (entities ∷ markers ∷ allocator ∷ map place_of others) ≡ list_any (same_resource one) others
among-read (parts_of kind) others = among-places (parts_of kind) others
among-read (value_of name) others = among-places (value_of name) others

-- and among what it writes beside its queue
among-written : (one : Resource) (position : ℕ) (others : List Resource) → list_any (same_place (place_of one)) (queue position ∷ map place_of others) ≡ list_any (same_resource one) others
among-written (parts_of kind) position others = among-places (parts_of kind) others
among-written (value_of name) position others = among-places (value_of name) others

-- two lists share a place where two others do
share-alike : {A B : Type 0} (same : A → A → Bool) (alike : B → B → Bool) (f : B → A) (xs : List A) (ys : List B) → ((one : B) → list_any (same (f one)) xs ≡ list_any (alike one) ys)
    → (list : List B) → share same (map f list) xs ≡ share alike list ys
share-alike same alike f xs ys each [] = refl
share-alike same alike f xs ys each (one ∷ list) =
    ap (λ b. b || share same (map f list) xs) (each one) ∙ ap (λ b. list_any (alike one) ys || b) (share-alike same alike f xs ys each list)

-- what a system writes is read by another where a resource is
pub shares-read : (position : ℕ) (written read : List Resource)
    → share same_place (queue position ∷ map place_of written) (entities ∷ markers ∷ allocator ∷ map place_of read) ≡ share same_resource written read
shares-read position written read =
    ap (λ b. b || share same_place (map place_of written) (entities ∷ markers ∷ allocator ∷ map place_of read)) (none-in (queue position) (no-queue position) read)
    ∙ share-alike same_place same_resource place_of (entities ∷ markers ∷ allocator ∷ map place_of read) read (λ one. among-read one read) written

-- it is written by another, at another position, where a resource is
pub shares-written : (position other : ℕ) → (position == other) ≡ false → (written others : List Resource)
    → share same_place (queue position ∷ map place_of written) (queue other ∷ map place_of others) ≡ share same_resource written others
shares-written position other differ written others =
    ap (λ b. (b || list_any (same_place (queue position)) (map place_of others)) || share same_place (map place_of written) (queue other ∷ map place_of others)) differ
    ∙ ap (λ b. b || share same_place (map place_of written) (queue other ∷ map place_of others)) (none-in (queue position) (no-queue position) others)
    ∙ share-alike same_place same_resource place_of (queue other ∷ map place_of others) others (λ one. among-written one other others) written

module _ {V : Type 0} (kinds : Kinds V) where
  -- the rules know all of some places
  abbrev pub KnownPlaces : List Place → Type 0
  KnownPlaces places = AllByRecursion (λ place. is_known kinds place ≡ true) places

  -- places of known names, and then others that are known
  known-map : (make : Name → Place) (names : List Name) → All (λ name. is_known kinds (make name) ≡ true) names → (others : List Place) → KnownPlaces others → KnownPlaces (map make names ++ others)
  known-map make [] all others known = known
  known-map make (first ∷ names) all others known =
      (All-head (λ name. is_known kinds (make name) ≡ true) first names all, known-map make names (All-tail (λ name. is_known kinds (make name) ≡ true) first names all) others known)

  -- places of known names
  known-only : (make : Name → Place) (names : List Name) → All (λ name. is_known kinds (make name) ≡ true) names → KnownPlaces (map make names)
  known-only make [] all = tt
  known-only make (first ∷ names) all = (All-head (λ name. is_known kinds (make name) ≡ true) first names all, known-only make names (All-tail (λ name. is_known kinds (make name) ≡ true) first names all))

  -- so they know what a system reads, and what it writes
  pub known-read : (access : Access) → AreKnown kinds access → KnownPlaces (read_places access)
  known-read access known = (refl, (refl, (refl, known-map parts access.reads known.reads (map value access.read_globals) (known-only value access.read_globals known.read_globals))))

  -- so they know what it writes
  pub known-written : (access : Access) (position : ℕ) → AreKnown kinds access → KnownPlaces (written_places access position)
  known-written access position known = (refl, known-map parts access.writes known.writes (map value access.written_globals) (known-only value access.written_globals known.written_globals))

  module _ (apart : StandApart kinds) where
    -- an id is among those of places just where its place is among them
    among-ids : (place : Place) → is_known kinds place ≡ true → (places : List Place) → KnownPlaces places
        → list_any (same_id (id_of_place kinds place)) (map (id_of_place kinds) places) ≡ list_any (same_place place) places
    among-ids place known [] all = refl
    among-ids place known (first ∷ places) all =
        ap (λ b. b || list_any (same_id (id_of_place kinds place)) (map (id_of_place kinds) places)) (apart place first known all.0)
        ∙ ap (λ b. same_place place first || b) (among-ids place known places all.1)

    -- lists of ids share one where lists of places do
    pub shares-ids : (places others : List Place) → KnownPlaces places → KnownPlaces others → share same_id (map (id_of_place kinds) places) (map (id_of_place kinds) others) ≡ share same_place places others
    shares-ids [] others all known = refl
    shares-ids (place ∷ places) others all known =
        ap (λ b. b || share same_id (map (id_of_place kinds) places) (map (id_of_place kinds) others)) (among-ids place all.0 others known)
        ∙ ap (λ b. list_any (same_place place) others || b) (shares-ids places others all.1 known)

    -- what a system writes is read, and written, by another where a resource is
    pub ids-read : (one other : Access) (position : ℕ) → AreKnown kinds one → AreKnown kinds other
        → share same_id (map (id_of_place kinds) (written_places one position)) (map (id_of_place kinds) (read_places other)) ≡ share same_resource (writes_of one) (reads_of other)
    ids-read one other position known knows =
        shares-ids (written_places one position) (read_places other) (known-written one position known) (known-read other knows)
        ∙ ap (λ written. share same_place (queue position ∷ written) (read_places other)) (places-named one.writes one.written_globals)
        ∙ ap (λ read. share same_place (queue position ∷ map place_of (writes_of one)) (entities ∷ markers ∷ allocator ∷ read)) (places-named other.reads other.read_globals)
        ∙ shares-read position (writes_of one) (reads_of other)

    -- so it is of what both write, at different positions
    pub ids-written : (one other : Access) (position place : ℕ) → (position == place) ≡ false → AreKnown kinds one → AreKnown kinds other
        → share same_id (map (id_of_place kinds) (written_places one position)) (map (id_of_place kinds) (written_places other place)) ≡ share same_resource (writes_of one) (writes_of other)
    ids-written one other position place differ known knows =
        shares-ids (written_places one position) (written_places other place) (known-written one position known) (known-written other place knows)
        ∙ ap (λ written. share same_place (queue position ∷ written) (written_places other place)) (places-named one.writes one.written_globals)
        ∙ ap (λ written. share same_place (queue position ∷ map place_of (writes_of one)) (queue place ∷ written)) (places-named other.writes other.written_globals)
        ∙ shares-written position place differ (writes_of one) (writes_of other)
