-- The ids of the places that a system declares are those that it is lent.
use Rattle.std.proofs.Common.{◌≡◌, ℕ, Bool, true, false, eqb, ◌||◌, List, [], ◌∷◌, ◌++◌, map, Option, Some, None, All, refl, ap, ◌∙◌}
use Rattle.std.specs.List.{list_any}
use Rattle.std.specs.Str.{bytes_eq}
use Rattle.std.specs.FinMap as map
use Rattle.std.proofs.lemmas.Bool.{eqb-true, eq-eqb, or_from, false_from_ne_true}
use Rattle.std.proofs.lemmas.List.Elements.{All-head, All-tail}
use Rattle.std.proofs.lemmas.List.Folds.{list_any-append}
use Rattle.shred_world.specs.Bundles.{takable, readable, slot_of, holding_of, is_listed}
use Rattle.shred_world.specs.Worlds.{Slots}
use Rattle.scene_model.specs.Parts.{Name, is_among}
use Rattle.scene_model.specs.Rulebook.{Access}
use Rattle.scene_world.specs.Standing.{Kinds, IsWhole}
use Rattle.scene_world.specs.Lent.{Place, entities, markers, allocator, parts, value, queue, same_place, id_of_place, is_known, StandApart, read_places, written_places, IsLent, AreKnown}

-- a world holds each of its values for taking out
pub whole-world : {V : Type 0} (w : Slots V) → IsWhole (holding_of w)
whole-world w id = by (map.get w id)
  where
    by : {V : Type 0} (slot : Option (Option V)) → takable (slot_of slot) ≡ readable (slot_of slot)
    by None = refl
    by (Some None) = refl
    by (Some (Some v)) = refl

-- which places are among those of names
parts-there : (kind : Name) (names : List Name) → list_any (same_place (parts kind)) (map parts names) ≡ is_among kind names
parts-there kind [] = refl
parts-there kind (first ∷ names) = ap (λ b. bytes_eq kind first || b) (parts-there kind names)

values-there : (name : Name) (names : List Name) → list_any (same_place (value name)) (map value names) ≡ is_among name names
values-there name [] = refl
values-there name (first ∷ names) = ap (λ b. bytes_eq name first || b) (values-there name names)

none-of : (place : Place) (make : Name → Place) → ((name : Name) → same_place place (make name) ≡ false) → (names : List Name) → list_any (same_place place) (map make names) ≡ false
none-of place make apart [] = refl
none-of place make apart (first ∷ names) = ap (λ b. b || list_any (same_place place) (map make names)) (apart first) ∙ none-of place make apart names

or-false : (a b : Bool) → b ≡ false → (a || b) ≡ a
or-false true b e = refl
or-false false b e = e

-- all of a list are known
abbrev AllKnown : {V : Type 0} → Kinds V → List Place → Type 0
AllKnown kinds [] = Unit {0}
AllKnown kinds (first ∷ places) = (is_known kinds first ≡ true) × AllKnown kinds places

module _ {V : Type 0} (kinds : Kinds V) (apart : StandApart kinds) where
  listed : (place : Place) → is_known kinds place ≡ true → (places : List Place) → AllKnown kinds places → is_listed (map (id_of_place kinds) places) (id_of_place kinds place) ≡ list_any (same_place place) places
  listed place known [] all = refl
  listed place known (first ∷ places) all =
      ap (λ b. b || is_listed (map (id_of_place kinds) places) (id_of_place kinds place)) (apart place first known all.0)
      ∙ ap (λ b. same_place place first || b) (listed place known places all.1)

  known-append : (one other : List Place) → AllKnown kinds one → AllKnown kinds other → AllKnown kinds (one ++ other)
  known-append [] other a b = b
  known-append (first ∷ one) other a b = (a.0, known-append one other a.1 b)

  known-map : (make : Name → Place) (names : List Name) → All (λ name. is_known kinds (make name) ≡ true) names → AllKnown kinds (map make names)
  known-map make [] all = tt
  known-map make (first ∷ names) all = (All-head (λ name. is_known kinds (make name) ≡ true) first names all, known-map make names (All-tail (λ name. is_known kinds (make name) ≡ true) first names all))

  -- what is declared is lent
  pub lent-ids : (access : Access) (position : ℕ) → AreKnown kinds access
      → IsLent kinds access position (map (id_of_place kinds) (read_places access)) (map (id_of_place kinds) (written_places access position))
  lent-ids access position known = record {
    entities = listed entities refl (read_places access) reads_known;
    markers = listed markers refl (read_places access) reads_known;
    allocator = listed allocator refl (read_places access) reads_known;
    same_entities = unwritten entities refl (λ name. refl) (λ name. refl) refl;
    same_markers = unwritten markers refl (λ name. refl) (λ name. refl) refl;
    same_allocator = unwritten allocator refl (λ name. refl) (λ name. refl) refl;
    reads_parts = λ kind is. listed (parts kind) is (read_places access) reads_known ∙ list_any-append (same_place (parts kind)) (map parts access.reads) (map value access.read_globals)
        ∙ or-false _ _ (none-of (parts kind) value (λ name. refl) access.read_globals) ∙ parts-there kind access.reads;
    writes_parts = λ kind is. listed (parts kind) is (written_places access position) writes_known ∙ list_any-append (same_place (parts kind)) (map parts access.writes) (map value access.written_globals)
        ∙ or-false _ _ (none-of (parts kind) value (λ name. refl) access.written_globals) ∙ parts-there kind access.writes;
    reads_globals = λ name is. listed (value name) is (read_places access) reads_known ∙ list_any-append (same_place (value name)) (map parts access.reads) (map value access.read_globals)
        ∙ ap (λ b. b || list_any (same_place (value name)) (map value access.read_globals)) (none-of (value name) parts (λ kind. refl) access.reads) ∙ values-there name access.read_globals;
    writes_globals = λ name is. listed (value name) is (written_places access position) writes_known ∙ list_any-append (same_place (value name)) (map parts access.writes) (map value access.written_globals)
        ∙ ap (λ b. b || list_any (same_place (value name)) (map value access.written_globals)) (none-of (value name) parts (λ kind. refl) access.writes) ∙ values-there name access.written_globals;
    queue = listed (queue position) refl (written_places access position) writes_known
        ∙ ap (λ b. b || list_any (same_place (queue position)) (map parts access.writes ++ map value access.written_globals)) (eq-eqb position position refl);
    other_queues = λ other differ. unwritten (queue other) refl (λ name. refl) (λ name. refl) (false_from_ne_true (eqb other position) (λ e. differ (eqb-true other position e)));
  }
    where
      reads_known : AllKnown kinds (read_places access)
      reads_known = (refl, (refl, (refl, known-append (map parts access.reads) (map value access.read_globals) (known-map parts access.reads known.reads) (known-map value access.read_globals known.read_globals))))

      writes_known : AllKnown kinds (written_places access position)
      writes_known = (refl, known-append (map parts access.writes) (map value access.written_globals) (known-map parts access.writes known.writes) (known-map value access.written_globals known.written_globals))

      unwritten : (place : Place) → is_known kinds place ≡ true → ((name : Name) → same_place place (parts name) ≡ false) → ((name : Name) → same_place place (value name) ≡ false) → same_place place (queue position) ≡ false
          → is_listed (map (id_of_place kinds) (written_places access position)) (id_of_place kinds place) ≡ false
      unwritten place is no_parts no_values no_queue =
          listed place is (written_places access position) writes_known
          ∙ or_from (same_place place (queue position)) _ no_queue
          (list_any-append (same_place place) (map parts access.writes) (map value access.written_globals)
          ∙ or_from _ _ (none-of place parts no_parts access.writes) (none-of place value no_values access.written_globals))
