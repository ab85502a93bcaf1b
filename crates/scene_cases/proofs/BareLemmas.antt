-- A world in which a scene without entities stands.
use Rattle.std.proofs.Common.{◌≡◌, ℕ, Bool, true, false, cond, List, [], ◌∷◌, filter, is_some, Option, Some, None, IsSome, refl, ap, sym, ◌∙◌, subst, arith}
use Rattle.std.specs.Prelude.{option_and_then}
use Rattle.std.proofs.lemmas.Bool.{false≢true}
use Rattle.std.specs.FinMap as map
use Rattle.std.specs.FinSet as set
use Rattle.std.specs.Str.{bytes_eq}
use Rattle.std.specs.Ordering.{nat_cmp, eq_by_cmp}
use Rattle.shred_world.specs.declared.resource_id.ResourceId.{ResourceId}
use Rattle.shred_world.specs.ResourceIds.{id_of, id_cmp}
use Rattle.shred_world.specs.Worlds.{Slots}
use Rattle.shred_world.specs.Bundles.{readable, slot_of, holding_of}
use Rattle.shred_world.proofs.CallerLemmas.{ids_total}
use Rattle.specs_entity.specs.Births.{Births, living_of, living, none_born}
use Rattle.specs_markers.specs.Simple.{none_noted}
use Rattle.specs_layouts.specs.Masked.{Masked}
use Rattle.specs_layouts.specs.Parts.{HasNone}
use Rattle.specs_layouts.specs.declared.storages.vec.VecStorage.{VecStorage}
use Rattle.specs_layouts.specs.Flagged.{Flagged}
use Rattle.scene_world.specs.Markers.{marker_at}
use Rattle.scene_model.specs.Parts.{Name, is_among}
use Rattle.scene_model.specs.Ids.{ascending}
use Rattle.scene_model.specs.Scenes.{IdsFit}
use Rattle.scene_world.specs.Rolls.{Roll, ids_in, index_of, index_if, part_in, IsRoll}
use Rattle.scene_world.specs.Standing.{Sight, seen_in, roll_in, roll_of, column_of, plain_of, IsSceneWorld}
use Rattle.scene_cases.specs.Drifts.{position_id, velocity_id}
use Rattle.scene_cases.specs.Drifting.{pos_name, drifting_book}
use Rattle.scene_cases.specs.declared.turns.values.Value.{Value}
use Rattle.scene_cases.specs.declared.turns.values.Value.TheVariants.{EntitiesValue, MarkersValue, AllocatorValue}
use Rattle.scene_cases.specs.Twice.{drifting_kinds}

-- nobody lives where none was born
none-lives : (indices generations index : ℕ) → living (none_born indices generations) index ≡ None
none-lives indices generations index = ap (λ b. living_of b None) (set.contains-empty nat_cmp index)

-- nothing is left of a list of which nothing passes
filter-none : {X : Type 0} (passes : X → Bool) → ((x : X) → passes x ≡ false) → (xs : List X) → filter passes xs ≡ []
filter-none passes none [] = refl
filter-none passes none (x ∷ xs) = ap (λ b. cond b (x ∷ filter passes xs) (filter passes xs)) (none x) ∙ filter-none passes none xs

-- no id is known where none is noted
no-index : (births : Births) (marker : ℕ → Option ℕ) (id : ℕ) → index_of (record { births = births; marker = marker; noting = none_noted }) id ≡ None
no-index births marker id = ap (option_and_then (index_if (record { births = births; marker = marker; noting = none_noted }) id)) (map.get-empty nat_cmp id)

module _ (w : Sight Value) (indices generations : ℕ) (markers : Masked (Flagged (VecStorage ℕ))) (unmarked : HasNone (marker_at markers))
    (entities_there : w (id_of 0 0) ≡ Some (EntitiesValue (none_born indices generations))) (markers_there : w (id_of 1 0) ≡ Some (MarkersValue markers))
    (allocator_there : w (id_of 2 0) ≡ Some (AllocatorValue none_noted)) (no_positions : w (id_of 4 0) ≡ None) (no_velocities : w (id_of 5 0) ≡ None) where
  -- who lives there
  abbrev bare_roll : Roll
  bare_roll = record { births = none_born indices generations; marker = marker_at markers; noting = none_noted }

  same-roll : roll_of drifting_kinds w ≡ bare_roll
  same-roll =
      ap (λ e. roll_in drifting_kinds e (w (id_of 1 0)) (w (id_of 2 0))) entities_there
      ∙ ap (λ m. roll_in drifting_kinds (Some (EntitiesValue (none_born indices generations))) m (w (id_of 2 0))) markers_there
      ∙ ap (λ a. roll_in drifting_kinds (Some (EntitiesValue (none_born indices generations))) (Some (MarkersValue markers)) a) allocator_there

  no-part : (id : ℕ) (kind : Name) → (plain_of drifting_kinds w).part id kind ≡ None
  no-part id kind = by (is_among kind drifting_kinds.part_names)
    where
      here : part_in (roll_of drifting_kinds w) (column_of drifting_kinds w kind) id ≡ None
      here = ap (λ r. part_in r (column_of drifting_kinds w kind) id) same-roll ∙ ap (option_and_then _) (no-index (none_born indices generations) (marker_at markers) id)

      by : (b : Bool) → cond b (part_in (roll_of drifting_kinds w) (column_of drifting_kinds w kind) id) None ≡ None
      by true = here
      by false = refl

  no-column : (kind : Name) → w (drifting_kinds.part_id kind) ≡ None
  no-column kind = by (bytes_eq kind pos_name)
    where
      by : (b : Bool) → w (cond b position_id velocity_id) ≡ None
      by true = no_positions
      by false = no_velocities

  no-ids : ids_in (roll_of drifting_kinds w) ≡ []
  no-ids = ap ids_in same-roll ∙ ap ascending (filter-none (λ id. is_some (index_of bare_roll id)) (λ id. ap is_some (no-index (none_born indices generations) (marker_at markers) id)) (map.keys bare_roll.noting.noted))

  -- its scene has no entity
  pub bare-scene : IsSceneWorld drifting_kinds drifting_book w
  bare-scene = record {
    entities = subst (λ v. IsSome (option_and_then drifting_kinds.births v)) (sym entities_there) refl;
    markers = subst IsSome (sym markers_there) refl;
    allocator = subst (λ v. IsSome (option_and_then drifting_kinds.noting v)) (sym allocator_there) refl;
    roll = subst IsRoll (sym same-roll) (record { marked = λ index life is. absurd (none (none-lives indices generations index) is); unmarked = λ index none. unmarked index });
    within = λ kind known index some. absurd (false≢true (subst (λ v. IsSome (option_and_then (λ v. drifting_kinds.stored kind v index) v)) (no-column kind) some));
    proper = record {
      ids = subst (IdsFit (plain_of drifting_kinds w).next) (sym no-ids) (record { ascend = λ i j d before within. absurd (omega arith); below = λ k d within. absurd (omega arith) });
      owned = λ id kind held is. absurd (none (no-part id kind) is);
      admitted = λ id kind held is. absurd (none (no-part id kind) is);
      living = λ id kind held lives is. absurd (none (no-part id kind) is);
      readable = λ name value is. cc;
    };
  }
    where
      none : {X : Type 0} {x : X} {o : Option X} → o ≡ None → o ≡ Some x → ⊥
      none e f = cc

-- ---- the world that holds these

read-there : (s : Slots Value) (q : ResourceId) (v : Value) → map.get s q ≡ Some (Some v) → seen_in (holding_of s) q ≡ Some v
read-there s q v is = ap (λ slot. readable (slot_of slot)) is

read-none : (s : Slots Value) (q : ResourceId) → map.get s q ≡ None → seen_in (holding_of s) q ≡ None
read-none s q is = ap (λ slot. readable (slot_of slot)) is

-- a queue that is put in stands elsewhere
kept : (s more : Slots Value) (position : ℕ) (queue : Value) (q : ResourceId) → more ≡ map.insert s (id_of 3 position) (Some queue) → eq_by_cmp id_cmp q (id_of 3 position) ≡ false → map.get more q ≡ map.get s q
kept s more position queue q is apart = ap (λ m. map.get m q) is ∙ map.get-insert ids_total s (id_of 3 position) (Some queue) q ∙ ap (λ b. cond b (Some (Some queue)) (map.get s q)) apart

-- entities, markers, the allocator and two queues, put into an empty world one after another
pub put-scene : (indices generations : ℕ) (markers : Masked (Flagged (VecStorage ℕ))) → HasNone (marker_at markers) → (one two three four five : Slots Value) (queue other : Value)
    → one ≡ map.insert map.empty (id_of 0 0) (Some (EntitiesValue (none_born indices generations))) → two ≡ map.insert one (id_of 1 0) (Some (MarkersValue markers)) → three ≡ map.insert two (id_of 2 0) (Some (AllocatorValue none_noted))
    → four ≡ map.insert three (id_of 3 1) (Some queue) → five ≡ map.insert four (id_of 3 2) (Some other) → IsSceneWorld drifting_kinds drifting_book (seen_in (holding_of five))
put-scene indices generations markers unmarked one two three four five queue other first second third fourth fifth =
    bare-scene (seen_in (holding_of five)) indices generations markers unmarked
    (read-there five (id_of 0 0) _ (by (id_of 0 0) refl refl)) (read-there five (id_of 1 0) _ (by (id_of 1 0) refl refl)) (read-there five (id_of 2 0) _ (by (id_of 2 0) refl refl))
    (read-none five (id_of 4 0) (by (id_of 4 0) refl refl ∙ map.get-empty id_cmp (id_of 4 0))) (read-none five (id_of 5 0) (by (id_of 5 0) refl refl ∙ map.get-empty id_cmp (id_of 5 0)))
  where
    nothing : Slots Value
    nothing = map.empty

    by : (q : ResourceId) → eq_by_cmp id_cmp q (id_of 3 1) ≡ false → eq_by_cmp id_cmp q (id_of 3 2) ≡ false
        → map.get five q ≡ cond (eq_by_cmp id_cmp q (id_of 2 0)) (Some (Some (AllocatorValue none_noted))) (cond (eq_by_cmp id_cmp q (id_of 1 0)) (Some (Some (MarkersValue markers)))
        (cond (eq_by_cmp id_cmp q (id_of 0 0)) (Some (Some (EntitiesValue (none_born indices generations)))) (map.get nothing q)))
    by q apart away =
        kept four five 2 other q fifth away ∙ kept three four 1 queue q fourth apart
        ∙ ap (λ m. map.get m q) third ∙ map.get-insert ids_total two (id_of 2 0) _ q
        ∙ ap (cond (eq_by_cmp id_cmp q (id_of 2 0)) _) (ap (λ m. map.get m q) second ∙ map.get-insert ids_total one (id_of 1 0) _ q
        ∙ ap (cond (eq_by_cmp id_cmp q (id_of 1 0)) _) (ap (λ m. map.get m q) first ∙ map.get-insert ids_total nothing (id_of 0 0) _ q))
