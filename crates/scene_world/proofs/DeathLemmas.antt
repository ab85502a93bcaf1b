-- What the death of an entity makes of a scene.
use Rattle.std.proofs.Common.{◌≡◌, ◌<◌, ℕ, Bool, true, false, not, cond, eqb, ◌&&◌, List, [], ◌∷◌, map, Option, Some, None, filter, refl, ap, sym, ◌∙◌, subst}
use Rattle.std.specs.Prelude.{is_some, option_and_then, option_map, IsSome}
use Rattle.std.specs.List.{list_any}
use Rattle.std.proofs.lemmas.Bool.{true≢false, eqb-true, eq-eqb}
use Rattle.std.proofs.lemmas.List.Kept.{AllPairs-filter}
use Rattle.serde_json.specs.Data.{null}
use Rattle.specs_entity.specs.Births.{living}
use Rattle.specs_entity.specs.Life.{Life, LifeAt}
use Rattle.specs_markers.specs.Simple.{noted_under}
use Rattle.scene_model.specs.Parts.{Json, Name, Ref, living as reaching, gone, Part, is_among}
use Rattle.scene_model.specs.Scenes.{lives}
use Rattle.scene_model.specs.Deaths.{is_to, without_ref, part_without, without}
use Rattle.scene_model.proofs.CallerLemmas.{same_scene, same-ids, lives-kept, now-gone, not-there}
use Rattle.scene_world.specs.Stored.{Stored, ids_reached, part_with, part_under}
use Rattle.scene_world.specs.Rolls.{Roll, is_life, reference, id_at, ids_in, index_of, ref_to, part_in, IsMarked, IsRoll}
use Rattle.scene_world.specs.Standing.{Sight, Kinds, roll_of, column_of, value_of, plain_of, IsWithin}
use Rattle.scene_world.specs.Changes.{but_at, Buries}
use Rattle.scene_world.proofs.RollLemmas.{id-at-index, index-of-id, lives-index, ids-ascend, ids-differ}
use Rattle.scene_world.proofs.PartLemmas.{at-one, at-other, one-id}

-- ---- references

-- one id
abbrev only : ℕ → ℕ → Bool
only id other = eqb other id

-- a part whose references to the dead are gone is one that lost them
pub lost-part : (written : List ℕ → Json) (dead : ℕ → Bool) (refs : List Ref) → part_with written (map (without_ref dead) refs) ≡ part_without dead (part_with written refs)
lost-part written dead refs = by (list_any (is_to dead) refs) refl
  where
    by : (b : Bool) → list_any (is_to dead) refs ≡ b → part_with written (map (without_ref dead) refs) ≡ part_without dead (part_with written refs)
    by true e =
        ap (λ b. let x : Part = record { json = cond b null (written (ids_reached (map (without_ref dead) refs))); refs = map (without_ref dead) refs } in x) (now-gone dead refs e)
        ∙ ap (λ b. let x : Part = record { json = cond b null (part_with written refs).json; refs = map (without_ref dead) refs } in x) (sym e)
    by false e =
        ap (part_with written) (not-there dead refs e)
        ∙ ap (λ l. let x : Part = record { json = (part_with written refs).json; refs = l } in x) (sym (not-there dead refs e))
        ∙ ap (λ b. let x : Part = record { json = cond b null (part_with written refs).json; refs = map (without_ref dead) refs } in x) (sym e)

map-map : {A B C : Type 0} (f : B → C) (g : A → B) (h : A → C) → ((a : A) → h a ≡ f (g a)) → (xs : List A) → map h xs ≡ map f (map g xs)
map-map f g h same [] = refl
map-map f g h same (x ∷ xs) = ap (λ y. y ∷ map h xs) (same x) ∙ ap (λ l. f (g x) ∷ l) (map-map f g h same xs)

-- ---- the roll

module _ (old new : Roll) (was : IsRoll old) (id index : ℕ) (there : id_at old index ≡ Some id)
    (dies : (at : ℕ) → living new.births at ≡ but_at index None (living old.births) at)
    (marker : (at : ℕ) → new.marker at ≡ but_at index None old.marker at)
    (noted : (other : ℕ) → noted_under new.noting other ≡ but_at id None (noted_under old.noting) other) where
  id-left : (at : ℕ) → id_at new at ≡ but_at index None (id_at old) at
  id-left at =
      ap (λ l. cond (is_some l) (new.marker at) None) (dies at)
      ∙ ap (λ m. cond (is_some (but_at index None (living old.births) at)) m None) (marker at)
      ∙ by (eqb at index)
    where
      by : (b : Bool) → cond (is_some (cond b None (living old.births at))) (cond b None (old.marker at)) None ≡ cond b None (id_at old at)
      by true = refl
      by false = refl

  was-there : (other at : ℕ) → id_at new at ≡ Some other → (id_at old at ≡ Some other) × (at ≡ index → ⊥)
  was-there other at e = by (eqb at index) refl (sym (id-left at) ∙ e)
    where
      by : (b : Bool) → eqb at index ≡ b → cond b None (id_at old at) ≡ Some other → (id_at old at ≡ Some other) × (at ≡ index → ⊥)
      by true same e = cc
      by false differ e = (e, λ same. true≢false (sym (eq-eqb at index same) ∙ differ))

  -- another index has another id
  other-id : (at one : ℕ) (life : Life) → living old.births at ≡ Some life → old.marker at ≡ Some one → eqb at index ≡ false → (b : Bool) → eqb one id ≡ b → eqb one id ≡ false
  other-id at one life lives_it marks differ false e = e
  other-id at one life lives_it marks differ true e =
      let stands : id_at old at ≡ Some id = ap (λ l. cond (is_some l) (old.marker at) None) lives_it ∙ marks ∙ ap Some (eqb-true one id e) in
      absurd (true≢false (sym (eq-eqb at index (ids-differ old was at index id stands there)) ∙ differ))

  -- who is left is on a roll as before
  pub roll-left : IsRoll new
  roll-left = record {
    marked = λ at life lives_it. marks at life (eqb at index) refl (sym (dies at) ∙ lives_it);
    unmarked = λ at none. free at (eqb at index) refl (sym (dies at) ∙ none);
  }
    where
      marks : (at : ℕ) (life : Life) (b : Bool) → eqb at index ≡ b → cond (eqb at index) None (living old.births at) ≡ Some life → (one : ℕ) × IsMarked new at life one
      marks at life true same e = absurd (none (sym (ap (λ b. cond b None (living old.births at)) same) ∙ e))
        where
          none : ◌≡◌ {A = Option Life} None (Some life) → ⊥
          none f = cc
      marks at life false differ e =
          let had = was.marked at life (sym (ap (λ b. cond b None (living old.births at)) differ) ∙ e) in (
            had.0,
            record {
              marker = marker at ∙ ap (λ b. cond b None (old.marker at)) differ ∙ had.1.marker;
              noted =
                  noted had.0
                  ∙ ap (λ b. cond b None (noted_under old.noting had.0)) (other-id at had.0 life (sym (ap (λ b. cond b None (living old.births at)) differ) ∙ e) had.1.marker differ (eqb had.0 id) refl)
                  ∙ had.1.noted;
            },
          )

      free : (at : ℕ) (b : Bool) → eqb at index ≡ b → cond (eqb at index) None (living old.births at) ≡ None → new.marker at ≡ None
      free at true same e = marker at ∙ ap (λ b. cond b None (old.marker at)) same
      free at false differ e = marker at ∙ ap (λ b. cond b None (old.marker at)) differ ∙ was.unmarked at (sym (ap (λ b. cond b None (living old.births at)) differ) ∙ e)

  pub index-left : (other : ℕ) → index_of new other ≡ but_at id None (index_of old) other
  index-left other = by (eqb other id) refl
    where
      none-now : (o : Option ℕ) → index_of new other ≡ o → other ≡ id → o ≡ None
      none-now None e same = refl
      none-now (Some at) e same = let found = was-there other at (id-at-index new other at e) in absurd (found.1 (ids-differ old was at index id (found.0 ∙ ap Some same) there))

      same-now : (o : Option ℕ) → index_of old other ≡ o → (other ≡ id → ⊥) → index_of new other ≡ o
      same-now (Some at) e differ = index-of-id new roll-left other at
          (id-left at ∙ at-other index at None (id_at old) (λ same. differ (one-id old other id at index (id-at-index old other at e) there same)) ∙ id-at-index old other at e)
      same-now None e differ = none (index_of new other) refl
        where
          none : (o : Option ℕ) → index_of new other ≡ o → index_of new other ≡ None
          none None f = f
          none (Some at) f = let found : index_of old other ≡ Some at = index-of-id old was other at (was-there other at (id-at-index new other at f)).0 in cc

      by : (b : Bool) → eqb other id ≡ b → index_of new other ≡ but_at id None (index_of old) other
      by true same = none-now (index_of new other) refl (eqb-true other id same) ∙ ap (λ b. cond b None (index_of old other)) (sym same)
      by false differ = same-now (index_of old other) refl (λ e. true≢false (sym (eq-eqb other id e) ∙ differ)) ∙ ap (λ b. cond b None (index_of old other)) (sym differ)

  -- the ids that are left
  pub ids-left : ids_in new ≡ filter (λ other. not (eqb other id)) (ids_in old)
  ids-left = same-ids _ _ (ids-ascend new) (AllPairs-filter (λ one other. one < other) (λ other. not (eqb other id)) (ids_in old) (ids-ascend old))
      (λ other. lives-index new other ∙ ap is_some (index-left other) ∙ by (eqb other id) (index_of old other)
      ∙ ap (λ b. b && not (eqb other id)) (sym (lives-index old other)) ∙ sym (lives-kept (λ some. not (eqb some id)) other (ids_in old)))
    where
      by : (b : Bool) (o : Option ℕ) → is_some (cond b None o) ≡ (is_some o && not b)
      by true None = refl
      by true (Some at) = refl
      by false None = refl
      by false (Some at) = refl

  -- references to it are gone, and the others stay
  pub ref-left : (entity : LifeAt) → ref_to new entity ≡ without_ref (only id) (ref_to old entity)
  ref-left entity = by (eqb entity.id index) refl
    where
      to-it : (b : Bool) (o : Option ℕ) → o ≡ Some id → gone ≡ without_ref (only id) (reference (cond b o None))
      to-it true o e = subst (λ x. gone ≡ without_ref (only id) (reference x)) (sym e) (ap (λ b. cond b gone (reaching id)) (sym (eq-eqb id id refl)))
      to-it false o e = refl

      kept : (b : Bool) (o : Option ℕ) → (o ≡ Some id → ⊥) → reference (cond b o None) ≡ without_ref (only id) (reference (cond b o None))
      kept true None e = refl
      kept true (Some other) e = by-id (eqb other id) refl
        where
          by-id : (b : Bool) → eqb other id ≡ b → reaching other ≡ cond (eqb other id) gone (reaching other)
          by-id true same = absurd (e (ap Some (eqb-true other id same)))
          by-id false differ = ap (λ b. cond b gone (reaching other)) (sym differ)
      kept false o e = refl

      by : (b : Bool) → eqb entity.id index ≡ b → ref_to new entity ≡ without_ref (only id) (ref_to old entity)
      by true same =
          ap (λ l. reference (cond (is_life entity.generation l) (id_at new entity.id) None)) (dies entity.id ∙ at-one index entity.id None (living old.births) (eqb-true entity.id index same))
          ∙ to-it (is_life entity.generation (living old.births entity.id)) (id_at old entity.id) (ap (id_at old) (eqb-true entity.id index same) ∙ there)
      by false differ =
          let apart : entity.id ≡ index → ⊥ = λ e. true≢false (sym (eq-eqb entity.id index e) ∙ differ) in
          ap (λ l. reference (cond (is_life entity.generation l) (id_at new entity.id) None)) (dies entity.id ∙ at-other index entity.id None (living old.births) apart)
          ∙ ap (λ o. reference (cond (is_life entity.generation (living old.births entity.id)) o None)) (id-left entity.id ∙ at-other index entity.id None (id_at old) apart)
          ∙ kept (is_life entity.generation (living old.births entity.id)) (id_at old entity.id) (λ e. apart (ids-differ old was entity.id index id e there))

  -- no part is left of it, and the parts of the others lost their references to it
  module _ (column now : ℕ → Option Stored) (drops : (at : ℕ) → now at ≡ but_at index None column at) where
    pub part-left : (other : ℕ) → part_in new now other ≡ but_at id None (λ one. option_map (part_without (only id)) (part_in old column one)) other
    part-left other = ap (option_and_then (λ i. option_map (part_under (ref_to new)) (now i))) (index-left other) ∙ by (eqb other id) refl
      where
        lost : (k : Option Stored) → option_map (part_under (ref_to new)) k ≡ option_map (part_without (only id)) (option_map (part_under (ref_to old)) k)
        lost None = refl
        lost (Some stored) = ap Some (ap (part_with stored.written) (map-map (without_ref (only id)) (ref_to old) (ref_to new) ref-left stored.named) ∙ lost-part stored.written (only id) (map (ref_to old) stored.named))

        others : (o : Option ℕ) → index_of old other ≡ o → (other ≡ id → ⊥)
            → option_and_then (λ i. option_map (part_under (ref_to new)) (now i)) o ≡ option_map (part_without (only id)) (option_and_then (λ i. option_map (part_under (ref_to old)) (column i)) o)
        others None e differ = refl
        others (Some at) e differ =
            ap (option_map (part_under (ref_to new))) (drops at ∙ at-other index at None column (λ same. differ (one-id old other id at index (id-at-index old other at e) there same)))
            ∙ lost (column at)

        by : (b : Bool) → eqb other id ≡ b → option_and_then (λ i. option_map (part_under (ref_to new)) (now i)) (but_at id None (index_of old) other)
            ≡ but_at id None (λ one. option_map (part_without (only id)) (part_in old column one)) other
        by true same =
            ap (option_and_then (λ i. option_map (part_under (ref_to new)) (now i))) (ap (λ b. cond b None (index_of old other)) same)
            ∙ ap (λ b. cond b None (option_map (part_without (only id)) (part_in old column other))) (sym same)
        by false differ =
            ap (option_and_then (λ i. option_map (part_under (ref_to new)) (now i))) (ap (λ b. cond b None (index_of old other)) differ)
            ∙ others (index_of old other) refl (λ e. true≢false (sym (eq-eqb other id e) ∙ differ))
            ∙ ap (λ b. cond b None (option_map (part_without (only id)) (part_in old column other))) (sym differ)

    -- and none stands where nobody lives
    pub within-left : ((at : ℕ) → IsSome (column at) → IsSome (living old.births at)) → (at : ℕ) → IsSome (now at) → IsSome (living new.births at)
    within-left within at = by (eqb at index) refl
      where
        by : (b : Bool) → eqb at index ≡ b → IsSome (now at) → IsSome (living new.births at)
        by true same = λ some. absurd (none (now at) (drops at ∙ ap (λ b. cond b None (column at)) same) some)
          where
            none : {A : Type 0} (o : Option A) → o ≡ None → IsSome o → ⊥
            none None e some = cc
            none (Some a) e some = cc
        by false differ = λ some.
            subst (λ l. IsSome l) (sym (dies at ∙ ap (λ b. cond b None (living old.births at)) differ))
            (within at (subst (λ k. IsSome k) (drops at ∙ ap (λ b. cond b None (column at)) differ) some))

-- ---- the scene

-- an id that is marked at an index lives in the scene
pub buried-lived : {V : Type 0} (kinds : Kinds V) (w : Sight V) → IsRoll (roll_of kinds w) → (id index : ℕ) → id_at (roll_of kinds w) index ≡ Some id → lives id (plain_of kinds w).ids ≡ true
buried-lived kinds w was id index there = lives-index (roll_of kinds w) id ∙ ap is_some (index-of-id (roll_of kinds w) was id index there)

module _ {V : Type 0} (kinds : Kinds V) (w w2 : Sight V) (was : IsRoll (roll_of kinds w)) (id index : ℕ) (there : id_at (roll_of kinds w) index ≡ Some id) (buries : Buries kinds id index w w2) where
  pub buried-roll : IsRoll (roll_of kinds w2)
  buried-roll = roll-left (roll_of kinds w) (roll_of kinds w2) was id index there buries.lives buries.marker buries.noted

  -- the scene is the one before without it
  pub buried-scene : plain_of kinds w2 ≡ without (only id) (plain_of kinds w)
  buried-scene = same_scene _ _ buries.next
      (ids-left (roll_of kinds w) (roll_of kinds w2) was id index there buries.lives buries.marker buries.noted)
      (λ other kind. part other kind (is_among kind kinds.part_names) refl) (λ name. value name (is_among name kinds.global_names) refl)
    where
      value : (name : Name) (b : Bool) → is_among name kinds.global_names ≡ b → cond b (value_of kinds w2 name) None ≡ cond b (value_of kinds w name) None
      value name true is = buries.values name is
      value name false is = refl

      part : (other : ℕ) (kind : Name) (b : Bool) → is_among kind kinds.part_names ≡ b → cond b (part_in (roll_of kinds w2) (column_of kinds w2 kind) other) None
          ≡ cond (eqb other id) None (option_map (part_without (only id)) (cond b (part_in (roll_of kinds w) (column_of kinds w kind) other) None))
      part other kind true is = part-left (roll_of kinds w) (roll_of kinds w2) was id index there buries.lives buries.marker buries.noted (column_of kinds w kind) (column_of kinds w2 kind) (buries.parts kind is) other
      part other kind false is = none (eqb other id)
        where
          none : (b : Bool) → None ≡ cond b None (option_map (part_without (only id)) None)
          none true = refl
          none false = refl

  pub buried-within : (kind : Name) → is_among kind kinds.part_names ≡ true → IsWithin kinds (roll_of kinds w) (column_of kinds w kind) → IsWithin kinds (roll_of kinds w2) (column_of kinds w2 kind)
  buried-within kind known within = within-left (roll_of kinds w) (roll_of kinds w2) was id index there buries.lives buries.marker buries.noted (column_of kinds w kind) (column_of kinds w2 kind) (buries.parts kind known) within
