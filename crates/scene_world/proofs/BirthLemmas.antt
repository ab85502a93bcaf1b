-- What the birth of an entity makes of a scene.
use Rattle.std.proofs.Common.{◌≡◌, ◌<◌, ◌+◌, ℕ, Bool, true, false, cond, eqb, ◌||◌, List, [], ◌∷◌, ◌++◌, map, Option, Some, None, All, refl, ap, sym, ◌∙◌, subst, arith}
use Rattle.std.specs.Prelude.{is_some, option_and_then, option_map, IsSome, max}
use Rattle.std.specs.List.{list_all}
use Rattle.std.specs.FinMap as map
use Rattle.std.specs.Cmp.{nat_cmp_total}
use Rattle.std.proofs.lemmas.Bool.{true≢false, false≢true, eqb-true, eq-eqb}
use Rattle.std.proofs.lemmas.List.Elements.{All-head, All-tail}
use Rattle.specs_entity.specs.Births.{living}
use Rattle.specs_entity.specs.Life.{Life, LifeAt}
use Rattle.specs_markers.specs.Simple.{Noting, allocated, noted_under}
use Rattle.scene_model.specs.Parts.{Name, Part, is_among, under}
use Rattle.scene_model.specs.Rulebook.{spawn}
use Rattle.scene_model.specs.Scenes.{PlainScene, lives}
use Rattle.scene_model.specs.Commands.{apply, changed, skipped, ids_spent, refs_live, last_next}
use Rattle.scene_model.proofs.CallerLemmas.{same_scene, same-ids, is_eq-nat_cmp, lives-behind, behind-ascends}
use Rattle.scene_world.specs.Stored.{Stored, part_with, part_under}
use Rattle.scene_world.specs.Rolls.{Roll, is_life, reference, id_at, ids_in, index_of, ref_to, part_in, IsMarked, IsRoll}
use Rattle.scene_world.specs.Standing.{Sight, Kinds, roll_of, column_of, value_of, plain_of, IsWithin}
use Rattle.scene_world.specs.Changes.{but_at, IsAnother, IsUnnamed, Bears}
use Rattle.scene_world.proofs.RollLemmas.{eqb-turned, id-at-index, index-of-id, lives-index, ids-ascend, id-lives}
use Rattle.scene_world.proofs.PartLemmas.{at-one, at-other}

some-there : {A : Type 0} (a : A) → IsSome (Some a)
some-there a = refl

-- an id that lives among ids below a number is below it
pub lives-below : (next id : ℕ) (ids : List ℕ) → All (λ one. one < next) ids → lives id ids ≡ true → id < next
lives-below next id [] below e = absurd (false≢true e)
lives-below next id (x ∷ ids) below e = by (eqb x id) refl e (lives-below next id ids (All-tail (λ one. one < next) x ids below))
  where
    by : (b : Bool) → eqb x id ≡ b → (b || lives id ids) ≡ true → (lives id ids ≡ true → id < next) → id < next
    by true same e later = subst (λ one. one < next) (eqb-true x id same) (All-head (λ one. one < next) x ids below)
    by false differ e later = later e

module _ (old new : Roll) (was : IsRoll old) (next : ℕ) (below : All (λ id. id < next) (ids_in old)) (entity : LifeAt) (free : living old.births entity.id ≡ None)
    (born : (at : ℕ) → living new.births at ≡ but_at entity.id (Some entity.generation) (living old.births) at)
    (marker : (at : ℕ) → new.marker at ≡ but_at entity.id (Some next) old.marker at)
    (notes : (id : ℕ) → noted_under new.noting id ≡ but_at next (Some entity) (noted_under old.noting) id) where
  id-born : (at : ℕ) → id_at new at ≡ but_at entity.id (Some next) (id_at old) at
  id-born at =
      ap (λ l. cond (is_some l) (new.marker at) None) (born at)
      ∙ ap (λ m. cond (is_some (but_at entity.id (Some entity.generation) (living old.births) at)) m None) (marker at)
      ∙ by (eqb at entity.id)
    where
      by : (b : Bool) → cond (is_some (cond b (Some entity.generation) (living old.births at))) (cond b (Some next) (old.marker at)) None ≡ cond b (Some next) (id_at old at)
      by true = refl
      by false = refl

  -- who had an id before has another than the new one
  old-id : (id at : ℕ) → id_at old at ≡ Some id → id ≡ next → ⊥
  old-id id at e same =
      let there : lives id (ids_in old) ≡ true = lives-index old id ∙ ap is_some (index-of-id old was id at e) in
      let less : id < next = lives-below next id (ids_in old) below there in
      absurd (omega (arith, less, same))

  -- an id is the new one at the new index, or one from before
  pub data Where (id at : ℕ) : Type 0 where
    here : at ≡ entity.id → id ≡ next → Where id at
    elsewhere : (at ≡ entity.id → ⊥) → id_at old at ≡ Some id → Where id at

  where-is : (id at : ℕ) → id_at new at ≡ Some id → Where id at
  where-is id at e = by (eqb at entity.id) refl (sym (id-born at) ∙ e)
    where
      by : (b : Bool) → eqb at entity.id ≡ b → cond b (Some next) (id_at old at) ≡ Some id → Where id at
      by true same e = here (eqb-true at entity.id same) (let f : next ≡ id = cc in sym f)
      by false differ e = elsewhere (λ same. true≢false (sym (eq-eqb at entity.id same) ∙ differ)) e

  pub roll-born : IsRoll new
  roll-born = record {
    marked = λ at life lives_it. marks at life (eqb at entity.id) refl (sym (born at) ∙ lives_it);
    unmarked = λ at none. unmarks at (eqb at entity.id) refl (sym (born at) ∙ none);
  }
    where
      marks : (at : ℕ) (life : Life) (b : Bool) → eqb at entity.id ≡ b → cond (eqb at entity.id) (Some entity.generation) (living old.births at) ≡ Some life → (id : ℕ) × IsMarked new at life id
      marks at life true same e =
          let is : Some entity.generation ≡ Some life = sym (ap (λ b. cond b (Some entity.generation) (living old.births at)) same) ∙ e in
          let generation : entity.generation ≡ life = cc in (
            next,
            record {
              marker = marker at ∙ ap (λ b. cond b (Some next) (old.marker at)) same;
              noted = notes next ∙ at-one next next (Some entity) (noted_under old.noting) refl
                  ∙ ap (λ i. let x : Option LifeAt = Some (record { id = i; generation = entity.generation }) in x) (sym (eqb-true at entity.id same))
                  ∙ ap (λ g. let x : Option LifeAt = Some (record { id = at; generation = g }) in x) generation;
            },
          )
      marks at life false differ e =
          let lived : living old.births at ≡ Some life = sym (ap (λ b. cond b (Some entity.generation) (living old.births at)) differ) ∙ e in
          let had = was.marked at life lived in (
            had.0,
            record {
              marker = marker at ∙ ap (λ b. cond b (Some next) (old.marker at)) differ ∙ had.1.marker;
              noted = notes had.0 ∙ at-other next had.0 (Some entity) (noted_under old.noting)
                  (old-id had.0 at (ap (λ l. cond (is_some l) (old.marker at) None) lived ∙ had.1.marker)) ∙ had.1.noted;
            },
          )

      unmarks : (at : ℕ) (b : Bool) → eqb at entity.id ≡ b → cond (eqb at entity.id) (Some entity.generation) (living old.births at) ≡ None → new.marker at ≡ None
      unmarks at true same e = absurd (some (sym (ap (λ b. cond b (Some entity.generation) (living old.births at)) same) ∙ e))
        where
          some : Some entity.generation ≡ None → ⊥
          some f = cc
      unmarks at false differ e = marker at ∙ ap (λ b. cond b (Some next) (old.marker at)) differ ∙ was.unmarked at (sym (ap (λ b. cond b (Some entity.generation) (living old.births at)) differ) ∙ e)

  index-born : (other : ℕ) → index_of new other ≡ but_at next (Some entity.id) (index_of old) other
  index-born other = by (eqb other next) refl
    where
      found : other ≡ next → index_of new other ≡ Some entity.id
      found same = index-of-id new roll-born other entity.id (id-born entity.id ∙ at-one entity.id entity.id (Some next) (id_at old) refl ∙ ap Some (sym same))

      same-now : (o : Option ℕ) → index_of old other ≡ o → (other ≡ next → ⊥) → index_of new other ≡ o
      same-now (Some at) e differ = index-of-id new roll-born other at
          (id-born at ∙ at-other entity.id at (Some next) (id_at old) apart ∙ id-at-index old other at e)
        where
          apart : at ≡ entity.id → ⊥
          apart same = let there : is_some (living old.births at) ≡ true = id-lives old other at (id-at-index old other at e) in
              true≢false (sym there ∙ ap (λ i. is_some (living old.births i)) same ∙ ap is_some free)
      same-now None e differ = none (index_of new other) refl
        where
          none : (o : Option ℕ) → index_of new other ≡ o → index_of new other ≡ None
          none None f = f
          none (Some at) f = was-none (where-is other at (id-at-index new other at f))
            where
              was-none : Where other at → index_of new other ≡ None
              was-none (here here_it same) = absurd (differ same)
              was-none (elsewhere apart is) = let found : index_of old other ≡ Some at = index-of-id old was other at is in cc

      by : (b : Bool) → eqb other next ≡ b → index_of new other ≡ but_at next (Some entity.id) (index_of old) other
      by true same = found (eqb-true other next same) ∙ ap (λ b. cond b (Some entity.id) (index_of old other)) (sym same)
      by false differ = same-now (index_of old other) refl (λ e. true≢false (sym (eq-eqb other next e) ∙ differ)) ∙ ap (λ b. cond b (Some entity.id) (index_of old other)) (sym differ)

  pub ids-born : ids_in new ≡ ids_in old ++ next ∷ []
  ids-born = same-ids _ _ (ids-ascend new) (behind-ascends next (ids_in old) (ids-ascend old) below)
      (λ other. lives-index new other ∙ ap is_some (index-born other) ∙ by other (eqb other next) refl (index_of old other) (lives-index old other) ∙ sym (lives-behind other next (ids_in old)))
    where
      turned : (a b : ℕ) (t : Bool) → eqb a b ≡ t → eqb b a ≡ t
      turned a b true e = eq-eqb b a (sym (eqb-true a b e))
      turned a b false e = back (eqb b a) refl
        where
          back : (t : Bool) → eqb b a ≡ t → eqb b a ≡ false
          back true f = absurd (true≢false (sym (eq-eqb a b (sym (eqb-true b a f))) ∙ e))
          back false f = f

      by : (other : ℕ) (b : Bool) → eqb other next ≡ b → (o : Option ℕ) → lives other (ids_in old) ≡ is_some o → is_some (cond b (Some entity.id) o) ≡ (lives other (ids_in old) || eqb next other)
      by other true same o there = sym (ap (λ t. lives other (ids_in old) || t) (turned other next true same) ∙ or-true (lives other (ids_in old)))
        where
          or-true : (t : Bool) → (t || true) ≡ true
          or-true true = refl
          or-true false = refl
      by other false differ o there = sym there ∙ sym (ap (λ t. lives other (ids_in old) || t) (turned other next false differ) ∙ or-false (lives other (ids_in old)))
        where
          or-false : (t : Bool) → (t || false) ≡ t
          or-false true = refl
          or-false false = refl

  -- another entity is the reference that it was
  ref-born : (one : LifeAt) → IsAnother entity one → ref_to new one ≡ ref_to old one
  ref-born one another = by (eqb one.id entity.id) refl another
    where
      by : (b : Bool) → eqb one.id entity.id ≡ b → cond b (is_life one.generation (Some entity.generation)) false ≡ false → ref_to new one ≡ ref_to old one
      by true same isnt =
          ap (λ l. reference (cond (is_life one.generation l) (id_at new one.id) None)) (born one.id ∙ ap (λ b. cond b (Some entity.generation) (living old.births one.id)) same)
          ∙ ap (λ t. reference (cond t (id_at new one.id) None)) isnt
          ∙ sym (ap (λ l. reference (cond (is_life one.generation l) (id_at old one.id) None)) (ap (living old.births) (eqb-true one.id entity.id same) ∙ free))
      by false differ isnt =
          ap (λ l. reference (cond (is_life one.generation l) (id_at new one.id) None)) (born one.id ∙ ap (λ b. cond b (Some entity.generation) (living old.births one.id)) differ)
          ∙ ap (λ o. reference (cond (is_life one.generation (living old.births one.id)) o None)) (id-born one.id ∙ ap (λ b. cond b (Some next) (id_at old one.id)) differ)

  refs-born : (named : List LifeAt) → All (IsAnother entity) named → map (ref_to new) named ≡ map (ref_to old) named
  refs-born [] all = refl
  refs-born (one ∷ named) all =
      ap (λ r. r ∷ map (ref_to new) named) (ref-born one (All-head (IsAnother entity) one named all))
      ∙ ap (λ l. ref_to old one ∷ l) (refs-born named (All-tail (IsAnother entity) one named all))

  module _ (parts : Option Stored) (column now : ℕ → Option Stored) (puts : (at : ℕ) → now at ≡ but_at entity.id parts column at) (unnamed : IsUnnamed entity now) where
    stored-born : (at : ℕ) (k : Option Stored) → now at ≡ k → option_map (part_under (ref_to new)) k ≡ option_map (part_under (ref_to old)) k
    stored-born at None e = refl
    stored-born at (Some stored) e = ap (λ refs. Some (part_with stored.written refs)) (refs-born stored.named (unnamed at stored e))

    -- its part is what was put there, and those of the others stay
    pub part-born : (other : ℕ) → part_in new now other ≡ but_at next (option_map (part_under (ref_to old)) parts) (part_in old column) other
    part-born other = ap (option_and_then (λ i. option_map (part_under (ref_to new)) (now i))) (index-born other) ∙ by (eqb other next) refl
      where
        at-index : (at : ℕ) → option_map (part_under (ref_to new)) (now at) ≡ option_map (part_under (ref_to old)) (now at)
        at-index at = stored-born at (now at) refl

        others : (o : Option ℕ) → index_of old other ≡ o → option_and_then (λ i. option_map (part_under (ref_to new)) (now i)) o ≡ option_and_then (λ i. option_map (part_under (ref_to old)) (column i)) o
        others None e = refl
        others (Some at) e = at-index at ∙ ap (option_map (part_under (ref_to old))) (puts at ∙ at-other entity.id at parts column apart)
          where
            apart : at ≡ entity.id → ⊥
            apart same = let there : is_some (living old.births at) ≡ true = id-lives old other at (id-at-index old other at e) in
                true≢false (sym there ∙ ap (λ i. is_some (living old.births i)) same ∙ ap is_some free)

        by : (b : Bool) → eqb other next ≡ b → option_and_then (λ i. option_map (part_under (ref_to new)) (now i)) (but_at next (Some entity.id) (index_of old) other)
            ≡ but_at next (option_map (part_under (ref_to old)) parts) (part_in old column) other
        by true same =
            ap (option_and_then (λ i. option_map (part_under (ref_to new)) (now i))) (ap (λ b. cond b (Some entity.id) (index_of old other)) same)
            ∙ at-index entity.id ∙ ap (option_map (part_under (ref_to old))) (puts entity.id ∙ at-one entity.id entity.id parts column refl)
            ∙ ap (λ b. cond b (option_map (part_under (ref_to old)) parts) (part_in old column other)) (sym same)
        by false differ =
            ap (option_and_then (λ i. option_map (part_under (ref_to new)) (now i))) (ap (λ b. cond b (Some entity.id) (index_of old other)) differ)
            ∙ others (index_of old other) refl
            ∙ ap (λ b. cond b (option_map (part_under (ref_to old)) parts) (part_in old column other)) (sym differ)

    -- and none stands where nobody lives
    pub within-born : ((at : ℕ) → IsSome (column at) → IsSome (living old.births at)) → (at : ℕ) → IsSome (now at) → IsSome (living new.births at)
    within-born within at = by (eqb at entity.id) refl
      where
        by : (b : Bool) → eqb at entity.id ≡ b → IsSome (now at) → IsSome (living new.births at)
        by true same = λ some. subst (λ l. IsSome l) (sym (born at ∙ ap (λ b. cond b (Some entity.generation) (living old.births at)) same)) (some-there entity.generation)
        by false differ = λ some.
            subst (λ l. IsSome l) (sym (born at ∙ ap (λ b. cond b (Some entity.generation) (living old.births at)) differ))
            (within at (subst (λ k. IsSome k) (puts at ∙ ap (λ b. cond b parts (column at)) differ) some))

-- ---- the scene

-- what is noted where the next id was given
pub next-noted : (noting : Noting) (entity : LifeAt) (id : ℕ) → noted_under (allocated noting entity None) id ≡ but_at noting.next (Some entity) (noted_under noting) id
next-noted noting entity id =
    map.get-insert nat_cmp_total noting.noted noting.next entity id
    ∙ ap (λ b. cond b (Some entity) (noted_under noting id)) (is_eq-nat_cmp id noting.next ∙ eqb-turned noting.next id)

-- what is noted where what stood under an id was taken out
pub noted-forgotten : (noting : Noting) (id other : ℕ) → map.get (map.remove noting.noted id) other ≡ but_at id None (noted_under noting) other
noted-forgotten noting id other =
    map.get-remove nat_cmp_total noting.noted id other
    ∙ ap (λ b. cond b None (noted_under noting other)) (is_eq-nat_cmp other id ∙ eqb-turned id other)

pub next-after : (next : ℕ) → max next (next + 1) ≡ next + 1
next-after next = omega arith

module _ {V : Type 0} (kinds : Kinds V) (w w2 : Sight V) (was : IsRoll (roll_of kinds w)) (below : All (λ id. id < (roll_of kinds w).noting.next) (ids_in (roll_of kinds w)))
    (entity : LifeAt) (parts : Name → Option Stored) (bears : Bears kinds entity parts w w2) where
  abbrev next : ℕ
  next = (roll_of kinds w).noting.next

  notes : (id : ℕ) → noted_under (roll_of kinds w2).noting id ≡ but_at next (Some entity) (noted_under (roll_of kinds w).noting) id
  notes id = ap (λ n. noted_under n id) bears.noting ∙ next-noted (roll_of kinds w).noting entity id

  pub born-roll : IsRoll (roll_of kinds w2)
  born-roll = roll-born (roll_of kinds w) (roll_of kinds w2) was next below entity bears.free bears.lives bears.marker notes

  pub born-within : (kind : Name) → is_among kind kinds.part_names ≡ true → IsWithin kinds (roll_of kinds w) (column_of kinds w kind) → IsWithin kinds (roll_of kinds w2) (column_of kinds w2 kind)
  born-within kind known within = within-born (roll_of kinds w) (roll_of kinds w2) was next below entity bears.free bears.lives bears.marker notes
      (parts kind) (column_of kinds w kind) (column_of kinds w2 kind) (bears.parts_so kind known) (bears.unnamed kind known) within

  -- the scene is what a spawn of these parts makes of the one before
  pub born-scene : (owning : List Name) (given : List (Name × Part)) → list_all (λ entry. refs_live (plain_of kinds w).ids entry.1) given ≡ true → eqb next last_next ≡ false
      → ((kind : Name) → under kind given ≡ cond (is_among kind kinds.part_names) (option_map (part_under (ref_to (roll_of kinds w))) (parts kind)) None)
      → apply owning (spawn given) (plain_of kinds w) ≡ changed (plain_of kinds w2)
  born-scene owning given live left same =
      ap (λ b. cond b (cond (eqb next last_next) ids_spent (changed with_it)) skipped) live
      ∙ ap (λ b. cond b ids_spent (changed with_it)) left ∙ ap changed (sym scene)
    where
      with_it : PlainScene
      with_it = record {
        next = next + 1;
        ids = ids_in (roll_of kinds w) ++ next ∷ [];
        part = λ id kind. cond (eqb id next) (under kind given) ((plain_of kinds w).part id kind);
        global = (plain_of kinds w).global;
      }

      value : (name : Name) (b : Bool) → is_among name kinds.global_names ≡ b → cond b (value_of kinds w2 name) None ≡ cond b (value_of kinds w name) None
      value name true is = bears.values name is
      value name false is = refl

      part : (other : ℕ) (kind : Name) (b : Bool) → is_among kind kinds.part_names ≡ b → cond b (part_in (roll_of kinds w2) (column_of kinds w2 kind) other) None
          ≡ cond (eqb other next) (cond b (option_map (part_under (ref_to (roll_of kinds w))) (parts kind)) None) (cond b (part_in (roll_of kinds w) (column_of kinds w kind) other) None)
      part other kind true is = part-born (roll_of kinds w) (roll_of kinds w2) was next below entity bears.free bears.lives bears.marker notes
          (parts kind) (column_of kinds w kind) (column_of kinds w2 kind) (bears.parts_so kind is) (bears.unnamed kind is) other
      part other kind false is = none (eqb other next)
        where
          none : (b : Bool) → ◌≡◌ {A = Option Part} None (cond b None None)
          none true = refl
          none false = refl

      scene : plain_of kinds w2 ≡ with_it
      scene = same_scene _ _ (ap (λ n. n.next) bears.noting ∙ next-after next)
          (ids-born (roll_of kinds w) (roll_of kinds w2) was next below entity bears.free bears.lives bears.marker notes)
          (λ other kind. part other kind (is_among kind kinds.part_names) refl ∙ ap (λ p. cond (eqb other next) p ((plain_of kinds w).part other kind)) (sym (same kind)))
          (λ name. value name (is_among name kinds.global_names) refl)
