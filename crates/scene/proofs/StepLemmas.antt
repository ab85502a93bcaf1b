-- What is seen at an index of two worlds, between which time went on and of which this index is alike.
use Rattle.std.proofs.Common.{◌≡◌, ◌<◌, ◌≤◌, ℕ, Bool, true, false, cond, ◌&&◌, ◌⊎◌, inl, inr, nat_lt, List, [], ◌∷◌, map, All, Option, Some, None, is_some, option_map, refl, ap, sym, ◌∙◌, arith}
use Rattle.std.proofs.lemmas.Bool.{false≢true, true≢false}
use Rattle.std.proofs.lemmas.List.Elements.{All-head, All-tail}
use Rattle.specs_entity.specs.Births.{IsAlive, living}
use Rattle.specs_entity.specs.Life.{Life, LifeAt}
use Rattle.specs_layouts.specs.Channels.{Log, unread}
use Rattle.specs_layouts.specs.Blocks.{is_named}
use Rattle.specs_layouts.specs.Shows.{index_of, Names}
use Rattle.specs_layouts.specs.declared.track.ComponentEvent.{ComponentEvent}
use Rattle.scene_model.specs.Parts.{Name, is_among}
use Rattle.scene_model.specs.Rulebook.{Book}
use Rattle.scene_model.specs.Scenes.{RefLives}
use Rattle.scene_world.specs.Ages.{Ages}
use Rattle.scene_world.specs.Stored.{Stored, part_under, part_with}
use Rattle.scene_world.specs.Rolls.{Roll, IsRoll, id_at, ids_in, ref_to, reference, is_life}
use Rattle.scene_world.specs.Standing.{Sight, Kinds, roll_of, column_of, IsSceneWorld}
use Rattle.scene_world.specs.Telling.{is_told}
use Rattle.scene_world.proofs.CallerLemmas.{living-lives, same-life, life-is}
use Rattle.scene.specs.Keeping.{IsBelow}
use Rattle.scene.specs.Taken.{part_at}
use Rattle.scene.proofs.KeepLemmas.{stored-live, some-of}

-- ---- who lives, and references

-- the id at an index is the one with which it is marked
pub id-marked : (roll : Roll) → IsRoll roll → (index : ℕ) → id_at roll index ≡ roll.marker index
id-marked roll is index = by (living roll.births index) refl
  where
    by : (life : Option Life) → living roll.births index ≡ life → cond (is_some life) (roll.marker index) None ≡ roll.marker index
    by None none = sym (is.unmarked index none)
    by (Some life) there = refl

-- a reference to somebody who lives is that of an entity that is alive
reached-alive : (roll : Roll) (ids : List ℕ) (entity : LifeAt) → RefLives ids (ref_to roll entity) → IsAlive roll.births entity
reached-alive roll ids entity = by (living roll.births entity.id) refl
  where
    at : (life : Life) → living roll.births entity.id ≡ Some life → (b : Bool) → is_life entity.generation (Some life) ≡ b → RefLives ids (reference (cond b (id_at roll entity.id) None)) → IsAlive roll.births entity
    at life there true is reaches = there ∙ ap Some (life-is entity.generation life (living-lives roll.births entity.id life there) is)
    at life there false is reaches = absurd reaches

    by : (o : Option Life) → living roll.births entity.id ≡ o → RefLives ids (reference (cond (is_life entity.generation o) (id_at roll entity.id) None)) → IsAlive roll.births entity
    by None there reaches = absurd reaches
    by (Some life) there reaches = at life there (is_life entity.generation (Some life)) refl reaches

-- and reaches the id with which its index is marked
alive-ref : (roll : Roll) (entity : LifeAt) → IsAlive roll.births entity → ref_to roll entity ≡ reference (roll.marker entity.id)
alive-ref roll entity alive =
    ap (λ life. reference (cond (is_life entity.generation life) (cond (is_some life) (roll.marker entity.id) None) None)) alive
    ∙ ap (λ b. reference (cond b (roll.marker entity.id) None)) (same-life entity.generation (living-lives roll.births entity.id entity.generation alive))

-- so as time goes on, references that reach somebody before and after are the same
refs-stay : (before after : Roll) → Ages before after → (ids later_ids : List ℕ) (named : List LifeAt) → All (RefLives ids) (map (ref_to before) named) → All (RefLives later_ids) (map (ref_to after) named)
    → map (ref_to after) named ≡ map (ref_to before) named
refs-stay before after ages ids later_ids [] was is = refl
refs-stay before after ages ids later_ids (entity ∷ named) was is =
    let alive = reached-alive before ids entity (All-head (RefLives ids) (ref_to before entity) (map (ref_to before) named) was) in
    let still = reached-alive after later_ids entity (All-head (RefLives later_ids) (ref_to after entity) (map (ref_to after) named) is) in
    let one : ref_to after entity ≡ ref_to before entity = alive-ref after entity still ∙ ap reference (ages.ids entity alive still) ∙ sym (alive-ref before entity alive) in
    let others : map (ref_to after) named ≡ map (ref_to before) named =
    refs-stay before after ages ids later_ids named (All-tail (RefLives ids) (ref_to before entity) (map (ref_to before) named) was) (All-tail (RefLives later_ids) (ref_to after entity) (map (ref_to after) named) is) in
    ap (λ first. first ∷ map (ref_to after) named) one ∙ ap (λ rest. ref_to before entity ∷ rest) others

-- ---- what is told

-- an index that is told is one that a set can have
pub told-below : (log : Log ComponentEvent) (reader index : ℕ) → is_told log reader index ≡ true → index < 16777216
told-below log reader index = by (nat_lt index 16777216) refl
  where
    by : (b : Bool) → nat_lt index 16777216 ≡ b → (b && is_named index_of (unread log reader) index) ≡ true → index < 16777216
    by true low told = grind (arith, low)
    by false high told = absurd (false≢true told)

-- an index of which a reader has yet to read an event is told, where a set can have it
named-told : (log : Log ComponentEvent) (reader index : ℕ) → index < 16777216 → Names (unread log reader) index → is_told log reader index ≡ true
named-told log reader index low named =
    let below : nat_lt index 16777216 ≡ true = grind (arith, low) in
    ap (λ b. b && is_named index_of (unread log reader) index) below ∙ named

-- ---- an index that is told of no change

module _ {V : Type 0} (kinds : Kinds V) (book : Book) (w later : Sight V) (stands : IsSceneWorld kinds book w) (still : IsSceneWorld kinds book later) (below : IsBelow kinds w) (beneath : IsBelow kinds later) where
  -- nobody lives past what a set can have,
  none-past : (v : Sight V) → IsBelow kinds v → (index : ℕ) → 16777216 ≤ index → id_at (roll_of kinds v) index ≡ None
  none-past v low index past = by (id_at (roll_of kinds v) index) refl
    where
      by : (o : Option ℕ) → id_at (roll_of kinds v) index ≡ o → o ≡ None
      by None none = refl
      by (Some id) there = let under = low index (ap is_some there) in absurd (omega (arith, past, under))

  -- and no part stands there
  part-past : (v : Sight V) → IsSceneWorld kinds book v → IsBelow kinds v → (kind : Name) → is_among kind kinds.part_names ≡ true → (index : ℕ) → 16777216 ≤ index → column_of kinds v kind index ≡ None
  part-past v is low kind known index past = by (column_of kinds v kind index) refl
    where
      by : (o : Option Stored) → column_of kinds v kind index ≡ o → o ≡ None
      by None none = refl
      by (Some stored) there =
          let life = some-of (living (roll_of kinds v).births index) (is.within kind known index (ap is_some there)) in
          let marked = let roll = is.roll in roll.marked index life.0 life.1 in
          let at : id_at (roll_of kinds v) index ≡ Some marked.0 = ap (λ o. cond (is_some o) ((roll_of kinds v).marker index) None) life.1 ∙ (let one = marked.1 in one.marker) in
          let under = low index (ap is_some at) in
          absurd (omega (arith, past, under))

  -- at an index whose marker is not told the same id is borne
  pub id-stays : (log : Log ComponentEvent) (reader index : ℕ) → ((roll_of kinds later).marker index ≡ (roll_of kinds w).marker index) ⊎ Names (unread log reader) index → is_told log reader index ≡ false
      → id_at (roll_of kinds later) index ≡ id_at (roll_of kinds w) index
  id-stays log reader index either untold = elim either [
    | inl same ↦ id-marked (roll_of kinds later) still.roll index ∙ same ∙ sym (id-marked (roll_of kinds w) stands.roll index)
    | inr named ↦ by (nat_lt index 16777216) refl named
  ]
    where
      by : (b : Bool) → nat_lt index 16777216 ≡ b → Names (unread log reader) index → id_at (roll_of kinds later) index ≡ id_at (roll_of kinds w) index
      by true low named = let under : index < 16777216 = grind (arith, low) in absurd (true≢false (sym (named-told log reader index under named) ∙ untold))
      by false high named = let past : 16777216 ≤ index = grind (arith, high) in none-past later beneath index past ∙ sym (none-past w below index past)

  module _ (kind : Name) (known : is_among kind kinds.part_names ≡ true) where
    -- and at one whose part is not told the same is stored,
    column-stays : (log : Log ComponentEvent) (reader index : ℕ) → (column_of kinds later kind index ≡ column_of kinds w kind index) ⊎ Names (unread log reader) index → is_told log reader index ≡ false
        → column_of kinds later kind index ≡ column_of kinds w kind index
    column-stays log reader index either untold = elim either [
      | inl same ↦ same
      | inr named ↦ by (nat_lt index 16777216) refl named
    ]
      where
        by : (b : Bool) → nat_lt index 16777216 ≡ b → Names (unread log reader) index → column_of kinds later kind index ≡ column_of kinds w kind index
        by true low named = let under : index < 16777216 = grind (arith, low) in absurd (true≢false (sym (named-told log reader index under named) ∙ untold))
        by false high named = let past : 16777216 ≤ index = grind (arith, high) in part-past later still beneath kind known index past ∙ sym (part-past w stands below kind known index past)

    -- which as time goes on is the same part
    read-stays : Ages (roll_of kinds w) (roll_of kinds later) → (index : ℕ) (before after : Option Stored) → column_of kinds w kind index ≡ before → column_of kinds later kind index ≡ after → after ≡ before
        → option_map (part_under (ref_to (roll_of kinds later))) after ≡ option_map (part_under (ref_to (roll_of kinds w))) before
    read-stays ages index None None was is same = refl
    read-stays ages index None (Some one) was is same = cc
    read-stays ages index (Some one) None was is same = cc
    read-stays ages index (Some one) (Some two) was is same =
        let there : column_of kinds later kind index ≡ Some one = is ∙ same in
        ap (option_map (part_under (ref_to (roll_of kinds later)))) same
        ∙ ap (λ refs. Some (part_with one.written refs))
        (refs-stay (roll_of kinds w) (roll_of kinds later) ages (ids_in (roll_of kinds w)) (ids_in (roll_of kinds later)) one.named
        (stored-live kinds book w stands kind known index one was) (stored-live kinds book later still kind known index one there))

    pub part-stays : Ages (roll_of kinds w) (roll_of kinds later) → (log : Log ComponentEvent) (reader index : ℕ) → (column_of kinds later kind index ≡ column_of kinds w kind index) ⊎ Names (unread log reader) index
        → is_told log reader index ≡ false → part_at kinds later index kind ≡ part_at kinds w index kind
    part-stays ages log reader index either untold = read-stays ages index (column_of kinds w kind index) (column_of kinds later kind index) refl refl (column-stays log reader index either untold)
