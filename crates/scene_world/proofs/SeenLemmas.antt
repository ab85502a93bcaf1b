-- What a system sees of numbers and references in what it is lent.
use Rattle.std.proofs.Common.{◌≡◌, ℕ, Bool, true, false, cond, eqb, List, [], ◌∷◌, Option, Some, None, is_some, refl, ap, sym, ◌∙◌, subst}
use Rattle.std.specs.Prelude.{IsSome, option_and_then, option_map}
use Rattle.std.specs.List.{filter_map}
use Rattle.std.proofs.lemmas.Bool.{false≢true, eqb-true, eq-eqb}
use Rattle.std.proofs.lemmas.List.Elements.{All-head}
use Rattle.hibitset_sets.specs.BitSetEq.{both_ways}
use Rattle.shred_world.specs.Bundles.{Holding}
use Rattle.specs_entity.specs.Births.{living}
use Rattle.specs_entity.specs.Life.{LifeAt}
use Rattle.scene_model.specs.Parts.{Name, Part, is_among, living as reaching}
use Rattle.scene_model.specs.Rulebook.{Access, Fragment, declares}
use Rattle.scene_model.specs.Scenes.{RefLives, RefsLive}
use Rattle.scene_world.specs.Stored.{Stored, part_under}
use Rattle.scene_world.specs.Rolls.{Roll, is_life, reference, index_of, ids_in, id_at, ref_to, part_in, IsRoll}
use Rattle.scene_world.specs.Standing.{Kinds, seen_in, roll_of, column_of, fragment_of}
use Rattle.scene_world.specs.Stores.{store_part}
use Rattle.scene_world.specs.Columns.{Storage, column_in, storing, ids_having}
use Rattle.scene_world.specs.Numbers.{number_in, counting, number_of, id_named, reference_of, number_stored, reference_stored, number_at, first_named, entity_at, AreNumbers, AreReferences}
use Rattle.scene_world.proofs.RollLemmas.{lives-index, id-at-index, index-of-id}
use Rattle.scene_world.proofs.ColumnLemmas.{given-kept}

-- ---- what is stored

-- what holds of each part's holds of all that a storage of them stores
stored-each : {V T : Type 0} (P : Stored → Type 0) (stored : T → Stored) → ((part : T) → P (stored part)) → (part : V → Option (Storage T)) (held : Option V) (index : ℕ) (one : Stored)
    → option_and_then (λ v. column_in part (storing stored) v index) held ≡ Some one → P one
stored-each P stored each part None index one e = cc
stored-each {V} {T} P stored each part (Some v) index one e = by (part v) e
  where
    inside : (o : Option T) → option_map stored o ≡ Some one → P one
    inside None e = cc
    inside (Some a) e = let same : stored a ≡ one = cc in subst P same (each a)

    by : (o : Option (Storage T)) → option_and_then (λ s. storing stored s index) o ≡ Some one → P one
    by None e = cc
    by (Some s) e = inside (store_part s.inner.inner index) e

-- so are numbers, where each part is one, and references
pub plain-numbers : {V T : Type 0} (part : V → Option (Storage T)) (number : T → ℕ) (held : Option V)
    → AreNumbers (λ index. option_and_then (λ v. column_in part (storing (λ one. number_stored (number one))) v index) held)
plain-numbers part number held = stored-each (λ stored. (n : ℕ) × (number_stored n ≡ stored)) (λ one. number_stored (number one)) (λ one. (number one, refl)) part held

pub plain-references : {V T : Type 0} (part : V → Option (Storage T)) (entity : T → LifeAt) (held : Option V)
    → AreReferences (λ index. option_and_then (λ v. column_in part (storing (λ one. reference_stored (entity one))) v index) held)
plain-references part entity held = stored-each (λ stored. (one : LifeAt) × (reference_stored one ≡ stored)) (λ one. reference_stored (entity one)) (λ one. (entity one, refl)) part held

-- a number stands where something is stored
pub number-stands : (column : ℕ → Option Stored) → AreNumbers column → (index : ℕ) → is_some (number_at column index) ≡ is_some (column index)
number-stands column numbers index = by (column index) refl
  where
    by : (o : Option Stored) → column index ≡ o → is_some (option_and_then (λ stored. number_in (stored.written [])) o) ≡ is_some o
    by None e = refl
    by (Some stored) e = let one = numbers index stored e in subst (λ (s : Stored). is_some (number_in (s.written [])) ≡ true) one.1 refl

-- ---- whom a reference names

-- who is named is the one at the index of the id that is seen
pub record Reaches (roll : Roll) (entity : LifeAt) : Type 0 where
  pub id : ℕ
  pub seen : ref_to roll entity ≡ reaching id
  pub there : index_of roll id ≡ Some entity.id

-- a reference that names one who lives reaches him
pub reached : (roll : Roll) → IsRoll roll → (ids : List ℕ) (entity : LifeAt) → RefLives ids (ref_to roll entity) → Reaches roll entity
reached roll is ids entity lives_it = by (is_life entity.generation (living roll.births entity.id)) refl lives_it
  where
    at : is_life entity.generation (living roll.births entity.id) ≡ true → (o : Option ℕ) → id_at roll entity.id ≡ o → RefLives ids (reference o) → Reaches roll entity
    at alive None none refs = absurd refs
    at alive (Some id) some refs = record {
      id = id;
      seen = ap (λ b. reference (cond b (id_at roll entity.id) None)) alive ∙ ap reference some;
      there = index-of-id roll is id entity.id some;
    }

    by : (b : Bool) → is_life entity.generation (living roll.births entity.id) ≡ b → RefLives ids (reference (cond b (id_at roll entity.id) None)) → Reaches roll entity
    by true alive refs = at alive (id_at roll entity.id) refl refs
    by false dead refs = absurd refs

-- who is reached is the one at an index where the id that is seen is the one there
pub same-reached : (roll : Roll) (id index : ℕ) → index_of roll id ≡ Some index → (entity : LifeAt) (to : Reaches roll entity) → eqb index entity.id ≡ eqb id to.id
same-reached roll id index is entity to = both_ways (eqb index entity.id) (eqb id to.id)
    (λ e. let at : index ≡ entity.id = eqb-true index entity.id e in
    let both : Some id ≡ Some to.id = sym (id-at-index roll id index is) ∙ ap (id_at roll) at ∙ id-at-index roll to.id entity.id to.there in
    let same : id ≡ to.id = cc in eq-eqb id to.id same)
    (λ e. let same : id ≡ to.id = eqb-true id to.id e in
    let both : Some index ≡ Some entity.id = sym is ∙ ap (index_of roll) same ∙ to.there in
    let at : index ≡ entity.id = cc in eq-eqb index entity.id at)

-- ---- what is seen under a kind

module _ {V : Type 0} (kinds : Kinds V) (access : Access) (w : Holding V) (kind : Name) (known : is_among kind kinds.part_names ≡ true) (declared : declares access kind ≡ true) where
  abbrev roll : Roll
  roll = roll_of kinds (seen_in w)

  abbrev column : ℕ → Option Stored
  column = column_of kinds (seen_in w) kind

  abbrev lent : Fragment
  lent = fragment_of kinds access w

  -- the part of an id is what is stored at its index
  pub part-seen : (id : ℕ) → lent.part id kind ≡ option_and_then (λ index. option_map (part_under (ref_to roll)) (column index)) (index_of roll id)
  part-seen id = ap (λ b. cond b (cond (is_among kind kinds.part_names) (part_in roll column id) None) None) declared ∙ ap (λ b. cond b (part_in roll column id) None) known

  -- and so are numbers
  pub counting-seen : AreNumbers column → (id : ℕ) → lent.part id kind ≡ option_and_then (λ index. option_map counting (number_at column index)) (index_of roll id)
  counting-seen numbers id = part-seen id ∙ by (index_of roll id)
    where
      inside : (index : ℕ) (o : Option Stored) → column index ≡ o → option_map (part_under (ref_to roll)) o ≡ option_map counting (option_and_then (λ stored. number_in (stored.written [])) o)
      inside index None e = refl
      inside index (Some stored) e = let one = numbers index stored e in subst (λ (s : Stored). Some (part_under (ref_to roll) s) ≡ option_map counting (number_in (s.written []))) one.1 refl

      by : (o : Option ℕ) → option_and_then (λ index. option_map (part_under (ref_to roll)) (column index)) o ≡ option_and_then (λ index. option_map counting (number_at column index)) o
      by None = refl
      by (Some index) = inside index (column index) refl

  pub number-seen : AreNumbers column → (id : ℕ) → number_of lent kind id ≡ option_and_then (number_at column) (index_of roll id)
  number-seen numbers id = ap (option_and_then (λ (part : Part). number_in part.json)) (counting-seen numbers id) ∙ by (index_of roll id)
    where
      inside : (o : Option ℕ) → option_and_then (λ (part : Part). number_in part.json) (option_map counting o) ≡ o
      inside None = refl
      inside (Some n) = refl

      by : (o : Option ℕ) → option_and_then (λ (part : Part). number_in part.json) (option_and_then (λ index. option_map counting (number_at column index)) o) ≡ option_and_then (number_at column) o
      by None = refl
      by (Some index) = inside (number_at column index)

  module _ (references : AreReferences column) where
    -- what is stored where an entity is referred to, and where none is
    stored-reference : (index : ℕ) (entity : LifeAt) → entity_at column index ≡ Some entity → column index ≡ Some (reference_stored entity)
    stored-reference index entity e = by (column index) refl e
      where
        one_of : (stored : Stored) (one : LifeAt) → reference_stored one ≡ stored → first_named stored.named ≡ Some entity → Some stored ≡ Some (reference_stored entity)
        one_of stored one is f =
            let both : Some one ≡ Some entity = ap (λ (s : Stored). first_named s.named) is ∙ f in
            let same : one ≡ entity = cc in ap Some (sym is ∙ ap reference_stored same)

        by : (o : Option Stored) → column index ≡ o → option_and_then (λ stored. first_named stored.named) o ≡ Some entity → column index ≡ Some (reference_stored entity)
        by None e f = cc
        by (Some stored) e f = let one = references index stored e in e ∙ one_of stored one.0 one.1 f

    stored-none : (index : ℕ) → entity_at column index ≡ None → column index ≡ None
    stored-none index e = by (column index) refl e
      where
        by : (o : Option Stored) → column index ≡ o → option_and_then (λ stored. first_named stored.named) o ≡ None → column index ≡ None
        by None e f = e
        by (Some stored) e f =
            let one = references index stored e in
            let some : Some one.0 ≡ None = ap (λ (s : Stored). first_named s.named) one.1 ∙ f in cc

    -- an id refers to none where none is referred to at its index
    pub no-reference : (id : ℕ) → option_and_then (entity_at column) (index_of roll id) ≡ None → reference_of lent kind id ≡ None
    no-reference id none = ap (option_and_then (λ (part : Part). id_named part.refs)) (part-seen id) ∙ by (index_of roll id) none
      where
        by : (o : Option ℕ) → option_and_then (entity_at column) o ≡ None
            → option_and_then (λ (part : Part). id_named part.refs) (option_and_then (λ index. option_map (part_under (ref_to roll)) (column index)) o) ≡ None
        by None e = refl
        by (Some index) e = ap (λ o. option_and_then (λ (part : Part). id_named part.refs) (option_map (part_under (ref_to roll)) o)) (stored-none index e)

    -- and to the id of the one who is referred to
    pub reference-seen : IsRoll roll → RefsLive lent.ids lent.part → (id index : ℕ) (entity : LifeAt) → index_of roll id ≡ Some index → entity_at column index ≡ Some entity
        → (to : Reaches roll entity) × (reference_of lent kind id ≡ Some to.id)
    reference-seen is live id index entity at held = (to, ap (option_and_then (λ (part : Part). id_named part.refs)) part ∙ ap (λ ref. id_named (ref ∷ [])) to.seen)
      where
        part : lent.part id kind ≡ Some (part_under (ref_to roll) (reference_stored entity))
        part = part-seen id ∙ ap (option_and_then (λ index. option_map (part_under (ref_to roll)) (column index))) at ∙ ap (option_map (part_under (ref_to roll))) (stored-reference index entity held)

        to : Reaches roll entity
        to = reached roll is (ids_in roll) entity
            (All-head (RefLives (ids_in roll)) (ref_to roll entity) [] (live id kind (part_under (ref_to roll) (reference_stored entity)) (lives-index roll id ∙ ap is_some at) part))

-- ---- what is given by those who have a part

-- where something is given at no index without a part, those who have one give what all give
pub given-having : {X : Type 0} (roll : Roll) (column : ℕ → Option Stored) (give : ℕ → ℕ → Option X) → ((id index : ℕ) → column index ≡ None → give id index ≡ None)
    → filter_map (λ id. option_and_then (give id) (index_of roll id)) (ids_having roll column) ≡ filter_map (λ id. option_and_then (give id) (index_of roll id)) (ids_in roll)
given-having roll column give none = given-kept (λ id. option_and_then (give id) (index_of roll id)) (λ id. is_some (option_and_then column (index_of roll id))) (ids_in roll)
    (λ id some. by id (index_of roll id) some)
  where
    inside : (id index : ℕ) (o : Option Stored) → column index ≡ o → IsSome (give id index) → is_some (column index) ≡ true
    inside id index None e some = absurd (false≢true (sym (ap is_some (none id index e)) ∙ some))
    inside id index (Some stored) e some = ap is_some e

    by : (id : ℕ) (o : Option ℕ) → IsSome (option_and_then (give id) o) → is_some (option_and_then column o) ≡ true
    by id None some = absurd (false≢true some)
    by id (Some index) some = inside id index (column index) refl some
