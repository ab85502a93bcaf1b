-- Who falls with an entity of a world, by the references that own their holders.
use Rattle.std.specs.Prelude.{◌≡◌, ℕ, true, List, [], ◌∷◌, map, Some, None, IsSome, option_and_then}
use Rattle.std.specs.List.{flat_map}
use Rattle.shred_world.specs.Worlds.{Slots}
use Rattle.specs_entity.specs.Life.{LifeAt}
use Rattle.specs_entity.specs.Closures.{IsClosure}
use Rattle.specs_markers.specs.Simple.{noted_under}
use Rattle.scene_model.specs.Parts.{Name}
use Rattle.scene_model.specs.Rulebook.{kill}
use Rattle.scene_model.specs.Scenes.{lives}
use Rattle.scene_model.specs.Deaths.{IsLeast, holds_on, without_each}
use Rattle.scene_model.specs.Commands.{apply, changed}
use Rattle.scene_world.specs.Standing.{Sight, Kinds, roll_of, column_of, owning_in, plain_of}
use Rattle.scene_world.specs.Putting.{named_in}
use Rattle.scene_commands.specs.Acts.{seen_of, entity_under, MayAct, StaysElsewhere, GoesOn}
use Rattle.scene_commands.specs.Elsewhere.{StaysBut}
use Rattle.scene_commands.specs.Gone.{AreHolders}
use Rattle.scene_commands.specs.declared.holders.Holders.{Holders}
use Rattle.scene_commands.specs.Links.{Holds}

module _ {V : Type 0} (kinds : Kinds V) where
  -- an entity with each that its part of a kind refers to
  abbrev pub pairs_under : Sight V → LifeAt → Name → List (LifeAt × LifeAt)
  pairs_under w entity kind = map (λ target. (entity, target)) (named_in (column_of kinds w kind entity.id))

  -- so of all its parts of some kinds
  abbrev pub pairs_of : Sight V → List Name → LifeAt → List (LifeAt × LifeAt)
  pairs_of w names entity = flat_map (pairs_under w entity) names

  -- and of all of some entities
  abbrev pub pairs_among : Sight V → List Name → List LifeAt → List (LifeAt × LifeAt)
  pairs_among w names entities = flat_map (pairs_of w names) entities

  -- some kinds have all the pairs that others have
  abbrev pub PairAlike : Sight V → List Name → List Name → Type 0
  PairAlike w some others = (entity : LifeAt) → pairs_of w some entity ≡ pairs_of w others entity

  -- pairs are those of all entities that live and refer to somebody
  pub record ArePairs (w : Sight V) (names : List Name) (pairs : List (LifeAt × LifeAt)) : Type 0 where
    pub all : List LifeAt
    pub living : AreHolders kinds w names all
    pub are : pairs ≡ pairs_among w names all

  -- the ids of a pair of entities that are marked are linked
  abbrev pub IsNoted : Sight V → Holders → LifeAt × LifeAt → Type 0
  IsNoted w holders pair = (holder target : ℕ) → (roll_of kinds w).marker pair.0.id ≡ Some holder → (roll_of kinds w).marker pair.1.id ≡ Some target → Holds holders.links.items holder target

  -- the same entities were born and live, and all else is as it was
  pub record KeepsEntities (w later : Sight V) : Type 0 where
    pub births : (roll_of kinds later).births ≡ (roll_of kinds w).births
    pub there : IsSome (option_and_then kinds.births (later kinds.entities_id))
    pub others : StaysBut kinds.entities_id w later

  -- these fall with an entity, and nobody has fallen yet
  pub record Falls (root : LifeAt) (pairs : List (LifeAt × LifeAt)) (w later : Sight V) (entities : List LifeAt) : Type 0 where
    pub closure : IsClosure (roll_of kinds w).births (root ∷ []) pairs entities
    pub keeps : KeepsEntities w later

  -- these ids die with the one under which an entity is known, and nobody has died yet
  pub record AreDying (root : LifeAt) (w later : Sight V) (ids : List ℕ) : Type 0 where
    pub least : (id : ℕ) → entity_under (roll_of kinds w) id ≡ Some root → IsLeast id (holds_on (owning_in kinds) (plain_of kinds w)) (λ one. lives one ids)
    pub keeps : KeepsEntities w later

  -- the entities under ids have died, one after another
  pub record HaveDied (ids : List ℕ) (w later : Slots V) : Type 0 where
    pub scene : plain_of kinds (seen_of later) ≡ without_each ids (plain_of kinds (seen_of w))
    pub forgotten : (id : ℕ) → lives id ids ≡ true → noted_under (roll_of kinds (seen_of later)).noting id ≡ None
    pub unnoted : (id : ℕ) → noted_under (roll_of kinds (seen_of w)).noting id ≡ None → noted_under (roll_of kinds (seen_of later)).noting id ≡ None
    pub may : MayAct kinds later
    pub elsewhere : StaysElsewhere kinds w later
    pub goes_on : GoesOn kinds w later

  -- an id was killed, with all that die with it
  pub record IsKilled (id : ℕ) (w later : Slots V) : Type 0 where
    pub acts : apply (owning_in kinds) (kill id) (plain_of kinds (seen_of w)) ≡ changed (plain_of kinds (seen_of later))
    pub forgotten : noted_under (roll_of kinds (seen_of later)).noting id ≡ None
    pub may : MayAct kinds later
    pub elsewhere : StaysElsewhere kinds w later
    pub goes_on : GoesOn kinds w later
