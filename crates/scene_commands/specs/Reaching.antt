-- Entities that are reached from one by those that refer to it, to those, and so on.
use Rattle.std.specs.Prelude.{◌≡◌, ◌<◌, ◌==◌, ◌&&◌, ℕ, Bool, true, List, ◌++◌, Some, is_some, nat_eq}
use Rattle.std.specs.List.{All, list_any, IsDistinct}
use Rattle.std.specs.HashSet.{HashSet, contains}
use Rattle.specs_entity.specs.Births.{Births, IsAlive, is_named, indices_of, living}
use Rattle.specs_entity.specs.Life.{LifeAt}
use Rattle.scene_model.specs.Parts.{Name}
use Rattle.scene_world.specs.Rolls.{is_life, index_of}
use Rattle.scene_world.specs.Standing.{Sight, Kinds, roll_of, column_of}
use Rattle.scene_world.specs.Putting.{named_in}

-- whether an entity is alive, at an index
abbrev pub stands_at : Births → ℕ → LifeAt → Bool
stands_at births index entity = is_life entity.generation (living births entity.id) && (entity.id == index)

-- whether one of some entities has, or had, an index
abbrev pub any_at : ℕ → List LifeAt → Bool
any_at index entities = list_any (λ entity. entity.id == index) entities

module _ {V : Type 0} (kinds : Kinds V) (w : Sight V) (names : List Name) where
  -- whether the parts of some kinds at an index refer to who lives at another
  abbrev pub refers_at : ℕ → ℕ → Bool
  refers_at holder target = list_any (λ kind. list_any (stands_at (roll_of kinds w).births target) (named_in (column_of kinds w kind holder))) names

  -- whether they refer to one that lives there, or did
  abbrev pub names_at : ℕ → ℕ → Bool
  names_at holder target = list_any (λ kind. any_at target (named_in (column_of kinds w kind holder))) names

  -- who is known under an id is among some entities, where it refers to who lives at an index
  abbrev pub HasUnder : List LifeAt → ℕ → ℕ → Type 0
  HasUnder entities target id = (index : ℕ) → index_of (roll_of kinds w) id ≡ Some index → refers_at index target ≡ true → is_named entities index ≡ true

  -- whoever lives and refers to who lives at an index is among some entities
  abbrev pub HasReferring : List LifeAt → ℕ → Type 0
  HasReferring entities target = (holder : ℕ) → is_some (living (roll_of kinds w).births holder) ≡ true → refers_at holder target ≡ true → is_named entities holder ≡ true

  -- entities are alive, one is among them, and with each those that refer to it
  pub record AreReached (root : LifeAt) (entities : List LifeAt) : Type 0 where
    pub alive : All (IsAlive (roll_of kinds w).births) entities
    pub first : is_named entities root.id ≡ true
    pub closed : (target : ℕ) → is_named entities target ≡ true → HasReferring entities target

-- a set has the indices of entities, each of which is listed once and in range
pub record Tells {S : Type 0} (seen : HashSet ℕ S) (entities : List LifeAt) : Type 0 where
  pub same : (index : ℕ) → contains nat_eq seen index ≡ is_named entities index
  pub once : IsDistinct (λ one other. one == other) (indices_of entities)
  pub below : (index : ℕ) → is_named entities index ≡ true → index < 16777216

-- a list goes on another, and what is new was passed by a test
abbrev pub GoesOnBy : (LifeAt → Type 0) → List LifeAt → List LifeAt → Type 0
GoesOnBy Passes old new = (more : List LifeAt) × (new ≡ old ++ more) × All Passes more
