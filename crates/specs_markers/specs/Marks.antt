-- Which entities bear a marker, and what an allocator notes of them.
use Rattle.std.specs.Prelude.{◌≡◌, ◌≢◌, ◌≤◌, ℕ, Option, Some, None, option_map, MatchOption}
use Rattle.specs_entity.specs.Births.{Births, IsAlive}
use Rattle.specs_entity.specs.Life.{LifeAt}

-- that entity is noted under an id after, and under each other id the one that was before
pub record Notes {I : Type 0} (before : I → Option LifeAt) (id : I) (entity : LifeAt) (after : I → Option LifeAt) : Type 0 where
  pub here : after id ≡ Some entity
  pub others : (other : I) → other ≢ id → after other ≡ before other

-- where an id is asked for, it is that one
abbrev pub IsAsked : {I : Type 0} → Option I → I → Type 0
IsAsked None given = Unit {0}
IsAsked (Some asked) given = given ≡ asked

module _ {M I : Type 0} (id_of : M → I) (births : Births) (markers : ℕ → Option M) (id : I) where
  -- an entity is alive and bears a marker with that id
  pub record IsMarked (entity : LifeAt) : Type 0 where
    pub alive : IsAlive births entity
    pub bears : option_map id_of (markers entity.id) ≡ Some id

  -- among those it has the greatest index
  pub record IsLastMarked (entity : LifeAt) : Type 0 where
    pub marked : IsMarked entity
    pub last : (other : LifeAt) → IsMarked other → other.id ≤ entity.id

  -- what is noted under the id, where living marked entities alone are noted
  abbrev pub IsNoteOfLast : Option LifeAt → Type 0
  IsNoteOfLast found = MatchOption found ((entity : LifeAt) → ¬ (IsMarked entity)) IsLastMarked
