-- Entities that fall with others: the least set of those that live which has some roots and, with each target, all that hold on to it.
use Rattle.std.specs.Prelude.{◌≡◌, ◌<◌, ◌⊎◌, ℕ, Bool, true, List, length, take}
use Rattle.std.specs.List.{All, Any, AllPairs, HoldsAt}
use Rattle.specs_entity.specs.declared.ids.Entity.{Entity}
use Rattle.specs_entity.specs.declared.errors.WrongGeneration.{WrongGeneration}
use Rattle.specs_entity.specs.declared.errors.Error.{Error}
use Rattle.specs_entity.specs.declared.errors.Error.TheVariants as variant
use Rattle.specs_entity.specs.Births.{Births, IsAlive, is_named, wrong_generation}

-- a set has the roots and, with each of its members, all that hold on to it
pub record IsClosed (roots : ℕ → Bool) (Holds : ℕ → ℕ → Type 0) (members : ℕ → Bool) : Type 0 where
  pub roots_in : (root : ℕ) → roots root ≡ true → members root ≡ true
  pub holders_in : (holder target : ℕ) → Holds holder target → members target ≡ true → members holder ≡ true

-- it is the least such set: every other has each of its members
pub record IsLeast (roots : ℕ → Bool) (Holds : ℕ → ℕ → Type 0) (members : ℕ → Bool) : Type 0 where
  pub closed : IsClosed roots Holds members
  pub least : (others : ℕ → Bool) → IsClosed roots Holds others → (index : ℕ) → members index ≡ true → others index ≡ true

-- a pair is of a holder and a target that live, at these indices
abbrev pub IsPairAt : Births → ℕ → ℕ → Entity × Entity → Type 0
IsPairAt births holder target pair = IsAlive births pair.0 × IsAlive births pair.1 × (pair.0.id ≡ holder) × (pair.1.id ≡ target)

-- one of the pairs is so; a pair with a dead end counts for nothing
abbrev pub IsPaired : Births → List (Entity × Entity) → ℕ → ℕ → Type 0
IsPaired births pairs holder target = Any (IsPairAt births holder target) pairs

-- roots are alive, and entities that live, ascending by index, are the least set that has them and, with each target, the holders paired with it
pub record IsClosure (births : Births) (roots : List Entity) (pairs : List (Entity × Entity)) (entities : List Entity) : Type 0 where
  pub rooted : All (IsAlive births) roots
  pub alive : All (IsAlive births) entities
  pub ascend : AllPairs (λ one other. one.id < other.id) entities
  pub least : IsLeast (is_named roots) (IsPaired births pairs) (is_named entities)

-- the entities before a place are alive, and the one there isn't
pub record IsFirstDead (births : Births) (entities : List Entity) (place : ℕ) : Type 0 where
  pub before : All (IsAlive births) (take place entities)
  pub inside : place < length entities
  pub dead : HoldsAt (λ entity. ¬ (IsAlive births entity)) entities place

-- what a closure is refused for: the first root that isn't alive, or, where all are, want of memory
abbrev pub RefusesClosure : Births → List Entity → Error → Type 0
RefusesClosure births roots error =
    ((place : ℕ) × IsFirstDead births roots place × HoldsAt (λ entity. (refusal : WrongGeneration) × wrong_generation births entity refusal × (error ≡ variant.WrongGeneration refusal)) roots place)
    ⊎ ((error ≡ variant.Memory) × All (IsAlive births) roots)
