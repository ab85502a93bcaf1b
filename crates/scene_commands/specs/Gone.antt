-- References that are gone in a world: who holds one.
use Rattle.std.specs.Prelude.{◌≡◌, ◌≤◌, ◌==◌, ◌⊎◌, ℕ, Bool, true, false, List, [], ◌∷◌, Option, Some, None, option_map, All}
use Rattle.std.specs.List.{list_any}
use Rattle.specs_entity.specs.Births.{Births, IsAlive}
use Rattle.specs_entity.specs.Life.{LifeAt}
use Rattle.scene_model.specs.Parts.{Name}
use Rattle.scene_model.specs.Commands.{holds_gone}
use Rattle.scene_world.specs.Stored.{part_under}
use Rattle.scene_world.specs.Putting.{named_in}
use Rattle.scene_world.specs.Rolls.{ref_to}
use Rattle.scene_world.specs.Standing.{Kinds, Sight, roll_of, column_of}

-- a list has each entity that lives, and none that doesn't
pub record AreLiving (births : Births) (entities : List LifeAt) : Type 0 where
  pub alive : All (IsAlive births) entities
  pub all : (entity : LifeAt) → IsAlive births entity → list_any (λ one. one.id == entity.id) entities ≡ true

-- a number is there, and it is at most another
abbrev pub IsAtMost : Option ℕ → ℕ → Type 0
IsAtMost None other = ⊥
IsAtMost (Some number) other = number ≤ other

-- one of what may be a number and another is at most both, and is one of them
pub record IsLesser (least : Option ℕ) (id : ℕ) (result : Option ℕ) : Type 0 where
  pub other : IsAtMost result id
  pub before : (number : ℕ) → least ≡ Some number → IsAtMost result number
  pub one : (number : ℕ) → result ≡ Some number → (number ≡ id) ⊎ (least ≡ Some number)

-- where it counts, a number is the lesser of what may be a number and another; else it stays
abbrev pub IsLesserIf : Bool → Option ℕ → ℕ → Option ℕ → Type 0
IsLesserIf true least id result = IsLesser least id result
IsLesserIf false least id result = result ≡ least

-- whether a part at an index under one of some kinds refers to somebody who is gone
abbrev pub any_gone : {V : Type 0} → Kinds V → Sight V → List Name → ℕ → Bool
any_gone kinds w names index = list_any (λ kind. holds_gone (option_map (part_under (ref_to (roll_of kinds w))) (column_of kinds w kind index))) names

-- whether somebody is named
abbrev pub names_some : List LifeAt → Bool
names_some [] = false
names_some (entity ∷ entities) = true

-- whether a part at an index under one of some kinds refers to somebody
abbrev pub refers_among : {V : Type 0} → Kinds V → Sight V → List Name → ℕ → Bool
refers_among kinds w names index = list_any (λ kind. names_some (named_in (column_of kinds w kind index))) names

-- a list has entities that live, and each who lives at an index of a set
pub record AreLivingAt (births : Births) (members : ℕ → Bool) (entities : List LifeAt) : Type 0 where
  pub alive : All (IsAlive births) entities
  pub all : (entity : LifeAt) → IsAlive births entity → members entity.id ≡ true → list_any (λ one. one.id == entity.id) entities ≡ true

-- a list has entities that live, and each who refers to somebody by a part of one of some kinds
abbrev pub AreHolders : {V : Type 0} → Kinds V → Sight V → List Name → List LifeAt → Type 0
AreHolders kinds w names entities = AreLivingAt (roll_of kinds w).births (refers_among kinds w names) entities
