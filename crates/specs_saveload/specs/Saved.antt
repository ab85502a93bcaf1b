-- What is saved of the entities: for each living marked one its marker and its parts.
use Rattle.std.specs.Prelude.{◌≡◌, ◌++◌, ℕ, nat_eq, Bool, true, false, ◌&&◌, List, [], ◌∷◌, map, Option, Some, None, IsSome, if◌then◌else◌, option_and_then, option_map}
use Rattle.specs_entity.specs.Births.{Births, living}
use Rattle.specs_entity.specs.Life.{Life, LifeAt}
use Rattle.specs_saveload.specs.declared.entity_data.EntityData.{EntityData}
use Rattle.specs_join.specs.Joins.{join_list, both, living_entity}

-- two truth values are one
abbrev pub same_truth : Bool → Bool → Bool
same_truth true other = other
same_truth false true = false
same_truth false false = true

-- two lives have one number, and both are alive or both dead
abbrev pub same_birth : Life → Life → Bool
same_birth one other = nat_eq one.number other.number && same_truth one.lives other.lives

-- the marker of an entity, where it is alive and has one
abbrev pub name_of : {M : Type 0} → Births → (ℕ → Option M) → LifeAt → Option M
name_of births markers entity =
    option_and_then (λ life. if same_birth life entity.generation then markers entity.id else None) (living births entity.id)

-- the living marked entity of an index, with its marker
abbrev pub marked_at : {M : Type 0} → Births → (ℕ → Option M) → ℕ → Option (LifeAt × M)
marked_at births markers index = both (living_entity births index) (markers index)

-- all values of a list, where each is there
abbrev pub all_some : {X : Type 0} → List (Option X) → Option (List X)
all_some [] = Some []
all_some (first ∷ rest) = option_and_then (λ value. option_map (λ values. value ∷ values) (all_some rest)) first

-- what a part names, where there is one
abbrev pub named_in : {C N : Type 0} → (C → List N) → Option C → List N
named_in names None = []
named_in names (Some part) = names part

-- the data of a part, where there is one
abbrev pub plain_in : {C D : Type 0} → (C → Option D) → Option C → Option (Option D)
plain_in plain None = Some None
plain_in plain (Some part) = option_map Some (plain part)

-- what is saved of an entity with a marker: that, and the data of its parts
abbrev pub entry_of : {M D P : Type 0} → (P → Option D) → (ℕ → P) → LifeAt × M → Option (EntityData M D)
entry_of plain parts_at item = option_map (λ components. record { marker = item.1; components = components }) (plain (parts_at item.0.id))

-- what is saved: the living marked entities, ascending by index; none where a part of one names an entity that isn't alive or has no marker
abbrev pub saved : {M D P : Type 0} → ((LifeAt → Option M) → P → Option D) → (ℕ → P) → Births → (ℕ → Option M) → Option (List (EntityData M D))
saved plain parts_at births markers =
    all_some (map (entry_of (plain (name_of births markers)) parts_at) (join_list (marked_at births markers)))

-- a list has one entry more
pub record IsSavedNext {X : Type 0} (entry : Option X) (before after : List X) : Type 0 where
  pub value : X
  pub saved : entry ≡ Some value
  pub behind : after ≡ before ++ value ∷ []

-- an entry is what is saved of an entity, which is alive and has a marker
pub record IsEntryOf {M D P : Type 0} (plain : (LifeAt → Option M) → P → Option D) (parts_at : ℕ → P) (births : Births) (markers : ℕ → Option M) (entity : LifeAt) (entry : EntityData M D) : Type 0 where
  pub marked : name_of births markers entity ≡ Some entry.marker
  pub parts : plain (name_of births markers) (parts_at entity.id) ≡ Some entry.components

-- the parts of an entity that is alive and has a marker name one that isn't alive or has none
pub record NamesNone {M D P : Type 0} (plain : (LifeAt → Option M) → P → Option D) (parts_at : ℕ → P) (births : Births) (markers : ℕ → Option M) (entity : LifeAt) : Type 0 where
  pub marked : IsSome (name_of births markers entity)
  pub parts : plain (name_of births markers) (parts_at entity.id) ≡ None
