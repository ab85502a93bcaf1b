-- Which marks are made of those who are asked for, one after the other, and what a refusal leaves of them.
use Rattle.std.specs.Prelude.{◌≡◌, ◌⊎◌, ◌++◌, ℕ, List, [], ◌∷◌, Option, Some, flat_map, is_some, length, map, slice_get, take}
use Rattle.specs_entity.specs.Births.{Births, IsAlive}
use Rattle.specs_entity.specs.Life.{LifeAt}
use Rattle.specs_entity.specs.declared.errors.Error.{Error}
use Rattle.specs_layouts.specs.Masked.{Masked}
use Rattle.specs_layouts.specs.MaskedLends.{StorageMembers}
use Rattle.specs_markers.specs.Marking.{IsUntold, KeepsMark, MakesMark, RefusesMark}
use Rattle.specs_saveload.specs.declared.entity_data.EntityData.{EntityData}
use Rattle.specs_saveload.specs.Reached.{IsReached, Order, marked_first, named_entry}
use Rattle.specs_saveload.specs.Saved.{all_some}

-- what gives markers, and the storage that has them
pub record Marking (A S : Type 0) : Type 0 where
  pub allocator : A
  pub markers : Masked S

abbrev pub marking_of : {A S : Type 0} → A → Masked S → Marking A S
marking_of allocator markers = record { allocator = allocator; markers = markers }

-- those whom the entities of an order before a place name, in the order in which they are asked for
abbrev pub asked_before : (names : LifeAt → List LifeAt) → Order → ℕ → List LifeAt
asked_before names order place = flat_map names (take place order.entities)

module _ {A S M I : Type 0} (noted : A → I → Option LifeAt) (allocates : A → LifeAt → Option I → M → A → Type 0) (id_of : M → I) (s : StorageMembers S M) (births : Births) where
  -- a living entity was asked for: it keeps its marker, or is given a new one
  abbrev pub AsksFor : LifeAt → Marking A S → Marking A S → Type 0
  AsksFor entity before after =
      KeepsMark noted allocates id_of s births entity before.allocator after.allocator before.markers after.markers
      ⊎ MakesMark noted allocates id_of s births entity before.allocator after.allocator before.markers after.markers

  -- so were those of a list, one after the other
  abbrev pub AsksEach : List LifeAt → Marking A S → Marking A S → Type 0
  AsksEach [] before after = after ≡ before
  AsksEach (entity ∷ rest) before after = (between : Marking A S) × AsksFor entity before between × AsksEach rest between after

  -- the next of a list got no marker, and no index another than before
  pub record RefusesNext (refuses : A → Option I → Error → Type 0) (left : List LifeAt) (error : Error) (before after : Marking A S) : Type 0 where
    pub next : LifeAt
    pub rest : List LifeAt
    pub first : left ≡ next ∷ rest
    pub alive : IsAlive births next
    pub why : RefusesMark noted allocates id_of refuses next before.allocator after.allocator error
    pub untold : IsUntold s before.markers after.markers

  -- of a list, some were asked for, and then the next was refused or nothing was done
  pub record AsksSome (refuses : A → Option I → Error → Type 0) (list : List LifeAt) (error : Error) (before after : Marking A S) : Type 0 where
    pub done : List LifeAt
    pub left : List LifeAt
    pub all : list ≡ done ++ left
    pub between : Marking A S
    pub asks : AsksEach done before between
    pub last : (after ≡ between) ⊎ RefusesNext refuses left error between after

  -- what is left where not all that are reached were marked and saved: whom the entities of an order before a place name was asked for, and some of those that the one at that place names
  pub record LeavesMarks (refuses : A → Option I → Error → Type 0) (names : LifeAt → List LifeAt) (first : Order) (error : Error) (before after : Marking A S) : Type 0 where
    pub order : Order
    pub place : ℕ
    pub reached : IsReached names first order place
    pub between : Marking A S
    pub asks : AsksEach (asked_before names order place) before between
    pub stops : (after ≡ between) ⊎ ((entity : LifeAt) × (slice_get order.entities place ≡ Some entity) × AsksSome refuses (names entity) error between after)

  -- all that are reached are marked, and no other newly, each as it was asked for; and what is saved of them is a list
  pub record SavesReached {D P : Type 0} (plain : (LifeAt → Option M) → P → Option D) (refers_to : P → List LifeAt) (parts_at : ℕ → P) (before after : Marking A S) (list : List (EntityData M D)) : Type 0 where
    pub order : Order
    pub reached : IsReached (λ entity. refers_to (parts_at entity.id)) (marked_first births (s.part_at before.markers.inner)) order (length order.entities)
    pub marks : (index : ℕ) → is_some (s.part_at after.markers.inner index) ≡ order.marked index
    pub asks : AsksEach (flat_map (λ entity. refers_to (parts_at entity.id)) order.entities) before after
    pub saved : all_some (map (named_entry plain parts_at births (s.part_at after.markers.inner)) order.entities) ≡ Some list
