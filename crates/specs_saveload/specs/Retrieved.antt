-- Bearers that are looked for one after the other, and what a refusal leaves of them.
use Rattle.std.specs.Prelude.{◌≡◌, ◌⊎◌, ◌++◌, ℕ, List, [], ◌∷◌, Option, Some, flat_map, map, slice_get, take}
use Rattle.specs_entity.specs.Life.{LifeAt}
use Rattle.specs_entity.specs.declared.errors.Error.{Error}
use Rattle.specs_layouts.specs.MaskedLends.{StorageMembers}
use Rattle.specs_markers.specs.Marking.{RefusesRetrieval, Retrieves}
use Rattle.specs_saveload.specs.declared.entity_data.EntityData.{EntityData}
use Rattle.specs_saveload.specs.Known.{Known}

-- what gives markers gave some, one after the other
pub data AreGiven {A M I : Type 0} (allocates : A → LifeAt → Option I → M → A → Type 0) (before : A) : A → Type 0 where
  none_given : AreGiven allocates before before
  one_given : (between after : A) (entity : LifeAt) (asked : Option I) (marker : M) → AreGiven allocates before between → allocates between entity asked marker after → AreGiven allocates before after

module _ {A S M I : Type 0} (noted : A → I → Option LifeAt) (allocates : A → LifeAt → Option I → M → A → Type 0) (id_of : M → I) (s : StorageMembers S M) where
  -- the bearer of a marker was found, or made
  abbrev pub Retrieved : M → LifeAt → Known A S → Known A S → Type 0
  Retrieved marker entity before after =
      Retrieves noted allocates id_of s (id_of marker) before.births after.births before.allocator after.allocator before.markers after.markers entity

  -- so were those of a list of markers, one after the other
  abbrev pub Retrievals : List M → Known A S → Known A S → Type 0
  Retrievals [] before after = after ≡ before
  Retrievals (marker ∷ rest) before after = (between : Known A S) × (entity : LifeAt) × Retrieved marker entity before between × Retrievals rest between after

  pub record RetrievesEach (list : List M) (before after : Known A S) : Type 0 where
    pub steps : Retrievals list before after

  module _ (refuses : A → Option I → Error → Type 0) (error : Error) where
    -- the next of a list was refused its bearer
    pub record RefusesNext (left : List M) (before after : Known A S) : Type 0 where
      pub next : M
      pub rest : List M
      pub first : left ≡ next ∷ rest
      pub why : RefusesRetrieval noted allocates id_of s (id_of next) before.births after.births before.allocator after.allocator before.markers after.markers refuses error

    -- of a list, the bearers of some were found or made, and then the next was refused or nothing was done
    pub record RetrievesSome (list : List M) (before after : Known A S) : Type 0 where
      pub done : List M
      pub left : List M
      pub all : list ≡ done ++ left
      pub between : Known A S
      pub each : RetrievesEach done before between
      pub last : (after ≡ between) ⊎ RefusesNext left between after

  module _ {D : Type 0} (markers_of : D → List M) (list : List (EntityData M D)) where
    -- those who are looked for as a list is loaded: the bearers of its entries' markers, and then those that the data of each names
    abbrev pub RetrievesLoaded : Known A S → Known A S → Type 0
    RetrievesLoaded before after =
        (between : Known A S) × RetrievesEach (map (λ entry. entry.marker) list) before between × RetrievesEach (flat_map (λ entry. markers_of entry.components) list) between after

    -- what is left where an entry whose bearer was found is refused: those whom the data before it names were looked for, and some of those that its own names
    pub record RetrievesFoundSome (refuses : A → Option I → Error → Type 0) (place : ℕ) (error : Error) (before after : Known A S) : Type 0 where
      pub entry : EntityData M D
      pub here : slice_get list place ≡ Some entry
      pub named : Known A S
      pub earlier : RetrievesEach (flat_map (λ entry. markers_of entry.components) (take place list)) before named
      pub own : RetrievesSome refuses error (markers_of entry.components) named after

    -- what is left where an entry is refused: the bearers of the entries' markers were looked for as far as one that was refused, or all; and then those whom the data names, as far as what the refused entry's does
    pub record RetrievesLoadedSome (refuses : A → Option I → Error → Type 0) (place : ℕ) (error : Error) (before after : Known A S) : Type 0 where
      pub found : Known A S
      pub bearers : (why : Error) × RetrievesSome refuses why (map (λ entry. entry.marker) list) before found
      pub named : RetrievesFoundSome refuses place error found after
