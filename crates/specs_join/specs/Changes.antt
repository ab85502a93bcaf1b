-- Sets of changes: the change at each index, and what one more makes of it.
use Rattle.std.specs.Prelude.{◌≡◌, ℕ, ◌<◌, ◌≤◌, ◌⊎◌, List, [], ◌∷◌, Option, None, Some, option_map, Result, MatchResult}
use Rattle.std.specs.Iterator.{Yields, Drains}
use Rattle.specs_entity.specs.declared.ids.Entity.{Entity}
use Rattle.specs_layouts.specs.Parts.{Puts, SameParts}
use Rattle.specs_layouts.specs.Dense.{Dense, dense_part}
use Rattle.specs_join.specs.declared.changeset.Change.{Change}
use Rattle.specs_join.specs.declared.changeset.ChangeSet.{ChangeSet}
use Rattle.specs_join.specs.declared.changeset.ChangeError.{ChangeError}
use Rattle.specs_join.specs.declared.changeset.ChangeError.TheVariants as variant

-- the change at each index of a layout
abbrev pub changes_in : {T : Type 0} → Dense (Change T) → ℕ → Option T
changes_in inner index = option_map (λ change. change.0) (dense_part inner index)

-- the change at each index
abbrev pub change_at : {T : Type 0} → ChangeSet T → ℕ → Option T
change_at changes = changes_in changes.storage.inner

-- what an index has with a change more: that change alone, or added to the one that is there
abbrev pub with_change : {T : Type 0} → (T → T → T) → Option T → T → T
with_change sum None value = value
with_change sum (Some change) value = sum change value

-- it has a place in its type
abbrev pub FitsChange : {T : Type 0} → (T → T → Type 0) → Option T → T → Type 0
FitsChange fits None value = Unit {0}
FitsChange fits (Some change) value = fits change value

-- a change was added at one index, and each other has what it had
pub record Adds {T : Type 0} (sum : T → T → T) (fits : T → T → Type 0) (before : ℕ → Option T) (index : ℕ) (value : T) (after : ℕ → Option T) : Type 0 where
  pub range : index < 16777216
  pub fit : FitsChange fits (before index) value
  pub puts : Puts before index (Some (with_change sum (before index) value)) after

-- changes of entities were added, one after the other
abbrev pub AddsAll : {T : Type 0} → (T → T → T) → (T → T → Type 0) → (ℕ → Option T) → List (Entity × T) → (ℕ → Option T) → Type 0
AddsAll sum fits before [] after = SameParts before after
AddsAll {T} sum fits before (pair ∷ pairs) after = (between : ℕ → Option T) × Adds sum fits before pair.0.id pair.1 between × AddsAll sum fits between pairs after

-- what a change is refused for: its sum has no place in the type, its index is out of range, or there was no memory for an index without a change
abbrev pub RefusesChange : {T : Type 0} → (T → T → Type 0) → (ℕ → Option T) → ℕ → T → ChangeError → Type 0
RefusesChange fits before index value error =
    ((error ≡ variant.Overflow) × ¬ (FitsChange fits (before index) value)) ⊎ (((error ≡ variant.OutOfRange) × (16777216 ≤ index)) ⊎ ((error ≡ variant.Memory) × (before index ≡ None)))

module _ {U I T : Type 0} (sum : T → T → T) (fits : T → T → Type 0) (becomes : U → I → Type 0) (steps : I → Option (Entity × T) → I → Type 0) where
  -- the pairs that came before one that is refused, and that one
  abbrev pub Stops : I → List (Entity × T) → (ℕ → Option T) → ChangeError → Type 0
  Stops start given after error = (at : I) × (next : Entity × T) × (later : I) × Yields steps start given at × steps at (Some next) later × RefusesChange fits after next.0.id next.1 error

  -- pairs were added in the order in which they come: all of them, or those before one that is refused
  abbrev pub Extends : U → (ℕ → Option T) → (ℕ → Option T) → Result (Unit {0}) ChangeError → Type 0
  Extends pairs before after result =
      (start : I) × (given : List (Entity × T)) × becomes pairs start × AddsAll sum fits before given after × MatchResult result (λ _. Drains steps start given) (λ error. Stops start given after error)

  -- the change at each index of the set that pairs make, or why there is none
  abbrev pub Makes : {S : Type 0} → (S → ℕ → Option T) → U → Result S ChangeError → Type 0
  Makes changes pairs result =
      (start : I) × (given : List (Entity × T)) × becomes pairs start × MatchResult result (λ set. Drains steps start given × AddsAll sum fits (λ _. None) given (changes set)) (λ error. (after : ℕ → Option T) × AddsAll sum fits (λ _. None) given after × Stops start given after error)
