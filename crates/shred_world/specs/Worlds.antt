-- A world: a finite map from resource ids to slots. A slot holds a value, or its value is out and comes back.
use Rattle.std.specs.Prelude.{◌≡◌, ◌≢◌, ◌==◌, ◌≤◌, ◌<◌, ℕ, Bool, ◌&&◌, Some, filter, length, slice_index, Option, None, List, [], ◌∷◌, ◌++◌, IsSome, is_some, unwrap_or, if◌then◌else◌}
use Rattle.std.specs.Prelude.{map as list_map}
use Rattle.std.specs.Borrow.{Bor}
use Rattle.std.specs.Option.{option_flatten, option_and_then, option_map_or, MatchOption}
use Rattle.std.specs.List.{list_any}
use Rattle.std.specs.FinMap as map
use Rattle.std.specs.FinMap.{FinMap}
use Rattle.shred_world.specs.declared.resource_id.ResourceId.{ResourceId}
use Rattle.shred_world.specs.ResourceIds.{id_cmp, id_of}

-- what a world is seen as
abbrev pub Slots : Type 0 → Type 0
Slots V = FinMap id_cmp (Option V)

-- the value that the world holds at the id
abbrev pub value_at : {V : Type 0} → Slots V → ResourceId → Option V
value_at w id = option_flatten (map.get w id)

-- the resource that the world holds at the id, by what is seen in a value
abbrev pub resource_at : {V R : Type 0} → (V → Option R) → Slots V → ResourceId → Option R
resource_at part w id = option_and_then part (value_at w id)

-- the resource at the id, or this one where there is none
abbrev pub resource_or : {V R : Type 0} → (V → Option R) → Slots V → ResourceId → R → R
resource_or part w id resource = unwrap_or (resource_at part w id) resource

-- it is the resource at the id, or such a one where there is none
abbrev pub IsThereOr : {V R : Type 0} → (R → Type 0) → (V → Option R) → Slots V → ResourceId → R → Type 0
IsThereOr Made part w id resource = MatchOption (resource_at part w id) (Made resource) (λ there. resource ≡ there)

-- this stands in the id's slot where nothing was there, and else nothing changed
abbrev pub PutsUnless : {V X : Type 0} → (there : Option X) → Slots V → ResourceId → Option V → Slots V → Type 0
PutsUnless there w id slot w' = MatchOption there (w' ≡ map.insert w id slot) (λ _. w' ≡ w)

-- the least number from `from` on whose id the world holds a value at
abbrev pub IsLeastFrom : {V : Type 0} → Slots V → (kind from : ℕ) → Option ℕ → Type 0
IsLeastFrom w kind from found =
    MatchOption found
    ((d : ℕ) → from ≤ d → value_at w (id_of kind d) ≡ None)
    (λ least. (from ≤ least) × IsSome (value_at w (id_of kind least)) × ((d : ℕ) → from ≤ d → d < least → value_at w (id_of kind d) ≡ None))

-- the values of these kinds that the world holds under the dynamic number 0, in order
abbrev pub values_of_kinds : {V : Type 0} → Slots V → List ℕ → List V
values_of_kinds w [] = []
values_of_kinds w (kind ∷ kinds) = option_map_or (λ v. v ∷ values_of_kinds w kinds) (value_at w (id_of kind 0)) (values_of_kinds w kinds)

-- those of the kinds whose value the world holds under the dynamic number 0, in order
abbrev pub held_kinds : {V : Type 0} → Slots V → List ℕ → List ℕ
held_kinds w kinds = filter (λ kind. is_some (value_at w (id_of kind 0))) kinds

-- their values, in order
abbrev pub held_values : {V : Type 0} → Slots V → List ℕ → List (Option V)
held_values w kinds = list_map (λ kind. value_at w (id_of kind 0)) (held_kinds w kinds)

-- no kind stands twice
abbrev pub AreDistinct : List ℕ → Type 0
AreDistinct kinds = (i j : ℕ) → i < j → j < length kinds → slice_index kinds i ≢ slice_index kinds j

-- the kinds from the first one on whose value the world holds under the dynamic number 0
abbrev pub from_first_held : {V : Type 0} → Slots V → List ℕ → List ℕ
from_first_held w [] = []
from_first_held w (kind ∷ kinds) = if is_some (value_at w (id_of kind 0)) then kind ∷ kinds else from_first_held w kinds

-- the list with the kind at its end, where it isn't in it
abbrev pub with_kind : List ℕ → ℕ → List ℕ
with_kind kinds kind = if list_any (λ k. k == kind) kinds then kinds else kinds ++ kind ∷ []

-- a value at the id, where there is one, is of the resource's kind
abbrev pub HasKind : {V R : Type 0} → (V → Option R) → Slots V → ResourceId → Type 0
HasKind part w id = is_some (value_at w id) ≡ is_some (resource_at part w id)

-- a call over what was there gives what is there now
abbrev pub Gives : {V : Type 0} → (Bor V → V → Type 0) → V → V → Type 0
Gives {V} calls was now = (lent : Bor V) × (lent.now ≡ was) × calls lent now

-- the value at the id, where there is one, is changed
abbrev pub ChangesAt : {V : Type 0} → (V → V → Type 0) → Slots V → ResourceId → Slots V → Type 0
ChangesAt change w id w' = MatchOption (value_at w id) (w' ≡ w) (λ was. (now : _) × change was now × (w' ≡ map.insert w id (Some now)))

-- for each of these kinds in turn, the value that the world holds under the dynamic number 0 is changed
abbrev pub ChangesInTurn : {V : Type 0} → (V → V → Type 0) → Slots V → List ℕ → Slots V → Type 0
ChangesInTurn change w [] w' = w' ≡ w
ChangesInTurn change w (kind ∷ kinds) w' =
    MatchOption (value_at w (id_of kind 0)) (ChangesInTurn change w kinds w') (λ was. (now : _) × change was now × ChangesInTurn change (map.insert w (id_of kind 0) (Some now)) kinds w')

-- the ids of these kinds under the dynamic number 0
abbrev pub is_of_kinds : List ℕ → ResourceId → Bool
is_of_kinds kinds id = (id.dynamic == 0) && list_any (λ kind. id.kind == kind) kinds
