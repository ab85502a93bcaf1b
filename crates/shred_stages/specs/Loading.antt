-- A stage whose groups were lent their systems and values.
use Rattle.std.specs.Prelude.{◌≡◌, ℕ, ◌⊎◌, Option, None, Some, IsSome, List, [], ◌∷◌, ◌++◌, map, slice_get}
use Rattle.std.specs.List.{AllZip}
use Rattle.std.specs.Option.{MatchOption}
use Rattle.shred_world.specs.declared.resource_id.ResourceId.{ResourceId}
use Rattle.shred_world.specs.Bundles.{Holding}
use Rattle.shred_plan.specs.Plan.{Stage}
use Rattle.shred_plan.specs.Laws.{numbers_of}
use Rattle.shred_stages.specs.declared.turn.Staged.{Staged}
use Rattle.shred_stages.specs.Packs.{Packed}
use Rattle.shred_stages.specs.Lending.{IsPack, AreLent}

-- a number is one of some
abbrev pub IsAmong : ℕ → List ℕ → Type 0
IsAmong number [] = ⊥
IsAmong number (first ∷ numbers) = (first ≡ number) ⊎ IsAmong number numbers

-- the numbers of the systems of a stage
abbrev pub stage_numbers : Stage ResourceId → List ℕ
stage_numbers [] = []
stage_numbers (group ∷ stage) = numbers_of group ++ stage_numbers stage

-- a slot, if there is one, has the system of its place, or that is away
abbrev pub AtPlace : {A : Type 0} → (slot : Option (Option A)) → (system : Option A) → (IsAway : Type 0) → Type 0
AtPlace slot system IsAway = MatchOption slot (system ≡ None) (λ there. MatchOption there (IsAway × IsSome system) (λ one. system ≡ Some one))

-- the systems of some numbers may be away, and each other stands in its slot
abbrev pub AreAway : {A : Type 0} → (slots : List (Option A)) → (all : List A) → (numbers : List ℕ) → Type 0
AreAway slots all numbers = (k : ℕ) → AtPlace (slice_get slots k) (slice_get all k) (IsAmong k numbers)

-- the groups of a stage were lent their systems and the values that they write
pub record AreLoaded {V S : Type 0} (all : List (Staged V S)) (stage : Stage ResourceId) (lent_packs : List (Packed V S)) (slots : List (Option (Staged V S))) (w w_after : Holding V) : Type 0 where
  pub lent : AreLent stage lent_packs w w_after
  pub packs : AllZip (IsPack (map (λ one. one.system) all)) stage lent_packs
  pub away : AreAway slots all (stage_numbers stage)
