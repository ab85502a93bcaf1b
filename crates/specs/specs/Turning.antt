-- One resource that becomes another while all else stays, and jobs that are run in turn.
use Rattle.std.specs.Prelude.{◌≡◌, ◌⊎◌, Option, None, Some, List, [], ◌∷◌}
use Rattle.std.specs.Option.{MatchOption}
use Rattle.shred_world.specs.declared.resource_id.ResourceId.{ResourceId}
use Rattle.shred_world.specs.Bundles.{Holding, owned}
use Rattle.shred_world.specs.Worlds.{Slots}
use Rattle.shred_stages.specs.Changes.{with_values}
use Rattle.specs_entity.specs.Births.{Births}
use Rattle.specs_entity.specs.declared.ids.Entity.{Entity}
use Rattle.specs_entity.specs.declared.errors.Error.{Error}
use Rattle.specs_world.specs.Resources.{Allocates, Place, RefusesBirthIn, held}

-- what stood at an id became another, by a relation that sees all that was held, and nothing else changed
pub record Turns {V R : Type 0} (id : ResourceId) (wrapped : R → V) (becomes : R → Holding V → R → Type 0) (before after : Holding V) : Type 0 where
  pub was : R
  pub now : R
  pub stood : before id ≡ owned (wrapped was)
  pub becoming : becomes was before now
  pub others : after ≡ with_values ((id, wrapped now) ∷ []) before

-- of steps one after the other all were taken, or those up to the first that was refused
abbrev pub InTurn : {V : Type 0} → List (Option Error → Slots V → Slots V → Type 0) → (refused : Option Error) → Slots V → Slots V → Type 0
InTurn [] refused before after = (refused ≡ None) × (after ≡ before)
InTurn {V} (step ∷ steps) refused before after =
    (one : Option Error) × (middle : Slots V) × step one before middle × MatchOption one (InTurn steps refused middle after) (λ error. (refused ≡ Some error) × (after ≡ middle))

-- the next entity was born, and then steps were taken of it; or its birth was refused, and nothing changed
abbrev pub BirthThen : {V : Type 0} → Place V Births → (Entity → List (Option Error → Slots V → Slots V → Type 0)) → (refused : Option Error) → Slots V → Slots V → Type 0
BirthThen {V} births_at steps refused before after =
    ((entity : Entity) × (born : Slots V) × Allocates births_at entity before born × InTurn (steps entity) refused born after)
    ⊎ ((error : Error) × (refused ≡ Some error) × RefusesBirthIn (held births_at before) error × (after ≡ before))
