-- Why a builder of a scene's systems doesn't take one.
use Rattle.std.specs.Prelude.{◌≡◌, ◌⊎◌, ℕ, Bool, List, Option, Some}
use Rattle.shred_world.specs.declared.resource_id.ResourceId.{ResourceId}
use Rattle.shred.specs.Building.{built_with}
use Rattle.shred.specs.Dispatchers.{Drafting, with_building}
use Rattle.shred.specs.declared.error.AddError.{AddError}
use Rattle.shred.specs.declared.error.AddError.TheVariants.{Memory}
use Rattle.scene_model.specs.Parts.{Name}

-- an error tells that memory is wanting, or what stands against the system
abbrev pub RefusesOrWants : Option AddError → AddError → Type 0
RefusesOrWants why error = (error ≡ Memory) ⊎ (why ≡ Some error)

-- a builder with a system more, which declares what it reads and writes itself
abbrev pub with_placed : {S L : Type 0} → (ResourceId → ResourceId → Bool) → (S → List ResourceId) → (S → List ResourceId) → Drafting S L → S → ℕ → Name → List Name → Drafting S L
with_placed same reads writes draft placed time name after = with_building draft (built_with same draft.building placed (record { reads = reads placed; writes = writes placed; time = time }) name after)
