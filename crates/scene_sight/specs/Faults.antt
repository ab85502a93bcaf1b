-- What is listed of a document: the refusals that stand, with their places.
use Rattle.std.specs.Prelude.{◌≡◌, ◌≤◌, ℕ, List, [], Option, Some, None, Result, Ok, Err, All}
use Rattle.std.specs.List.{Any}
use Rattle.scene_model.specs.declared.refusals.DocRefusal.{DocRefusal}
use Rattle.scene_model.specs.declared.refusals.DocRefusal.TheVariants.{Unreadable, NotWhole, WrongShape, UnknownKind, DoubleId, IdNotBelowNext, Dangling, UnknownSystem, NameTaken, UnknownDependency, MissingGlobal, ReservedWrite, TooManyWorkers, TooManySystems, UnknownStore, TooManyEntities}
use Rattle.scene_model.specs.Parts.{Json}
use Rattle.scene_document.specs.Drafts.{Draft}
use Rattle.scene_sight.specs.declared.faults.Fault.{Fault}
use Rattle.scene_sight.specs.Paths.{Stands}

-- the place of a refusal in the order in which refusals are told
abbrev pub rank : DocRefusal → ℕ
rank Unreadable = 0
rank NotWhole = 1
rank WrongShape = 2
rank UnknownKind = 3
rank DoubleId = 4
rank IdNotBelowNext = 5
rank Dangling = 6
rank UnknownSystem = 7
rank NameTaken = 8
rank UnknownDependency = 9
rank MissingGlobal = 10
rank ReservedWrite = 11
rank TooManyWorkers = 12
rank TooManySystems = 13
rank UnknownStore = 14
rank TooManyEntities = 15

-- a refusal is listed, and no lesser one is
pub record IsLeast (refusal : DocRefusal) (faults : List Fault) : Type 0 where
  pub listed : Any (λ fault. fault.refusal ≡ refusal) faults
  pub least : All (λ fault. rank refusal ≤ rank fault.refusal) faults

-- nothing is listed of a document that is loaded, and of one that is refused its refusal is the least listed
abbrev pub Shows : Result Draft DocRefusal → List Fault → Type 0
Shows (Ok draft) faults = faults ≡ []
Shows (Err refusal) faults = IsLeast refusal faults

-- each place that is listed is one in the JSON, if there is a JSON
abbrev pub AllStand : Option Json → List Fault → Type 0
AllStand None faults = All (λ fault. fault.path.items ≡ []) faults
AllStand (Some json) faults = All (λ fault. Stands json fault.path.items) faults
