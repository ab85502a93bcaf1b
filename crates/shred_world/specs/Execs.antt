-- What it means to set a bundle up, to fetch it and to hand it to a closure with the world.
use Rattle.std.specs.Prelude.{◌≡◌, Bool, true, false, Option, Some}
use Rattle.std.specs.Borrow.{Bor, MutBor}
use Rattle.shred_world.specs.declared.resource_id.ResourceId.{ResourceId}
use Rattle.shred_world.specs.declared.data.ExecError.{ExecError}
use Rattle.shred_world.specs.declared.data.ExecError.TheVariants.{Memory, Missing}
use Rattle.std.specs.FinMap as map
use Rattle.shred_world.specs.Worlds.{Slots, value_at}
use Rattle.shred_world.specs.Bundles.{Holding, holding_of}

-- the closure was called with a bundle of the world that the setup made, and with that world without what the bundle writes; it left the new world
abbrev pub CallsWithBundle : {V D T : Type 0} → (Bool → Slots V → Slots V → Type 0) → (Holding V → Holding V) → (D → Holding V → Type 0)
    → (D → MutBor (Slots V) → T → MutBor (Slots V) → Type 0) → Slots V → Slots V → T → Type 0
CallsWithBundle {V} {D} {T} sets_up left fits calls old new answer =
    (ready : Slots V) × (bundle : D) × (lent returned : MutBor (Slots V)) × sets_up true old ready × fits bundle (holding_of ready)
    × (holding_of lent.now ≡ left (holding_of ready)) × calls bundle lent answer returned × (returned.now ≡ new)

-- the setup was refused, or it was accepted and a resource is wanting
abbrev pub IsExecError : {V : Type 0} → (Bool → Slots V → Slots V → Type 0) → (Holding V → Option ResourceId) → Slots V → Slots V → ExecError → Type 0
IsExecError sets_up lack old new Memory = sets_up false old new
IsExecError {V} sets_up lack old new (Missing missing) = (ready : Slots V) × sets_up true old ready × (lack (holding_of ready) ≡ Some missing.id) × (holding_of new ≡ holding_of ready)

-- the closure may be called with each bundle whose written ids are out of the world that it is called with
abbrev pub CallableWithBundle : {V D : Type 0} → (D → Holding V → Type 0) → (D → MutBor (Slots V) → Type 0) → Type 0
CallableWithBundle {V} {D} can_give callable = (bundle : D) (world : MutBor (Slots V)) → can_give bundle (holding_of world.now) → callable bundle world

-- the closure was called with what stood at two ids, and what it left of both stands there
abbrev pub ChangesTwo : {V T : Type 0} → (MutBor V → MutBor V → T → MutBor V → MutBor V → Type 0) → Slots V → ResourceId → ResourceId → Slots V → T → Type 0
ChangesTwo {V} calls old one other new answer =
    (first second first_after second_after : MutBor V) × (value_at old one ≡ Some first.now) × (value_at old other ≡ Some second.now)
    × calls first second answer first_after second_after × (new ≡ map.insert (map.insert old one (Some first_after.now)) other (Some second_after.now))

-- the same where what stood at the first id was read
abbrev pub ChangesBy : {V T : Type 0} → (Bor V → MutBor V → T → MutBor V → Type 0) → Slots V → ResourceId → ResourceId → Slots V → T → Type 0
ChangesBy {V} calls old read written new answer =
    (seen : Bor V) × (value value_after : MutBor V) × (value_at old read ≡ Some seen.now) × (value_at old written ≡ Some value.now)
    × calls seen value answer value_after × (new ≡ map.insert old written (Some value_after.now))
