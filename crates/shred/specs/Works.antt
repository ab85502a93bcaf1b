-- Systems and batches side by side: each means what it means alone.
use Rattle.std.specs.Prelude.{◌≡◌, Bool, Option}
use Rattle.shred_world.specs.Worlds.{Slots}
use Rattle.shred_world.specs.Bundles.{Holding}
use Rattle.shred_stages.specs.declared.stop.Stop.{Stop}
use Rattle.shred.specs.declared.work.Work.{Work}
use Rattle.shred.specs.declared.work.Work.TheVariants.{System, Batch}

-- what is said of a system, and what of a batch
abbrev pub either : {S B X : Type 0} → (S → X) → (B → X) → Work S B → X
either of_system of_batch (System system) = of_system system
either of_system of_batch (Batch batch) = of_batch batch

-- a run
abbrev pub WorkMeets : {V S B : Type 0} → (S → Holding V → Option Stop → S → Holding V → Type 0) → (B → Holding V → Option Stop → B → Holding V → Type 0)
    → Work S B → Holding V → Option Stop → Work S B → Holding V → Type 0
WorkMeets {S = S} meets batch_meets (System system) w refused after w_after = (left : S) × (after ≡ System left) × meets system w refused left w_after
WorkMeets {B = B} meets batch_meets (Batch batch) w refused after w_after = (left : B) × (after ≡ Batch left) × batch_meets batch w refused left w_after

-- a setup
abbrev pub WorkSetsUp : {V S B : Type 0} → (S → Bool → Slots V → S → Slots V → Type 0) → (B → Bool → Slots V → B → Slots V → Type 0)
    → Work S B → Bool → Slots V → Work S B → Slots V → Type 0
WorkSetsUp {S = S} sets_up batch_sets_up (System system) accepted w after w_after = (left : S) × (after ≡ System left) × sets_up system accepted w left w_after
WorkSetsUp {B = B} sets_up batch_sets_up (Batch batch) accepted w after w_after = (left : B) × (after ≡ Batch left) × batch_sets_up batch accepted w left w_after

-- letting it go
abbrev pub WorkDisposes : {V S B : Type 0} → (S → Option Stop → Slots V → Slots V → Type 0) → (B → Option Stop → Slots V → Slots V → Type 0)
    → Work S B → Option Stop → Slots V → Slots V → Type 0
WorkDisposes disposes batch_disposes (System system) refused w w_after = disposes system refused w w_after
WorkDisposes disposes batch_disposes (Batch batch) refused w w_after = batch_disposes batch refused w w_after
