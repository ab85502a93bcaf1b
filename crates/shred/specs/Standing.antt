-- Many dispatches, one after the other.
use Rattle.std.specs.Prelude.{◌≡◌, ◌<◌, ℕ, zero, suc, Option, Result, Ok, Err}
use Rattle.shred_world.specs.Worlds.{Slots}
use Rattle.shred_world.specs.Bundles.{Holding, holding_of}
use Rattle.shred_stages.specs.declared.stop.Stop.{Stop}
use Rattle.shred_stages.specs.declared.error.DispatchError.{DispatchError}
use Rattle.shred.specs.Dispatching.{Dispatching, DispatchesAll}

module _ {V S L : Type 0} (meets : S → Holding V → Option Stop → S → Holding V → Type 0) (local_meets : L → Holding V → Option Stop → L → Holding V → Type 0) where
  -- a dispatcher over a world, before a dispatch and after it, which ended so
  abbrev pub DispatchesOnce : Dispatching S L → Slots V → Result (Unit {0}) DispatchError → Dispatching S L → Slots V → Type 0
  DispatchesOnce before world result after left = DispatchesAll meets local_meets before (holding_of world) result after (holding_of left)

  -- so many dispatches are accepted, each from where the one before left off
  abbrev pub AreAccepted : ℕ → Dispatching S L → Slots V → Dispatching S L → Slots V → Type 0
  AreAccepted zero before world after left = (after ≡ before) × (left ≡ world)
  AreAccepted (suc count) before world after left = (between : Dispatching S L) × (held : Slots V) × AreAccepted count before world between held × DispatchesOnce between held (Ok tt) after left

  -- so many of the dispatches that are asked for are accepted: all, or those before the first that is refused
  abbrev pub DispatchesTimes : (times : ℕ) → Dispatching S L → Slots V → (accepted : ℕ) → Result (Unit {0}) DispatchError → Dispatching S L → Slots V → Type 0
  DispatchesTimes times before world accepted (Ok a) after left = (accepted ≡ times) × AreAccepted accepted before world after left
  DispatchesTimes times before world accepted (Err error) after left = (accepted < times)
      × ((between : Dispatching S L) × (held : Slots V) × AreAccepted accepted before world between held × DispatchesOnce between held (Err error) after left)
