-- What a world ends as once a slot or a value that it lent for writing comes back.
use Rattle.std.specs.Prelude.{◌≡◌, Result, Option, Some, OnSome}
use Rattle.std.specs.Borrow.{Lends, LendsSo, LendsSoOk, MutBor, Fml, RattleType}
use Rattle.std.specs.FinMap as map
use Rattle.std.specs.contracts.option.Option as option
use Rattle.shred_world.specs.declared.resource_id.ResourceId.{ResourceId}
use Rattle.shred_world.specs.contracts.world.World.{the_row}
use Rattle.shred_world.specs.Worlds.{Slots}

-- the world has in the slot what was left behind the loan, and is as it was where there is no slot
abbrev pub LendsSlot : (V : RattleType) → MutBor (Slots V.Denot) → ResourceId → Option (MutBor (Option V.Denot)) → Fml
LendsSlot V w id r = LendsSo (the_row V) (option.the_row V) w r (λ n left. OnSome r (n ≡ map.insert w.now id left)) (λ n. n ≡ w.now)

-- the world has at the id the value that was left behind the loan, and is as it was where there is none
abbrev pub LendsValue : (V : RattleType) → MutBor (Slots V.Denot) → ResourceId → Option (MutBor V.Denot) → Fml
LendsValue V w id r = LendsSo (the_row V) V w r (λ n left. OnSome r (n ≡ map.insert w.now id (Some left))) (λ n. n ≡ w.now)

-- the world has at the id the resource that was left behind the loan, wrapped, and is as it was where there is none
abbrev pub LendsResource : (V R : RattleType) → (R.Denot → V.Denot) → MutBor (Slots V.Denot) → ResourceId → Option (MutBor R.Denot) → Fml
LendsResource V R wrapped w id r = LendsSo (the_row V) R w r (λ n left. OnSome r (n ≡ map.insert w.now id (Some (wrapped left)))) (λ n. n ≡ w.now)

-- the same of a resource that is there
abbrev pub LendsPresent : (V R : RattleType) → (R.Denot → V.Denot) → MutBor (Slots V.Denot) → ResourceId → MutBor R.Denot → Fml
LendsPresent V R wrapped w id r = Lends (the_row V) R w r (λ left. map.insert w.now id (Some (wrapped left)))

-- the world has at the id the resource that was left behind the loan, and is as it was where memory was wanting
abbrev pub LendsInserted : (V R : RattleType) → (R.Denot → V.Denot) → MutBor (Slots V.Denot) → ResourceId → {E : Type 0} → Result (MutBor R.Denot) E → Fml
LendsInserted V R wrapped w id r = LendsSoOk (the_row V) R w r (λ n left. n ≡ map.insert w.now id (Some (wrapped left))) (λ n. n ≡ w.now)
