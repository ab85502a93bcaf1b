-- What a world of entities ends as once a resource that it lent for writing comes back.
use Rattle.std.specs.Prelude.{◌≡◌, Result, Some}
use Rattle.std.specs.Borrow.{LendsSoOk, MutBor, Fml, RattleType}
use Rattle.std.specs.FinMap as map
use Rattle.shred_world.specs.declared.resource_id.ResourceId.{ResourceId}
use Rattle.shred_world.specs.Worlds.{Slots}

-- the world has at the id the resource that was left behind the loan, wrapped, and is as it was where none is lent
abbrev pub LendsIn : {V : Type 0} → (W R : RattleType) → (W.Denot → Slots V) → (R.Denot → V) → MutBor W.Denot → ResourceId → {E : Type 0} → Result (MutBor R.Denot) E → Fml
LendsIn W R slots wrapped w id r = LendsSoOk W R w r (λ n left. slots n ≡ map.insert (slots w.now) id (Some (wrapped left))) (λ n. slots n ≡ slots w.now)
