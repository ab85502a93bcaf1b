-- Where the parts of an asynchronous dispatcher are, as its contracts show it.
use Rattle.std.specs.Prelude.{◌≡◌, true, Option, None, Some}
use Rattle.std.specs.Borrow.{Fml, RattleType, MutBor, Lends}
use Rattle.std.specs.FinMap as map
use Rattle.shred_world.specs.ResourceIds.{id_cmp}
use Rattle.shred_world.specs.contracts.world.World.{the_row as world_row}
use Rattle.shred_stages.specs.declared.system.System.{Ghosts as System}
use Rattle.shred.specs.declared.async_dispatcher.Place.{Place}
use Rattle.shred.specs.declared.async_dispatcher.Place.TheVariants.{Here, Gone, Lost}
use Rattle.shred.specs.contracts.async_dispatcher.Place.{the_row}
use Rattle.shred.specs.Asyncs.{Owned, here}

-- what is owned
abbrev pub owned_in : {V S L : Type 0} → Place V S L → Owned V S L
owned_in (Here dispatching world) = here dispatching world
owned_in (Gone errand locals) = Some (record { is_away = true; dispatching = record { staging = errand.stages; locals = locals.items; workers = errand.workers }; world = errand.world })
owned_in Lost = None

-- the world is at hand
abbrev pub IsWorldOf : {V S L : Type 0} → map.FinMap id_cmp (Option V) → Place V S L → Type 0
IsWorldOf world (Here dispatching held) = world ≡ held
IsWorldOf world (Gone errand locals) = ⊥
IsWorldOf world Lost = ⊥

abbrev pub IsHere : {V S L : Type 0} → Place V S L → Type 0
IsHere (Here dispatching world) = Unit {0}
IsHere (Gone errand locals) = ⊥
IsHere Lost = ⊥

-- another world is at hand
abbrev pub with_world_in : {V S L : Type 0} → Place V S L → map.FinMap id_cmp (Option V) → Place V S L
with_world_in (Here dispatching held) world = Here dispatching world
with_world_in (Gone errand locals) world = Gone errand locals
with_world_in Lost world = Lost

-- the world that is lent is in the end the place's
abbrev pub lends_world_in : (V S L : RattleType) → System S.Denot V.Denot → MutBor (Place V.Denot S.Denot L.Denot) → MutBor (map.FinMap id_cmp (Option V.Denot)) → Fml
lends_world_in V S L system p r = Lends (the_row V S L system) (world_row V) p r (with_world_in p.now)
