-- What an asynchronous dispatcher ends as, where its world was lent.
use Rattle.std.specs.Prelude.{◌≡◌, Option, None, Some, Result, Ok, Err, ⊤, IfOk, IfErr}
use Rattle.std.specs.Borrow.{Fml, RattleType, Bor, MutBor, Lends, LendsSoOk, follows_so}
use Rattle.std.specs.Option.{MatchOption}
use Rattle.std.specs.FinMap as map
use mathlib.Core.Option.{none}
use Rattle.shred_world.specs.ResourceIds.{id_cmp}
use Rattle.shred_world.specs.Bundles.{Holding}
use Rattle.shred_world.specs.contracts.world.World.{the_row as world_row}
use Rattle.shred_stages.specs.declared.stop.Stop.{Stop}
use Rattle.shred_stages.specs.declared.system.System.{Ghosts as System}
use Rattle.shred.specs.declared.async_error.AsyncError.{AsyncError}
use Rattle.shred.specs.Asyncs.{Owned, Joins}
use Rattle.shred.specs.contracts.async_dispatcher.AsyncDispatcher.{the_row}

-- the world is the one that is owned
abbrev pub HasWorld : {V S L : Type 0} → Owned V S L → map.FinMap id_cmp (Option V) → Type 0
HasWorld owned world = MatchOption owned ⊥ (λ owning. world ≡ owning.world)

-- another world is owned
abbrev pub with_world : {V S L : Type 0} → Owned V S L → map.FinMap id_cmp (Option V) → Owned V S L
with_world None world = None
with_world (Some owning) world = Some (record owning { world = world })

module _ {V S L : Type 0} (meets : S → Holding V → Option Stop → S → Holding V → Type 0) (local_meets : L → Holding V → Option Stop → L → Holding V → Type 0) (before : Owned V S L) where
  -- a dispatch that is under way was waited for, and this world is then at hand
  pub record Lent (world : map.FinMap id_cmp (Option V)) (left : Owned V S L) : Type 0 where
    pub joins : Joins meets local_meets {A = Unit} before (Ok tt) left
    pub has : HasWorld left world

  -- this world is at hand once that is done
  abbrev pub IsLent : map.FinMap id_cmp (Option V) → Type 0
  IsLent world = (left : Owned V S L) × Lent world left

  -- the world was lent, or the dispatch that was waited for was refused
  abbrev pub EndsAs : Result (Bor (map.FinMap id_cmp (Option V))) (Bor AsyncError) → Owned V S L → Type 0
  EndsAs (Ok world) left = Lent world.now left
  EndsAs (Err error) left = Joins meets local_meets {A = Unit} before (Err error.now) left

  -- the world that was lent is in the end another
  pub record EndsWith (lent after : map.FinMap id_cmp (Option V)) (end : Owned V S L) : Type 0 where
    pub left : Owned V S L
    pub was_lent : Lent lent left
    pub is : end ≡ with_world left after

-- the world that is lent is in the end the dispatcher's
abbrev pub lends_world : (V S L : RattleType) → System S.Denot V.Denot → MutBor (Owned V.Denot S.Denot L.Denot) → MutBor (map.FinMap id_cmp (Option V.Denot)) → Fml
lends_world V S L system d r = Lends (the_row V S L system) (world_row V) d r (with_world d.now)

-- the world was lent for reading
abbrev pub lends_for_reading : (V S L : RattleType) → System S.Denot V.Denot → (L.Denot → Holding V.Denot → Option Stop → L.Denot → Holding V.Denot → Type 0) → MutBor (Owned V.Denot S.Denot L.Denot)
    → Result (Bor (map.FinMap id_cmp (Option V.Denot))) (Bor AsyncError) → Fml
lends_for_reading V S L system local_meets d r =
    follows_so (the_row V S L system) (the_row V S L system) d.ghost_name none (λ _ _. ⊤) (λ left. EndsAs system.meets local_meets d.now r left)

-- the world was lent for writing
abbrev pub lends_for_writing : (V S L : RattleType) → System S.Denot V.Denot → (L.Denot → Holding V.Denot → Option Stop → L.Denot → Holding V.Denot → Type 0) → MutBor (Owned V.Denot S.Denot L.Denot)
    → Result (MutBor (map.FinMap id_cmp (Option V.Denot))) AsyncError → Fml
lends_for_writing V S L system local_meets d r =
    LendsSoOk (the_row V S L system) (world_row V) d r
    (λ end after. IfOk r (λ lent. EndsWith system.meets local_meets d.now lent.now after end))
    (λ end. IfErr r (λ error. Joins system.meets local_meets {A = Unit} d.now (Err error) end))
