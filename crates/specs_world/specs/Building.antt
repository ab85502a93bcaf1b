-- Queues that rest where an entity whose parts are to be queued isn't born.
use Rattle.std.specs.Prelude.{◌≡◌, List, Result}
use Rattle.std.specs.Borrow.{MutBor, Fml, RattleType, RestsIfErr}
use Rattle.specs_entity.specs.declared.errors.Error.{Error}
use Rattle.specs_world.specs.declared.lazy_builder.LazyBuilder.{LazyBuilder}
use Rattle.specs_world.specs.contracts.lazy.LazyUpdate.{the_row}

-- the queue is as it was where the builder is refused
abbrev pub rests_if_refused : (J : RattleType) → MutBor (List J.Denot) → Result (LazyBuilder J.Denot) Error → Fml
rests_if_refused J lazy r = RestsIfErr (the_row J) lazy (λ builder. builder.lazy.ghost_name) r (λ after. after ≡ lazy.now)
