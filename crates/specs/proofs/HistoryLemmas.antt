-- Histories of entities, call after call.
use Rattle.std.proofs.Common.{◌≡◌, List, [], ◌∷◌, ap, sym, ◌∙◌}
use Rattle.std.proofs.lemmas.Option.{same_Some}
use Rattle.specs_entity.specs.Births.{Births, Continues, IsAlive, IsBorn, IsDead, living}
use Rattle.specs_entity.specs.Life.{LifeAt}
use Rattle.specs_entity.proofs.LawLemmas.{continues-through, dead-stays}
use Rattle.specs_entity.proofs.NewLemmas.{born-stays, continues-same}
use Rattle.specs.specs.Histories.{ContinuesAlong, last_of}

pub along : (first : Births) (later : List Births) → ContinuesAlong first later → Continues first (last_of first later)
along first [] goes = continues-same first
along first (next ∷ later) goes = continues-through first next (last_of next later) goes.0 (along next later goes.1)

pub dead-along : (entity : LifeAt) (first : Births) (later : List Births) → ContinuesAlong first later → IsDead first entity → IsDead (last_of first later) entity
dead-along entity first later goes dead = dead-stays entity first (last_of first later) (along first later goes) dead

pub born-along : (entity : LifeAt) (first : Births) (later : List Births) → ContinuesAlong first later → IsBorn first entity → IsBorn (last_of first later) entity
born-along entity first later goes born = born-stays first (last_of first later) entity (along first later goes) born

pub stale-along : (stale newer : LifeAt) (first : Births) (later : List Births) → ContinuesAlong first later → IsBorn first stale
    → stale.id ≡ newer.id → (stale ≡ newer → ⊥) → IsAlive (last_of first later) newer → IsDead (last_of first later) stale
stale-along stale newer first later goes born same other alive = (
  born-along stale first later goes born,
  λ lives. other (
      let life = same_Some stale.generation newer.generation (sym lives ∙ (ap (living (last_of first later)) same ∙ alive)) in
      λ j. record { id = same j; generation = life j }),
)
