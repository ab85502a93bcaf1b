-- What is known of an entity that was found by a marker, or made for it.
use Rattle.std.proofs.Common.{Option, Some, option_map, inl, inr, sym, ap, subst, ◌∙◌, Result, Ok, Err, IfOk}
use Rattle.specs_entity.specs.Births.{Births, IsAlive}
use Rattle.specs_entity.specs.Life.{LifeAt}
use Rattle.specs_layouts.specs.Masked.{Masked}
use Rattle.specs_layouts.specs.MaskedLends.{StorageMembers}
use Rattle.specs_markers.specs.Marks.{IsMarked}
use Rattle.specs_markers.specs.Marking.{Retrieves}

module _ {A S M I : Type 0} (noted : A → I → Option LifeAt) (allocates : A → LifeAt → Option I → M → A → Type 0) (id_of : M → I) (s : StorageMembers S M) (id : I) (births births' : Births) (before after : A) (had has : Masked S) where
  retrieved : (entity : LifeAt) → Retrieves noted allocates id_of s id births births' before after had has entity → IsMarked id_of births' (s.part_at has.inner) id entity
  retrieved entity (inl found) =
      record {
        alive = subst (λ b. IsAlive b entity) (sym found.entities) found.known.alive;
        bears = ap (option_map id_of) found.updated.puts.here ∙ ap Some found.updated.named;
      }
  retrieved entity (inr made) =
      record {
        alive = made.alive;
        bears = ap (λ (e : LifeAt). option_map id_of (s.part_at has.inner e.id)) made.born ∙ (ap (option_map id_of) made.given.puts.here ∙ ap Some made.given.given.named);
      }

  -- the entity is alive and bears a marker with the id
  pub retrieved-marked : {E : Type 0} (result : Result LifeAt E) → IfOk result (Retrieves noted allocates id_of s id births births' before after had has) → IfOk result (IsMarked id_of births' (s.part_at has.inner) id)
  retrieved-marked (Ok entity) ok = retrieved entity ok
  retrieved-marked (Err error) ok = tt
