use Rattle.std.proofs.Common.{◌≡◌, ℕ, ◌+◌, ◌%◌, length, Some}
use Rattle.specs_layouts.specs.Dense.{dense_part}
use Rattle.specs_layouts.specs.ToCome.{IsToCome}
use Rattle.specs_join.proofs.ChangeEachLemmas.{IsUnderWay}
use Rattle.specs_storage.specs.PairCursors.{CanGoOn, indices_left, store_of, values_of}
use Rattle.specs_tests.specs.declared.parts.Speed.{Speed}
use Rattle.specs_tests.proofs.restricted.raise_each.Given as goal

abbrev pub invariant-loop-cursor : goal.invariant-loop-cursor
invariant-loop-cursor g l =
    record {
      same_reference : (store_of l.cursor).ghost_name ≡ (store_of l.initial.cursor).ghost_name;
      ready : CanGoOn g.R.Mask.BitSetLike.members g.R.Join.value_at l.cursor;
      values : (index : ℕ) → IsToCome index (indices_left g.R.Mask.BitSetLike.members l.cursor) → g.R.Join.value_at (values_of l.cursor) index ≡ g.R.Join.joins l.fn.read index;
      under : IsUnderWay (λ (part : Speed) item. Some (record { 0 = (part.0 + 1) % 4294967296 })) (dense_part l.fn.parts.inner) (g.R.Join.joins l.fn.read) (dense_part (store_of l.cursor).now.inner) (indices_left g.R.Mask.BitSetLike.members l.cursor);
    }

abbrev pub decreases-loop-cursor : goal.decreases-loop-cursor
decreases-loop-cursor g l = length (indices_left g.R.Mask.BitSetLike.members l.cursor)
