use Rattle.std.proofs.Common.{◌≡◌, ℕ, length}
use Rattle.specs_layouts.specs.Shows.{Shows}
use Rattle.specs_layouts.specs.ToCome.{IsToCome}
use Rattle.specs_join.specs.Cursors.{indices_left, CanGoOn}
use Rattle.specs_join.specs.ChangeEach.{told_each, shared_indices}
use Rattle.specs_join.proofs.ChangeEachLemmas.{IsUnderWay}
use Rattle.specs_join.proofs.join.change_each.change_each.Given as goal

abbrev pub invariant-loop-cursor : goal.invariant-loop-cursor
invariant-loop-cursor g l =
    record {
      same_reference : l.cursor.storage.ghost_name ≡ l.initial.cursor.storage.ghost_name;
      ready : CanGoOn g.R.Mask.BitSetLike.members g.R.Join.value_at l.cursor;
      values : (index : ℕ) → IsToCome index (indices_left g.R.Mask.BitSetLike.members l.cursor) → g.R.Join.value_at l.cursor.values index ≡ g.R.Join.joins l.fn.read index;
      emission : g.T.Storage.UnprotectedStorage.emits l.cursor.storage.now.inner ≡ g.T.Storage.UnprotectedStorage.emits l.fn.storage.inner;
      events : told_each (g.T.Storage.UnprotectedStorage.emits l.fn.storage.inner) (g.T.Storage.UnprotectedStorage.events l.cursor.storage.now.inner) (indices_left g.R.Mask.BitSetLike.members l.cursor) ≡ told_each (g.T.Storage.UnprotectedStorage.emits l.fn.storage.inner) (g.T.Storage.UnprotectedStorage.events l.fn.storage.inner) (shared_indices l.fn.storage.mask (g.R.Join.joins l.fn.read));
      shows : Shows g.T.Storage.UnprotectedStorage.part_at g.T.Storage.UnprotectedStorage.events g.T.Storage.UnprotectedStorage.emits l.fn.storage.inner l.cursor.storage.now.inner;
      under : IsUnderWay (g.C.Change.changed l.change) (g.T.Storage.UnprotectedStorage.part_at l.fn.storage.inner) (g.R.Join.joins l.fn.read) (g.T.Storage.UnprotectedStorage.part_at l.cursor.storage.now.inner) (indices_left g.R.Mask.BitSetLike.members l.cursor);
    }

abbrev pub decreases-loop-cursor : goal.decreases-loop-cursor
decreases-loop-cursor g l = length (indices_left g.R.Mask.BitSetLike.members l.cursor)
