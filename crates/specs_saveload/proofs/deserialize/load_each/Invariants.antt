use Rattle.std.proofs.Common.{◌≡◌, length, take}
use Rattle.std.specs.List.{flat_map}
use Rattle.std.specs.Vec.Iter.{into_iter_items, into_iter_len}
use Rattle.specs_saveload.specs.Known.{bearer_at, known_of}
use Rattle.specs_saveload.specs.Loading.{GivesEach}
use Rattle.specs_saveload.specs.Retrieved.{RetrievesEach}
use Rattle.specs_saveload.proofs.AskLemmas.{members_of}
use Rattle.specs_saveload.proofs.LoadLemmas.{IsLoading}
use Rattle.specs_saveload.proofs.deserialize.load_each.Given as goal

-- the entries before the place are loaded, and those from it on are left
abbrev pub invariant-loop-entry : goal.invariant-loop-entry
invariant-loop-entry g l = record {
  len : into_iter_len l.entry-iterator ≡ length (into_iter_items l.entry-iterator);
  loading : IsLoading g.A.MarkerAllocator.noted g.M.Storage.UnprotectedStorage.part_at g.M.Marker.id_of g.S.DeserializeComponents.markers_of g.S.DeserializeComponents.loaded
      (known_of l.fn.entities l.fn.allocator l.fn.markers) (g.S.SerializeComponents.parts_at l.fn.storages) l.fn.list.items l.place (into_iter_items l.entry-iterator)
      (known_of l.entities l.allocator l.markers) (g.S.SerializeComponents.parts_at l.storages);
  each : RetrievesEach g.A.MarkerAllocator.noted g.A.MarkerAllocator.allocates g.M.Marker.id_of (members_of g.M.Storage.UnprotectedStorage g.M.Storage.TryDefault)
      (flat_map (λ entry. g.S.DeserializeComponents.markers_of entry.components) (take l.place l.fn.list.items)) (known_of l.fn.entities l.fn.allocator l.fn.markers) (known_of l.entities l.allocator l.markers);
  given : GivesEach g.S.DeserializeComponents.loaded g.S.DeserializeComponents.gives (bearer_at g.A.MarkerAllocator.noted g.M.Storage.UnprotectedStorage.part_at g.M.Marker.id_of (known_of l.entities l.allocator l.markers))
      (take l.place l.fn.list.items) l.fn.storages l.storages;
}
