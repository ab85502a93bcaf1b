use Rattle.std.proofs.Common.{map, take}
use Rattle.specs_saveload.specs.Finding.{AreBearers, Finds}
use Rattle.specs_saveload.specs.Known.{bearer_at, known_of}
use Rattle.specs_saveload.specs.Retrieved.{RetrievesEach}
use Rattle.specs_saveload.proofs.AskLemmas.{members_of}
use Rattle.specs_saveload.proofs.deserialize.find_all.Given as goal

-- the entities of the entries before the place are found, one after the other
abbrev pub invariant-loop-place : goal.invariant-loop-place
invariant-loop-place g l = record {
  finds : Finds g.A.MarkerAllocator.noted g.M.Storage.UnprotectedStorage.part_at g.M.Marker.id_of (take l.place l.list) (known_of l.fn.entities l.fn.allocator l.fn.markers) (known_of l.entities l.allocator l.markers);
  bear : AreBearers (bearer_at g.A.MarkerAllocator.noted g.M.Storage.UnprotectedStorage.part_at g.M.Marker.id_of (known_of l.entities l.allocator l.markers)) (take l.place l.list) l.found.items;
  each : RetrievesEach g.A.MarkerAllocator.noted g.A.MarkerAllocator.allocates g.M.Marker.id_of (members_of g.M.Storage.UnprotectedStorage g.M.Storage.TryDefault) (map (λ entry. entry.marker) (take l.place l.list)) (known_of l.fn.entities l.fn.allocator l.fn.markers) (known_of l.entities l.allocator l.markers);
}
