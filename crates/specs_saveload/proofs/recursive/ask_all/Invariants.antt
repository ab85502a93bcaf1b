use Rattle.std.specs.Vec.Iter.{into_iter_items, into_iter_len}
use Rattle.specs_saveload.specs.Asked.{marking_of}
use Rattle.specs_saveload.proofs.AskLemmas.{AreAsking, members_of}
use Rattle.specs_saveload.proofs.RecursionLemmas.{IsAsking}
use Rattle.specs_saveload.proofs.recursive.ask_all.Given as goal

-- those asked for so far, and those to come, are all; and each of the former was marked as it was asked for
abbrev pub invariant-loop-entity : goal.invariant-loop-entity
invariant-loop-entity g l =
    let marks = g.M.Storage.UnprotectedStorage.part_at in
    IsAsking l.entities l.fn.asked.items (into_iter_items l.entity-iterator) (into_iter_len l.entity-iterator) (marks l.fn.markers.inner) (marks l.markers.inner) l.fn.list.items l.list.items
    × AreAsking g.A.MarkerAllocator.noted g.A.MarkerAllocator.allocates g.M.Marker.id_of (members_of g.M.Storage.UnprotectedStorage g.M.Storage.TryDefault) l.entities l.fn.asked.items (into_iter_items l.entity-iterator) (marking_of l.fn.allocator l.fn.markers) (marking_of l.allocator l.markers)
