use Rattle.specs_saveload.specs.Asked.{marking_of}
use Rattle.specs_saveload.specs.Reached.{marked_first}
use Rattle.specs_saveload.proofs.AskLemmas.{AreAskedFor, members_of}
use Rattle.specs_saveload.proofs.RecursionLemmas.{IsReaching}
use Rattle.specs_saveload.proofs.recursive.reach.Given as goal

abbrev pub invariant-loop-place : goal.invariant-loop-place
invariant-loop-place g l =
    let marks = g.M.Storage.UnprotectedStorage.part_at in
    IsReaching (λ entity. g.S.SerializeComponents.refers_to (g.S.SerializeComponents.parts_at l.storages entity.id)) (marked_first l.entities (marks l.fn.markers.inner)) (marks l.fn.markers.inner) l.entities l.place (marks l.markers.inner) l.list.items
    × AreAskedFor (λ entity. g.S.SerializeComponents.refers_to (g.S.SerializeComponents.parts_at l.storages entity.id)) g.A.MarkerAllocator.noted g.A.MarkerAllocator.allocates g.M.Marker.id_of (members_of g.M.Storage.UnprotectedStorage g.M.Storage.TryDefault) l.entities l.list.items l.place (marking_of l.fn.allocator l.fn.markers) (marking_of l.allocator l.markers)
