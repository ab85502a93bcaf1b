use Rattle.specs_markers.proofs.MarkingLemmas.{retrieved-marked}
use Rattle.specs_markers.proofs.laws.a_retrieved_entity_bears_the_marker.Goals as goal

pub returns-clause-marked : goal.returns-clause-marked
returns-clause-marked g c =
    retrieved-marked g.A.MarkerAllocator.noted g.A.MarkerAllocator.allocates g.M.Marker.id_of _ (g.M.Marker.id_of c.args.marker) c.args.entities.now
    c.retrieve_entity.new.entities c.args.allocator.now c.retrieve_entity.new.self c.args.storage.now c.retrieve_entity.new.storage c.retrieve_entity.result c.retrieve_entity.ensures.ok
