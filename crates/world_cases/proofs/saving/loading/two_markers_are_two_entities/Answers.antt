use Rattle.world_cases.proofs.LoadLemmas.{two-made}
use Rattle.world_cases.proofs.saving.loading.two_markers_are_two_entities.Goals as goal

pub returns-clause-two : goal.returns-clause-two
returns-clause-two g c =
    (two-made g.A.MarkerAllocator.noted g.A.MarkerAllocator.allocates g.M.Marker.id_of _ _ _ _ _ _ _ _ _ _ c.requires.unknown _ _ _ _ c.requires.apart c.in_ok-first.ensures.ok c.in_ok-second.ensures.ok).0

pub returns-clause-one : goal.returns-clause-one
returns-clause-one g c =
    (two-made g.A.MarkerAllocator.noted g.A.MarkerAllocator.allocates g.M.Marker.id_of _ _ _ _ _ _ _ _ _ _ c.requires.unknown _ _ _ _ c.requires.apart c.in_ok-first.ensures.ok c.in_ok-second.ensures.ok).1

pub returns-clause-other : goal.returns-clause-other
returns-clause-other g c =
    (two-made g.A.MarkerAllocator.noted g.A.MarkerAllocator.allocates g.M.Marker.id_of _ _ _ _ _ _ _ _ _ _ c.requires.unknown _ _ _ _ c.requires.apart c.in_ok-first.ensures.ok c.in_ok-second.ensures.ok).2
