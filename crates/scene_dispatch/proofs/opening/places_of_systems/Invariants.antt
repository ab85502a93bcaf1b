use Rattle.std.proofs.Common.{◌≡◌, true, map, take}
use Rattle.scene_document.specs.DraftViews.{plain_draft}
use Rattle.scene_document.specs.Openings.{systems_at}
use Rattle.scene_dispatch.proofs.opening.places_of_systems.Given as goal

abbrev pub invariant-loop-index : goal.invariant-loop-index
invariant-loop-index g l = l.places.items ≡ map (λ one. one.position) (systems_at (λ one. true) 1 (map plain_draft (take l.index l.entries)))
