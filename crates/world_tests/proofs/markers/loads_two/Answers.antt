use Rattle.std.proofs.Common.{ap, ◌∙◌}
use Rattle.std.specs.FinMap as map
use Rattle.std.specs.Ordering.{nat_cmp}
use Rattle.specs_markers.specs.Simple.{Noting, noted_under}
use Rattle.world_tests.proofs.markers.loads_two.Goals as goal

pub two_markers_are_two_entities-loaded-requires-clause-unknown : goal.two_markers_are_two_entities-loaded-requires-clause-unknown
two_markers_are_two_entities-loaded-requires-clause-unknown c id = ap (λ (a : Noting). noted_under a id) c.new-allocator.ensures ∙ map.get-empty nat_cmp id
