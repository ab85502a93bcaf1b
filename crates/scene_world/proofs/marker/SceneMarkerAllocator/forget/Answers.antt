use Rattle.std.proofs.Common.{ap, ◌∙◌}
use Rattle.std.specs.FinMap as map
use Rattle.specs_markers.specs.Simple.{Noting}
use Rattle.scene_world.proofs.MarkerLemmas.{noted-less}
use Rattle.scene_world.proofs.marker.SceneMarkerAllocator.forget.Goals as goal

pub returns : goal.returns
returns c =
    let less = noted-less c.self.inside.mapping.entries c.remove.new.self.entries c.args.id c.remove.ensures.updates.0 in
    (λ i. record { next = c.self.inside.next; noted = less i })
    ∙ ap (λ (a : Noting). record { next = a.next; noted = map.remove a.noted c.args.id }) c.self.view_is
