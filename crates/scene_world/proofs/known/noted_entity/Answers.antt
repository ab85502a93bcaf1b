use Rattle.std.proofs.Common.{ap, sym, ◌∙◌}
use Rattle.std.specs.Prelude.{option_and_then}
use Rattle.std.specs.Option.{option_copied}
use Rattle.shred_world.specs.Bundles.{readable}
use Rattle.scene_world.proofs.KnownLemmas.{lent-none, lent-some, none-noted}
use Rattle.scene_world.proofs.known.noted_entity.Goals as goal

pub returns-in_err-value : goal.returns-in_err-value
returns-in_err-value g c =
    c.from_residual.ensures
    ∙ sym (none-noted g.V.SceneValue.places.noting (readable (g.W.Holder.slots c.args.view.now g.V.SceneValue.places.allocator_id)) c.args.id
    (ap (option_and_then g.V.SceneValue.places.noting) (lent-none (g.W.Holder.slots c.args.view.now) g.V.SceneValue.places.allocator_id c.allocator_id.result c.allocator_id.ensures c.value.result c.value.ensures c.in_err-value.was)))

pub returns-in_err-allocator : goal.returns-in_err-allocator
returns-in_err-allocator g c =
    c.from_residual-in_err-allocator.ensures
    ∙ sym (none-noted g.V.SceneValue.places.noting (readable (g.W.Holder.slots c.args.view.now g.V.SceneValue.places.allocator_id)) c.args.id
    (ap (option_and_then g.V.SceneValue.places.noting) (lent-some (g.W.Holder.slots c.args.view.now) g.V.SceneValue.places.allocator_id c.allocator_id.result c.allocator_id.ensures c.value.result c.value.ensures c.in_ok-value.value c.in_ok-value.was)
    ∙ sym c.allocator.ensures ∙ ap option_copied c.in_err-allocator.was))
