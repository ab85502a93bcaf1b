use Rattle.std.proofs.Common.{ap, sym, ◌∙◌}
use Rattle.std.specs.Prelude.{option_and_then}
use Rattle.std.specs.Option.{option_copied}
use Rattle.scene_commands.specs.Acts.{seen_of}
use Rattle.scene_world.proofs.CallerLemmas.{none-noted}
use Rattle.scene_commands.proofs.LookLemmas.{lent-none, lent-some}
use Rattle.scene_commands.proofs.looking.noted_entity.Goals as goal

pub returns-in_err-value : goal.returns-in_err-value
returns-in_err-value g c =
    c.from_residual.ensures
    ∙ sym (none-noted g.R.Value.SceneValue.places.noting (seen_of c.args.world.now g.R.Value.SceneValue.places.allocator_id) c.args.id
    (ap (option_and_then g.R.Value.SceneValue.places.noting) (lent-none c.args.world.now g.R.Value.SceneValue.places.allocator_id c.allocator_id.result c.allocator_id.ensures c.get_raw.result c.get_raw.ensures c.in_err-value.was)))

pub returns-in_err-allocator : goal.returns-in_err-allocator
returns-in_err-allocator g c =
    c.from_residual-in_err-allocator.ensures
    ∙ sym (none-noted g.R.Value.SceneValue.places.noting (seen_of c.args.world.now g.R.Value.SceneValue.places.allocator_id) c.args.id
    (ap (option_and_then g.R.Value.SceneValue.places.noting) (lent-some c.args.world.now g.R.Value.SceneValue.places.allocator_id c.allocator_id.result c.allocator_id.ensures c.get_raw.result c.get_raw.ensures c.in_ok-value.value c.in_ok-value.was)
    ∙ sym c.allocator.ensures ∙ ap option_copied c.in_err-allocator.was))
