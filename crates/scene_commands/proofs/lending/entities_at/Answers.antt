use Rattle.std.proofs.Common.{refl, ap, sym, ◌∙◌}
use Rattle.std.specs.Option.{option_and_then}
use Rattle.shred_world.proofs.WorldLemmas.{on_some, insert_value_same, if_some}
use Rattle.scene_commands.proofs.lending.entities_at.Goals as goal

pub returns : goal.returns
returns g c =
    let there = c.in_ok-get_mut_raw.ensures.value in (
      (
        refl,
        λ left. if_some c.entities_mut.result (on_some c.get_mut_raw.result c.in_ok-get_mut_raw.field-0 _ c.in_ok-get_mut_raw.was (c.get_mut_raw.follows.holds (g.R.Value.SceneValue.places.entities_value left))),
        on_some c.get_mut_raw.result c.in_ok-get_mut_raw.field-0 _ c.in_ok-get_mut_raw.was (c.get_mut_raw.follows.holds c.in_ok-get_mut_raw.field-0.now)
            ∙ insert_value_same c.args.world.now c.args.id c.in_ok-get_mut_raw.field-0.now (sym there),
      ),
      record {
        writes_back = tt;
        value = c.entities_mut.ensures.value ∙ ap (option_and_then g.R.Value.SceneValue.places.births) there;
        seen = if_some c.entities_mut.result c.entities_mut.ensures.seen;
      },
    )
