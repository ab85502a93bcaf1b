use Rattle.std.proofs.Common.{refl, ap, sym, ◌∙◌}
use Rattle.std.specs.Option.{option_and_then}
use Rattle.shred_world.proofs.WorldLemmas.{on_some, insert_value_same, if_some}
use Rattle.shred_world.proofs.world.World.try_fetch_mut_by_id.Goals as goal

pub returns : goal.returns
returns g c =
    let there = c.in_ok-get_mut_raw.ensures.value in (
      (
        refl,
        λ left. if_some c.view_mut.result (on_some c.get_mut_raw.result c.in_ok-get_mut_raw.field-0 _ c.in_ok-get_mut_raw.was (c.get_mut_raw.follows.holds (g.R.Resource.wrapped left))),
        on_some c.get_mut_raw.result c.in_ok-get_mut_raw.field-0 _ c.in_ok-get_mut_raw.was (c.get_mut_raw.follows.holds c.in_ok-get_mut_raw.field-0.now)
            ∙ insert_value_same c.args.self.now c.args.id c.in_ok-get_mut_raw.field-0.now (sym there),
      ),
      record { writes_back = tt; value = c.view_mut.ensures.value ∙ ap (option_and_then g.R.Resource.part) there },
    )
