use Rattle.std.proofs.Common.{refl, ap, sym, ◌∙◌}
use Rattle.std.specs.Option.{option_copied_mut}
use Rattle.shred_world.proofs.WorldLemmas.{on_some}
use Rattle.shred_world.proofs.world.World.fetch_mut.Goals as goal

pub returns : goal.returns
returns g c = (
  (refl, λ left. on_some c.get_mut.result c.unwrap.result _ c.unwrap.ensures (c.get_mut.follows.holds left)),
  record { writes_back = tt; value = sym (ap option_copied_mut c.unwrap.ensures) ∙ c.get_mut.ensures.value },
)
