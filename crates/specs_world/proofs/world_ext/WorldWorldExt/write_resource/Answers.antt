use Rattle.std.proofs.Common.{refl, sym, ap, ◌∙◌}
use Rattle.std.specs.Option.{option_copied_mut}
use Rattle.shred_world.proofs.WorldLemmas.{on_some}
use Rattle.specs_world.proofs.world_ext.WorldWorldExt.write_resource.Goals as goal

pub returns-in-Some : goal.returns-in-Some
returns-in-Some g c =
    let stood = sym c.get_mut.ensures.value ∙ ap option_copied_mut c.in-Some.is in (
      (refl, λ left _. on_some c.get_mut.result c.in-Some.resource _ c.in-Some.is (c.get_mut.follows.holds left), tt),
      record { writes_back = tt; ok = stood; named = tt; not_registered = tt },
    )
