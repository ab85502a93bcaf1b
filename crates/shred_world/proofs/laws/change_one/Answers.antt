use Rattle.std.proofs.Common.{◌≡◌, Some, unwrap_or, refl, sym, ap, ◌∙◌}
use Rattle.std.specs.Option.{option_copied_mut}
use Rattle.shred_world.specs.Worlds.{value_at}
use Rattle.shred_world.specs.ResourceIds.{id_of}
use Rattle.shred_world.proofs.WorldLemmas.{on_some}
use Rattle.shred_world.proofs.TurnLemmas.{match-some}
use Rattle.shred_world.proofs.laws.change_one.Goals as goal

pub returns-in-Some : goal.returns-in-Some
returns-in-Some g c =
    let there : value_at c.args.world.now (id_of (unwrap_or c.args.walk.now.current 0) 0) ≡ Some c.in-Some.value.now = sym c.value.ensures.value ∙ ap option_copied_mut c.in-Some.is in
    match-some _ _ _ c.in-Some.value.now there (
      c.change-next.result,
      (_, refl, c.change-next.ensures),
      on_some c.value.result c.in-Some.value _ c.in-Some.is (c.value.follows.holds c.change-next.result),
    )
