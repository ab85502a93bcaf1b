use Rattle.std.proofs.Common.{refl, ap, sym, ◌∙◌, Some}
use Rattle.std.specs.Option.{option_flatten}
use Rattle.shred_world.proofs.WorldLemmas.{on_some, insert_same, if_some}
use Rattle.shred_world.proofs.world.World.get_mut_raw.Goals as goal

pub returns : goal.returns
returns g c =
    let was = c.in_ok-slot_mut.was in
    let there = c.in_ok-slot_mut.ensures.value in (
      (
        refl,
        λ left. if_some c.as_mut.result (on_some c.slot_mut.result c.in_ok-slot_mut.field-0 _ was (c.slot_mut.follows.holds (Some left))),
        on_some c.slot_mut.result c.in_ok-slot_mut.field-0 _ was (c.slot_mut.follows.holds c.in_ok-slot_mut.field-0.now) ∙ insert_same c.args.self.now c.args.id c.in_ok-slot_mut.field-0.now (sym there),
      ),
      record { writes_back = tt; value = c.as_mut.ensures.value ∙ ap option_flatten there },
    )
