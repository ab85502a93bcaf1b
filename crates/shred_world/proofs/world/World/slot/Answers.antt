use Rattle.std.proofs.Common.{Some, ap, sym, subst, ◌∙◌}
use Rattle.shred_world.specs.Places.{IsPlaceOf, IsGapFor}
use Rattle.shred_world.proofs.SlotLemmas.{at_place, at_gap}
use Rattle.shred_world.proofs.world.World.slot.Goals as goal

pub returns-in-Ok : goal.returns-in-Ok
returns-in-Ok g c =
    let here = subst (λ slots. IsPlaceOf slots c.args.id c.in-Ok.place) c.deref.ensures.value c.in-Ok.ensures.found in
    ap (λ slot. Some slot.1) c.index.ensures ∙ sym (at_place c.self.inside.slots.items c.self.invariant c.args.self.now c.self.view_is c.args.id c.in-Ok.place here c.index.result.now)

pub returns-in-Err : goal.returns-in-Err
returns-in-Err g c =
    let gap = subst (λ slots. IsGapFor slots c.args.id c.in-Err.field-0) c.deref.ensures.value c.in-Err.ensures.absent in
    sym (at_gap c.self.inside.slots.items c.self.invariant c.args.self.now c.self.view_is c.args.id c.in-Err.field-0 gap)
