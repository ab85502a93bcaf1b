use Rattle.std.proofs.Common.{Some, refl, ap, sym, subst, ◌∙◌}
use Rattle.shred_world.specs.Places.{IsPlaceOf, IsGapFor}
use Rattle.shred_world.proofs.SlotLemmas.{at_place, at_gap, set_at_place, sorted_at_place}
use Rattle.shred_world.proofs.world.World.slot_mut.Goals as goal

pub invariant_of-self-lent : goal.invariant_of-self-lent
invariant_of-self-lent g c =
    let here = subst (λ slots. IsPlaceOf slots c.args.id c.in-Ok.place) c.deref.ensures.value c.in-Ok.ensures.found in
    sorted_at_place c.self.inside.slots.items c.self.invariant c.args.self.now c.self.view_is c.args.id c.in-Ok.place here c.index_mut.result.now.0
    (ap (λ slot. slot.0) c.index_mut.ensures.value ∙ here.has c.index_mut.result.now)

pub returns-in-Ok : goal.returns-in-Ok
returns-in-Ok g c =
    let here = subst (λ slots. IsPlaceOf slots c.args.id c.in-Ok.place) c.deref.ensures.value c.in-Ok.ensures.found in (
      (
        refl,
        set_at_place c.self.inside.slots.items c.self.invariant c.args.self.now c.self.view_is c.args.id c.in-Ok.place here c.index_mut.result.now.0
            (ap (λ slot. slot.0) c.index_mut.ensures.value ∙ here.has c.index_mut.result.now),
        refl,
      ),
      record {
        writes_back = tt;
        value = ap (λ slot. Some slot.1) c.index_mut.ensures.value
            ∙ sym (at_place c.self.inside.slots.items c.self.invariant c.args.self.now c.self.view_is c.args.id c.in-Ok.place here c.index_mut.result.now);
      },
    )

pub returns-in-Err : goal.returns-in-Err
returns-in-Err g c =
    let gap = subst (λ slots. IsGapFor slots c.args.id c.in-Err.field-0) c.deref.ensures.value c.in-Err.ensures.absent in (
      (refl, λ left. tt, c.self.view_is),
      record { writes_back = tt; value = sym (at_gap c.self.inside.slots.items c.self.invariant c.args.self.now c.self.view_is c.args.id c.in-Err.field-0 gap) },
    )
