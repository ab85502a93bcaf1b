use Rattle.std.proofs.Common.{ap, sym, subst, ◌∙◌}
use Rattle.std.specs.Option.{option_flatten}
use Rattle.std.specs.FinMap as map
use Rattle.shred_world.specs.Places.{AreSorted, IsPlaceOf, IsGapFor}
use Rattle.shred_world.proofs.PlaceLemmas.{sorted_without}
use Rattle.shred_world.proofs.SlotLemmas.{at_place, at_gap, without_place, without_gap}
use Rattle.shred_world.proofs.world.World.remove_raw.Goals as goal

pub invariant_of-self : goal.invariant_of-self
invariant_of-self g c = subst AreSorted (sym c.remove.ensures.items) (sorted_without c.self.inside.slots.items c.in-Ok.place c.self.invariant)

pub returns-in-Ok-clause-value : goal.returns-in-Ok-clause-value
returns-in-Ok-clause-value g c =
    let here = subst (λ slots. IsPlaceOf slots c.args.id c.in-Ok.place) c.deref.ensures.value c.in-Ok.ensures.found in
    ap (λ slot. slot.1) c.remove.ensures.value
    ∙ sym (ap option_flatten (at_place c.self.inside.slots.items c.self.invariant c.args.self.now c.self.view_is c.args.id c.in-Ok.place here c.remove.result))

pub returns-in-Ok-clause-removed : goal.returns-in-Ok-clause-removed
returns-in-Ok-clause-removed g c =
    let here = subst (λ slots. IsPlaceOf slots c.args.id c.in-Ok.place) c.deref.ensures.value c.in-Ok.ensures.found in
    ap map.from_entries c.remove.ensures.items ∙ without_place c.self.inside.slots.items c.self.invariant c.args.self.now c.self.view_is c.args.id c.in-Ok.place here

pub returns-in-Err-clause-value : goal.returns-in-Err-clause-value
returns-in-Err-clause-value g c =
    let gap = subst (λ slots. IsGapFor slots c.args.id c.in-Err.field-0) c.deref.ensures.value c.in-Err.ensures.absent in
    sym (ap option_flatten (at_gap c.self.inside.slots.items c.self.invariant c.args.self.now c.self.view_is c.args.id c.in-Err.field-0 gap))

pub returns-in-Err-clause-removed : goal.returns-in-Err-clause-removed
returns-in-Err-clause-removed g c =
    let gap = subst (λ slots. IsGapFor slots c.args.id c.in-Err.field-0) c.deref.ensures.value c.in-Err.ensures.absent in
    without_gap c.self.inside.slots.items c.self.invariant c.args.self.now c.self.view_is c.args.id c.in-Err.field-0 gap
