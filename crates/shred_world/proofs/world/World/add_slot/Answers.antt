use Rattle.std.proofs.Common.{None, is_ok, ap, subst, ◌∙◌}
use Rattle.std.specs.FinMap as map
use Rattle.shred_world.specs.Places.{IsPlaceOf, IsGapFor}
use Rattle.shred_world.proofs.SlotLemmas.{no_place, put_in_gap, sorted_in_gap, sorted_after}
use Rattle.shred_world.proofs.world.World.add_slot.Goals as goal
use Rattle.shred_world.proofs.world.World.add_slot.Goals.{in-Ok-insert, in-Err-insert}

-- the id has no slot, so no search finds one
pub unreachable-requires : goal.unreachable-requires
unreachable-requires g c =
    let here = subst (λ slots. IsPlaceOf slots c.args.id c.in-Ok.field-0) c.deref.ensures.value c.in-Ok.ensures.found in
    no_place c.self.inside.slots.items c.self.invariant c.args.self.now c.self.view_is c.args.id c.in-Ok.field-0 None c.requires.absent here

pub invariant_of-self : goal.invariant_of-self
invariant_of-self g c =
    let gap = subst (λ slots. IsGapFor slots c.args.id c.in-Err.place) c.deref.ensures.value c.in-Err.ensures.absent in
    sorted_after (is_ok c.insert.result) _ _ _ c.insert.ensures.items (sorted_in_gap c.self.inside.slots.items c.self.invariant c.args.self.now c.self.view_is c.args.id c.in-Err.place gap c.args.slot) c.self.invariant

pub returns-clause-ok : goal.returns-clause-ok
returns-clause-ok g c =
    let gap = subst (λ slots. IsGapFor slots c.args.id c.in-Err.place) c.deref.ensures.value c.in-Err.ensures.absent in
    elim c.match-insert.branch [
      | in-Ok-insert w ↦ rw w.result-is (ap map.from_entries w.in-Ok-insert.ensures.items ∙ put_in_gap c.self.inside.slots.items c.self.invariant c.args.self.now c.self.view_is c.args.id c.in-Err.place gap c.args.slot)
      | in-Err-insert w ↦ rw w.result-is tt
    ]
