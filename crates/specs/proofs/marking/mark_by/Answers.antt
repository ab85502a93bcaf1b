use Rattle.std.proofs.Common.{inl, inr, sym, ap, ◌∙◌}
use Rattle.std.proofs.lemmas.Result.{IfErr-weaker, IfOk-weaker}
use Rattle.shred_world.specs.ResourceIds.{id_of}
use Rattle.shred_world.proofs.CallerLemmas.{slot-is-out}
use Rattle.specs_world.specs.Resources.{held, place}
use Rattle.specs.proofs.SlotLemmas.{around, stays-around, unchanged}
use Rattle.specs.proofs.marking.mark_by.Goals as goal

pub give_back-requires : goal.give_back-requires
give_back-requires g c = record { is_out = c.mark_beside-outcome.ensures.outs (id_of g.bound-7.kind_number 0) (slot-is-out c.args.world.now c.borrow.new.world (id_of g.bound-7.kind_number 0) c.in-Some.ensures.out) }

pub returns-clause-ok : goal.returns-clause-ok
returns-clause-ok g c =
    let births_at = place g.bound-7.part g.bound-7.wrapped g.bound-7.kind_number in
    IfOk-weaker c.mark_beside-outcome.result _ _
    (λ new becomes. (c.in-Some.entities, sym c.in-Some.ensures.value, around births_at g.bound-7-met.only_wrapped c.args.world.now c.in-Some.entities (sym c.in-Some.ensures.value) _ _ c.borrow.new.world c.mark_beside-outcome.new.world c.give_back.new.world c.in-Some.ensures.out becomes c.give_back.ensures))
    c.mark_beside-outcome.ensures.ok

pub returns-clause-refused : goal.returns-clause-refused
returns-clause-refused g c =
    let births_at = place g.bound-7.part g.bound-7.wrapped g.bound-7.kind_number in
    let storage_at = place g.bound-8.part g.bound-8.wrapped g.bound-8.kind_number in
    IfErr-weaker c.mark_beside-outcome.result _ _
    (λ error refused. elim refused [
      | inl none ↦ inl (
        none.0,
        inr (ap (held storage_at) (sym c.in-Some.ensures.out) ∙ none.1),
        unchanged births_at g.bound-7-met.only_wrapped c.args.world.now c.in-Some.entities (sym c.in-Some.ensures.value) c.borrow.new.world c.mark_beside-outcome.new.world c.give_back.new.world c.in-Some.ensures.out none.2 c.give_back.ensures,
        none.3,
      )
      | inr becomes ↦ inr (c.in-Some.entities, sym c.in-Some.ensures.value, around births_at g.bound-7-met.only_wrapped c.args.world.now c.in-Some.entities (sym c.in-Some.ensures.value) _ _ c.borrow.new.world c.mark_beside-outcome.new.world c.give_back.new.world c.in-Some.ensures.out becomes c.give_back.ensures)
    ])
    c.mark_beside-outcome.ensures.refused

pub returns-clause-outs : goal.returns-clause-outs
returns-clause-outs g c =
    stays-around (place g.bound-7.part g.bound-7.wrapped g.bound-7.kind_number) g.bound-7-met.only_wrapped c.args.world.now c.in-Some.entities (sym c.in-Some.ensures.value) c.borrow.new.world c.mark_beside-outcome.new.world c.give_back.new.world c.in-Some.ensures.out c.mark_beside-outcome.ensures.outs c.give_back.ensures
