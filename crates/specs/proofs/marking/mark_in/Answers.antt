use Rattle.std.proofs.Common.{Some, inl, inr, sym, ap, ◌∙◌}
use Rattle.std.proofs.lemmas.Result.{IfErr-weaker, IfOk-weaker}
use Rattle.std.specs.FinMap as map
use Rattle.shred_world.specs.ResourceIds.{id_of}
use Rattle.shred_world.proofs.CallerLemmas.{slot-is-out}
use Rattle.specs_world.specs.Resources.{held, place}
use Rattle.specs.specs.Marking.{without}
use Rattle.specs.proofs.SlotLemmas.{beside, unchanged, was-there}
use Rattle.specs.proofs.marking.mark_in.Goals as goal

pub give_back-requires : goal.give_back-requires
give_back-requires g c =
    let id = id_of g.M.Allocator.Resource.kind_number 0 in
    record { is_out = c.mark_by-outcome.ensures.outs id (slot-is-out c.args.world.now c.borrow.new.world id c.in-Some.ensures.out) }

pub returns-clause-ok : goal.returns-clause-ok
returns-clause-ok g c =
    let births_at = place g.bound-6.part g.bound-6.wrapped g.bound-6.kind_number in
    let allocator_at = place g.M.Allocator.Resource.part g.M.Allocator.Resource.wrapped g.M.Allocator.Resource.kind_number in
    let out = c.in-Some.ensures.out in
    IfOk-weaker c.mark_by-outcome.result _ _
    (λ new marked.
    let left = beside allocator_at _ _ c.args.world.now c.borrow.new.world c.mark_by-outcome.new.world c.give_back.new.world c.mark_by-outcome.new.allocator out marked.2 c.give_back.ensures in (
      marked.0,
      c.in-Some.allocator,
      c.mark_by-outcome.new.allocator,
      left.0,
      was-there allocator_at births_at c.args.world.now marked.0 (ap (held births_at) (sym out) ∙ marked.1),
      sym c.in-Some.ensures.value,
      left.1,
      left.2,
    ))
    c.mark_by-outcome.ensures.ok

pub returns-clause-refused : goal.returns-clause-refused
returns-clause-refused g c =
    let births_at = place g.bound-6.part g.bound-6.wrapped g.bound-6.kind_number in
    let storage_at = place g.bound-7.part g.bound-7.wrapped g.bound-7.kind_number in
    let allocator_at = place g.M.Allocator.Resource.part g.M.Allocator.Resource.wrapped g.M.Allocator.Resource.kind_number in
    let out = c.in-Some.ensures.out in
    IfErr-weaker c.mark_by-outcome.result _ _
    (λ error refused. elim refused [
      | inl lacks ↦ inl (
        lacks.0,
        inr (elim lacks.1 [
          | inl none ↦ inl (ap (held births_at) (sym out) ∙ none)
          | inr none ↦ inr (ap (λ w. held storage_at (without births_at w)) (sym out) ∙ none)
        ]),
        unchanged allocator_at g.met.M.Allocator.Resource.only_wrapped c.args.world.now c.in-Some.allocator (sym c.in-Some.ensures.value) c.borrow.new.world c.mark_by-outcome.new.world c.give_back.new.world out lacks.2
            (c.give_back.ensures ∙ ap (λ a. map.insert c.mark_by-outcome.new.world allocator_at.id (Some (allocator_at.wrapped a))) lacks.3),
      )
      | inr marked ↦
          let left = beside allocator_at _ _ c.args.world.now c.borrow.new.world c.mark_by-outcome.new.world c.give_back.new.world c.mark_by-outcome.new.allocator out marked.2 c.give_back.ensures in
          inr (
            marked.0,
            c.in-Some.allocator,
            c.mark_by-outcome.new.allocator,
            left.0,
            was-there allocator_at births_at c.args.world.now marked.0 (ap (held births_at) (sym out) ∙ marked.1),
            sym c.in-Some.ensures.value,
            left.1,
            left.2,
          )
    ])
    c.mark_by-outcome.ensures.refused
