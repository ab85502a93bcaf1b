use Rattle.std.proofs.Common.{ap, sym, ◌∙◌, Some}
use Rattle.std.specs.FinMap as map
use Rattle.shred_world.proofs.WorldLemmas.{on_some, insert_same, if_some_value, if_none}
use Rattle.shred_world.proofs.world.World.take_raw.Goals as goal

pub returns-clause-out : goal.returns-clause-out
returns-clause-out g c =
    if_some_value c.take.result (
    on_some c.slot_mut.result c.in_ok-slot_mut.field-0 _ c.in_ok-slot_mut.was (c.slot_mut.follows.holds c.take.new.self)
    ∙ ap (map.insert c.args.self.now c.args.id) c.take.ensures.after)

pub returns-clause-none : goal.returns-clause-none
returns-clause-none g c = if_none c.take.result (λ none.
    on_some c.slot_mut.result c.in_ok-slot_mut.field-0 _ c.in_ok-slot_mut.was (c.slot_mut.follows.holds c.take.new.self)
    ∙ insert_same c.args.self.now c.args.id c.take.new.self (sym c.in_ok-slot_mut.ensures.value ∙ ap Some (sym c.take.ensures.value ∙ none ∙ sym c.take.ensures.after)))
