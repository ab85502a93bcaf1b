use Rattle.std.proofs.Common.{◌≡◌, ◌++◌, ◌∷◌, [], ap, sym, ◌∙◌, rules}
use Rattle.shred_crew.specs.Deals.{returned}
use Rattle.shred_crew.proofs.DealLemmas.{returned-append}
use Rattle.shred_crew.proofs.gather.gather_row.Goals as goal

pub loop-one-preserved-in-Some : goal.loop-one-preserved-in-Some
loop-one-preserved-in-Some g c =
    let last : c.loop-one.row.items ≡ c.pop.new.self.items ++ c.in-Some.one ∷ [] = search rules in
    record {
      on = ap (returned c.pop.new.self.items) c.put_back.ensures.slots ∙ sym (returned-append c.pop.new.self.items (c.in-Some.one ∷ []) c.loop-one.slots.items) ∙ ap (λ list. returned list c.loop-one.slots.items) (sym last) ∙ c.loop-one.invariant.on;
      slots_room = search rules;
      row_room = search rules;
    }

pub loop-one-preserved : goal.loop-one-preserved
loop-one-preserved g c =
    let last : c.loop-one.row.items ≡ c.pop.new.self.items ++ c.in-Some.one ∷ [] = search rules in
    record {
      on = ap (returned c.pop.new.self.items) c.put_back.ensures.slots ∙ sym (returned-append c.pop.new.self.items (c.in-Some.one ∷ []) c.loop-one.slots.items) ∙ ap (λ list. returned list c.loop-one.slots.items) (sym last) ∙ c.loop-one.invariant.on;
      slots_room = search rules;
      row_room = search rules;
    }
