use Rattle.std.proofs.Common.{◌≡◌, ◌∷◌, ap, sym, ◌∙◌, rules}
use Rattle.shred_crew.specs.Deals.{returned, all_of}
use Rattle.shred_crew.proofs.DealLemmas.{returned-append}
use Rattle.shred_crew.proofs.gather.+gather.Goals as goal

pub returns-clause-slots : goal.returns-clause-slots
returns-clause-slots g t c =
    let is : c.args.rows.now ≡ c.in-Some.row.now ∷ c.in-Some.others.now = search rules in
    let slots = c.args.slots.now.items in
    c.gather_row.ensures.slots ∙ ap (returned c.in-Some.row.now.items) c.gather.ensures.slots ∙ sym (returned-append c.in-Some.row.now.items (all_of c.in-Some.others.now) slots)
    ∙ ap (λ rows. returned (all_of rows) slots) (sym is)
