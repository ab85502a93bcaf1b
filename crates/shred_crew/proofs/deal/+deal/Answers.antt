use Rattle.std.proofs.Common.{◌≡◌, ◌∷◌, ◌++◌, ap, ap₂, sym, ◌∙◌, rules}
use Rattle.std.specs.List.{concat}
use Rattle.shred_crew.specs.Deals.{lists, vacated, standing}
use Rattle.shred_crew.proofs.DealLemmas.{vacated-append, standing-append}
use Rattle.shred_crew.proofs.deal.+deal.Goals as goal

pub returns-clause-slots : goal.returns-clause-slots
returns-clause-slots g t c =
    let is : c.args.shares.now ≡ c.in-Some.share.now ∷ c.in-Some.later.now = search rules in
    let numbers = c.in-Some.share.now.items in let later = concat (lists c.in-Some.later.now) in
    let first : c.deal_share.new.slots.items ≡ vacated numbers c.args.slots.now.items = search rules in
    c.deal.ensures.slots ∙ ap (vacated later) first ∙ sym (vacated-append numbers later c.args.slots.now.items) ∙ ap (λ shares. vacated (concat (lists shares)) c.args.slots.now.items) (sym is)

pub returns-clause-rows : goal.returns-clause-rows
returns-clause-rows g t c =
    let is : c.args.shares.now ≡ c.in-Some.share.now ∷ c.in-Some.later.now = search rules in
    let numbers = c.in-Some.share.now.items in let later = concat (lists c.in-Some.later.now) in
    let first : c.deal_share.new.slots.items ≡ vacated numbers c.args.slots.now.items = search rules in
    let row : c.deal_share.new.row.items ≡ standing numbers c.args.slots.now.items = search rules in
    ap₂ (λ one others. one ++ others) row (c.deal.ensures.rows ∙ ap (standing later) first) ∙ sym (standing-append numbers later c.args.slots.now.items) ∙ ap (λ shares. standing (concat (lists shares)) c.args.slots.now.items) (sym is)
