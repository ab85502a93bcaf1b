use Rattle.std.proofs.Common.{◌≡◌, ap, ◌∙◌, ◌++◌, ◌∷◌, []}
use Rattle.shred_crew.specs.Lines.{asked_by, hand_of, are_idle}
use Rattle.shred_crew.proofs.LineLemmas.{idle-more}
use Rattle.shred_crew.proofs.shift.engage.Goals as goal

pub invariant_of-crew-2 : goal.invariant_of-crew-2
invariant_of-crew-2 g c =
    let seats = c.args.crew.now.seats.items in
    let seat = asked_by (hand_of c.in-Ok.post.grip) in
    let more : c.push_reserved.new.self.items ≡ seats ++ seat ∷ [] = c.push_reserved.ensures.items ∙ ap (λ list. list ++ seat ∷ []) c.reserve.ensures.items in
    record { idle = ap are_idle more ∙ idle-more seats seat c.args.crew.now.idle (ap asked_by c.in-Ok.ensures.caller) }
