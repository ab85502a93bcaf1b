use Rattle.std.proofs.Common.{rules, arith, ◌≡◌, ℕ, ◌/◌, ◌%◌, sym, subst, refl}
use Rattle.std.proofs.lemmas.List.Elements.{Contains-push}
use Rattle.std.proofs.lemmas.Nat.Bits.{shr_and_one}
use Rattle.std.specs.Int.{bit_at}
use Rattle.hibitset.specs.declared.shared_rule.SeatView.{SeatView}
use Rattle.hibitset.specs.SeatViews.{HasSeen}
use Rattle.hibitset.proofs.SharedLemmas.{look-allowed}
use Rattle.hibitset.proofs.shared.SharedBitSet.contains.Goals as goal

pub load-found-requires : goal.load-found-requires
load-found-requires c = (search rules, search rules, look-allowed c.args.self.now.table.shared.key _ _ _ _ (search rules) (search rules))

pub returns-clause-enters : goal.returns-clause-enters
returns-clause-enters c = λ is.
    let index : ℕ = c.args.id in
    let word = c.load-found.result in
    let seen = c.args.seat.now.seat.me.0.caller.seen in
    let set_bit : bit_at word (index % 64) ≡ 1 = grind (arith, shr_and_one word (index % 64)) in
    subst (λ (view : SeatView). HasSeen view index) (sym c.load-found.ensures.2.1) ((index / 64, word), Contains-push seen (index / 64, word), refl, set_bit)
