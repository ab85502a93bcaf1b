use Rattle.std.proofs.Common.{rules, arith, refl, ap, ◌∙◌, ◌≡◌, ◌+◌, ◌*◌, ◌/◌, ◌%◌, ◌<◌}
use Rattle.hibitset.specs.Cut.{number_in}
use Rattle.hibitset.specs.declared.shared_rule.SeatView.{SeatView}
use Rattle.hibitset.specs.AtomicCore.{address, begun, risen}
use Rattle.hibitset.specs.SeatViews.{with_caller}
use Rattle.hibitset.specs.SharedRule.{full}
use Rattle.hibitset.proofs.SharedLemmas.{begin-allowed, rise-allowed, end-allowed}
use Rattle.hibitset.proofs.shared.SharedBitSet.add_atomic.Goals as goal

pub fetch_or-found-requires : goal.fetch_or-found-requires
fetch_or-found-requires c = (search rules, search rules, begin-allowed c.args.self.now.table.shared.key _ _ _ _ _ c.args.id (search rules) (search rules) (search rules) (search rules) (search rules))

pub fetch_or-requires : goal.fetch_or-requires
fetch_or-requires c =
    let view : SeatView = c.args.seat.now.seat.me.0 in
    let mine = c.fetch_or-found.new.seat.me in
    let now : mine.0 ≡ with_caller view (begun view.caller (c.args.id / 64 * 64 + c.args.id % 64) c.fetch_or-found.result) = c.fetch_or-found.ensures.2.1 (c.args.id % 64) (omega arith) refl in
    let index : mine.0.caller.index ≡ c.args.id = ap (λ (v : SeatView). v.caller.index) now ∙ omega arith in
    let parts : mine.0.parts ≡ view.parts = ap (λ (v : SeatView). v.parts) now in
    let some_part : 0 < view.parts = search rules in (
      search rules,
      search rules,
      rise-allowed c.args.self.now.table.shared.key _ _ mine _ _ (address full 1 (number_in 1 mine.0.caller.index)) (omega arith) (omega arith) (omega arith) 0 (ap (λ (v : SeatView). v.caller.stage) now) (omega arith) refl,
    )

pub fetch_or-requires-2 : goal.fetch_or-requires-2
fetch_or-requires-2 c =
    let view : SeatView = c.args.seat.now.seat.me.0 in
    let mine = c.fetch_or.new.seat.me in
    let now : mine.0 ≡ with_caller view (risen (begun view.caller (c.args.id / 64 * 64 + c.args.id % 64) c.fetch_or-found.result)) =
    c.fetch_or.ensures.2.1 ∙ ap (λ (v : SeatView). with_caller v (risen v.caller)) (c.fetch_or-found.ensures.2.1 (c.args.id % 64) (omega arith) refl) in
    let index : mine.0.caller.index ≡ c.args.id = ap (λ (v : SeatView). v.caller.index) now ∙ omega arith in
    let parts : mine.0.parts ≡ view.parts = ap (λ (v : SeatView). v.parts) now in
    let some_part : 0 < view.parts = search rules in (
      search rules,
      search rules,
      rise-allowed c.args.self.now.table.shared.key _ _ mine _ _ (address full 2 (number_in 2 mine.0.caller.index)) (omega arith) (omega arith) (omega arith) 1 (ap (λ (v : SeatView). v.caller.stage) now) (omega arith) refl,
    )

pub fetch_or-requires-3 : goal.fetch_or-requires-3
fetch_or-requires-3 c =
    let view : SeatView = c.args.seat.now.seat.me.0 in
    let mine = c.fetch_or-2.new.seat.me in
    let now : mine.0 ≡ with_caller view (risen (risen (begun view.caller (c.args.id / 64 * 64 + c.args.id % 64) c.fetch_or-found.result))) =
    c.fetch_or-2.ensures.2.1 ∙ ap (λ (v : SeatView). with_caller v (risen v.caller)) (c.fetch_or.ensures.2.1 ∙ ap (λ (v : SeatView). with_caller v (risen v.caller)) (c.fetch_or-found.ensures.2.1 (c.args.id % 64) (omega arith) refl)) in
    let index : mine.0.caller.index ≡ c.args.id = ap (λ (v : SeatView). v.caller.index) now ∙ omega arith in
    let parts : mine.0.parts ≡ view.parts = ap (λ (v : SeatView). v.parts) now in
    let some_part : 0 < view.parts = search rules in (
      search rules,
      search rules,
      end-allowed c.args.self.now.table.shared.key _ _ mine _ _ (address full 3 (number_in 3 mine.0.caller.index)) (omega arith) (omega arith) (omega arith) (ap (λ (v : SeatView). v.caller.stage) now) refl,
    )
