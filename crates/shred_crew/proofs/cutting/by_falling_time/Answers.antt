use Rattle.std.proofs.Common.{◌≡◌, ◌<◌, ◌∙◌, length, map, take, ap, sym, subst, rules, arith, take_all}
use Rattle.std.specs.List.{All, enumerate_from}
use Rattle.std.proofs.lemmas.List.Elements.{All-push}
use Rattle.std.proofs.lemmas.List.Sorted.{All-permutation, IsPermutation-map}
use Rattle.shred_crew.specs.Cuts.{by_falling_time}
use Rattle.shred_crew.proofs.CutLemmas.{group_of, entries-more, entries-sorted, order-from-sorted, falling-is}
use Rattle.shred_crew.proofs.cutting.by_falling_time.Goals as goal

pub loop-number-preserved : goal.loop-number-preserved
loop-number-preserved c =
    let was = c.loop-number.invariant in
    record {
      entries = entries-more c.loop-number.order.items c.push_reserved.new.self.items _ c.args.times.now c.loop-number.number c.loop-number-test.true c.push_reserved.ensures.items (search rules) (search rules) was.entries;
      range = subst (All (λ one. one.1 < length c.args.times.now)) (sym c.push_reserved.ensures.items) (All-push (λ one. one.1 < length c.args.times.now) c.loop-number.order.items _ was.range c.loop-number-test.true);
      room = search rules;
      few = search rules;
    }

pub returns-clause-value : goal.returns-clause-value
returns-clause-value c =
    let was = c.loop-number.invariant in
    let whole : take c.loop-number.number c.args.times.now ≡ c.args.times.now = take_all c.loop-number.number c.args.times.now (omega (arith, c.loop-number-test.false)) in
    falling-is (map group_of c.loop-number.order.items) (map group_of c.sort_unstable.new.self.items) (IsPermutation-map group_of c.loop-number.order.items c.sort_unstable.new.self.items c.sort_unstable.ensures.permutation)
    (order-from-sorted (map group_of c.sort_unstable.new.self.items) (entries-sorted c.sort_unstable.new.self.items c.sort_unstable.ensures.sorted))
    ∙ ap by_falling_time (was.entries ∙ ap (enumerate_from 0) whole)

pub returns-clause-range : goal.returns-clause-range
returns-clause-range c = All-permutation (λ one. one.1 < length c.args.times.now) c.loop-number.order.items c.sort_unstable.new.self.items c.sort_unstable.ensures.permutation c.loop-number.invariant.range
