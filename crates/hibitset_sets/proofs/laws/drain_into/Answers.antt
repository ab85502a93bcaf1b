use Rattle.std.proofs.Common.{◌+◌, ◌∷◌, ◌++◌, [], ap, sym, ◌∙◌, subst, arith, ◌≤◌, length, take}
use Rattle.std.proofs.lemmas.List.{take_more_set, drop-set-lt}
use Rattle.hibitset_sets.specs.Drain.{WithoutAll, drained_of}
use Rattle.hibitset_sets.proofs.LawLemmas.{next-at, without-more, drop-same_more, none-left}
use Rattle.hibitset_sets.proofs.laws.drain_into.Goals as goal

pub loop-place-preserved : goal.loop-place-preserved
loop-place-preserved g c =
    let M = g.T.BitSetLike.members in
    let all = drained_of M c.args.drain.now in
    let before = c.loop-place in
    let after = c.next.new.self in
    let given = c.in-Some.ensures.steps in
    let next = next-at all before.place c.in-Some.i (drained_of M after) (sym before.invariant.left ∙ given.1.0) in
    let low = next.within in
    let room = before.auto.given in
    let full = c.loop-place-test.true in
    let within : before.place + 1 ≤ length before.given = omega arith in
    record {
      same_reference = given.0 ∙ before.invariant.same_reference;
      left = sym next.behind;
      upto = omega arith;
      items = take_more_set before.given before.place c.in-Some.i (omega arith) ∙ ap (λ xs. xs ++ (c.in-Some.i ∷ [])) before.invariant.items ∙ sym next.front;
      rest = drop-set-lt (before.place + 1) before.given before.place c.in-Some.i (omega arith) ∙ drop-same_more before.place before.given c.args.given.now before.invariant.rest;
      members = subst (λ gone. WithoutAll (M c.args.drain.now.set.now) gone (M after.set.now)) (sym next.front) (without-more (M c.args.drain.now.set.now) (M before.drain.set.now) (M after.set.now) (take before.place all) c.in-Some.i before.invariant.members given.1.1);
    }

pub returns-in_default-clause-count : goal.returns-in_default-clause-count
returns-in_default-clause-count g c =
    let all = drained_of g.T.BitSetLike.members c.args.drain.now in
    let end = none-left all c.loop-place.place c.loop-place.invariant.upto (sym c.loop-place.invariant.left ∙ c.in_default.ensures.steps.1.0) in
    let room = c.loop-place-test.true in
    omega arith
