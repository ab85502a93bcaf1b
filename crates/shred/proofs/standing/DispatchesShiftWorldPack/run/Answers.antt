use Rattle.std.proofs.Common.{◌≡◌, ◌∙◌, ℕ, suc, ◌+◌, ◌<◌, sym, ap, subst, arith}
use Rattle.std.specs.Prelude.{Result, Ok}
use Rattle.shred_stages.specs.declared.error.DispatchError.{DispatchError}
use Rattle.shred.specs.Standing.{AreAccepted, DispatchesTimes}
use Rattle.shred.proofs.standing.DispatchesShiftWorldPack.run.Goals as goal

pub loop-time-preserved : goal.loop-time-preserved
loop-time-preserved g c =
    let before = c.args.self.now in
    let here = c.loop-time in
    let next : suc here._time ≡ here._time + 1 = omega arith in
    let P : ℕ → Type 0 = λ count. AreAccepted g.S.System.meets g.L.RunNow.meets count before.dispatcher before.world c.dispatch_with.new.self c.dispatch_with.new.world in
    record {
      times = here.invariant.times;
      accepted = ap (λ count. count + 1) here.invariant.accepted;
      outcome = here.invariant.outcome;
      ran = subst P next (here.self.dispatcher, here.self.world, here.invariant.ran, c.in-Ok.ensures.runs);
    }

pub returns-in-Err : goal.returns-in-Err
returns-in-Err g c =
    let before = c.args.self.now in
    let here = c.loop-time in
    let P : ℕ → Type 0 = λ count. AreAccepted g.S.System.meets g.L.RunNow.meets count before.dispatcher before.world here.self.dispatcher here.self.world in
    let same : here._time ≡ here.self.accepted = sym here.invariant.accepted in
    (subst (λ count. count < before.times) same c.loop-time-test.true, (here.self.dispatcher, here.self.world, subst P same here.invariant.ran, c.in-Err.ensures.runs))

pub returns : goal.returns
returns g c =
    let before = c.args.self.now in
    let here = c.loop-time in
    let all : here._time ≡ before.times = omega arith in
    let P : ℕ → Type 0 = λ count. AreAccepted g.S.System.meets g.L.RunNow.meets count before.dispatcher before.world here.self.dispatcher here.self.world in
    let Q : Result (Unit {0}) DispatchError → Type 0 = λ outcome. DispatchesTimes g.S.System.meets g.L.RunNow.meets before.times before.dispatcher before.world here.self.accepted outcome here.self.dispatcher here.self.world in
    subst Q (sym here.invariant.outcome) (here.invariant.accepted ∙ all, subst P (sym here.invariant.accepted) here.invariant.ran)
