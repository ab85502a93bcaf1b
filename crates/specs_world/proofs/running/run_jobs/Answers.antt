use Rattle.std.proofs.Common.{◌≡◌, ◌≤◌, ◌-◌, ◌+◌, suc, sym, ap, subst, ◌∙◌, arith, Ok, Err}
use Rattle.std.specs.Result.{result_err}
use Rattle.specs_world.specs.Resources.{place}
use Rattle.specs_world.specs.Queues.{JobsRun, none_ran}
use Rattle.specs_world.proofs.RunLemmas.{run-over, run-memory, run-on, counted-jobs, counted-failed}
use Rattle.specs_world.proofs.running.run_jobs.Goals as goal

pub returns-in_default-clause-runs : goal.returns-in_default-clause-runs
returns-in_default-clause-runs g c =
    let at = place g.bound-3.part g.bound-3.wrapped g.bound-3.kind_number in
    let shared = place g.bound-4.part g.bound-4.wrapped g.bound-4.kind_number in
    let loop = c.loop-ran in
    let more : c.args.limit - loop._ran ≡ suc (c.args.limit - (loop._ran + 1)) = let h = c.loop-ran-test.true in omega arith in
    subst (JobsRun g.J.Job.runs at shared c.args.limit none_ran c.args.world.now (Ok loop.counts)) (sym c.in_default.ensures.none)
    (run-over g.J.Job.runs at shared c.args.limit c.args.world.now _ loop.counts loop.world loop.invariant.0 _ more c.in_default.ensures.waits)

pub returns-in-Err-clause-runs : goal.returns-in-Err-clause-runs
returns-in-Err-clause-runs g c =
    let at = place g.bound-3.part g.bound-3.wrapped g.bound-3.kind_number in
    let shared = place g.bound-4.part g.bound-4.wrapped g.bound-4.kind_number in
    let loop = c.loop-ran in
    let more : c.args.limit - loop._ran ≡ suc (c.args.limit - (loop._ran + 1)) = let h = c.loop-ran-test.true in omega arith in
    subst (λ error. JobsRun g.J.Job.runs at shared c.args.limit none_ran c.args.world.now (Err error) c.run_next.new.world) (sym c.in-Err.ensures.err.0)
    (run-memory g.J.Job.runs at shared c.args.limit c.args.world.now _ loop.counts loop.world loop.invariant.0 _ more _ c.run_next.new.world c.in-Some.ensures.some c.in-Err.ensures.err.1)

pub loop-ran-preserved : goal.loop-ran-preserved
loop-ran-preserved g c =
    let at = place g.bound-3.part g.bound-3.wrapped g.bound-3.kind_number in
    let shared = place g.bound-4.part g.bound-4.wrapped g.bound-4.kind_number in
    let loop = c.loop-ran in
    let more : c.args.limit - loop._ran ≡ suc (c.args.limit - (loop._ran + 1)) = let h = c.loop-ran-test.true in omega arith in
    let ok = c.in-Ok.ensures.ok in
    let jobs = counted-jobs (result_err c.in-Some.outcome) loop.counts in
    let failed = counted-failed (result_err c.in-Some.outcome) loop.counts in
    let ran = loop.invariant.1 in
    let fewer = loop.invariant.2 in (
      run-on g.J.Job.runs at shared c.args.limit c.args.world.now _ loop.counts loop.world loop.invariant.0 _ more _ c.run_next.new.world c.in-Some.ensures.some ok.0 _ ok.1,
      ap (λ counts. counts.jobs) ok.1 ∙ jobs ∙ ap (λ n. n + 1) ran,
      subst (λ counts. counts.failed ≤ counts.jobs) (sym ok.1) (omega arith),
    )
