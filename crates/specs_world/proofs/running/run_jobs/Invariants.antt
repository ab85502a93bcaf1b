use Rattle.std.proofs.Common.{◌≡◌, ◌-◌, ◌≤◌}
use Rattle.specs_world.specs.Resources.{place}
use Rattle.specs_world.proofs.RunLemmas.{AreToRun}
use Rattle.specs_world.proofs.running.run_jobs.Given as goal

abbrev pub invariant-loop-ran : goal.invariant-loop-ran
invariant-loop-ran g l =
    let at = place g.bound-3.part g.bound-3.wrapped g.bound-3.kind_number in
    let shared = place g.bound-4.part g.bound-4.wrapped g.bound-4.kind_number in
    AreToRun g.J.Job.runs at shared l.limit l.initial.world (l.limit - l._ran) l.counts l.world × (l.counts.jobs ≡ l._ran) × (l.counts.failed ≤ l.counts.jobs)
