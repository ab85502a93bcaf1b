use Rattle.shred_stages.proofs.RunLemmas.{turn-read, seats-read}
use Rattle.shred_stages.proofs.run.run_turn.Goals as goal

pub returns-in-Ok-clause-runs : goal.returns-in-Ok-clause-runs
returns-in-Ok-clause-runs g c =
    turn-read g.S.System.meets c.args.staged.now c.args.adding.now c.number-number.result c.index-staged-index.result c.run_system.new.staged _ _ _ _ _
    c.requires.seated c.number-number.ensures c.reads.ensures c.writes.ensures c.in-Ok.ensures.step

pub returns-in-Ok-clause-seats : goal.returns-in-Ok-clause-seats
returns-in-Ok-clause-seats g c =
    seats-read c.args.staged.now c.args.adding.now c.number-number.result c.index-staged-index.result c.run_system.new.staged
    c.requires.seated c.number-number.ensures c.in-Ok.ensures.seat

pub returns-in-Err-clause-runs : goal.returns-in-Err-clause-runs
returns-in-Err-clause-runs g c =
    turn-read g.S.System.meets c.args.staged.now c.args.adding.now c.number-number.result c.index-staged-index.result c.run_system.new.staged _ _ _ _ _
    c.requires.seated c.number-number.ensures c.reads.ensures c.writes.ensures c.in-Err.ensures.step

pub returns-in-Err-clause-seats : goal.returns-in-Err-clause-seats
returns-in-Err-clause-seats g c =
    seats-read c.args.staged.now c.args.adding.now c.number-number.result c.index-staged-index.result c.run_system.new.staged
    c.requires.seated c.number-number.ensures c.in-Err.ensures.seat
