use Rattle.shred.proofs.AsyncLemmas.{finishes, finishes-refused}
use Rattle.shred.proofs.async_dispatcher.AsyncDispatcher.wait.Goals as goal

pub returns-in-Ok : goal.returns-in-Ok
returns-in-Ok g c = record { finishes = finishes g.S.System.meets g.L.RunNow.meets c.args.self.now c.wait_without_tl.new.self c.run_locals.new.self c.run_locals.result c.in-Ok.ensures.joins c.run_locals.ensures.runs }

pub returns-in-Err : goal.returns-in-Err
returns-in-Err g c = record { finishes = finishes-refused g.S.System.meets g.L.RunNow.meets c.args.self.now c.wait_without_tl.new.self c.in-Err.error c.in-Err.ensures.joins }
