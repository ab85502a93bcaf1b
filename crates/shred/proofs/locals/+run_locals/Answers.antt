use Rattle.std.proofs.Common.{arith}
use Rattle.shred.proofs.LocalLemmas.{locals-one, locals-halves, locals-half}
use Rattle.shred.proofs.locals.+run_locals.Goals as goal

pub returns-in-len1 : goal.returns-in-len1
returns-in-len1 g t c = record {
  runs = locals-one g.L.RunNow.meets c.args.place c.args.locals.now c.index-locals-0.result c.run_local.new.local _ _ _ _ c.in-len1.len_at_least c.in-len1.len_below
      c.run_local.ensures.meets c.run_local.ensures.leaves c.run_local.ensures.place;
}

pub returns-in-Ok : goal.returns-in-Ok
returns-in-Ok g t c = record {
  runs = locals-halves g.L.RunNow.meets c.args.place _ c.args.locals.now c.split_at_mut-first.result.0.now c.split_at_mut-first.result.1.now c.run_locals.new.locals c.run_locals-in-Ok.new.locals _ _ _ _
      c.split_at_mut-first.ensures.value (omega arith) c.in-Ok.ensures.runs c.run_locals-in-Ok.ensures.runs;
}

pub returns-in-Err : goal.returns-in-Err
returns-in-Err g t c = record {
  runs = locals-half g.L.RunNow.meets c.args.place c.args.locals.now c.split_at_mut-first.result.0.now c.split_at_mut-first.result.1.now c.run_locals.new.locals _ _ _ c.split_at_mut-first.ensures.value c.in-Err.ensures.runs;
}
