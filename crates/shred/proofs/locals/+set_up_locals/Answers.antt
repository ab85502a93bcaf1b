use Rattle.shred.proofs.LocalLemmas.{set-up-single, set-up-halves, set-up-half}
use Rattle.shred.proofs.locals.+set_up_locals.Goals as goal

pub returns-in-len1 : goal.returns-in-len1
returns-in-len1 g t c = set-up-single g.L.RunNow.sets_up c.args.locals.now c.index-locals-0.result c.setup.new.self _ _ _ c.in-len1.len_at_least c.in-len1.len_below c.setup.ensures

pub returns-in-Ok : goal.returns-in-Ok
returns-in-Ok g t c =
    set-up-halves g.L.RunNow.sets_up c.args.locals.now c.split_at_mut-first.result.0.now c.split_at_mut-first.result.1.now c.set_up_locals.new.locals c.set_up_locals-in-Ok.new.locals _ _ _ _
    c.split_at_mut-first.ensures.value c.in-Ok.ensures c.set_up_locals-in-Ok.ensures

pub returns-in-Err : goal.returns-in-Err
returns-in-Err g t c =
    set-up-half g.L.RunNow.sets_up c.args.locals.now c.split_at_mut-first.result.0.now c.split_at_mut-first.result.1.now c.set_up_locals.new.locals _ _ c.split_at_mut-first.ensures.value c.in-Err.ensures
