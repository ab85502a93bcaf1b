use Rattle.shred_stages.proofs.SetupLemmas.{staged-one, staged-both, staged-stop}
use Rattle.shred_stages.proofs.setup.+set_up_each.Goals as goal

pub returns-in-len1-clause-sets_up : goal.returns-in-len1-clause-sets_up
returns-in-len1-clause-sets_up g t c =
    staged-one g.S.System.sets_up c.args.staged.now c.index-staged-0.result (record { system = c.setup.new.self; seat = _ }) _ _ _ c.in-len1.len_at_least c.in-len1.len_below c.setup.ensures.meets

pub returns-in-Ok-clause-sets_up : goal.returns-in-Ok-clause-sets_up
returns-in-Ok-clause-sets_up g t c =
    staged-both g.S.System.sets_up c.args.staged.now c.split_at_mut-first.result.0.now c.split_at_mut-first.result.1.now c.set_up_each.new.staged c.set_up_each-in-Ok.new.staged _ _ _ _
    c.split_at_mut-first.ensures.value c.in-Ok.ensures.sets_up c.set_up_each-in-Ok.ensures.sets_up

pub returns-in-Err-clause-sets_up : goal.returns-in-Err-clause-sets_up
returns-in-Err-clause-sets_up g t c =
    staged-stop g.S.System.sets_up c.args.staged.now c.split_at_mut-first.result.0.now c.split_at_mut-first.result.1.now c.set_up_each.new.staged _ _ c.split_at_mut-first.ensures.value c.in-Err.ensures.sets_up
