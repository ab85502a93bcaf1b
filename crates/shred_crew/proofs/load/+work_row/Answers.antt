use Rattle.shred_crew.proofs.ZipLemmas.{zip-both}
use Rattle.shred_crew.proofs.load.+work_row.Goals as goal

pub returns-in_default : goal.returns-in_default
returns-in_default g t c =
    zip-both (g.T.Load.does c.args.shared.now) c.args.row.now c.split_at_mut-first.result.0.now c.split_at_mut-first.result.1.now c.work_row.new.row c.work_row-in_default.new.row
    c.split_at_mut-first.ensures.value c.work_row.ensures c.work_row-in_default.ensures
