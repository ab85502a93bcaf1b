use Rattle.std.proofs.Common.{rules}
use Rattle.shred_crew.proofs.DealLemmas.{put-lists}
use Rattle.shred_crew.proofs.cutting.add.Goals as goal

pub returns-clause-ok : goal.returns-clause-ok
returns-clause-ok c = put-lists c.args.shares.now.items c.args.worker c.index_mut.result.now c.push.new.self c.args.group c.requires (search rules)
