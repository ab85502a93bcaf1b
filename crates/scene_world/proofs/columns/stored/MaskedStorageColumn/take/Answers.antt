use Rattle.scene_world.proofs.ColumnLemmas.{taking-shown}
use Rattle.scene_world.proofs.columns.stored.MaskedStorageColumn.take.Goals as goal

pub returns-clause-shown : goal.returns-clause-shown
returns-clause-shown g c =
    taking-shown g.T.Storage.UnprotectedStorage.part_at g.T.Storage.UnprotectedStorage.events g.T.Storage.UnprotectedStorage.emits g.T.PlainPart.stored c.args.self.now c.drop.new.self c.args.index c.drop.result
    c.drop.ensures.ok c.drop.ensures.err c.drop.ensures.events c.drop.ensures.silent c.drop.ensures.emission
