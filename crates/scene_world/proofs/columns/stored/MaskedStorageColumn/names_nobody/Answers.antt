use Rattle.std.proofs.Common.{sym, ap, ◌∙◌}
use Rattle.scene_world.proofs.ColumnLemmas.{nobody-there}
use Rattle.scene_world.proofs.columns.stored.MaskedStorageColumn.names_nobody.Goals as goal

pub returns-else-not-refers : goal.returns-else-not-refers
returns-else-not-refers g c = λ empty.
    nobody-there g.T.Storage.UnprotectedStorage.part_at g.T.Storage.UnprotectedStorage.events g.T.Storage.UnprotectedStorage.emits g.T.PlainPart.stored c.args.self.now c.mask.ensures.agrees
    (sym (ap (λ mask. mask.members) c.mask.ensures.value) ∙ c.is_empty.ensures.0 empty)
