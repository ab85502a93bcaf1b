use Rattle.std.proofs.Common.{eqb, ap, ◌∙◌}
use Rattle.std.specs.List.{list_any}
use Rattle.std.proofs.lemmas.Result.{IfOk-weaker}
use Rattle.hibitset_sets.specs.BitSet.{has_member}
use Rattle.hibitset_sets.specs.Walk.{walk}
use Rattle.scene_world.proofs.ColumnLemmas.{members-with}
use Rattle.scene_world.proofs.columns.stored.MaskedStorageColumn.indices.Goals as goal

pub returns : goal.returns
returns g c =
    IfOk-weaker c.members_of.result _ _
    (λ indices are index. ap (list_any (eqb index)) (are ∙ ap (λ mask. walk (has_member mask)) c.mask.ensures.value)
    ∙ members-with g.T.PlainPart.stored c.args.self.now.mask (g.T.Storage.UnprotectedStorage.part_at c.args.self.now.inner) c.mask.ensures.agrees c.mask.ensures.range index)
    c.members_of.ensures
