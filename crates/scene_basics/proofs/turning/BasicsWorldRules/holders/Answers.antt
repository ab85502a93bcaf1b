use Rattle.std.proofs.Common.{◌≡◌, [], ap, sym, ◌∙◌, subst}
use Rattle.std.specs.FinSet as set
use Rattle.scene_world.specs.Putting.{named_in}
use Rattle.scene_basics.specs.declared.values.Value.{Value}
use Rattle.scene_basics.specs.Columns.{basic_columns}
use Rattle.scene_basics.proofs.ColumnLemmas.{no-owner-at}
use Rattle.scene_basics.proofs.turning.BasicsWorldRules.holders.Goals as goal

pub returns-in-OwnersValue : goal.returns-in-OwnersValue
returns-in-OwnersValue c = λ index off.
    subst (λ (value : Value). named_in (basic_columns.stored c.args.kind.now value index) ≡ []) (sym c.in-OwnersValue.is)
    (ap named_in (no-owner-at c.args.kind.now c.in-OwnersValue.owners (sym c.is_reference_kind.ensures ∙ c.if-is_reference_kind.true) c.mask.ensures.agrees index (sym (ap (λ mask. set.contains mask.members index) c.mask.ensures.value) ∙ off)))
