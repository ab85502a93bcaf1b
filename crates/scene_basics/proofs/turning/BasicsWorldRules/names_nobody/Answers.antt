use Rattle.std.proofs.Common.{◌≡◌, [], ap, sym, ◌∙◌, subst}
use Rattle.scene_world.specs.Putting.{named_in}
use Rattle.scene_basics.specs.declared.values.Value.{Value}
use Rattle.scene_basics.specs.Columns.{basic_columns}
use Rattle.scene_basics.proofs.ColumnLemmas.{no-owners}
use Rattle.scene_basics.proofs.turning.BasicsWorldRules.names_nobody.Goals as goal

pub returns-in-OwnersValue : goal.returns-in-OwnersValue
returns-in-OwnersValue c = λ empty index.
    subst (λ (value : Value). named_in (basic_columns.stored c.args.kind.now value index) ≡ []) (sym c.in-OwnersValue.is)
    (ap named_in (no-owners c.args.kind.now c.in-OwnersValue.owners (sym c.is_reference_kind.ensures ∙ c.if-is_reference_kind.true) c.mask.ensures.agrees (sym (ap (λ mask. mask.members) c.mask.ensures.value) ∙ c.is_empty.ensures.0 empty) index))
