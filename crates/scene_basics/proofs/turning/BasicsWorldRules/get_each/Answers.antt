use Rattle.std.proofs.Common.{ap, sym, ◌∙◌, subst}
use Rattle.scene_world.specs.Putting.{AreReadAt}
use Rattle.scene_basics.specs.declared.values.Value.{Value}
use Rattle.scene_basics.specs.Columns.{basic_columns}
use Rattle.scene_basics.specs.Numbers.{part_of}
use Rattle.scene_basics.proofs.ColumnLemmas.{no-owners, nothing-read, numbers-read}
use Rattle.scene_basics.proofs.turning.BasicsWorldRules.get_each.Goals as goal

pub returns-in_ok-data-in-NumbersValue : goal.returns-in_ok-data-in-NumbersValue
returns-in_ok-data-in-NumbersValue c =
    subst (λ (value : Value). AreReadAt part_of (basic_columns.stored c.args.kind.now value) c.args.entities.now c.in_ok-data-in-NumbersValue.data.items) (sym c.in-NumbersValue.is)
    (numbers-read c.args.kind.now c.in-NumbersValue.numbers c.args.entities.now c.in_ok-data-in-NumbersValue.data.items (sym c.is_reference_kind.ensures ∙ c.if-not-is_reference_kind.true) c.in_ok-data-in-NumbersValue.ensures)

pub returns-in-OwnersValue : goal.returns-in-OwnersValue
returns-in-OwnersValue c =
    subst (λ (value : Value). AreReadAt part_of (basic_columns.stored c.args.kind.now value) c.args.entities.now c.new.result.items) (sym c.in-OwnersValue.is)
    (nothing-read c.args.kind.now c.in-OwnersValue.owners c.args.entities.now c.new.result.items
    (no-owners c.args.kind.now c.in-OwnersValue.owners (sym c.is_reference_kind-in-OwnersValue-1.ensures ∙ c.if-is_reference_kind.true) c.mask.ensures.agrees (sym (ap (λ mask. mask.members) c.mask.ensures.value) ∙ c.is_empty.ensures.0 c.if-is_empty.true)) c.new.ensures.items)
