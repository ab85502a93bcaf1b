use Rattle.std.proofs.Common.{◌∙◌, ℕ, Bool, ap}
use Rattle.std.specs.Prelude.{option_map}
use Rattle.std.specs.List.{list_any}
use Rattle.std.proofs.lemmas.List.{take_all}
use Rattle.scene_model.specs.Commands.{holds_gone}
use Rattle.scene_model.specs.Declaring.{texts}
use Rattle.scene_model.specs.Parts.{Name}
use Rattle.scene_world.specs.Places.{kinds_of}
use Rattle.scene_world.specs.Rolls.{ref_to}
use Rattle.scene_world.specs.Standing.{column_of, roll_of}
use Rattle.scene_world.specs.Stored.{part_under}
use Rattle.scene_commands.specs.Acts.{seen_of}
use Rattle.scene_commands.proofs.DropLemmas.{no_name}
use Rattle.scene_commands.proofs.GoneLemmas.{kind-taken, kind-left}
use Rattle.scene_commands.proofs.gone.naming_kinds.Goals as goal
use Rattle.scene_commands.proofs.gone.naming_kinds.Goals.{then-may_name+in_ok-push, else-may_name}

pub loop-kind-preserved : goal.loop-kind-preserved
loop-kind-preserved g c =
    let kinds = kinds_of g.R.Value.SceneValue.places g.R.DocumentRules.part_of g.R.WorldRules.columns in
    let w = seen_of c.args.world.now in
    let holds : ℕ → Name → Bool = λ index kind. holds_gone (option_map (part_under (ref_to (roll_of kinds w))) (column_of kinds w kind index)) in
    λ index.
    elim c.if-may_name.branch [
      | then-may_name+in_ok-push w ↦
          ap (λ list. list_any (holds index) (texts list.items)) w.kinds-is ∙ ap (λ items. list_any (holds index) (texts items)) w.in_ok-push.ensures.items
          ∙ kind-taken (holds index) c.loop-kind.kinds.items c.args.names.now c.loop-kind.kind-index no_name c.loop-kind-test.true (c.loop-kind.invariant index)
      | else-may_name w ↦
          ap (λ list. list_any (holds index) (texts list.items)) w.kinds-is
          ∙ kind-left (holds index) c.loop-kind.kinds.items c.args.names.now c.loop-kind.kind-index no_name c.loop-kind-test.true (c.loop-kind.invariant index) (c.may_name.ensures w.if-may_name.false index)
    ]

pub returns : goal.returns
returns g c =
    let kinds = kinds_of g.R.Value.SceneValue.places g.R.DocumentRules.part_of g.R.WorldRules.columns in
    let w = seen_of c.args.world.now in
    let holds : ℕ → Name → Bool = λ index kind. holds_gone (option_map (part_under (ref_to (roll_of kinds w))) (column_of kinds w kind index)) in
    λ index. c.loop-kind.invariant index ∙ ap (λ list. list_any (holds index) (texts list)) (take_all c.loop-kind.kind-index c.args.names.now c.loop-kind-test.false)
