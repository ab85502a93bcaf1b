use Rattle.std.proofs.Common.{sym, ◌∙◌, ap}
use Rattle.scene_document.specs.Openings.{commands_for}
use Rattle.scene_world.specs.Turns.{placed_as}
use Rattle.scene_dispatch.specs.Orders.{turn_order}
use Rattle.scene.proofs.PlaceLemmas.{frame-commands, frame-lawful}
use Rattle.scene.proofs.load.course_of.Goals as goal

pub stage_systems-requires-clause-document : goal.stage_systems-requires-clause-document
stage_systems-requires-clause-document g c =
    let document = c.requires.document in
    record { document = document.plain; indices = document.indices; json = document.json; is = document.is; its = document.says.entries }

pub stage_systems-requires-clause-said : goal.stage_systems-requires-clause-said
stage_systems-requires-clause-said g c = c.requires.document.says.made

pub stage_systems-requires-clause-made : goal.stage_systems-requires-clause-made
stage_systems-requires-clause-made g c = c.requires.document.made

pub returns-clause-frames : goal.returns-clause-frames
returns-clause-frames g c = λ plain frame says.
    ap (λ order. record { order = order; commands = commands_for plain frame }) (sym (c.in_ok-dispatcher.ensures.order plain frame says.entries))
    ∙ ap (λ commands. record { order = turn_order (placed_as (λ placed. placed.position) (λ placed. placed.system) g.R.DocumentRules.kind_of g.R.DocumentRules.config_of g.R.DocumentRules.declared g.R.Rules.sense g.R.Rules.does).plain c.in_ok-dispatcher.dispatcher; commands = commands }) (frame-commands g.R.DocumentRules.part_of plain c.args.draft.commands.items c.in_ok-commands.commands.items says.commands c.in_ok-commands.ensures frame)

pub returns-clause-lawful : goal.returns-clause-lawful
returns-clause-lawful g c = λ frame. frame-lawful g.R.DocumentRules.part_of (g.R.DocumentRules.book c.args.rules.now) c.args.draft.commands.items c.in_ok-commands.commands.items c.requires.document.says.lawful c.in_ok-commands.ensures frame
