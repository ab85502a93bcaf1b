use Rattle.std.proofs.Common.{◌≡◌, ◌+◌, [], length, take, drop, map, Err, arith, refl, sym, ◌∙◌, subst}
use Rattle.std.proofs.lemmas.List.{append-nil, length-map, length-take-le, take_all}
use Rattle.scene_model.specs.Lawful.{IsLawful}
use Rattle.scene_model.specs.Leads.{RunsTo}
use Rattle.scene_model.specs.Queues.{plain_command, plain_commands}
use Rattle.scene_model.proofs.CallerLemmas.{holds_at, front_at, split_at, none-to}
use Rattle.scene_world.specs.Places.{kinds_of}
use Rattle.scene_world.specs.Standing.{owning_in, plain_of}
use Rattle.scene_commands.specs.Acts.{seen_of}
use Rattle.scene_commands.specs.Lists.{RefusesActs}
use Rattle.scene_commands.proofs.GoingLemmas.{goes-nowhere, goes-both}
use Rattle.scene_commands.proofs.ListLemmas.{ran-more, kept-more, acts-refused, acts-wanting}
use Rattle.scene_commands.proofs.lists.act_all.Goals as goal

pub loop-command-init : goal.loop-command-init
loop-command-init g c = record {
  place = omega arith;
  ran = none-to (owning_in (kinds_of g.R.Value.SceneValue.places g.R.DocumentRules.part_of g.R.WorldRules.columns)) c.args.frame (c.args.earlier + 1) (plain_of (kinds_of g.R.Value.SceneValue.places g.R.DocumentRules.part_of g.R.WorldRules.columns) (seen_of c.args.world.now)) c.args.skips.now.items;
  may = c.requires.may;
  elsewhere = λ id e m a p. refl;
  goes_on = goes-nowhere (kinds_of g.R.Value.SceneValue.places g.R.DocumentRules.part_of g.R.WorldRules.columns) c.args.world.now;
  covers = c.requires.covers;
  kept = ([], sym (append-nil c.args.skips.now.items));
}

pub act-requires-clause-lawful : goal.act-requires-clause-lawful
act-requires-clause-lawful g c = holds_at (plain_command g.R.DocumentRules.part_of) c.args.commands.now c.loop-command.command-index c.command-item.result c.loop-command-test.true c.command-item.is (IsLawful (g.R.DocumentRules.book c.args.rules.now)) c.requires.lawful

pub returns-in_err-done-clause-refused : goal.returns-in_err-done-clause-refused
returns-in_err-done-clause-refused g c =
    let failed : c.from_residual.result ≡ Err c.in_err-done.field-0.0 = grind arith in
    rw failed (acts-refused (kinds_of g.R.Value.SceneValue.places g.R.DocumentRules.part_of g.R.WorldRules.columns) c.args.frame (c.args.earlier + 1) (plain_commands g.R.DocumentRules.part_of (take c.loop-command.command-index c.args.commands.now)) c.args.world.now c.loop-command.world c.args.skips.now.items c.loop-command.skips.items c.loop-command.invariant.ran (plain_command g.R.DocumentRules.part_of c.command-item.result) c.loop-command.invariant.may c.loop-command.invariant.goes_on
    (plain_commands g.R.DocumentRules.part_of c.args.commands.now) (map (plain_command g.R.DocumentRules.part_of) (drop (c.loop-command.command-index + 1) c.args.commands.now)) (split_at (plain_command g.R.DocumentRules.part_of) c.args.commands.now c.loop-command.command-index c.command-item.result c.loop-command-test.true c.command-item.is) c.in_err-done.field-0.0 c.in_err-done.ensures.refused)

pub loop-command-preserved : goal.loop-command-preserved
loop-command-preserved g c =
    let taken : length (take c.loop-command.command-index c.args.commands.now) ≡ c.loop-command.command-index = length-take-le c.loop-command.command-index c.args.commands.now (omega (arith, c.loop-command-test.true)) in
    let count : length (plain_commands g.R.DocumentRules.part_of (take c.loop-command.command-index c.args.commands.now)) ≡ c.loop-command.command-index = length-map (take c.loop-command.command-index c.args.commands.now) (plain_command g.R.DocumentRules.part_of) ∙ taken in
    let front = front_at (plain_command g.R.DocumentRules.part_of) c.args.commands.now c.loop-command.command-index c.command-item.result c.loop-command-test.true c.command-item.is in
    record {
      place = omega (arith, c.loop-command.invariant.place);
      ran = subst (λ commands. RunsTo (owning_in (kinds_of g.R.Value.SceneValue.places g.R.DocumentRules.part_of g.R.WorldRules.columns)) c.args.frame (c.args.earlier + 1) commands (plain_of (kinds_of g.R.Value.SceneValue.places g.R.DocumentRules.part_of g.R.WorldRules.columns) (seen_of c.args.world.now)) (plain_of (kinds_of g.R.Value.SceneValue.places g.R.DocumentRules.part_of g.R.WorldRules.columns) (seen_of c.act.new.world)) c.args.skips.now.items c.note.new.skips.items) (sym front)
          (ran-more (kinds_of g.R.Value.SceneValue.places g.R.DocumentRules.part_of g.R.WorldRules.columns) c.args.frame (c.args.earlier + 1) (plain_commands g.R.DocumentRules.part_of (take c.loop-command.command-index c.args.commands.now)) c.args.world.now c.loop-command.world c.args.skips.now.items c.loop-command.skips.items c.loop-command.invariant.ran (plain_command g.R.DocumentRules.part_of c.command-item.result) c.in_ok-done.done c.act.new.world c.note.new.skips.items (c.loop-command.place + 1) (omega (arith, c.loop-command.invariant.place, count)) c.in_ok-done.ensures.acts c.in_ok-note.ensures.ok);
      may = c.in_ok-done.ensures.may;
      elsewhere = λ id e m a p. c.in_ok-done.ensures.elsewhere id e m a p ∙ c.loop-command.invariant.elsewhere id e m a p;
      goes_on = goes-both (kinds_of g.R.Value.SceneValue.places g.R.DocumentRules.part_of g.R.WorldRules.columns) c.args.world.now c.loop-command.world c.act.new.world c.loop-command.invariant.goes_on c.in_ok-done.ensures.goes_on;
      covers = c.in_ok-done.ensures.covers;
      kept = kept-more c.args.frame (c.loop-command.place + 1) c.in_ok-done.done c.args.skips.now.items c.loop-command.skips.items c.note.new.skips.items c.loop-command.invariant.kept c.in_ok-note.ensures.ok;
    }

pub returns-clause-ran : goal.returns-clause-ran
returns-clause-ran g c =
    subst (λ commands. RunsTo (owning_in (kinds_of g.R.Value.SceneValue.places g.R.DocumentRules.part_of g.R.WorldRules.columns)) c.args.frame (c.args.earlier + 1) (plain_commands g.R.DocumentRules.part_of commands) (plain_of (kinds_of g.R.Value.SceneValue.places g.R.DocumentRules.part_of g.R.WorldRules.columns) (seen_of c.args.world.now)) (plain_of (kinds_of g.R.Value.SceneValue.places g.R.DocumentRules.part_of g.R.WorldRules.columns) (seen_of c.loop-command.world)) c.args.skips.now.items c.loop-command.skips.items)
    (take_all c.loop-command.command-index c.args.commands.now c.loop-command-test.false) c.loop-command.invariant.ran

pub returns-in_err-note-clause-refused : goal.returns-in_err-note-clause-refused
returns-in_err-note-clause-refused g c =
    let failed : c.from_residual-in_err-note.result ≡ Err c.in_err-note.field-0.0 = grind arith in
    rw failed (subst (RefusesActs (kinds_of g.R.Value.SceneValue.places g.R.DocumentRules.part_of g.R.WorldRules.columns) (c.args.earlier + 1) (plain_commands g.R.DocumentRules.part_of c.args.commands.now) c.args.world.now) (sym c.in_err-note.ensures.refused)
    (acts-wanting (kinds_of g.R.Value.SceneValue.places g.R.DocumentRules.part_of g.R.WorldRules.columns) c.args.frame (c.args.earlier + 1) (plain_commands g.R.DocumentRules.part_of (take c.loop-command.command-index c.args.commands.now)) c.args.world.now c.loop-command.world c.args.skips.now.items c.loop-command.skips.items c.loop-command.invariant.ran (plain_command g.R.DocumentRules.part_of c.command-item.result) c.loop-command.invariant.may c.loop-command.invariant.goes_on
    (plain_commands g.R.DocumentRules.part_of c.args.commands.now) (map (plain_command g.R.DocumentRules.part_of) (drop (c.loop-command.command-index + 1) c.args.commands.now)) (split_at (plain_command g.R.DocumentRules.part_of) c.args.commands.now c.loop-command.command-index c.command-item.result c.loop-command-test.true c.command-item.is)))
