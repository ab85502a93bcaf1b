use Rattle.std.proofs.Common.{negsuc, List, Some, refl, ap, sym, ◌∙◌, subst}
use Rattle.std.proofs.lemmas.Bool.{false≢true}
use Rattle.shred_stages.specs.Views.{error_of}
use Rattle.scene_model.specs.Rulebook.{Command}
use Rattle.scene_model.specs.Queues.{waiting, plain_commands}
use Rattle.scene_world.specs.Turns.{Runs}
use Rattle.scene_basics.specs.declared.data.Ask.TheVariants.{Deaths, Births}
use Rattle.scene_basics.specs.declared.data.BasicSystem.{BasicSystem}
use Rattle.scene_basics.specs.declared.data.BasicSystem.TheVariants.{Drift, Pull, Decay, Reap, Bud}
use Rattle.scene_basics.specs.declared.data.Gain.TheVariants.{Each}
use Rattle.scene_basics.specs.Names.{hp_kind, pos_kind, vel_kind, g_name}
use Rattle.scene_basics.specs.Numbers.{part_of}
use Rattle.scene_basics.specs.Gains.{number_at, global_number}
use Rattle.scene_basics.specs.Columns.{basic_kinds}
use Rattle.scene_basics.proofs.WorldLemmas.{meant, adds-runs, asks-runs, only-one, global-number, number-beside}
use Rattle.scene_basics.proofs.turning.BasicsRules.run.Goals as goal

pub returns-in-Drift-clause-runs : goal.returns-in-Drift-clause-runs
returns-in-Drift-clause-runs g c =
    let seen = g.W.Holder.slots c.args.view.now in
    let left = g.W.Holder.slots c.add_to.new.view in
    let commands : List Command = plain_commands part_of (waiting c.args.queue.now) in
    subst (λ (system : BasicSystem). Runs basic_kinds meant system seen (error_of c.add_to.result) system left commands) (sym c.in-Drift.is)
    (adds-runs Drift pos_kind _ (λ old id. number_at old vel_kind id) refl refl refl (only-one pos_kind) (λ old o did. did) seen left (number-beside seen)
    c.add_to.result c.add_to.ensures.ends commands (ap (plain_commands part_of) c.requires.empty))

pub returns-in-Pull-clause-runs : goal.returns-in-Pull-clause-runs
returns-in-Pull-clause-runs g c =
    let seen = g.W.Holder.slots c.args.view.now in
    let left = g.W.Holder.slots c.add_to-in-Pull.new.view in
    let commands : List Command = plain_commands part_of (waiting c.args.queue.now) in
    subst (λ (system : BasicSystem). Runs basic_kinds meant system seen (error_of c.add_to-in-Pull.result) system left commands) (sym c.in-Pull.is)
    (adds-runs Pull vel_kind (Each c.global_of-by.result) (λ old id. global_number old g_name) refl refl refl (only-one vel_kind) (λ old o did. did) seen left (λ id index is. global-number seen ∙ sym c.global_of-by.ensures)
    c.add_to-in-Pull.result c.add_to-in-Pull.ensures.ends commands (ap (plain_commands part_of) c.requires.empty))

pub returns-in-Decay-clause-runs : goal.returns-in-Decay-clause-runs
returns-in-Decay-clause-runs g c =
    let seen = g.W.Holder.slots c.args.view.now in
    let left = g.W.Holder.slots c.add_to-in-Decay.new.view in
    let commands : List Command = plain_commands part_of (waiting c.args.queue.now) in
    subst (λ (system : BasicSystem). Runs basic_kinds meant system seen (error_of c.add_to-in-Decay.result) system left commands) (sym c.in-Decay.is)
    (adds-runs Decay hp_kind _ (λ old id. Some (negsuc 0)) refl refl refl (only-one hp_kind) (λ old o did. did) seen left (λ id index is. refl)
    c.add_to-in-Decay.result c.add_to-in-Decay.ensures.ends commands (ap (plain_commands part_of) c.requires.empty))

pub returns-in-Reap-clause-runs : goal.returns-in-Reap-clause-runs
returns-in-Reap-clause-runs g c =
    let seen = g.W.Holder.slots c.args.view.now in
    let commands : List Command = plain_commands part_of (waiting c.ask_all.new.queue) in
    subst (λ (system : BasicSystem). Runs basic_kinds meant system seen (error_of c.ask_all.result) system seen commands) (sym c.in-Reap.is)
    (asks-runs Reap Deaths (λ other none. absurd (false≢true none)) seen (λ o did. did) refl c.ask_all.result commands c.ask_all.ensures)

pub returns-in-Bud-clause-runs : goal.returns-in-Bud-clause-runs
returns-in-Bud-clause-runs g c =
    let seen = g.W.Holder.slots c.args.view.now in
    let commands : List Command = plain_commands part_of (waiting c.ask_all-in-Bud.new.queue) in
    subst (λ (system : BasicSystem). Runs basic_kinds meant system seen (error_of c.ask_all-in-Bud.result) system seen commands) (sym c.in-Bud.is)
    (asks-runs Bud Births (λ other none. absurd (false≢true none)) seen (λ o did. did) refl c.ask_all-in-Bud.result commands c.ask_all-in-Bud.ensures)
