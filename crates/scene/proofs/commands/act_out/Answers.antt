use Rattle.std.proofs.Common.{◌++◌, inr, sym, ◌∙◌, subst, All}
use Rattle.std.proofs.lemmas.List.Elements.{All-append}
use Rattle.std.proofs.lemmas.Result.{IfErr-weaker, on_ok_weaker}
use Rattle.scene_model.specs.Leads.{RunsTo}
use Rattle.scene_model.specs.Queues.{plain_commands, waiting}
use Rattle.scene_world.specs.Places.{kinds_of}
use Rattle.scene_world.specs.Standing.{plain_of, owning_in}
use Rattle.scene_commands.specs.Acts.{seen_of}
use Rattle.scene_commands.proofs.CallerLemmas.{goes-both}
use Rattle.scene.specs.Waiting.{waiting_in}
use Rattle.scene.specs.Sparing.{Spares, AsksNoDeath, NoneGone}
use Rattle.scene.proofs.CommandLemmas.{lead-played}
use Rattle.scene.proofs.SpareLemmas.{spares-keep, spare-plain, spare-waiting}
use Rattle.scene.proofs.WorldLemmas.{scene-stays, may-stays, goes-beside, stays-apart}
use Rattle.scene.proofs.commands.act_out.Goals as goal

pub returns-in_default-clause-refused : goal.returns-in_default-clause-refused
returns-in_default-clause-refused g c =
    let ran = subst (λ queues. RunsTo (owning_in (kinds_of g.R.Value.SceneValue.places g.R.DocumentRules.part_of g.R.WorldRules.columns)) c.args.input.now.number 1 (plain_commands g.R.DocumentRules.part_of c.args.input.now.given.now ++ waiting_in g.R.DocumentRules.part_of queues) (plain_of (kinds_of g.R.Value.SceneValue.places g.R.DocumentRules.part_of g.R.WorldRules.columns) (seen_of c.args.world.now)) (plain_of (kinds_of g.R.Value.SceneValue.places g.R.DocumentRules.part_of g.R.WorldRules.columns) (seen_of c.act_both.new.world)) c.args.skips.now.items c.act_both.new.skips.items) c.as_slice-2.ensures.value c.in_ok-act_both.ensures.ran in
    inr (plain_of (kinds_of g.R.Value.SceneValue.places g.R.DocumentRules.part_of g.R.WorldRules.columns) (seen_of c.act_both.new.world), ran.0, ran.1, tt)

pub look-requires-clause-may : goal.look-requires-clause-may
look-requires-clause-may g c = may-stays (kinds_of g.R.Value.SceneValue.places g.R.DocumentRules.part_of g.R.WorldRules.columns) g.met.R.WorldRules.apart c.args.input.now.places.now c.act_both.new.world c.put_queues.new.world c.in-Ok.ensures.beside c.in_ok-act_both.ensures.may

pub returns-clause-ran : goal.returns-clause-ran
returns-clause-ran g c =
    let ran = subst (λ queues. RunsTo (owning_in (kinds_of g.R.Value.SceneValue.places g.R.DocumentRules.part_of g.R.WorldRules.columns)) c.args.input.now.number 1 (plain_commands g.R.DocumentRules.part_of c.args.input.now.given.now ++ waiting_in g.R.DocumentRules.part_of queues) (plain_of (kinds_of g.R.Value.SceneValue.places g.R.DocumentRules.part_of g.R.WorldRules.columns) (seen_of c.args.world.now)) (plain_of (kinds_of g.R.Value.SceneValue.places g.R.DocumentRules.part_of g.R.WorldRules.columns) (seen_of c.act_both.new.world)) c.args.skips.now.items c.act_both.new.skips.items) c.as_slice-2.ensures.value c.in_ok-act_both.ensures.ran in
    on_ok_weaker c.look.result
    (λ none. subst (λ scene. RunsTo (owning_in (kinds_of g.R.Value.SceneValue.places g.R.DocumentRules.part_of g.R.WorldRules.columns)) c.args.input.now.number 1 (plain_commands g.R.DocumentRules.part_of c.args.input.now.given.now ++ waiting_in g.R.DocumentRules.part_of c.args.queues.items) (plain_of (kinds_of g.R.Value.SceneValue.places g.R.DocumentRules.part_of g.R.WorldRules.columns) (seen_of c.args.world.now)) scene c.args.skips.now.items c.act_both.new.skips.items)
    (sym (scene-stays (kinds_of g.R.Value.SceneValue.places g.R.DocumentRules.part_of g.R.WorldRules.columns) g.met.R.WorldRules.apart c.args.input.now.places.now c.act_both.new.world c.put_queues.new.world c.in-Ok.ensures.beside)) ran)
    c.look.ensures.ok

pub returns-clause-may : goal.returns-clause-may
returns-clause-may g c =
    on_ok_weaker c.look.result (λ none. may-stays (kinds_of g.R.Value.SceneValue.places g.R.DocumentRules.part_of g.R.WorldRules.columns) g.met.R.WorldRules.apart c.args.input.now.places.now c.act_both.new.world c.put_queues.new.world c.in-Ok.ensures.beside c.in_ok-act_both.ensures.may) c.look.ensures.ok

pub returns-clause-apart : goal.returns-clause-apart
returns-clause-apart g c =
    on_ok_weaker c.look.result (λ none. stays-apart (kinds_of g.R.Value.SceneValue.places g.R.DocumentRules.part_of g.R.WorldRules.columns) g.met.R.WorldRules.apart c.args.input.now.places.now c.args.world.now c.act_both.new.world c.put_queues.new.world c.in_ok-act_both.ensures.elsewhere c.in-Ok.ensures.beside) c.look.ensures.ok

pub returns-clause-goes_on : goal.returns-clause-goes_on
returns-clause-goes_on g c =
    on_ok_weaker c.look.result (λ none. goes-both (kinds_of g.R.Value.SceneValue.places g.R.DocumentRules.part_of g.R.WorldRules.columns) c.args.world.now c.act_both.new.world c.put_queues.new.world c.in_ok-act_both.ensures.goes_on
    (goes-beside (kinds_of g.R.Value.SceneValue.places g.R.DocumentRules.part_of g.R.WorldRules.columns) g.met.R.WorldRules.apart c.args.input.now.places.now c.act_both.new.world c.put_queues.new.world c.in-Ok.ensures.beside)) c.look.ensures.ok

pub returns-clause-refused : goal.returns-clause-refused
returns-clause-refused g c =
    let ran = subst (λ queues. RunsTo (owning_in (kinds_of g.R.Value.SceneValue.places g.R.DocumentRules.part_of g.R.WorldRules.columns)) c.args.input.now.number 1 (plain_commands g.R.DocumentRules.part_of c.args.input.now.given.now ++ waiting_in g.R.DocumentRules.part_of queues) (plain_of (kinds_of g.R.Value.SceneValue.places g.R.DocumentRules.part_of g.R.WorldRules.columns) (seen_of c.args.world.now)) (plain_of (kinds_of g.R.Value.SceneValue.places g.R.DocumentRules.part_of g.R.WorldRules.columns) (seen_of c.act_both.new.world)) c.args.skips.now.items c.act_both.new.skips.items) c.as_slice-2.ensures.value c.in_ok-act_both.ensures.ran in
    let there = subst (λ scene. RunsTo (owning_in (kinds_of g.R.Value.SceneValue.places g.R.DocumentRules.part_of g.R.WorldRules.columns)) c.args.input.now.number 1 (plain_commands g.R.DocumentRules.part_of c.args.input.now.given.now ++ waiting_in g.R.DocumentRules.part_of c.args.queues.items) (plain_of (kinds_of g.R.Value.SceneValue.places g.R.DocumentRules.part_of g.R.WorldRules.columns) (seen_of c.args.world.now)) scene c.args.skips.now.items c.act_both.new.skips.items)
    (sym (scene-stays (kinds_of g.R.Value.SceneValue.places g.R.DocumentRules.part_of g.R.WorldRules.columns) g.met.R.WorldRules.apart c.args.input.now.places.now c.act_both.new.world c.put_queues.new.world c.in-Ok.ensures.beside)) ran in
    IfErr-weaker c.look.result _ _ (λ cause gone. inr (plain_of (kinds_of g.R.Value.SceneValue.places g.R.DocumentRules.part_of g.R.WorldRules.columns) (seen_of c.put_queues.new.world), there.0, there.1, gone)) c.look.ensures.refused

-- where no death is asked for, no reference has gone
pub look-requires-clause-spared : goal.look-requires-clause-spared
look-requires-clause-spared g c = λ spares.
    let part_of = g.R.DocumentRules.part_of in
    let before = plain_of (kinds_of g.R.Value.SceneValue.places g.R.DocumentRules.part_of g.R.WorldRules.columns) (seen_of c.args.world.now) in
    let mid = plain_of (kinds_of g.R.Value.SceneValue.places g.R.DocumentRules.part_of g.R.WorldRules.columns) (seen_of c.act_both.new.world) in
    let commands = plain_commands part_of c.args.input.now.given.now ++ waiting_in part_of c.as_slice-2.result.now in
    let queues : All (λ queue. All AsksNoDeath (waiting queue)) c.as_slice-2.result.now = subst (All (λ queue. All AsksNoDeath (waiting queue))) (c.as_slice.ensures.value ∙ sym c.as_slice-2.ensures.value) (c.ask_death-kills.ensures.queues spares) in
    let all : All Spares commands = All-append Spares (plain_commands part_of c.args.input.now.given.now) (waiting_in part_of c.as_slice-2.result.now) (spare-plain part_of c.args.input.now.given.now (c.ask_death-kills.ensures.given spares)) (spare-waiting part_of c.as_slice-2.result.now queues) in
    let ran = c.in_ok-act_both.ensures.ran in
    subst NoneGone (sym (scene-stays (kinds_of g.R.Value.SceneValue.places g.R.DocumentRules.part_of g.R.WorldRules.columns) g.met.R.WorldRules.apart c.args.input.now.places.now c.act_both.new.world c.put_queues.new.world c.in-Ok.ensures.beside))
    (spares-keep (owning_in (kinds_of g.R.Value.SceneValue.places g.R.DocumentRules.part_of g.R.WorldRules.columns)) commands before mid ran.0 all c.requires.none (lead-played (owning_in (kinds_of g.R.Value.SceneValue.places g.R.DocumentRules.part_of g.R.WorldRules.columns)) 1 commands before mid ran.0 ran.1))
