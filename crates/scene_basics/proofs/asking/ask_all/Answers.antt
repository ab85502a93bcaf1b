use Rattle.std.proofs.Common.{arith, Err, refl, ◌≡◌, ◌≤◌, ◌∙◌, ◌++◌, sym, ap, subst, length, take, option_map, List}
use Rattle.std.specs.List.{filter_map}
use Rattle.std.specs.Option.{option_to_list}
use Rattle.std.proofs.lemmas.List.{take_all, length-map}
use Rattle.scene_model.specs.Rulebook.{Fragment, Command, queue_room}
use Rattle.scene_model.specs.Queues.{waiting, plain_command, plain_commands}
use Rattle.scene_basics.specs.Numbers.{part_of}
use Rattle.scene_basics.specs.Asks.{asked_for, asked_of, IsNotAsked}
use Rattle.scene_basics.specs.Asked.{lent_for}
use Rattle.scene_basics.proofs.AskLemmas.{asked-next, stopped}
use Rattle.scene_basics.proofs.asking.ask_all.Goals as goal

pub loop-place-preserved : goal.loop-place-preserved
loop-place-preserved g c =
    let old : Fragment = lent_for c.args.ask (g.W.Holder.slots c.args.view.now) in
    c.in_ok-ask_for.ensures.ok ∙ ap (λ front. front ++ option_to_list (option_map (plain_command part_of) c.in-Ok-command_of.command)) c.loop-place.invariant
    ∙ ap (λ one. filter_map (asked_for c.args.ask old) (take c.loop-place.place c.as_slice-ids.result.now) ++ option_to_list one) c.in-Ok-command_of.ensures
    ∙ sym (asked-next (asked_for c.args.ask old) c.as_slice-ids.result.now c.loop-place.place c.loop-place-test.true)

pub returns : goal.returns
returns g c =
    let old : Fragment = lent_for c.args.ask (g.W.Holder.slots c.args.view.now) in
    let all : filter_map (asked_for c.args.ask old) (take c.loop-place.place c.as_slice-ids.result.now) ≡ asked_of c.args.ask old =
    ap (filter_map (asked_for c.args.ask old)) (take_all c.loop-place.place c.as_slice-ids.result.now c.loop-place-test.false ∙ c.as_slice-ids.ensures.value) ∙ c.in-Ok.ensures in
    let room : length (plain_commands part_of (waiting c.loop-place.queue)) ≤ queue_room = omega (arith, length-map (waiting c.loop-place.queue) (plain_command part_of), c.loop-place.queue.room, c.loop-place.queue.commands.ok.0) in
    (refl, c.loop-place.invariant ∙ all, room)

pub returns-in_err-ask_for : goal.returns-in_err-ask_for
returns-in_err-ask_for g c =
    let old : Fragment = lent_for c.args.ask (g.W.Holder.slots c.args.view.now) in
    let before : List Command = plain_commands part_of (waiting c.loop-place.queue) in
    let after : List Command = plain_commands part_of (waiting c.ask_for.new.queue) in
    let failed : c.from_residual.result ≡ Err c.in_err-ask_for.field-0.0 = grind arith in
    rw failed (stopped c.args.ask old c.as_slice-ids.result.now c.loop-place.place before after c.in_err-ask_for.field-0.0 (ap (filter_map (asked_for c.args.ask old)) c.as_slice-ids.ensures.value ∙ c.in-Ok.ensures) c.loop-place-test.true c.loop-place.invariant
    (subst (λ one. IsNotAsked one before after c.in_err-ask_for.field-0.0) c.in-Ok-command_of.ensures c.in_err-ask_for.ensures.err))
