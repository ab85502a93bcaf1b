use Rattle.std.proofs.Common.{◌≡◌, ◌++◌, ◌∷◌, append_assoc, Err, take, drop, suc, List, get_or, arith, sym, ap, ◌∙◌}
use Rattle.std.specs.List.{filter_map}
use Rattle.std.specs.Option.{option_to_list}
use Rattle.std.proofs.lemmas.List.{take_all}
use Rattle.scene_model.specs.Rulebook.{Command}
use Rattle.scene_model.specs.Queues.{waiting, plain_commands}
use Rattle.scene_world.proofs.ColumnLemmas.{given-next, given-all}
use Rattle.scene_world.proofs.AskLemmas.{stops-asking}
use Rattle.scene_world.proofs.asking.ask_each.Goals as goal

pub loop-place-preserved : goal.loop-place-preserved
loop-place-preserved g c =
    let f = g.A.Asks.asked c.args.asks.now (g.W.Holder.slots c.args.view.now) in
    let ids = c.args.ids.now in
    let place = c.loop-place.place in
    let old : List Command = plain_commands g.A.Asks.part_of (waiting c.args.queue.now) in
    c.in_ok-ask_one.ensures.ok ∙ ap (λ front. front ++ option_to_list (f (get_or ids place 0))) c.loop-place.invariant
    ∙ append_assoc old (filter_map f (take place ids)) (option_to_list (f (get_or ids place 0)))
    ∙ ap (λ back. old ++ back) (sym (given-next f ids place c.loop-place-test.true))

pub returns : goal.returns
returns g c =
    let f = g.A.Asks.asked c.args.asks.now (g.W.Holder.slots c.args.view.now) in
    c.loop-place.invariant
    ∙ ap (λ back. plain_commands g.A.Asks.part_of (waiting c.args.queue.now) ++ filter_map f back) (take_all c.loop-place.place c.args.ids.now c.loop-place-test.false)

pub returns-in_err-ask_one : goal.returns-in_err-ask_one
returns-in_err-ask_one g c =
    let f = g.A.Asks.asked c.args.asks.now (g.W.Holder.slots c.args.view.now) in
    let ids = c.args.ids.now in
    let place = c.loop-place.place in
    let old : List Command = plain_commands g.A.Asks.part_of (waiting c.args.queue.now) in
    let before : List Command = plain_commands g.A.Asks.part_of (waiting c.loop-place.queue) in
    let after : List Command = plain_commands g.A.Asks.part_of (waiting c.ask_one.new.queue) in
    let rest : List Command = filter_map f (drop (suc place) ids) in
    let failed : c.from_residual.result ≡ Err c.in_err-ask_one.field-0.0 = grind arith in
    rw failed (stops-asking (f (get_or ids place 0)) rest (old ++ filter_map f ids) before after c.in_err-ask_one.field-0.0
    (λ one is. ap (λ back. old ++ back) (given-all f ids place one c.loop-place-test.true is)
    ∙ sym (append_assoc old (filter_map f (take place ids)) (one ∷ rest)) ∙ ap (λ front. front ++ one ∷ rest) (sym c.loop-place.invariant))
    c.in_err-ask_one.ensures.err)
