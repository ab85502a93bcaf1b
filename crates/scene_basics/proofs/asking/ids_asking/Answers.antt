use Rattle.std.proofs.Common.{◌≡◌, Some, sym, ap, ◌∙◌, subst, List, ℕ, true, eqb}
use Rattle.std.specs.Prelude.{option_and_then}
use Rattle.std.specs.Option.{option_copied}
use Rattle.std.specs.List.{filter_map, list_any}
use Rattle.std.proofs.lemmas.Result.{IfOk-weaker}
use Rattle.shred_world.specs.Bundles.{readable}
use Rattle.scene_basics.specs.Values.{numbers_in}
use Rattle.scene_basics.specs.Asks.{asked_for}
use Rattle.scene_basics.specs.Asked.{lent_for, asks_at}
use Rattle.scene_basics.specs.Columns.{part_id}
use Rattle.scene_basics.specs.Known.{basic_roll}
use Rattle.scene_basics.specs.Names.{hp_kind}
use Rattle.scene_basics.proofs.AskedLemmas.{asked-chosen, none-asked, lent-ids}
use Rattle.scene_world.proofs.CallerLemmas.{found-give, lent-none, lent-some}
use Rattle.scene_basics.proofs.asking.ids_asking.Goals as goal

pub returns-in_default : goal.returns-in_default
returns-in_default g c =
    let w = g.W.Holder.slots c.args.view.now in
    ap (filter_map (asked_for c.args.ask (lent_for c.args.ask w))) c.new.ensures.items
    ∙ sym (ap (filter_map (asked_for c.args.ask (lent_for c.args.ask w))) (lent-ids c.args.ask w)
    ∙ none-asked c.args.ask w (ap (option_and_then numbers_in) (lent-none w (part_id hp_kind) c.part_id.result c.part_id.ensures c.value.result c.value.ensures c.in_default.is)))

pub returns-in_default-numbers_in : goal.returns-in_default-numbers_in
returns-in_default-numbers_in g c =
    let w = g.W.Holder.slots c.args.view.now in
    ap (filter_map (asked_for c.args.ask (lent_for c.args.ask w))) c.new-in_default-numbers_in.ensures.items
    ∙ sym (ap (filter_map (asked_for c.args.ask (lent_for c.args.ask w))) (lent-ids c.args.ask w)
    ∙ none-asked c.args.ask w
    (ap (option_and_then numbers_in) (lent-some w (part_id hp_kind) c.part_id.result c.part_id.ensures c.value.result c.value.ensures c.in-Some.value c.in-Some.is)
    ∙ sym c.numbers_in.ensures ∙ ap option_copied c.in_default-numbers_in.is))

pub returns : goal.returns
returns g c =
    let w = g.W.Holder.slots c.args.view.now in
    let held : option_and_then numbers_in (readable (w (part_id hp_kind))) ≡ Some c.in-Some-numbers_in.numbers.now =
    ap (option_and_then numbers_in) (lent-some w (part_id hp_kind) c.part_id.result c.part_id.ensures c.value.result c.value.ensures c.in-Some.value c.in-Some.is)
    ∙ sym c.numbers_in.ensures ∙ ap option_copied c.in-Some-numbers_in.is in
    IfOk-weaker c.ids_in_order.result _ _
    (λ ids are.
    ap (filter_map (asked_for c.args.ask (lent_for c.args.ask w))) are
    ∙ found-give (basic_roll w) (asked_for c.args.ask (lent_for c.args.ask w)) c.as_slice.result.now
    (asked-chosen c.args.ask w c.in-Some-numbers_in.numbers.now c.as_slice.result.now held
    (subst (λ (chosen : List ℕ). (index : ℕ) → asks_at c.args.ask c.in-Some-numbers_in.numbers.now index ≡ true → list_any (eqb index) chosen ≡ true) (sym c.as_slice.ensures.value) c.in_ok-indices.ensures))
    ∙ sym (ap (filter_map (asked_for c.args.ask (lent_for c.args.ask w))) (lent-ids c.args.ask w)))
    c.ids_in_order.ensures
