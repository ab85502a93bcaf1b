use Rattle.std.proofs.Common.{◌≡◌, ◌++◌, ◌∙◌, List, map, ap, sym}
use Rattle.std.specs.Prelude.{option_and_then}
use Rattle.std.proofs.lemmas.List.{take_all, append-nil}
use Rattle.specs_entity.specs.Life.{LifeAt}
use Rattle.scene_world.specs.Putting.{named_in}
use Rattle.scene_commands.proofs.LookLemmas.{lent-none, lent-some}
use Rattle.scene_commands.proofs.PairLemmas.{mapped-more}
use Rattle.scene_commands.proofs.owning.pair_under.Goals as goal

pub returns-in_default : goal.returns-in_default
returns-in_default g c =
    sym (ap (λ held. c.args.pairs.now.items ++ map (λ target. (c.args.entity, target)) (named_in (option_and_then (λ v. g.R.WorldRules.columns.stored c.args.kind.now v c.args.entity.id) held)))
    (lent-none c.args.world.now (g.R.WorldRules.columns.part_id c.args.kind.now) c.part_id.result c.part_id.ensures c.get_raw.result c.get_raw.ensures c.in_default.is)
    ∙ append-nil c.args.pairs.now.items)

pub loop-target-init : goal.loop-target-init
loop-target-init g c = sym (append-nil c.args.pairs.now.items)

pub loop-target-preserved : goal.loop-target-preserved
loop-target-preserved g c = mapped-more (λ target. (c.args.entity, target)) c.as_slice-target-items.result.now c.loop-target.target-index c.target-item.result c.loop-target-test.true c.target-item.is
    c.args.pairs.now.items c.loop-target.pairs.items c.push.new.self.items c.loop-target.invariant c.in_ok-push.ensures.items

pub returns : goal.returns
returns g c =
    let stored : List LifeAt = named_in (g.R.WorldRules.columns.stored c.args.kind.now c.in-Some.value.now c.args.entity.id) in
    let items : c.as_slice-target-items.result.now ≡ stored =
    c.as_slice-target-items.ensures.value ∙ c.in_ok-named_at.ensures ∙ ap (λ l. l ++ named_in (g.R.WorldRules.columns.stored c.args.kind.now c.in-Some.value.now c.id.result)) c.clear.ensures.items
    ∙ ap (λ index. named_in (g.R.WorldRules.columns.stored c.args.kind.now c.in-Some.value.now index)) c.id.ensures in
    c.loop-target.invariant
    ∙ ap (λ l. c.args.pairs.now.items ++ map (λ target. (c.args.entity, target)) l) (take_all c.loop-target.target-index c.as_slice-target-items.result.now c.loop-target-test.false ∙ items)
    ∙ sym (ap (λ held. c.args.pairs.now.items ++ map (λ target. (c.args.entity, target)) (named_in (option_and_then (λ v. g.R.WorldRules.columns.stored c.args.kind.now v c.args.entity.id) held)))
    (lent-some c.args.world.now (g.R.WorldRules.columns.part_id c.args.kind.now) c.part_id.result c.part_id.ensures c.get_raw.result c.get_raw.ensures c.in-Some.value c.in-Some.is))
