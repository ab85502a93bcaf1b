use Rattle.std.proofs.Common.{nat_cmp, ap, sym, ◌∙◌}
use Rattle.std.specs.FinSet as set
use Rattle.scene_world.specs.Places.{kinds_of}
use Rattle.scene_world.specs.Standing.{events_in}
use Rattle.scene_world.specs.Telling.{is_told}
use Rattle.hibitset_sets.specs.BitSet.{has_member}
use Rattle.scene_commands.proofs.LookLemmas.{lent-none, lent-some}
use Rattle.scene.proofs.LoopLemmas.{from-empty, none-told}
use Rattle.scene.proofs.changes.told_of_kind.Goals as goal

pub returns-in_default : goal.returns-in_default
returns-in_default g c index =
    ap (λ members. set.contains members index) c.new-told.ensures.members ∙ set.contains-empty nat_cmp index
    ∙ sym (ap (λ held. is_told (events_in (kinds_of g.R.Value.SceneValue.places g.R.DocumentRules.part_of g.R.WorldRules.columns) c.args.kind.now held) c.args.reader.now index)
    (lent-none c.args.world.now (g.R.WorldRules.columns.part_id c.args.kind.now) c.part_id.result c.part_id.ensures c.get_raw.result c.get_raw.ensures c.in_default.is)
    ∙ none-told c.args.reader.now index)

pub returns : goal.returns
returns g c index =
    c.in_ok-events.ensures.ok index
    ∙ from-empty (has_member c.new-told.result index) (is_told (g.R.WorldRules.columns.events c.args.kind.now c.in-Some.value.now) c.args.reader.now index) (ap (λ members. set.contains members index) c.new-told.ensures.members ∙ set.contains-empty nat_cmp index)
    ∙ sym (ap (λ held. is_told (events_in (kinds_of g.R.Value.SceneValue.places g.R.DocumentRules.part_of g.R.WorldRules.columns) c.args.kind.now held) c.args.reader.now index)
    (lent-some c.args.world.now (g.R.WorldRules.columns.part_id c.args.kind.now) c.part_id.result c.part_id.ensures c.get_raw.result c.get_raw.ensures c.in-Some.value c.in-Some.is))
