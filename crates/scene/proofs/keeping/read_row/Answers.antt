use Rattle.std.proofs.Common.{sym, subst, IfSome}
use Rattle.scene_world.specs.Places.{kinds_of}
use Rattle.scene_world.specs.Putting.{AreReadAt}
use Rattle.scene_commands.specs.Acts.{seen_of}
use Rattle.scene_commands.proofs.LookLemmas.{lent-none, lent-some}
use Rattle.scene.proofs.KeepLemmas.{none-of-pairs, read-at-once}
use Rattle.scene.proofs.keeping.read_row.Goals as goal

pub returns-in_default : goal.returns-in_default
returns-in_default g c =
    none-of-pairs (kinds_of g.R.Value.SceneValue.places g.R.DocumentRules.part_of g.R.WorldRules.columns) g.R.DocumentRules.part_of (seen_of c.args.world.now) c.args.kind.now c.args.indices.now c.new.result.items
    (lent-none c.args.world.now (g.R.WorldRules.columns.part_id c.args.kind.now) c.part_id.result c.part_id.ensures c.get_raw.result c.get_raw.ensures c.in_default.is) c.new.ensures.items

pub returns-in-Some-2 : goal.returns-in-Some-2
returns-in-Some-2 g c =
    read-at-once (kinds_of g.R.Value.SceneValue.places g.R.DocumentRules.part_of g.R.WorldRules.columns) g.R.DocumentRules.part_of (seen_of c.args.world.now) c.args.kind.now c.in-Some.value.now
    (sym (lent-some c.args.world.now (g.R.WorldRules.columns.part_id c.args.kind.now) c.part_id.result c.part_id.ensures c.get_raw.result c.get_raw.ensures c.in-Some.value c.in-Some.is))
    c.args.indices.now c.in-Some-2.found.items
    (subst (λ read. IfSome read (λ found. AreReadAt g.R.DocumentRules.part_of (g.R.WorldRules.columns.stored c.args.kind.now c.in-Some.value.now) c.args.indices.now found.items)) c.in-Some-2.is c.in_ok-found.ensures)
