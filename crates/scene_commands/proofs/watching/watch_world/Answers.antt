use Rattle.scene_world.specs.Places.{kinds_of}
use Rattle.scene_commands.specs.Acts.{seen_of}
use Rattle.scene_commands.proofs.WatchLemmas.{world-watched, world-tells, world-stays}
use Rattle.scene_commands.proofs.watching.watch_world.Goals as goal

pub returns-clause-watched : goal.returns-clause-watched
returns-clause-watched g c = world-watched (kinds_of g.R.Value.SceneValue.places g.R.DocumentRules.part_of g.R.WorldRules.columns) g.met.R.WorldRules.apart (record { markers = c.in_ok-markers.markers; parts = c.in_ok-parts.parts }) (seen_of c.args.world.now) (seen_of c.watch_markers.new.world) (seen_of c.watch_kinds.new.world) c.in_ok-markers.ensures c.in_ok-parts.ensures

pub returns-clause-telling : goal.returns-clause-telling
returns-clause-telling g c = world-tells (kinds_of g.R.Value.SceneValue.places g.R.DocumentRules.part_of g.R.WorldRules.columns) g.met.R.WorldRules.apart (record { markers = c.in_ok-markers.markers; parts = c.in_ok-parts.parts }) (seen_of c.args.world.now) (seen_of c.watch_markers.new.world) (seen_of c.watch_kinds.new.world) c.in_ok-markers.ensures c.in_ok-parts.ensures

pub returns-clause-stays : goal.returns-clause-stays
returns-clause-stays g c = world-stays (kinds_of g.R.Value.SceneValue.places g.R.DocumentRules.part_of g.R.WorldRules.columns) g.met.R.WorldRules.apart (record { markers = c.in_ok-markers.markers; parts = c.in_ok-parts.parts }) (seen_of c.args.world.now) (seen_of c.watch_markers.new.world) (seen_of c.watch_kinds.new.world) c.in_ok-markers.ensures c.in_ok-parts.ensures
