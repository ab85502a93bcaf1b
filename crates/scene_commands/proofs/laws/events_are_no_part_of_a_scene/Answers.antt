use Rattle.scene_world.specs.Places.{kinds_of}
use Rattle.scene_commands.specs.Acts.{seen_of}
use Rattle.scene_commands.proofs.WatchLemmas.{scene-stays, roll-stays, queues-stay, stands-still}
use Rattle.scene_commands.proofs.laws.events_are_no_part_of_a_scene.Goals as goal

pub returns-clause-scene : goal.returns-clause-scene
returns-clause-scene g c w later stays = scene-stays (kinds_of g.R.Value.SceneValue.places g.R.DocumentRules.part_of g.R.WorldRules.columns) g.met.R.WorldRules.apart (seen_of w) (seen_of later) stays

pub returns-clause-roll : goal.returns-clause-roll
returns-clause-roll g c w later stays = roll-stays (kinds_of g.R.Value.SceneValue.places g.R.DocumentRules.part_of g.R.WorldRules.columns) g.met.R.WorldRules.apart (seen_of w) (seen_of later) stays

pub returns-clause-queues : goal.returns-clause-queues
returns-clause-queues g c w later position stays = queues-stay (kinds_of g.R.Value.SceneValue.places g.R.DocumentRules.part_of g.R.WorldRules.columns) g.met.R.WorldRules.apart (seen_of w) (seen_of later) stays position

pub returns-clause-stands : goal.returns-clause-stands
returns-clause-stands g c w later stays stands = stands-still (kinds_of g.R.Value.SceneValue.places g.R.DocumentRules.part_of g.R.WorldRules.columns) g.met.R.WorldRules.apart (seen_of w) (seen_of later) stays (g.R.DocumentRules.book c.args.rules.now) stands
