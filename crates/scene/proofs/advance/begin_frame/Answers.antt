use Rattle.std.proofs.Common.{◌≡◌, ◌∙◌, ℕ}
use Rattle.scene_world.specs.Places.{kinds_of}
use Rattle.scene_commands.specs.Acts.{seen_of}
use Rattle.scene_commands.proofs.WatchLemmas.{roll-stays, scene-stays, queues-stay, stands-still}
use Rattle.scene.proofs.TellingLemmas.{all-begun, begun-kept}
use Rattle.scene.proofs.advance.begin_frame.Goals as goal

pub catch_up_world-requires : goal.catch_up_world-requires
catch_up_world-requires g c = record { many = let all = c.requires.readers in all.many; telling = c.requires.telling }

pub returns-clause-begun : goal.returns-clause-begun
returns-clause-begun g c = all-begun (kinds_of g.R.Value.SceneValue.places g.R.DocumentRules.part_of g.R.WorldRules.columns) c.args.watchers.now (seen_of c.args.world.now) (seen_of c.catch_up_world.new.world) c.catch_up_world.ensures.caught c.requires.readers

pub returns-clause-kept : goal.returns-clause-kept
returns-clause-kept g c kept was =
    let named = g.met.R.WorldRules.named_so c.args.rules.now in
    let caught = c.catch_up_world.ensures in
    begun-kept (kinds_of g.R.Value.SceneValue.places g.R.DocumentRules.part_of g.R.WorldRules.columns) g.met.R.WorldRules.apart (g.R.DocumentRules.book c.args.rules.now) named.parts (seen_of c.args.world.now) (seen_of c.catch_up_world.new.world) caught.stays g.R.DocumentRules.part_of c.args.watchers.now kept was
    (all-begun (kinds_of g.R.Value.SceneValue.places g.R.DocumentRules.part_of g.R.WorldRules.columns) c.args.watchers.now (seen_of c.args.world.now) (seen_of c.catch_up_world.new.world) caught.caught c.requires.readers) caught.telling

pub returns-clause-stands : goal.returns-clause-stands
returns-clause-stands g c stands =
    stands-still (kinds_of g.R.Value.SceneValue.places g.R.DocumentRules.part_of g.R.WorldRules.columns) g.met.R.WorldRules.apart (seen_of c.args.world.now) (seen_of c.catch_up_world.new.world) c.catch_up_world.ensures.stays (g.R.DocumentRules.book c.args.rules.now) stands

pub returns-clause-none : goal.returns-clause-none
returns-clause-none g c none position =
    queues-stay (kinds_of g.R.Value.SceneValue.places g.R.DocumentRules.part_of g.R.WorldRules.columns) g.met.R.WorldRules.apart (seen_of c.args.world.now) (seen_of c.catch_up_world.new.world) c.catch_up_world.ensures.stays position ∙ none position

pub returns-clause-scene : goal.returns-clause-scene
returns-clause-scene g c = scene-stays (kinds_of g.R.Value.SceneValue.places g.R.DocumentRules.part_of g.R.WorldRules.columns) g.met.R.WorldRules.apart (seen_of c.args.world.now) (seen_of c.catch_up_world.new.world) c.catch_up_world.ensures.stays

pub returns-clause-roll : goal.returns-clause-roll
returns-clause-roll g c = roll-stays (kinds_of g.R.Value.SceneValue.places g.R.DocumentRules.part_of g.R.WorldRules.columns) g.met.R.WorldRules.apart (seen_of c.args.world.now) (seen_of c.catch_up_world.new.world) c.catch_up_world.ensures.stays
