use Rattle.shred_world.proofs.CallerLemmas.{slot-is-out}
use Rattle.scene_world.specs.Places.{kinds_of}
use Rattle.scene_commands.proofs.DeathLemmas.{was-there, now-there, else-there}
use Rattle.scene_commands.proofs.WatchLemmas.{marks-watched}
use Rattle.scene_commands.proofs.watching.watch_markers.Goals as goal

pub put_back-requires : goal.put_back-requires
put_back-requires g c = record { is_out = slot-is-out c.args.world.now c.take_raw.new.self c.markers_id-id.result c.in-Some.ensures.out }

pub put_back-requires-in-Err : goal.put_back-requires-in-Err
put_back-requires-in-Err g c = record { is_out = slot-is-out c.args.world.now c.take_raw.new.self c.markers_id-id.result c.in-Some.ensures.out }

pub returns-in-Ok-outcome : goal.returns-in-Ok-outcome
returns-in-Ok-outcome g c =
    marks-watched (kinds_of g.R.Value.SceneValue.places g.R.DocumentRules.part_of g.R.WorldRules.columns) c.args.world.now c.put_back.new.self c.in-Some.value c.wrap_markers.result
    (was-there c.args.world.now c.take_raw.new.self c.put_back.new.self g.R.Value.SceneValue.places.markers_id c.markers_id-id.result c.markers_id-id.ensures c.take_raw.result c.take_raw.ensures.value c.in-Some.value c.wrap_markers.result c.in-Some.is c.in-Some.ensures.out c.put_back.ensures)
    (now-there c.args.world.now c.take_raw.new.self c.put_back.new.self g.R.Value.SceneValue.places.markers_id c.markers_id-id.result c.markers_id-id.ensures c.take_raw.result c.take_raw.ensures.value c.in-Some.value c.wrap_markers.result c.in-Some.is c.in-Some.ensures.out c.put_back.ensures)
    (else-there c.args.world.now c.take_raw.new.self c.put_back.new.self g.R.Value.SceneValue.places.markers_id c.markers_id-id.result c.markers_id-id.ensures c.take_raw.result c.take_raw.ensures.value c.in-Some.value c.wrap_markers.result c.in-Some.is c.in-Some.ensures.out c.put_back.ensures)
    c.in-Ok.markers c.watch_storage-outcome.new.storage c.in-Ok.ensures.markers c.wrap_markers.ensures.markers c.in-Ok.ensures.events c.wrap_markers.ensures.events c.wrap_markers.ensures.emits
    c.in-Ok-outcome.watcher c.in-Ok-outcome.ensures
