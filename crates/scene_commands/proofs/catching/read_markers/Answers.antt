use Rattle.shred_world.proofs.CallerLemmas.{slot-is-out}
use Rattle.scene_world.specs.Places.{kinds_of}
use Rattle.scene_commands.proofs.DeathLemmas.{was-there, now-there, else-there}
use Rattle.scene_commands.proofs.CatchLemmas.{marks-read, marks-handed}
use Rattle.scene_commands.proofs.catching.read_markers.Goals as goal

pub put_back-requires : goal.put_back-requires
put_back-requires g c = record { is_out = slot-is-out c.args.world.now c.take_raw.new.self c.markers_id-id.result c.in-Some.ensures.out }

pub put_back-requires-in-Err : goal.put_back-requires-in-Err
put_back-requires-in-Err g c = record { is_out = slot-is-out c.args.world.now c.take_raw.new.self c.markers_id-id.result c.in-Some.ensures.out }

pub returns-in-Ok : goal.returns-in-Ok
returns-in-Ok g c =
    marks-read (kinds_of g.R.Value.SceneValue.places g.R.DocumentRules.part_of g.R.WorldRules.columns) c.args.world.now c.put_back.new.self c.in-Some.value c.wrap_markers.result
    (was-there c.args.world.now c.take_raw.new.self c.put_back.new.self g.R.Value.SceneValue.places.markers_id c.markers_id-id.result c.markers_id-id.ensures c.take_raw.result c.take_raw.ensures.value c.in-Some.value c.wrap_markers.result c.in-Some.is c.in-Some.ensures.out c.put_back.ensures)
    (now-there c.args.world.now c.take_raw.new.self c.put_back.new.self g.R.Value.SceneValue.places.markers_id c.markers_id-id.result c.markers_id-id.ensures c.take_raw.result c.take_raw.ensures.value c.in-Some.value c.wrap_markers.result c.in-Some.is c.in-Some.ensures.out c.put_back.ensures)
    (else-there c.args.world.now c.take_raw.new.self c.put_back.new.self g.R.Value.SceneValue.places.markers_id c.markers_id-id.result c.markers_id-id.ensures c.take_raw.result c.take_raw.ensures.value c.in-Some.value c.wrap_markers.result c.in-Some.is c.in-Some.ensures.out c.put_back.ensures)
    c.args.reader.now c.in-Ok.markers c.read_storage.new.storage c.in-Ok.ensures.markers c.wrap_markers.ensures.markers c.in-Ok.ensures.events c.wrap_markers.ensures.events c.in-Ok.ensures.emits c.wrap_markers.ensures.emits
    c.read_storage.ensures

pub returns-in-Err : goal.returns-in-Err
returns-in-Err g c =
    marks-handed (kinds_of g.R.Value.SceneValue.places g.R.DocumentRules.part_of g.R.WorldRules.columns) c.args.world.now c.put_back-in-Err.new.self c.in-Some.value c.in-Err.other
    (was-there c.args.world.now c.take_raw.new.self c.put_back-in-Err.new.self g.R.Value.SceneValue.places.markers_id c.markers_id-id.result c.markers_id-id.ensures c.take_raw.result c.take_raw.ensures.value c.in-Some.value c.in-Err.other c.in-Some.is c.in-Some.ensures.out c.put_back-in-Err.ensures)
    (now-there c.args.world.now c.take_raw.new.self c.put_back-in-Err.new.self g.R.Value.SceneValue.places.markers_id c.markers_id-id.result c.markers_id-id.ensures c.take_raw.result c.take_raw.ensures.value c.in-Some.value c.in-Err.other c.in-Some.is c.in-Some.ensures.out c.put_back-in-Err.ensures)
    (else-there c.args.world.now c.take_raw.new.self c.put_back-in-Err.new.self g.R.Value.SceneValue.places.markers_id c.markers_id-id.result c.markers_id-id.ensures c.take_raw.result c.take_raw.ensures.value c.in-Some.value c.in-Err.other c.in-Some.is c.in-Some.ensures.out c.put_back-in-Err.ensures)
    c.args.reader.now c.in-Err.ensures.handed_back c.in-Err.ensures.silent
