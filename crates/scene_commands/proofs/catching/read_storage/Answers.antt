use Rattle.std.proofs.Common.{refl}
use Rattle.specs_layouts.specs.Channels.{log_of}
use Rattle.specs_layouts.specs.Flagged.{tells}
use Rattle.scene_world.specs.Markers.{marker_in, marker_at, marker_log, marker_tells}
use Rattle.scene_commands.proofs.CatchLemmas.{catches-seen}
use Rattle.scene_commands.proofs.catching.read_storage.Goals as goal

pub returns : goal.returns
returns c =
    catches-seen marker_in (λ s. log_of s.channel) tells marker_at marker_log marker_tells c.args.storage.now.inner c.catch_up_reader.new.storage.inner c.args.storage.now c.catch_up_reader.new.storage
    (λ index same. same) refl refl refl refl c.args.reader.now c.catch_up_reader.ensures
