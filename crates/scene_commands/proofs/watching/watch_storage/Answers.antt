use Rattle.std.proofs.Common.{refl}
use Rattle.specs_layouts.specs.Channels.{log_of}
use Rattle.specs_layouts.specs.Flagged.{tells}
use Rattle.scene_world.specs.Markers.{marker_in, marker_at, marker_log, marker_tells}
use Rattle.scene_commands.proofs.WatchLemmas.{gains-watcher, watcher-seen}
use Rattle.scene_commands.proofs.watching.watch_storage.Goals as goal

pub returns : goal.returns
returns c =
    watcher-seen marker_in (λ s. log_of s.channel) tells marker_at marker_log marker_tells c.args.storage.now.inner c.gain_reader-2.new.storage.inner c.args.storage.now c.gain_reader-2.new.storage
    (λ index same. same) refl refl refl (record { frame = c.in_ok-frame.frame; next = c.in_ok-next.next })
    (gains-watcher marker_in (λ s. log_of s.channel) tells (record { frame = c.in_ok-frame.frame; next = c.in_ok-next.next })
    c.args.storage.now.inner c.gain_reader.new.storage.inner c.gain_reader-2.new.storage.inner c.in_ok-frame.ensures.ok c.in_ok-next.ensures.ok)
