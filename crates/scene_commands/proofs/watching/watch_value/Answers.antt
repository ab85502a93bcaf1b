use Rattle.scene_commands.proofs.WatchLemmas.{gains-watcher}
use Rattle.scene_commands.proofs.watching.watch_value.Goals as goal

pub returns : goal.returns
returns g c =
    gains-watcher (g.R.WorldRules.columns.stored c.args.kind.now) (g.R.WorldRules.columns.events c.args.kind.now) (g.R.WorldRules.columns.emits c.args.kind.now) (record { frame = c.in_ok-frame.frame; next = c.in_ok-next.next })
    c.args.value.now c.reader.new.value c.reader-2.new.value c.in_ok-frame.ensures.ok c.in_ok-next.ensures.ok
