use Rattle.std.proofs.Common.{ap, sym, subst, ◌∙◌}
use Rattle.specs_layouts.specs.Channels.{Channel, since, CaughtUp, IsReader, log_of}
use Rattle.specs_layouts.proofs.SinceLemmas.{since-read, since-others, caught-read, reads-after}
use Rattle.specs_layouts.proofs.channel.EventChannel.read.Goals as goal

pub returns-in-Ok-clause-read : goal.returns-in-Ok-clause-read
returns-in-Ok-clause-read g c =
    ap (λ (k : Channel g.row.E.Denot). since k c.args.reader.now) c.in-Ok.ensures.ok ∙ since-read c.args.self.now c.args.reader.now

pub returns-in-Ok-clause-others : goal.returns-in-Ok-clause-others
returns-in-Ok-clause-others g c other apart =
    ap (λ (k : Channel g.row.E.Denot). since k other) c.in-Ok.ensures.ok ∙ since-others c.args.self.now c.args.reader.now other apart

pub returns-in-Ok-clause-caught_up : goal.returns-in-Ok-clause-caught_up
returns-in-Ok-clause-caught_up g c within =
    subst (λ (k : Channel g.row.E.Denot). CaughtUp (log_of k) c.args.reader.now) (sym c.in-Ok.ensures.ok) (caught-read c.args.self.now c.args.reader.now within)

pub returns-in-Ok-clause-readers : goal.returns-in-Ok-clause-readers
returns-in-Ok-clause-readers g c other is =
    subst (λ (k : Channel g.row.E.Denot). IsReader (log_of k) other) (sym c.in-Ok.ensures.ok) (reads-after c.args.self.now c.args.reader.now other is)
