use Rattle.std.proofs.Common.{ap, sym, subst, ◌∙◌}
use Rattle.specs_layouts.specs.Channels.{Channel, since, CaughtUp, IsReader, log_of}
use Rattle.specs_layouts.proofs.SinceLemmas.{since-read, since-others, caught-read, reads-after}
use Rattle.specs_layouts.proofs.channel.EventChannel.catch_up.Goals as goal

pub returns-clause-read : goal.returns-clause-read
returns-clause-read g c = ap (λ (k : Channel g.row.E.Denot). since k c.args.reader.now) c.pass.ensures ∙ since-read c.args.self.now c.args.reader.now

pub returns-clause-others : goal.returns-clause-others
returns-clause-others g c other apart =
    ap (λ (k : Channel g.row.E.Denot). since k other) c.pass.ensures ∙ since-others c.args.self.now c.args.reader.now other apart

pub returns-clause-caught_up : goal.returns-clause-caught_up
returns-clause-caught_up g c within =
    subst (λ (k : Channel g.row.E.Denot). CaughtUp (log_of k) c.args.reader.now) (sym c.pass.ensures) (caught-read c.args.self.now c.args.reader.now within)

pub returns-clause-readers : goal.returns-clause-readers
returns-clause-readers g c other is =
    subst (λ (k : Channel g.row.E.Denot). IsReader (log_of k) other) (sym c.pass.ensures) (reads-after c.args.self.now c.args.reader.now other is)
