use Rattle.std.proofs.Common.{ap, ◌∙◌}
use Rattle.specs_layouts.specs.Channels.{Channel, since}
use Rattle.specs_layouts.proofs.SinceLemmas.{since-written}
use Rattle.specs_layouts.proofs.channel.EventChannel.single_write.Goals as goal

pub returns-in-Ok-clause-told : goal.returns-in-Ok-clause-told
returns-in-Ok-clause-told g c reader within =
    ap (λ (k : Channel g.row.E.Denot). since k reader) c.in-Ok.ensures.ok ∙ since-written c.args.self.now c.args.event reader c.in-Ok.ensures.was within
