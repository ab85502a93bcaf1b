use Rattle.std.proofs.Common.{vec_capacity, refl, ap, ◌∙◌}
use Rattle.specs_layouts.specs.Channels.{Channel, read_by}
use Rattle.specs_layouts.specs.declared.blocks.Place.{Place}
use Rattle.specs_layouts.proofs.ChannelLemmas.{moved-view}
use Rattle.specs_layouts.proofs.channel.EventChannel.move_to_end.Goals as goal

pub returns-then-reader-len : goal.returns-then-reader-len
returns-then-reader-len g c =
    let s = c.self.inside in
    let number = c.reader.inside.number in
    let end : Place = record { block = c.len-then-reader-len.result; event = s.count } in
    moved-view g.E.IndexEvent.index_of g.E.IndexEvent.same_at s.blocks.items (vec_capacity s.blocks) s.places.items s.count c.self.invariant number end refl
    ∙ ap (λ (k : Channel g.row.E.Denot). read_by k number) c.self.view_is
    ∙ ap (λ n. read_by c.args.self.now n) c.reader.view_is
