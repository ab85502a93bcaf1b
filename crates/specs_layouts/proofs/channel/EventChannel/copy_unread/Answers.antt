use Rattle.std.proofs.Common.{◌-◌, ◌<◌, ◌++◌, List, length, take, drop, vec_capacity, ap, sym, ◌∙◌, arith}
use Rattle.specs_layouts.specs.Blocks.{all_events}
use Rattle.specs_layouts.specs.Channels.{Channel, since}
use Rattle.specs_layouts.specs.declared.blocks.Block.{Block}
use Rattle.specs_layouts.proofs.ChannelLemmas.{reader-count, reader-most, reader-rest}
use Rattle.specs_layouts.proofs.channel.EventChannel.copy_unread.Goals as goal

pub overflow_sub-self-inside : goal.overflow_sub-self-inside
overflow_sub-self-inside g c =
    let s = c.self.inside in
    let number = c.reader.inside.number in
    let within : number < length s.places.items = omega (arith, c.if-reader-len.false, c.len.ensures, s.places.ok.0) in
    reader-most g.E.IndexEvent.index_of g.E.IndexEvent.same_at s.blocks.items (vec_capacity s.blocks) s.places.items s.count c.self.invariant number within c.index-place.result.now c.index-place.ensures

pub append_all-requires : goal.append_all-requires
append_all-requires g c =
    let s = c.self.inside in
    let place = c.index-place.result.now in
    let number = c.reader.inside.number in
    let within : number < length s.places.items = omega (arith, c.if-reader-len.false, c.len.ensures, s.places.ok.0) in
    let count = reader-count g.E.IndexEvent.index_of g.E.IndexEvent.same_at s.blocks.items (vec_capacity s.blocks) s.places.items s.count c.self.invariant number within place c.index-place.ensures in
    let same = ap (λ (blocks : List (Block g.row.E.Denot)). length (all_events g.E.IndexEvent.index_of g.E.IndexEvent.same_at (take (length blocks - place.block) (drop place.block blocks)))) c.deref.ensures.value in
    let ok = c.in_ok-reserve.ensures.ok in
    omega (arith, count, same, ok)

pub returns-clause-ok : goal.returns-clause-ok
returns-clause-ok g c =
    let s = c.self.inside in
    let place = c.index-place.result.now in
    let number = c.reader.inside.number in
    let within : number < length s.places.items = omega (arith, c.if-reader-len.false, c.len.ensures, s.places.ok.0) in
    let rest = reader-rest g.E.IndexEvent.index_of g.E.IndexEvent.same_at s.blocks.items (vec_capacity s.blocks) s.places.items s.count c.self.invariant number within place c.index-place.ensures in
    c.append_all.ensures
    ∙ ap (λ items. items ++ all_events g.E.IndexEvent.index_of g.E.IndexEvent.same_at (take (length c.deref.result.now - place.block) (drop place.block c.deref.result.now))) c.in_ok-reserve.ensures.items
    ∙ ap (λ (blocks : List (Block g.row.E.Denot)). c.args.into.now.items ++ all_events g.E.IndexEvent.index_of g.E.IndexEvent.same_at (take (length blocks - place.block) (drop place.block blocks))) c.deref.ensures.value
    ∙ ap (λ events. c.args.into.now.items ++ events) (sym rest)
    ∙ ap (λ (k : Channel g.row.E.Denot). c.args.into.now.items ++ since k number) c.self.view_is
    ∙ ap (λ n. c.args.into.now.items ++ since c.args.self.now n) c.reader.view_is
