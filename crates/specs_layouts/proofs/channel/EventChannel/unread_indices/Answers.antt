use Rattle.std.proofs.Common.{◌≡◌, ◌-◌, ◌<◌, ◌&&◌, ◌||◌, ℕ, true, List, length, take, drop, ltb, OnOk, OnErr, vec_capacity, ap, sym, subst, ◌∙◌, arith}
use Rattle.hibitset_sets.specs.BitSet.{has_member}
use Rattle.specs_layouts.specs.Blocks.{all_events, is_named}
use Rattle.specs_layouts.specs.Channels.{Channel, since}
use Rattle.specs_layouts.specs.declared.blocks.Block.{Block}
use Rattle.specs_layouts.proofs.ChannelLemmas.{reader-rest}
use Rattle.specs_layouts.proofs.channel.EventChannel.unread_indices.Goals as goal

pub returns-clause-ok : goal.returns-clause-ok
returns-clause-ok g c =
    let s = c.self.inside in
    let place = c.index-place.result.now in
    let number = c.reader.inside.number in
    let within : number < length s.places.items = omega (arith, c.if-reader-len.false, c.len.ensures, s.places.ok.0) in
    let rest = reader-rest g.E.IndexEvent.index_of g.E.IndexEvent.same_at s.blocks.items (vec_capacity s.blocks) s.places.items s.count c.self.invariant number within place c.index-place.ensures in
    let blocks = ap (λ (blocks : List (Block g.row.E.Denot)). all_events g.E.IndexEvent.index_of g.E.IndexEvent.same_at (take (length blocks - place.block) (drop place.block blocks))) c.deref.ensures.value in
    let seen = ap (λ (k : Channel g.row.E.Denot). since k number) c.self.view_is ∙ ap (λ n. since c.args.self.now n) c.reader.view_is in
    subst (λ (events : List g.row.E.Denot). OnOk c.index_all.result ((i : ℕ) → has_member c.index_all.new.into i ≡ (has_member c.args.into.now i || (ltb i 16777216 && is_named g.E.IndexEvent.index_of events i)))) (blocks ∙ (sym rest ∙ seen))
    c.index_all.ensures.ok

pub returns-clause-err : goal.returns-clause-err
returns-clause-err g c =
    let s = c.self.inside in
    let place = c.index-place.result.now in
    let number = c.reader.inside.number in
    let within : number < length s.places.items = omega (arith, c.if-reader-len.false, c.len.ensures, s.places.ok.0) in
    let rest = reader-rest g.E.IndexEvent.index_of g.E.IndexEvent.same_at s.blocks.items (vec_capacity s.blocks) s.places.items s.count c.self.invariant number within place c.index-place.ensures in
    let blocks = ap (λ (blocks : List (Block g.row.E.Denot)). all_events g.E.IndexEvent.index_of g.E.IndexEvent.same_at (take (length blocks - place.block) (drop place.block blocks))) c.deref.ensures.value in
    let seen = ap (λ (k : Channel g.row.E.Denot). since k number) c.self.view_is ∙ ap (λ n. since c.args.self.now n) c.reader.view_is in
    subst (λ (events : List g.row.E.Denot). OnErr c.index_all.result ((i : ℕ) → has_member c.index_all.new.into i ≡ true → (has_member c.args.into.now i || (ltb i 16777216 && is_named g.E.IndexEvent.index_of events i)) ≡ true)) (blocks ∙ (sym rest ∙ seen))
    c.index_all.ensures.err
