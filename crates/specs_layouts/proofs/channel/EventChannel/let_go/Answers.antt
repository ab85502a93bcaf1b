use Rattle.std.proofs.Common.{◌≡◌, ◌-◌, length, map, drop, vec_capacity, refl, ap, subst, ◌∙◌, arith}
use Rattle.specs_layouts.specs.Blocks.{event_place}
use Rattle.specs_layouts.specs.Channels.{Channel, least_of, let_go}
use Rattle.specs_layouts.specs.declared.blocks.Place.{Place}
use Rattle.specs_layouts.proofs.ChannelLemmas.{view, at-most, at-within, found-at, gone-blocked, gone-none, gone-view}
use Rattle.specs_layouts.proofs.channel.EventChannel.let_go.Goals as goal

pub drop_first-requires : goal.drop_first-requires
drop_first-requires g c =
    let s = c.self.inside in
    let index_of = g.E.IndexEvent.index_of in
    let same_at = g.E.IndexEvent.same_at in
    let read = c.least-read.result in
    let end : Place = record { block = c.len.result; event = s.count } in
    let len : c.len.result ≡ length s.blocks.items = omega (arith, c.len.ensures, s.blocks.ok.0) in
    let at = found-at index_of same_at s.blocks.items (vec_capacity s.blocks) s.places.items s.count c.self.invariant c.as_slice.result.now c.as_slice.ensures.value end read len refl c.least-read.ensures.one in
    at-within index_of same_at s.blocks.items read at

pub overflow_sub-self : goal.overflow_sub-self
overflow_sub-self g c =
    let s = c.self.inside in
    let index_of = g.E.IndexEvent.index_of in
    let same_at = g.E.IndexEvent.same_at in
    let read = c.least-read.result in
    let end : Place = record { block = c.len.result; event = s.count } in
    let len : c.len.result ≡ length s.blocks.items = omega (arith, c.len.ensures, s.blocks.ok.0) in
    let at = found-at index_of same_at s.blocks.items (vec_capacity s.blocks) s.places.items s.count c.self.invariant c.as_slice.result.now c.as_slice.ensures.value end read len refl c.least-read.ensures.one in
    let most = at-most index_of same_at s.blocks.items read at in
    let counted = c.self.invariant.counted in
    omega (arith, most, counted)

pub invariant_of-self : goal.invariant_of-self
invariant_of-self g c =
    let s = c.self.inside in
    let index_of = g.E.IndexEvent.index_of in
    let same_at = g.E.IndexEvent.same_at in
    let read = c.least-read.result in
    let end : Place = record { block = c.len.result; event = s.count } in
    let len : c.len.result ≡ length s.blocks.items = omega (arith, c.len.ensures, s.blocks.ok.0) in
    let at = found-at index_of same_at s.blocks.items (vec_capacity s.blocks) s.places.items s.count c.self.invariant c.as_slice.result.now c.as_slice.ensures.value end read len refl c.least-read.ensures.one in
    let least : read.event ≡ least_of s.count (map event_place s.places.items) = c.least-read.ensures.value ∙ ap (λ places. least_of s.count (map event_place places)) c.as_slice.ensures.value in
    rw (c.drop_first.ensures.items, c.drop_first.ensures.capacity, c.lower.ensures)
    (gone-blocked index_of same_at s.blocks.items (vec_capacity s.blocks) s.places.items s.count c.self.invariant read at least)

pub returns-then-read-gt0 : goal.returns-then-read-gt0
returns-then-read-gt0 g c =
    let s = c.self.inside in
    let index_of = g.E.IndexEvent.index_of in
    let same_at = g.E.IndexEvent.same_at in
    let read = c.least-read.result in
    let end : Place = record { block = c.len.result; event = s.count } in
    let len : c.len.result ≡ length s.blocks.items = omega (arith, c.len.ensures, s.blocks.ok.0) in
    let at = found-at index_of same_at s.blocks.items (vec_capacity s.blocks) s.places.items s.count c.self.invariant c.as_slice.result.now c.as_slice.ensures.value end read len refl c.least-read.ensures.one in
    let least : read.event ≡ least_of s.count (map event_place s.places.items) = c.least-read.ensures.value ∙ ap (λ places. least_of s.count (map event_place places)) c.as_slice.ensures.value in
    let left = s.count - read.event in
    ap (λ blocks. view index_of same_at blocks (vec_capacity c.drop_first.new.blocks) c.lower.new.places.items left) c.drop_first.ensures.items
    ∙ ap (λ n. view index_of same_at (drop read.block s.blocks.items) n c.lower.new.places.items left) c.drop_first.ensures.capacity
    ∙ ap (λ places. view index_of same_at (drop read.block s.blocks.items) (vec_capacity s.blocks) places left) c.lower.ensures
    ∙ gone-view index_of same_at s.blocks.items (vec_capacity s.blocks) s.places.items s.count c.self.invariant read at least
    ∙ ap (λ (k : Channel g.row.E.Denot). let_go k) c.self.view_is

pub returns-else-read-gt0 : goal.returns-else-read-gt0
returns-else-read-gt0 g c =
    let s = c.self.inside in
    let index_of = g.E.IndexEvent.index_of in
    let same_at = g.E.IndexEvent.same_at in
    let read = c.least-read.result in
    let end : Place = record { block = c.len.result; event = s.count } in
    let len : c.len.result ≡ length s.blocks.items = omega (arith, c.len.ensures, s.blocks.ok.0) in
    let at = found-at index_of same_at s.blocks.items (vec_capacity s.blocks) s.places.items s.count c.self.invariant c.as_slice.result.now c.as_slice.ensures.value end read len refl c.least-read.ensures.one in
    let least : read.event ≡ least_of s.count (map event_place s.places.items) = c.least-read.ensures.value ∙ ap (λ places. least_of s.count (map event_place places)) c.as_slice.ensures.value in
    let none : read.block ≡ 0 = omega arith in
    subst (λ (k : Channel g.row.E.Denot). k ≡ let_go k) c.self.view_is
    (gone-none index_of same_at s.blocks.items (vec_capacity s.blocks) s.places.items s.count c.self.invariant read at least none)
