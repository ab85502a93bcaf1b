use Rattle.std.proofs.Common.{◌≡◌, ◌+◌, ◌-◌, ◌≤◌, ◌∷◌, ◌++◌, [], length, vec_capacity, ap, sym, subst, ◌∙◌, arith}
use Rattle.std.specs.Int.Count.{ones}
use Rattle.specs_layouts.specs.Blocks.{same_events, with_events, IsBlocked}
use Rattle.specs_layouts.specs.Channels.{Channel}
use Rattle.specs_layouts.proofs.ChannelLemmas.{view, blocks-fit, pushed-blocked, pushed-view}
use Rattle.specs_layouts.proofs.channel.EventChannel.push.Goals as goal

pub push_reserved-requires : goal.push_reserved-requires
push_reserved-requires g c =
    let s = c.self.inside in
    let fit = blocks-fit g.E.IndexEvent.index_of g.E.IndexEvent.same_at s.blocks.items (vec_capacity s.blocks) s.places.items s.count c.self.invariant in
    let room = ap (λ (k : Channel g.row.E.Denot). k.room) c.self.view_is in
    let some = c.requires in
    omega (arith, fit, room, some, s.blocks.ok.0)

pub invariant_of-self : goal.invariant_of-self
invariant_of-self g c =
    let s = c.self.inside in
    let index_of = g.E.IndexEvent.index_of in
    let same_at = g.E.IndexEvent.same_at in
    let capacity = vec_capacity s.blocks in
    let events = same_events index_of same_at c.args.event c.args.more in
    let seen : capacity - s.count ≡ c.args.self.now.room = ap (λ (k : Channel g.row.E.Denot). k.room) c.self.view_is in
    let some = c.requires in
    let room : length events ≤ capacity - s.count = omega (arith, seen, some) in
    subst (λ n. IsBlocked index_of same_at c.push_reserved.new.self.items n s.places.items (s.count + (1 + ones c.args.more))) (sym c.push_reserved.ensures.capacity)
    (subst (λ blocks. IsBlocked index_of same_at blocks capacity s.places.items (s.count + (1 + ones c.args.more))) (sym c.push_reserved.ensures.items)
    (pushed-blocked index_of same_at s.blocks.items capacity s.places.items s.count c.self.invariant c.args.event c.args.more c.ranges.more.fits room))

pub returns : goal.returns
returns g c =
    let s = c.self.inside in
    let index_of = g.E.IndexEvent.index_of in
    let same_at = g.E.IndexEvent.same_at in
    let capacity = vec_capacity s.blocks in
    let count = s.count + (1 + ones c.args.more) in
    let events = same_events index_of same_at c.args.event c.args.more in
    let seen : capacity - s.count ≡ c.args.self.now.room = ap (λ (k : Channel g.row.E.Denot). k.room) c.self.view_is in
    let some = c.requires in
    let room : length events ≤ capacity - s.count = omega (arith, seen, some) in
    ap (λ blocks. view index_of same_at blocks (vec_capacity c.push_reserved.new.self) s.places.items count) c.push_reserved.ensures.items
    ∙ ap (λ n. view index_of same_at (s.blocks.items ++ record { event = c.args.event; more = c.args.more } ∷ []) n s.places.items count) c.push_reserved.ensures.capacity
    ∙ pushed-view index_of same_at s.blocks.items capacity s.places.items s.count c.self.invariant c.args.event c.args.more c.ranges.more.fits room
    ∙ ap (λ k. with_events k events) c.self.view_is
