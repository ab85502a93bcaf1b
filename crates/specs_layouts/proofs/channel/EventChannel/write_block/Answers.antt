use Rattle.std.proofs.Common.{arith}
use Rattle.std.proofs.lemmas.Bool.{false≢true}
use Rattle.specs_layouts.proofs.ChannelLemmas.{same-count}
use Rattle.specs_layouts.proofs.channel.EventChannel.write_block.Goals as goal

pub push-requires : goal.push-requires
push-requires g c =
    let events = same-count g.E.IndexEvent.index_of g.E.IndexEvent.same_at c.args.event c.args.more c.ranges.more.fits in
    let room = c.in_ok-make_room_for.ensures.ok in
    omega (arith, events, room)

pub returns-in_err-make_room_for-clause-succeeds : goal.returns-in_err-make_room_for-clause-succeeds
returns-in_err-make_room_for-clause-succeeds g c enough =
    let events = same-count g.E.IndexEvent.index_of g.E.IndexEvent.same_at c.args.event c.args.more c.ranges.more.fits in
    absurd (false≢true (c.in_err-make_room_for.ensures.succeeds (omega (arith, events, enough))))
