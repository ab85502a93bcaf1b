-- What a storage ends as, where its channel was lent.
use Rattle.std.specs.Borrow.{Fml, RattleType, MutBor, Lends}
use Rattle.specs_layouts.specs.Channels.{Channel}
use Rattle.specs_layouts.specs.contracts.channel.EventChannel as channel
use Rattle.specs_layouts.specs.Masked.{Masked}
use Rattle.specs_layouts.specs.MaskedLends.{StorageMembers, masked_row}
use Rattle.specs_layouts.specs.SameEvents.{same_event_at}
use Rattle.specs_layouts.specs.Shows.{index_of}
use Rattle.specs_layouts.specs.declared.track.ComponentEvent.{ComponentEvent}
use Rattle.specs_layouts.specs.contracts.track.ComponentEvent as event

-- a channel of the changes of parts
abbrev pub channel_row : RattleType
channel_row = channel.the_row event.the_row (record { index_of = index_of; same_at = same_event_at })

-- the storage has the channel that was written
abbrev pub lends_channel : (S : RattleType) → (S.Denot → Channel ComponentEvent → S.Denot) → MutBor S.Denot → MutBor (Channel ComponentEvent) → Fml
lends_channel S put s r = Lends S channel_row s r (put s.now)

-- a masked storage's layout has it
abbrev pub lends_masked_channel : (T S : RattleType) → StorageMembers S.Denot T.Denot → (S.Denot → Channel ComponentEvent → S.Denot) → MutBor (Masked S.Denot) → MutBor (Channel ComponentEvent) → Fml
lends_masked_channel T S g put m r =
    Lends (masked_row T S g) channel_row m r (λ c. record m.now { inner = put m.now.inner c })
