-- What contracts see of a flagged storage, and what its channel is told.
use Rattle.std.specs.Prelude.{◌≡◌, ℕ, ◌≤◌, Bool, true, ◌&&◌, [], length, if◌then◌else◌}
use Rattle.specs_layouts.specs.Channels.{Channel, has_readers, log_of, room_after}
use Rattle.specs_layouts.specs.Parts.{told}
use Rattle.specs_layouts.specs.declared.track.ComponentEvent.{ComponentEvent}
use Rattle.specs_layouts.specs.declared.track.ComponentEvent.TheVariants as event

-- the layout of the parts, the channel that is told of their changes, and whether emission is on
pub record Flagged (S : Type 0) : Type 0 where
  pub inner : S
  pub channel : Channel ComponentEvent
  pub emission : Bool

-- a change is told while emission is on and someone reads
abbrev pub tells : {S : Type 0} → Flagged S → Bool
tells s = s.emission && has_readers s.channel

-- a channel with an event more, where it is told
abbrev pub told_channel : Bool → Channel ComponentEvent → ComponentEvent → Channel ComponentEvent
told_channel emits c one = record {
  held = (told emits (log_of c) one).held;
  room = if emits then room_after c.room (length c.held) else c.room;
  places = c.places;
}

-- a storage with a part written through what get_mut lent
abbrev pub written_flagged : {S T : Type 0} → (S → ℕ → T → S) → Flagged S → ℕ → T → Flagged S
written_flagged written s index part = record {
  inner = written s.inner index part;
  channel = told_channel (tells s) s.channel (event.Modified index);
  emission = s.emission;
}

-- while changes are told there is room for the events of so many
abbrev pub has_room_for : {S : Type 0} → Flagged S → ℕ → Type 0
has_room_for s count = tells s ≡ true → count ≤ s.channel.room

-- a storage as it is made: a default layout, a channel that holds nothing and has no reader, and emission on
pub record IsFresh {S : Type 0} (is_default : S → Type 0) (s : Flagged S) : Type 0 where
  pub inner : is_default s.inner
  pub held : s.channel.held ≡ []
  pub places : s.channel.places ≡ []
  pub emission : s.emission ≡ true
