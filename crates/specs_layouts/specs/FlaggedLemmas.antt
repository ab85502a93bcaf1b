-- Laws of what a flagged storage tells, and of its room.
use Rattle.std.proofs.Common.{◌≡◌, ℕ, zero, suc, ◌+◌, ◌≤◌, Bool, true, false, cond, length, refl, arith}
use Rattle.std.proofs.lemmas.Bool.{false≢true}
use Rattle.specs_layouts.specs.Channels.{Channel, room_after, log_of}
use Rattle.specs_layouts.specs.Parts.{told}
use Rattle.specs_layouts.specs.declared.track.ComponentEvent.{ComponentEvent}
use Rattle.specs_layouts.specs.declared.track.ComponentEvent.TheVariants as event
use Rattle.specs_layouts.specs.Flagged.{Flagged, tells, has_room_for, written_flagged, told_channel}

-- one event uses up the room of one
after-one : (room len count : ℕ) → count + 1 ≤ room → count ≤ room_after room len
after-one zero len count enough = absurd (omega (arith, enough))
after-one (suc room) len count enough = omega (arith, enough)

after-told : (emits : Bool) (room len count : ℕ) → (emits ≡ true → count + 1 ≤ room) → emits ≡ true → count ≤ cond emits (room_after room len) room
after-told true room len count enough _ = after-one room len count (enough refl)
after-told false room len count enough is = absurd (false≢true is)

pub written-room : {S T : Type 0} (written : S → ℕ → T → S) (s : Flagged S) (index : ℕ) (part : T) (count : ℕ) → has_room_for s (count + 1) → has_room_for (written_flagged written s index part) count
written-room written s index part count = after-told (tells s) s.channel.room (length s.channel.held) count

-- room for one more is room for these
pub room-fewer : {S : Type 0} (s : Flagged S) (count : ℕ) → has_room_for s (count + 1) → has_room_for s count
room-fewer s count enough is = let more = enough is in omega (arith, more)

log-told : (emits : Bool) (c : Channel ComponentEvent) (one : ComponentEvent) → log_of (told_channel emits c one) ≡ told emits (log_of c) one
log-told true c one = refl
log-told false c one = refl

-- what was lent for writing is told
pub written-tells : {S T : Type 0} (written : S → ℕ → T → S) (s : Flagged S) (index : ℕ) (part : T) → log_of (written_flagged written s index part).channel ≡ told (tells s) (log_of s.channel) (event.Modified index)
written-tells written s index part = log-told (tells s) s.channel (event.Modified index)
