-- What contracts see of a channel of events and of its readers.
use Rattle.std.specs.Prelude.{◌≡◌, ℕ, zero, suc, ◌+◌, ◌-◌, ◌<◌, ◌≤◌, min, Bool, not, ◌==◌, List, [], ◌∷◌, ◌++◌, length, map, drop, slice_index_or, slice_set, refl}
use Rattle.std.specs.Coded.{Coded, code_by, coded×, coded_ℕ, coded_list}

-- a channel: the events that it holds, the oldest first, how many more find their memory, and how many of those held each reader has read
pub record Channel (E : Type 0) : Type 0 where
  pub held : List E
  pub room : ℕ
  pub places : List ℕ

-- it is coded as the pair of its fields
abbrev pub channel_code : {E : Type 0} → Coded E → Coded (Channel E)
channel_code {E} code =
    code_by (List E × (ℕ × List ℕ)) (coded× (coded_list code) (coded× coded_ℕ (coded_list coded_ℕ)))
    (λ c. (c.held, (c.room, c.places)))
    (λ p. record { held = p.0; room = p.1.0; places = p.1.1 })
    (λ _. refl)

-- no reader has read more than there is
abbrev pub IsChannel : {E : Type 0} → Channel E → Type 0
IsChannel c = (reader : ℕ) → slice_index_or c.places reader 0 ≤ length c.held

-- what its readers can tell of a channel: the events held, and how many of them each has read
pub record Log (E : Type 0) : Type 0 where
  pub held : List E
  pub places : List ℕ

abbrev pub log_of : {E : Type 0} → Channel E → Log E
log_of c = record { held = c.held; places = c.places }

-- the log of what never writes an event
abbrev pub no_log : {E : Type 0} → Log E
no_log = record { held = []; places = [] }

-- a log with these events behind the others
abbrev pub with_more : {E : Type 0} → Log E → List E → Log E
with_more log more = record { held = log.held ++ more; places = log.places }

-- the events that a reader has yet to read; none for who is no reader
abbrev pub unread : {E : Type 0} → Log E → ℕ → List E
unread log reader = drop (slice_index_or log.places reader (length log.held)) log.held

-- a reader of the log has read all
pub record CaughtUp {E : Type 0} (log : Log E) (reader : ℕ) : Type 0 where
  pub known : reader < length log.places
  pub all : slice_index_or log.places reader (length log.held) ≡ length log.held

-- a reader of the log, who has read no more than there is
pub record IsReader {E : Type 0} (log : Log E) (reader : ℕ) : Type 0 where
  pub known : reader < length log.places
  pub within : slice_index_or log.places reader 0 ≤ length log.held

-- the events that a reader of a channel has yet to read
abbrev pub since : {E : Type 0} → Channel E → ℕ → List E
since c reader = unread (log_of c) reader

-- whether a channel has a reader
abbrev pub has_readers : {E : Type 0} → Channel E → Bool
has_readers c = not (length c.places == 0)

-- the room after one event more: a full channel makes room for one more than it holds
abbrev pub room_after : ℕ → ℕ → ℕ
room_after zero len = len
room_after (suc room) len = room

-- the room where there is some, else room for one more than is held
abbrev pub room_for_one : ℕ → ℕ → ℕ
room_for_one zero len = suc len
room_for_one (suc room) len = suc room

-- a channel with room for an event
abbrev pub with_room : {E : Type 0} → Channel E → Channel E
with_room c = record c { room = room_for_one c.room (length c.held) }

-- a channel with an event more
abbrev pub with_event : {E : Type 0} → Channel E → E → Channel E
with_event c event = record c { held = c.held ++ event ∷ []; room = room_after c.room (length c.held) }

-- a channel with a reader more, who has read all
abbrev pub with_reader : {E : Type 0} → Channel E → Channel E
with_reader c = record c { places = c.places ++ length c.held ∷ [] }

-- the least of a number and those of a list
abbrev pub least_of : ℕ → List ℕ → ℕ
least_of least [] = least
least_of least (place ∷ places) = least_of (min least place) places

-- a channel without its first events
abbrev pub without_first : {E : Type 0} → Channel E → ℕ → Channel E
without_first c count = record {
  held = drop count c.held;
  room = c.room + min count (length c.held);
  places = map (λ place. place - count) c.places;
}

-- a channel without the events that all readers have read
abbrev pub let_go : {E : Type 0} → Channel E → Channel E
let_go c = without_first c (least_of (length c.held) c.places)

-- a channel of which a reader has read all
abbrev pub read_by : {E : Type 0} → Channel E → ℕ → Channel E
read_by c reader = record c { places = slice_set c.places reader (length c.held) }

-- a channel after a reader has read to the end
abbrev pub after_read : {E : Type 0} → Channel E → ℕ → Channel E
after_read c reader = let_go (read_by c reader)
