-- Events as blocks: an event, and the same at further indices of its word. Public clauses speak of the lists of events alone.
use Rattle.std.specs.Prelude.{◌≡◌, ℕ, ◌-◌, ◌/◌, ◌≤◌, ◌==◌, nat_lt, Bool, true, ◌&&◌, not, List, ◌∷◌, ◌++◌, length, map, take}
use Rattle.std.specs.List.{All, flat_map, list_any}
use Rattle.hibitset_sets.specs.Walk.{word_indices}
use Rattle.specs_layouts.specs.Channels.{Channel}
use Rattle.specs_layouts.specs.declared.blocks.Block.{Block}
use Rattle.specs_layouts.specs.declared.blocks.Place.{Place}

-- some event of a list is of that index
abbrev pub is_named : {E : Type 0} → (E → ℕ) → List E → ℕ → Bool
is_named index_of events index = list_any (λ event. index_of event == index) events

module _ {E : Type 0} (index_of : E → ℕ) (same_at : E → ℕ → E) where
  -- an event, and the same at each further index of its word, ascending
  abbrev pub same_events : E → ℕ → List E
  same_events event more = event ∷ map (same_at event) (word_indices (index_of event / 64) more)

  -- the events of a block
  abbrev pub block_events : Block E → List E
  block_events block = same_events block.event block.more

  -- those of blocks, one after the other
  abbrev pub all_events : List (Block E) → List E
  all_events blocks = flat_map block_events blocks

  -- a place stands behind some first blocks and their events
  abbrev pub is_at : List (Block E) → Place → Bool
  is_at blocks place = not (nat_lt (length blocks) place.block) && (place.event == length (all_events (take place.block blocks)))

  -- the blocks are those of so many events, for which there is memory, and each reader stands between two of them
  pub record IsBlocked (blocks : List (Block E)) (capacity : ℕ) (places : List Place) (count : ℕ) : Type 0 where
    pub counted : count ≡ length (all_events blocks)
    pub fits : count ≤ capacity
    pub placed : All (λ place. is_at blocks place ≡ true) places

-- how many events a place stands behind
abbrev pub event_place : Place → ℕ
event_place place = place.event

-- a place without what comes before another
abbrev pub less : Place → Place → Place
less by place = record { block = place.block - by.block; event = place.event - by.event }

-- a channel with these events more, for which there is room
abbrev pub with_events : {E : Type 0} → Channel E → List E → Channel E
with_events c events = record { held = c.held ++ events; room = c.room - length events; places = c.places }
