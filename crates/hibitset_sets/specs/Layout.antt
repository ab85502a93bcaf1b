-- The layout of a `BitSet`: four layers of words. No public clause cites this file.
use Rattle.std.specs.Prelude.{◌≡◌, ℕ, ◌*◌, ◌^◌, ◌<◌, ◌≤◌, ◌==◌, not, List, [], ◌∷◌, length, filter, slice_index}
use Rattle.std.specs.List.{range_with_len}
use Rattle.std.specs.Ordering.{nat_cmp}
use Rattle.std.specs.FinSet as set
use Rattle.hibitset_sets.specs.Edits.{bit_of}
use Rattle.hibitset_sets.specs.BitSet.{SetWithRoom}
use Rattle.hibitset_sets.specs.declared.bit_set.BitSet.TheInside.{Inside}

-- each word has 64 bits, there is a bit for each, and the bit is set where the word isn't zero
pub record IsSummary (below above : List ℕ) : Type 0 where
  pub fits : (w : ℕ) → slice_index below w < 2 ^ 64
  pub long : length below ≤ 64 * length above
  pub bits : (w : ℕ) → bit_of above w ≡ not (slice_index below w == 0)

-- each layer is the summary of the one below
pub record IsLayered (layer0 layer1 layer2 : List ℕ) (layer3 : ℕ) : Type 0 where
  pub first : IsSummary layer0 layer1
  pub second : IsSummary layer1 layer2
  pub third : IsSummary layer2 (layer3 ∷ [])
  pub fits : layer3 < 2 ^ 64

-- the indices whose bits are set
unfoldable pub members_of : List ℕ → set.FinSet nat_cmp
members_of words = set.from_list (filter (bit_of words) (range_with_len 0 (64 * length words)))

-- each layer of the set sums up the one below
abbrev pub is_layered : Inside → Type 0
is_layered s = IsLayered s.layer0.items s.layer1.items s.layer2.items s.layer3

-- the set whose layer 0 has these words
abbrev pub set_of : List ℕ → SetWithRoom
set_of words = record { members = members_of words; room = 64 * length words }

-- the set that the layers hold
abbrev pub view_of : Inside → SetWithRoom
view_of s = set_of s.layer0.items
