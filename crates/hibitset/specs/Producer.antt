-- What contracts see of a producer.
use Rattle.std.specs.Prelude.{◌≡◌, ◌≢◌, ℕ, ◌-◌, ◌<◌, Bool, List, [], ◌∷◌, Option, Some, None, slice_index}
use Rattle.hibitset_sets.specs.Iter.{walked_set, masks_left, prefixes}
use Rattle.hibitset_sets.specs.Walk.{walk, is_pending}
use Rattle.hibitset.specs.declared.producer.BitProducer.{BitProducer}
use Rattle.hibitset.specs.Cut.{IsCutAt, IsExact}

-- the items of a producer: what its walk still gives
abbrev pub items_of : {T : Type 0} → (T → ℕ → Bool) → BitProducer T → List ℕ
items_of members producer = walk (is_pending (members (walked_set producer.0).now) (masks_left producer.0) (prefixes producer.0))

-- the same of one that may be there
abbrev pub items_of_other : {T : Type 0} → (T → ℕ → Bool) → Option (BitProducer T) → List ℕ
items_of_other members None = []
items_of_other members (Some producer) = items_of members producer

-- no other layer has bits left
pub record IsAlone (masks : List ℕ) (layer : ℕ) : Type 0 where
  pub above : 0 < layer
  pub within : layer < 4
  pub some : slice_index masks layer ≢ 0
  pub empty : (k : ℕ) → k ≢ layer → slice_index masks k ≡ 0

-- masks of which one layer alone has bits left are cut at an index, where the word of that layer is. The number of layers that may be cut is counted from the top
abbrev pub IsCut : (ℕ → ℕ → ℕ) → List ℕ → List ℕ → ℕ → ℕ → Type 0
IsCut words masks prefix layers index =
    (layer : ℕ) × IsAlone masks layer × IsCutAt words (4 - layers) layer (slice_index prefix layer) (slice_index masks layer) index

-- a producer is cut at an index
abbrev pub CutsAt : {T : Type 0} → (T → ℕ → ℕ → ℕ) → BitProducer T → ℕ → Type 0
CutsAt words producer index = IsCut (words (walked_set producer.0).now) (masks_left producer.0) (prefixes producer.0) producer.1 index

-- over the same set, with as many layers to be split
pub record IsPartOf {T : Type 0} (whole part : BitProducer T) : Type 0 where
  pub set : (walked_set part.0).now ≡ (walked_set whole.0).now
  pub layers : part.1 ≡ whole.1

-- a walk that begins, of which three layers may be split, over a set whose summaries are exact
pub record BeginsExact {T : Type 0} (words : T → ℕ → ℕ → ℕ) (producer : BitProducer T) : Type 0 where
  pub layers : producer.1 ≡ 3
  pub masks : masks_left producer.0 ≡ 0 ∷ 0 ∷ 0 ∷ words (walked_set producer.0).now 3 0 ∷ []
  pub exact : IsExact (words (walked_set producer.0).now)
