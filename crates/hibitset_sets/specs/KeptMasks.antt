-- Masks made of kept sets.
use Rattle.std.specs.Prelude.{ℕ, length}
use Rattle.hibitset_sets.specs.BitSet.{SetWithRoom, has_member}
use Rattle.hibitset_sets.specs.Walk.{walk}

-- how many members a kept set has below 2 ^ 24
abbrev pub member_count : SetWithRoom → ℕ
member_count s = length (walk (has_member s))
