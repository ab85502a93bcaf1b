-- Slots of a list: a slot that is empty is as good as none.
use Rattle.std.specs.Prelude.{Option, None, Some}

-- what stands at a place, if there is such a place and it is not empty
abbrev pub filled : {G : Type 0} → Option (Option G) → Option G
filled None = None
filled (Some value) = value
