-- The layers over so many indices, in one row.
use Rattle.std.specs.Prelude.{ℕ, ◌+◌, ◌/◌}
use Rattle.hibitset.specs.AtomicCore.{Sizes}

-- how many words so many bits take
abbrev pub words_for : ℕ → ℕ
words_for bits = (bits + 63) / 64

-- the layers that reach over so many indices
abbrev pub sizes_for : ℕ → Sizes
sizes_for count = record { first = words_for count; second = words_for (words_for count); third = words_for (words_for (words_for count)) }
