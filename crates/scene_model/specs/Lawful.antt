-- Commands that the rules know.
use Rattle.std.specs.Prelude.{◌≡◌, true, false, All, AllPairs}
use Rattle.std.specs.Str.{bytes_eq}
use Rattle.scene_model.specs.Parts.{Name, Part, is_among}
use Rattle.scene_model.specs.Rulebook.{Book, Command, spawn, kill, put, take}

-- a kind is the rules', and a part is of that kind
abbrev pub IsKnownPart : Book → Name × Part → Type 0
IsKnownPart book entry = (is_among entry.0 book.part_names ≡ true) × (book.admits entry.0 entry.1 ≡ true)

-- a command is one that the rules know: its kinds are theirs, those of a spawn differ, and its parts are of their kinds
abbrev pub IsLawful : Book → Command → Type 0
IsLawful book (spawn parts) = All (IsKnownPart book) parts × AllPairs (λ one other. bytes_eq one.0 other.0 ≡ false) parts
IsLawful book (kill id) = Unit {0}
IsLawful book (put id kind part) = IsKnownPart book (kind, part)
IsLawful book (take id kind) = is_among kind book.part_names ≡ true
