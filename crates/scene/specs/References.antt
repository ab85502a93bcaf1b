-- References of a scene under the rules' kinds.
use Rattle.std.specs.Prelude.{◌≡◌, ℕ, true, List, Option, Some, All}
use Rattle.scene_model.specs.Parts.{Json, Name, Part, is_among}
use Rattle.scene_model.specs.Rulebook.{Book, Fragment, Command, leaves}
use Rattle.scene_model.specs.Scenes.{RefLives, lives}

-- each reference of a living id's part, under one of these kinds, names a living id
abbrev pub RefsLiveUnder : List Name → List ℕ → (ℕ → Name → Option Part) → Type 0
RefsLiveUnder names ids part = (id : ℕ) (kind : Name) (held : Part) → is_among kind names ≡ true → lives id ids ≡ true → part id kind ≡ Some held → All (RefLives ids) held.refs

-- each part of a living id stands under one of these kinds
abbrev pub StandUnder : List Name → List ℕ → (ℕ → Name → Option Part) → Type 0
StandUnder names ids part = (id : ℕ) (kind : Name) (held : Part) → lives id ids ≡ true → part id kind ≡ Some held → is_among kind names ≡ true

-- what a system leaves refers to ids that it was lent, where what it was lent does
abbrev pub KeepsReferences : Book → Type 0
KeepsReferences book = (kind : Name) (config : Json) (old left : Fragment) (commands : List Command) → book.meets kind config old (leaves left commands) → RefsLiveUnder book.part_names old.ids old.part → RefsLiveUnder book.part_names old.ids left.part
