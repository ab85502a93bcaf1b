-- What the systems do to numbers: each adds something to the number that an id has under one kind.
use Rattle.std.specs.Prelude.{◌≡◌, ℕ, ℤ, ◌+ℤ◌, true, false, [], Option, Some, None, option_and_then, FitsSigned}
use Rattle.std.specs.Int.{w64}
use Rattle.std.specs.Str.{bytes_eq}
use Rattle.scene_model.specs.Parts.{Name}
use Rattle.scene_model.specs.Rulebook.{Fragment, Outcome, leaves, refuses, fills}
use Rattle.scene_model.specs.Scenes.{lives}
use Rattle.scene_basics.specs.Names.{overflow}
use Rattle.scene_basics.specs.Numbers.{counting, whole_in, number_of}

-- the number that an id has under a kind
abbrev pub number_at : Fragment → Name → ℕ → Option ℤ
number_at fragment kind id = option_and_then number_of (fragment.part id kind)

-- the number that a global is
abbrev pub global_number : Fragment → Name → Option ℤ
global_number fragment name = option_and_then whole_in (fragment.global name)

-- a number and what it gains, where both are there
abbrev pub added : Option ℤ → Option ℤ → Option ℤ
added None gain = None
added (Some number) None = None
added (Some number) (Some gain) = Some (number +ℤ gain)

-- what the number of an id under a kind comes to with what the id gains, where both are there
abbrev pub sum_at : Fragment → Name → (ℕ → Option ℤ) → ℕ → Option ℤ
sum_at fragment kind gain id = added (number_at fragment kind id) (gain id)

-- the number of each id under a kind gains what the id gains, where both are there, and all else stays
pub record Gains (kind : Name) (gain : ℕ → Option ℤ) (old new : Fragment) : Type 0 where
  pub ids : new.ids ≡ old.ids
  pub sums : (id : ℕ) (sum : ℤ) → lives id old.ids ≡ true → sum_at old kind gain id ≡ Some sum → new.part id kind ≡ Some (counting sum)
  pub fit : (id : ℕ) (sum : ℤ) → lives id old.ids ≡ true → sum_at old kind gain id ≡ Some sum → FitsSigned w64 sum
  pub stay : (id : ℕ) → lives id old.ids ≡ true → sum_at old kind gain id ≡ None → new.part id kind ≡ old.part id kind
  pub strangers : (id : ℕ) → lives id old.ids ≡ false → new.part id kind ≡ old.part id kind
  pub others : (id : ℕ) (other : Name) → bytes_eq other kind ≡ false → new.part id other ≡ old.part id other
  pub globals : (name : Name) → new.global name ≡ old.global name

-- a sum leaves the range of 64 signed bits
abbrev pub Overflows : Name → (ℕ → Option ℤ) → Fragment → Type 0
Overflows kind gain old = (id : ℕ) × (sum : ℤ) × (lives id old.ids ≡ true) × (sum_at old kind gain id ≡ Some sum) × (¬ (FitsSigned w64 sum))

-- each id's number gains, with no command, or a sum overflows and the text says so
abbrev pub Gaining : Name → (ℕ → Option ℤ) → Fragment → Outcome → Type 0
Gaining kind gain old (leaves new commands) = Gains kind gain old new × (commands ≡ [])
Gaining kind gain old (refuses text) = (text ≡ overflow) × Overflows kind gain old
Gaining kind gain old (fills commands) = ⊥
