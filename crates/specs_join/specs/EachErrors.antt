-- What is said of each error of changes.
use Rattle.std.specs.Prelude.{ℕ}
use Rattle.specs_join.specs.declared.join.change.EachError.{EachError}
use Rattle.specs_join.specs.declared.join.change.EachError.TheVariants as error

-- a fact of want of memory
abbrev pub OnMemory : {R : Type 0} → Type 0 → EachError R → Type 0
OnMemory fact error.Memory = fact
OnMemory fact (error.Refused index refusal) = Unit {0}

-- a fact of the index at which a change is refused
abbrev pub OnRefused : {R : Type 0} → (ℕ → Type 0) → EachError R → Type 0
OnRefused fact error.Memory = Unit {0}
OnRefused fact (error.Refused index refusal) = fact index
