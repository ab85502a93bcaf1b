-- Lists of answers that are collected index by index.
use Rattle.std.specs.Prelude.{◌≡◌, ℕ, nat_lt, Bool, ◌&&◌, List, [], ◌∷◌, ◌++◌, Option, None, Result, Ok, Vec, IfOk, MatchOption, if◌then◌else◌}
use Rattle.std.specs.Global.{Global}
use Rattle.std.specs.List.{AllZip}
use Rattle.specs_join.specs.Joins.{values_at, shown_of}

-- what is at an index below 2 ^ 24 that is a member
abbrev pub at_members : {S : Type 0} → (ℕ → Bool) → (ℕ → Option S) → ℕ → Option S
at_members members values index = if nat_lt index 16777216 && members index then values index else None

-- an answer to an item that shows this
abbrev pub Answers : {I S T : Type 0} → (I → S) → (I → T → Type 0) → S → T → Type 0
Answers {I} show post shown answer = (item : I) × (show item ≡ shown) × post item answer

-- the answer to an item hangs on what the item shows alone
abbrev pub Hangs : {I S T : Type 0} → (I → S) → (I → T → Type 0) → (S → T) → Type 0
Hangs {I} {S} {T} show post answer = (item : I) (given : T) → post item given → given ≡ answer (show item)

-- a list has an answer to what is at each index of a list that has something, in their order
abbrev pub IsCollected : {S T E : Type 0} → (ℕ → Option S) → (S → T → Type 0) → List ℕ → Result (Vec T Global) E → Type 0
IsCollected look answers indices result = IfOk result (λ v. AllZip answers (values_at look indices) v.items)

-- a list with the answer at one more index, if something is there
abbrev pub AnswersNext : {I S T E : Type 0} → (ℕ → Option S) → (I → S) → (I → T → Type 0) → ℕ → Result (Vec T Global) E → Result (Vec T Global) E → Type 0
AnswersNext {I} {S} {T} look show post index sofar result =
    IfOk result (λ v. (before : Vec T Global) × (item : Option I) × (sofar ≡ Ok before) × (shown_of show item ≡ look index)
    × MatchOption item (v.items ≡ before.items) (λ i. (answer : T) × post i answer × (v.items ≡ before.items ++ answer ∷ [])))

-- one list after the other
abbrev pub Appends : {T E : Type 0} → Result (Vec T Global) E → Result (Vec T Global) E → Result (Vec T Global) E → Type 0
Appends {T} sofar more result =
    IfOk result (λ v. (first second : Vec T Global) × (sofar ≡ Ok first) × (more ≡ Ok second) × (v.items ≡ first.items ++ second.items))
