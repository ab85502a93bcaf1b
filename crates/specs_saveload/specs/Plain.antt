-- The JSON forms of plain data.
use Rattle.std.specs.Prelude.{ℕ, ◌&&◌, nat_lt, int_lt, ℤ, pos, negsuc, Bool, true, false, Option, Some, None}
use Rattle.serde_json.specs.Data.{Num, unsigned, negative, float, Data, null, boolean, number, string, array, object, Items, no_items, item}

-- a whole number below a limit
abbrev pub is_below : ℕ → Num → Bool
is_below limit (unsigned n) = nat_lt n limit
is_below limit (negative z) = false
is_below limit (float x) = false

-- a negative number not below the negative of a limit
abbrev pub is_above : ℕ → ℤ → Bool
is_above limit (pos n) = false
is_above limit (negsuc n) = nat_lt n limit

-- a number below zero
abbrev pub is_negative : Num → Bool
is_negative (unsigned n) = false
is_negative (negative z) = int_lt z (pos 0)
is_negative (float x) = false

-- a whole number from the negative of a limit on, and below the limit
abbrev pub is_between : ℕ → Num → Bool
is_between limit (unsigned n) = nat_lt n limit
is_between limit (negative z) = is_above limit z
is_between limit (float x) = false

-- a number with that property
abbrev pub is_number : (Num → Bool) → Data → Bool
is_number test null = false
is_number test (boolean b) = false
is_number test (number n) = test n
is_number test (string s) = false
is_number test (array ds) = false
is_number test (object ms) = false

abbrev pub is_boolean : Data → Bool
is_boolean null = false
is_boolean (boolean b) = true
is_boolean (number n) = false
is_boolean (string s) = false
is_boolean (array ds) = false
is_boolean (object ms) = false

-- a text
abbrev pub is_text : Data → Bool
is_text null = false
is_text (boolean b) = false
is_text (number n) = false
is_text (string s) = true
is_text (array ds) = false
is_text (object ms) = false

-- a list with that property
abbrev pub is_list : (Items → Bool) → Data → Bool
is_list test null = false
is_list test (boolean b) = false
is_list test (number n) = false
is_list test (string s) = false
is_list test (array ds) = test ds
is_list test (object ms) = false

-- a list of none, of one, of two, of three, of four
abbrev pub is_none : Items → Bool
is_none no_items = true
is_none (item d ds) = false

abbrev pub is_one : Items → Bool
is_one no_items = false
is_one (item d ds) = is_none ds

abbrev pub is_two : Items → Bool
is_two no_items = false
is_two (item d ds) = is_one ds

abbrev pub is_three : Items → Bool
is_three no_items = false
is_three (item d ds) = is_two ds

abbrev pub is_four : Items → Bool
is_four no_items = false
is_four (item d ds) = is_three ds

-- the first item has a property, and those after it have another
abbrev pub first_then : (Data → Bool) → (Items → Bool) → Items → Bool
first_then test rest no_items = false
first_then test rest (item d ds) = test d && rest ds

-- a list of none, or of one with a property
abbrev pub is_option : (Data → Bool) → Items → Bool
is_option test no_items = true
is_option test (item d ds) = test d && is_none ds

-- a list of two, each with its property
abbrev pub is_pair : (Data → Bool) → (Data → Bool) → Items → Bool
is_pair one other = first_then one (first_then other is_none)

-- of three, and of four
abbrev pub is_triple : (Data → Bool) → (Data → Bool) → (Data → Bool) → Items → Bool
is_triple first second third = first_then first (is_pair second third)

abbrev pub is_quadruple : (Data → Bool) → (Data → Bool) → (Data → Bool) → (Data → Bool) → Items → Bool
is_quadruple first second third fourth = first_then first (is_triple second third fourth)

-- the form of a value that may be absent: a list of none or one
abbrev pub option_form : {T : Type 0} → (T → Data) → Option T → Data
option_form form None = array no_items
option_form form (Some value) = array (item (form value) no_items)

-- both are absent, or both are there and alike
abbrev pub same_option : {T : Type 0} → (T → T → Type 0) → Option T → Option T → Type 0
same_option same None None = Unit {0}
same_option same None (Some other) = ⊥
same_option same (Some one) None = ⊥
same_option same (Some one) (Some other) = same one other

-- what is true of a value, where there is one
abbrev pub OptionAll : {T : Type 0} → (T → Type 0) → Option T → Type 0
OptionAll holds None = Unit {0}
OptionAll holds (Some value) = holds value

-- the form of a pair: the list of both
abbrev pub pair_form : Data → Data → Data
pair_form one other = array (item one (item other no_items))

-- of three, and of four
abbrev pub triple_form : Data → Data → Data → Data
triple_form first second third = array (item first (item second (item third no_items)))

abbrev pub quadruple_form : Data → Data → Data → Data → Data
quadruple_form first second third fourth = array (item first (item second (item third (item fourth no_items))))
