-- The texts of UUIDs.
use Rattle.std.specs.Prelude.{ℕ, Bool, false, List, option_map, unwrap_or}
use Rattle.std.specs.Str.{bytes_eq}
use Rattle.serde_json.specs.Data.{Data, null, boolean, number, string, array, object}
use Rattle.uuid.specs.Text.{hyphenated_text, lower, parsed}

-- a text with that property
abbrev pub is_text_of : (List ℕ → Bool) → Data → Bool
is_text_of test null = false
is_text_of test (boolean b) = false
is_text_of test (number n) = false
is_text_of test (string s) = test s
is_text_of test (array ds) = false
is_text_of test (object ms) = false

-- it is the hyphenated text, in lower case, of the UUID that it is parsed as
abbrev pub is_uuid_text : List ℕ → Bool
is_uuid_text s = unwrap_or (option_map (λ u. bytes_eq (hyphenated_text lower u) s) (parsed s)) false
