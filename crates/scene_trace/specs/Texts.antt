-- Texts as HTML has them, and texts in which no tag begins.
use Rattle.std.specs.Prelude.{◌≡◌, ◌==◌, ℕ, List, false, codes, ◌∷◌, [], if◌then◌else◌}
use Rattle.std.specs.List.{list_any, flat_map}

-- how HTML has a byte of a text
abbrev pub html_byte : ℕ → List ℕ
html_byte byte = if byte == 38 then codes "&amp;" else if byte == 60 then codes "&lt;" else if byte == 62 then codes "&gt;" else if byte == 34 then codes "&quot;" else if byte == 39 then codes "&#39;" else byte ∷ []

-- how HTML has a text
abbrev pub html_text : List ℕ → List ℕ
html_text text = flat_map html_byte text

-- no tag begins in a text: it has no `<`
abbrev pub HasNoTag : List ℕ → Type 0
HasNoTag text = list_any (λ byte. byte == 60) text ≡ false
