-- Texts as HTML has them.
use Rattle.std.proofs.Common.{ℕ, List, [], ◌∷◌, refl, arith}
use Rattle.std.proofs.lemmas.List.Folds.{list_any-append}
use Rattle.std.proofs.lemmas.Grind.{common_steps}
use Rattle.scene_trace.specs.Texts.{html_byte, html_text, HasNoTag}

-- no tag begins in what HTML has for a byte
byte-has-no-tag : (byte : ℕ) → HasNoTag (html_byte byte)
byte-has-no-tag byte = grind (arith, common_steps)

-- nor in what it has for a text
pub text-has-no-tag : (text : List ℕ) → HasNoTag (html_text text)
text-has-no-tag [] = refl
text-has-no-tag (byte ∷ rest) = rw (list_any-append, byte-has-no-tag byte, text-has-no-tag rest) refl
