-- UUIDs with one text are the same.
use Rattle.std.proofs.Common.{◌≡◌, ℕ, List, Some, sym, ap, ◌∙◌}
use Rattle.serde_json.specs.Data.{string}
use Rattle.uuid.specs.Text.{hyphenated_text, lower, parsed}
use Rattle.specs_saveload.specs.PlainLemmas.{texts-apart}

same-some : (one other : List ℕ) → Some one ≡ Some other → one ≡ other
same-some one other is = cc

pub uuids-apart : (one other : List ℕ) → Some one ≡ parsed (hyphenated_text lower one) → Some other ≡ parsed (hyphenated_text lower other) → string (hyphenated_text lower one) ≡ string (hyphenated_text lower other) → one ≡ other
uuids-apart one other reads reads' alike =
    same-some one other (reads ∙ (ap parsed (texts-apart (hyphenated_text lower one) (hyphenated_text lower other) alike) ∙ sym reads'))
