-- What one more read or write adds to the bytes that are known.
use Rattle.std.proofs.Common.{◌≡◌, ℕ, ◌+◌, ◌≤◌, List, ◌++◌, length, take, drop, Option, length-append, arith}
use Rattle.std.proofs.Math.Seq.{take-add}
use Rattle.std.specs.Io.KnownBytes.{Appends, Consumes}
use Rattle.std.proofs.KnownBytes.{Appends-trans, Consumes-trans}
use Rattle.scene.specs.Reading.{GivesAtLeast}

-- a reader that lost a document and then a chunk gave at least as many bytes as the chunk has
pub GivesAtLeast-chunk : (before between after : Option (List ℕ)) (document chunk : List ℕ) (count : ℕ)
    → Consumes before between document → Consumes between after chunk → count ≤ length chunk → GivesAtLeast count before after
GivesAtLeast-chunk before between after document chunk count first second enough =
    (document ++ chunk, Consumes-trans before between after document chunk first second, omega (arith, length-append document chunk))

-- a writer that got the first bytes of a text, and then the first of what was left, got the first of the text
pub Appends-take : (before between after : Option (List ℕ)) (text rest : List ℕ) (sent taken next : ℕ)
    → rest ≡ drop sent text → next ≡ sent + taken
    → Appends before between (take sent text) → Appends between after (take taken rest) → Appends before after (take next text)
Appends-take before between after text rest sent taken next left sum first second =
    rw (sum, take-add sent taken text) (Appends-trans before between after _ _ first (rw left at second))
