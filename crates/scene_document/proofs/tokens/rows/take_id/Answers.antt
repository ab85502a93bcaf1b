use Rattle.std.proofs.Common.{◌≡◌, ◌∷◌, arith}
use Rattle.json.specs.Token.{Token}
use Rattle.serde_json.specs.Data.{number, unsigned}
use Rattle.scene_document.proofs.TokenLemmas.{number-read}
use Rattle.scene_document.proofs.tokens.rows.take_id.Goals as goal

pub returns-in-Some-clause-value : goal.returns-in-Some-clause-value
returns-in-Some-clause-value c = λ depth.
    let is : c.args.reader.now ≡ Token.number c.in-Some-Number.text.now ∷ c.next.new.self = grind arith in
    number-read depth c.args.reader.now c.next.new.self c.in-Some-Number.text.now (number (unsigned c.in-Some.id)) is (rw c.in-Some.ensures)
