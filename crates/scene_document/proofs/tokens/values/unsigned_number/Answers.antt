use Rattle.std.proofs.Common.{◌≡◌, ◌<◌, ◌^◌, ◌==◌, get_or, false, Some, sym, subst}
use Rattle.std.specs.Option.{SomeIff, IfSome}
use Rattle.fast_float.specs.Text.{digits_of, IsInteger}
use Rattle.serde_json.specs.Data.{unsigned}
use Rattle.serde_json.specs.Read.{number_of}
use Rattle.scene_document.proofs.TokenLemmas.{unsigned-read}
use Rattle.scene_document.proofs.tokens.values.unsigned_number.Goals as goal

pub returns : goal.returns
returns c =
    let s = c.as_bytes-bytes.result.now in
    let no_sign : (get_or s 0 0 == 45) ≡ false = sym c.if-has_minus.ensures.value in
    subst (λ text. IfSome c.to_u64.result (λ whole. number_of text ≡ Some (unsigned whole))) c.as_bytes-bytes.ensures.value
    (unsigned-read s c.to_u64.result no_sign (subst (λ parts. SomeIff c.to_u64.result (IsInteger parts × (digits_of parts < 2 ^ 64)) (digits_of parts)) c.scan.ensures.parts c.to_u64.ensures))
