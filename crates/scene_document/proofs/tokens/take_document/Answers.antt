use Rattle.std.proofs.Common.{◌≡◌, [], ◌∷◌, Some, subst, arith}
use Rattle.std.proofs.lemmas.Str.{is_utf8-from_IsUtf8}
use Rattle.json.specs.Token.{Token}
use Rattle.json.specs.Lex.{tokens}
use Rattle.serde_json.specs.Data.{object}
use Rattle.serde_json.specs.Read.{read}
use Rattle.scene_document.specs.TokenWords.{ReadsAs, ReadsMembers}
use Rattle.scene_document.proofs.TokenLemmas.{object-read, document-read}
use Rattle.scene_document.proofs.tokens.take_document.Goals as goal

pub returns : goal.returns
returns g c =
    let bytes = c.args.bytes.now in
    let text = c.in-Ok.text.now in
    let utf8 = c.in-Ok.ensures.cases in
    let apart = c.in_ok-apart.ensures in
    let members = apart.0 in
    let opens : c.in_ok-reader.reader ≡ Token.begin_object ∷ c.next.new.self = grind arith in
    let ends : c.take_members.new.reader ≡ [] = grind arith in
    let inner : ReadsMembers 126 c.next.new.self members [] = subst (ReadsMembers 126 c.next.new.self members) ends apart.1 in
    let all : ReadsAs 127 c.in_ok-reader.reader (object members) [] = object-read 127 c.in_ok-reader.reader c.next.new.self [] members (omega arith) opens inner in
    let here : ReadsAs 127 (tokens text) (object members) [] = subst (λ ts. ReadsAs 127 ts (object members) []) c.in_ok-reader.ensures.ok all in
    let found : read text ≡ Some (object members) = document-read 127 (tokens text) (object members) here in (
      object members,
      rw (is_utf8-from_IsUtf8 bytes utf8.1) (subst (λ t. read t ≡ Some (object members)) utf8.0 found),
      apart.2,
    )
