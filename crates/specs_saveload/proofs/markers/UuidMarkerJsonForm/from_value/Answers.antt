use Rattle.std.proofs.Common.{◌≡◌, List, ℕ, ap, sym, ◌∙◌}
use Rattle.std.proofs.lemmas.Bool.{false≢true}
use Rattle.std.proofs.lemmas.Slice.Eq.{bytes_eq-Decides}
use Rattle.std.specs.Str.{bytes_eq}
use Rattle.serde_json.specs.Data.{string}
use Rattle.uuid.specs.Text.{hyphenated_text, lower}
use Rattle.specs_saveload.specs.Uuids.{is_text_of, is_uuid_text}
use Rattle.specs_saveload.proofs.TextLemmas.{text-of, known, unknown, unparsed}
use Rattle.specs_saveload.proofs.markers.UuidMarkerJsonForm.from_value.Given as given
use Rattle.specs_saveload.proofs.markers.UuidMarkerJsonForm.from_value.Goals as goal

pub returns-in_default-parse_str-clause-shape : goal.returns-in_default-parse_str-clause-shape
returns-in_default-parse_str-clause-shape g c _ _ =
    ap (is_text_of is_uuid_text) (text-of _ _ c.in-Some.ensures)
    ∙ unparsed c.in-Some.text.now (λ u is. false≢true (c.in_default-parse_str.ensures.ok.1 (u, is)))

-- the text that was written of the UUID that was read
written : (uuid shown text : List ℕ) → shown ≡ uuid → text ≡ hyphenated_text lower shown → hyphenated_text lower uuid ≡ text
written uuid shown text is wrote = ap (hyphenated_text lower) (sym is) ∙ sym wrote

alike : (g : given.Over) (c : goal.After-new g) → hyphenated_text lower c.in-Ok.uuid ≡ c.in-Some.text.now
alike g c = written c.in-Ok.uuid c.hyphenated.result c.encode_lower.result.now c.hyphenated.ensures c.encode_lower.ensures.text ∙ (bytes_eq-Decides c.encode_lower.result.now c.in-Some.text.now).0 (sym c.eq.ensures ∙ c.if-eq.true)

pub returns-then-eq-clause-ok : goal.returns-then-eq-clause-ok
returns-then-eq-clause-ok g c =
    ap (λ (u : List ℕ). string (hyphenated_text lower u)) c.new.ensures
    ∙ (ap string (alike g c) ∙ sym (text-of _ _ c.in-Some.ensures))

pub returns-then-eq-clause-known : goal.returns-then-eq-clause-known
returns-then-eq-clause-known g c =
    ap (is_text_of is_uuid_text) (text-of _ _ c.in-Some.ensures) ∙ known c.in-Some.text.now c.in-Ok.uuid c.in-Ok.ensures.bytes (alike g c)

pub returns-else-eq-clause-shape : goal.returns-else-eq-clause-shape
returns-else-eq-clause-shape g c _ _ =
    ap (is_text_of is_uuid_text) (text-of _ _ c.in-Some.ensures)
    ∙ unknown c.in-Some.text.now c.in-Ok.uuid c.in-Ok.ensures.bytes
    (ap (λ t. bytes_eq t c.in-Some.text.now) (written c.in-Ok.uuid c.hyphenated.result c.encode_lower.result.now c.hyphenated.ensures c.encode_lower.ensures.text) ∙ (sym c.eq.ensures ∙ c.if-eq.false))
