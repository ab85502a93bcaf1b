-- Texts that are the form of a UUID.
use Rattle.std.proofs.Common.{◌≡◌, ℕ, Bool, true, false, List, Option, Some, None, option_map, unwrap_or, refl, sym, ap, ◌∙◌}
use Rattle.std.proofs.lemmas.Slice.Eq.{bytes_eq-Decides}
use Rattle.std.specs.Str.{bytes_eq}
use Rattle.serde_json.specs.Data.{Data, null, boolean, number, string, array, object}
use Rattle.serde_json.specs.Find.{as_str}
use Rattle.uuid.specs.Text.{hyphenated_text, lower, parsed}
use Rattle.specs_saveload.specs.Uuids.{is_uuid_text}

-- a JSON with a text is that text
pub text-of : (d : Data) (s : List ℕ) → Some s ≡ as_str d → d ≡ string s
text-of null s is = cc
text-of (boolean b) s is = cc
text-of (number n) s is = cc
text-of (string t) s is = let same : s ≡ t = cc in ap string (sym same)
text-of (array ds) s is = cc
text-of (object ms) s is = cc

-- whether a text is that of what it is parsed as
is-of : List ℕ → Option (List ℕ) → Bool
is-of s u = unwrap_or (option_map (λ u. bytes_eq (hyphenated_text lower u) s) u) false

parsed-as : (s : List ℕ) (u : Option (List ℕ)) → u ≡ parsed s → is-of s u ≡ is_uuid_text s
unfolding is-of
parsed-as s u is = ap (λ (o : Option (List ℕ)). unwrap_or (option_map (λ u. bytes_eq (hyphenated_text lower u) s) o) false) is

pub known : (s u : List ℕ) → Some u ≡ parsed s → hyphenated_text lower u ≡ s → is_uuid_text s ≡ true
unfolding is-of
known s u is same = sym (parsed-as s (Some u) is) ∙ (bytes_eq-Decides (hyphenated_text lower u) s).1 same

pub unknown : (s u : List ℕ) → Some u ≡ parsed s → bytes_eq (hyphenated_text lower u) s ≡ false → is_uuid_text s ≡ false
unfolding is-of
unknown s u is other = sym (parsed-as s (Some u) is) ∙ other

none-of : (o : Option (List ℕ)) → ((u : List ℕ) → o ≡ Some u → ⊥) → None ≡ o
none-of None never = refl
none-of (Some u) never = absurd (never u refl)

pub unparsed : (s : List ℕ) → ((u : List ℕ) → parsed s ≡ Some u → ⊥) → is_uuid_text s ≡ false
unfolding is-of
unparsed s never = sym (parsed-as s None (none-of (parsed s) never))
