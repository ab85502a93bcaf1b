-- Facts on names of systems.
use Rattle.std.proofs.Common.{◌≡◌, ℕ, ◌<◌, ◌+◌, false, List, [], ◌∷◌, ◌++◌, length, get_or, take, map, refl, ap, sym, ◌∙◌, Some}
use Rattle.std.specs.Prelude.{◌==◌, if◌then◌else◌}
use Rattle.std.specs.List.{filter_map, cons_option}
use Rattle.std.specs.Map.{lookup}
use Rattle.std.specs.Str.{bytes_eq}
use Rattle.std.proofs.lemmas.List.{take_more, map-append}
use Rattle.std.proofs.lemmas.List.Elements.{filter_map-append}
use Rattle.std.proofs.lemmas.Bool.{false≢true}
use denote.Ref.{Bor}
use Rattle.shred.specs.Names.{Named, texts, number_under, numbers_under, with_name}

-- a look-up by text among entries is one among the names
pub lookup-names : {K : Type 0} (bytes : K → List ℕ) (es : List (K × ℕ)) (name : List ℕ) → lookup (λ k. bytes_eq name (bytes k)) es ≡ number_under (map (λ e. (bytes e.0, e.1)) es) name
lookup-names bytes [] name = refl
lookup-names bytes (e ∷ es) name = ap (λ r. if bytes_eq name (bytes e.0) then Some e.1 else r) (lookup-names bytes es name)

-- an entry as a name
abbrev pub named : {K : Type 0} → (K → List ℕ) → K × ℕ → Named
named bytes e = (bytes e.0, e.1)

-- one more entry is one more name
pub names-more : {K : Type 0} (bytes : K → List ℕ) (es after : List (K × ℕ)) (key : K) (name : List ℕ) (number : ℕ) → after ≡ es ++ (key, number) ∷ [] → bytes key ≡ name
    → map (named bytes) after ≡ map (named bytes) es ++ (name, number) ∷ []
names-more {K} bytes es after key name number e b =
    let last : List Named = (name, number) ∷ [] in
    let made : List Named = (bytes key, number) ∷ [] in
    let same : made ≡ last = ap (λ (n : List ℕ). (let one : Named = (n, number) in one ∷ [])) b in
    ap (map (named bytes)) e ∙ map-append (named bytes) es ((key, number) ∷ []) ∙ ap (λ (l : List Named). map (named bytes) es ++ l) same

-- the names with one more that isn't empty
pub named-more : (names : List Named) (name : List ℕ) (number : ℕ) → bytes_eq name [] ≡ false → names ++ (name, number) ∷ [] ≡ with_name names name number
named-more names name number e = ap (λ b. if b then names else names ++ (name, number) ∷ []) (sym e)

-- one more name is looked up
pub numbers-more : (names : List Named) (wanted : List (Bor (List ℕ))) (k : ℕ) (d : Bor (List ℕ)) (old new : List ℕ) → k < length wanted
    → new ≡ old ++ cons_option (number_under names (get_or wanted k d).now) [] → old ≡ numbers_under names (texts (take k wanted)) → new ≡ numbers_under names (texts (take (k + 1) wanted))
numbers-more names wanted k d old new h is was =
    is ∙ ap (λ list. list ++ cons_option (number_under names (get_or wanted k d).now) []) was ∙ sym (filter_map-append (number_under names) (texts (take k wanted)) ((get_or wanted k d).now ∷ []))
    ∙ ap (filter_map (number_under names)) (sym (ap texts (take_more wanted k d h) ∙ map-append (λ name. name.now) (take k wanted) (get_or wanted k d ∷ [])))

-- a name that has bytes isn't the empty one
pub filled-name : (name : List ℕ) → (length name == 0) ≡ false → bytes_eq name [] ≡ false
filled-name [] e = absurd (false≢true (sym e))
filled-name (x ∷ xs) e = refl
