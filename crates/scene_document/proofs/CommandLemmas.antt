-- Lemmas on commands whose kinds are known.
use Rattle.std.proofs.Common.{◌≡◌, List, [], ◌∷◌, ◌++◌, map, Option, Some, None, option_map, refl, ap, sym, ◌∙◌}
use Rattle.std.specs.List.{filter_map, cons_option}
use Rattle.std.proofs.lemmas.List.{map-append}
use Rattle.std.proofs.lemmas.List.Elements.{filter_map-append}

map-cons_option : {X Y : Type 0} (f : X → Y) (o : Option X) → map f (cons_option o []) ≡ cons_option (option_map f o) []
map-cons_option f None = refl
map-cons_option f (Some x) = refl

-- what is made of one more of a list, where something is made of it
pub made_more : {X Y Z W : Type 0} (meaning : X → W) (read : Z → Option W) (plain : Y → Z) (old new : List X) (found : Option X) (done : List Y) (one : Y) → new ≡ old ++ cons_option found [] → map meaning old ≡ filter_map read (map plain done) → option_map meaning found ≡ read (plain one)
    → map meaning new ≡ filter_map read (map plain (done ++ one ∷ []))
made_more meaning read plain old new found done one is was made =
    ap (map meaning) is ∙ map-append meaning old (cons_option found []) ∙ ap (λ list. list ++ map meaning (cons_option found [])) was
    ∙ ap (λ list. filter_map read (map plain done) ++ list) (map-cons_option meaning found ∙ ap (λ o. cons_option o []) made)
    ∙ sym (filter_map-append read (map plain done) (plain one ∷ [])) ∙ ap (filter_map read) (sym (map-append plain done (one ∷ [])))
