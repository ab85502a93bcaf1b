-- The laws of the rules of the test.
use Rattle.std.proofs.Common.{◌≡◌, ℕ, Bool, true, false, cond, [], ◌∷◌, Option, Some, None, option_map, is_some, refl, subst}
use Rattle.std.specs.Str.{bytes_eq}
use Rattle.std.proofs.lemmas.Option.{none-some, same_Some}
use Rattle.std.proofs.lemmas.List.Elements.{All-nil, All-cons}
use Rattle.serde_json.specs.Data.{number}
use Rattle.serde_json.specs.Find.{as_null}
use Rattle.serde_json.specs.Written.{has_float}
use Rattle.scene_model.specs.Parts.{Json, Name, Part, is_among}
use Rattle.scene_model.specs.Rulebook.{Facts, unknown, known, misshapen}
use Rattle.scene_model.specs.Laws.{Ascend, DeclaresKnown}
use Rattle.scene_world.specs.RuleLemmas.{ascending-names}
use Rattle.scene_cases.specs.Drifting.{pos_name, vel_name, drift_name, counting, number_in, is_counting, drift_access, drift_facts, drifting_book}

-- the kinds ascend
pub law-kinds_ascend : Ascend (pos_name ∷ vel_name ∷ [])
law-kinds_ascend = ascending-names (pos_name ∷ vel_name ∷ []) refl

-- and so do no names of globals
pub law-globals_ascend : Ascend []
law-globals_ascend = ascending-names [] refl

-- what is read is a number
pub law-reads_admitted : (kind : Name) (json : Json) (part : Part) → drifting_book.read_part kind json ≡ Some part → drifting_book.admits kind part ≡ true
law-reads_admitted kind json part read = by (number_in json) read
  where
    by : (o : Option ℕ) → option_map counting o ≡ Some part → is_counting (number_in part.json) part.refs ≡ true
    by None e = absurd (none-some part e)
    by (Some n) e = subst (λ (p : Part). is_counting (number_in p.json) p.refs ≡ true) (same_Some (counting n) part e) refl

-- a number is read back
pub law-reads_back : (kind : Name) (n : ℕ) → drifting_book.admits kind (counting n) ≡ true → drifting_book.read_part kind (counting n).json ≡ Some (counting n)
law-reads_back kind n admitted = refl

-- no float is written for a number
pub law-no_float : (n : ℕ) → has_float (counting n).json ≡ false
law-no_float n = refl

abbrev KindKnown : Name → Type 0
KindKnown kind = is_among kind drifting_book.part_names ≡ true

-- drift declares kinds of the rules
pub law-declares_known : (kind : Name) (config : Json) (facts : Facts) → drifting_book.system kind config ≡ known facts → DeclaresKnown drifting_book facts.access
law-declares_known kind config facts made = by (bytes_eq kind drift_name) (is_some (as_null config)) made
  where
    declares : DeclaresKnown drifting_book drift_access
    declares = record {
      reads = All-cons KindKnown vel_name [] refl (All-nil KindKnown);
      writes = All-cons KindKnown pos_name [] refl (All-nil KindKnown);
      read_globals = All-nil (λ (name : Name). is_among name drifting_book.global_names ≡ true);
      written_globals = All-nil (λ (name : Name). is_among name drifting_book.global_names ≡ true);
    }

    by : (named plain : Bool) → cond named (cond plain (known drift_facts) misshapen) unknown ≡ known facts → DeclaresKnown drifting_book facts.access
    by true true e = let same : drift_facts ≡ facts = cc in subst (λ (some : Facts). DeclaresKnown drifting_book some.access) same declares
    by true false e = absurd cc
    by false plain e = absurd cc
