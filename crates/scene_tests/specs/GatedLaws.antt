-- The laws of the rules with two gates.
use Rattle.std.proofs.Common.{◌≡◌, Bool, true, false, cond, [], is_some, refl, subst}
use Rattle.std.specs.Str.{bytes_eq}
use Rattle.std.proofs.lemmas.List.Elements.{All-nil, All-cons}
use Rattle.serde_json.specs.Find.{as_null}
use Rattle.scene_model.specs.Parts.{Json, Name, is_among}
use Rattle.scene_model.specs.Rulebook.{Facts, unknown, known, misshapen}
use Rattle.scene_model.specs.Laws.{DeclaresKnown}
use Rattle.scene_cases.specs.Drifting.{pos_name, vel_name}
use Rattle.scene_tests.specs.Watched.{configured}
use Rattle.scene_tests.specs.Gated.{first_name, second_name, place_access, gated_book}
use Rattle.scene_tests.specs.declared.whole_runs.gated.Place.{Place}
use Rattle.scene_tests.specs.declared.whole_runs.gated.Place.TheVariants.{First, Second}

abbrev KindKnown : Name → Type 0
KindKnown kind = is_among kind gated_book.part_names ≡ true

abbrev GlobalKnown : Name → Type 0
GlobalKnown name = is_among name gated_book.global_names ≡ true

-- both declare a kind of the rules
gate-declares : (place : Place) → DeclaresKnown gated_book (place_access place)
gate-declares First = record {
  reads = All-cons KindKnown pos_name [] refl (All-nil KindKnown);
  writes = All-nil KindKnown;
  read_globals = All-nil GlobalKnown;
  written_globals = All-nil GlobalKnown;
}
gate-declares Second = record {
  reads = All-cons KindKnown vel_name [] refl (All-nil KindKnown);
  writes = All-nil KindKnown;
  read_globals = All-nil GlobalKnown;
  written_globals = All-nil GlobalKnown;
}

configured-declares : (place : Place) (config : Json) (facts : Facts) → configured (place_access place) config ≡ known facts → DeclaresKnown gated_book facts.access
configured-declares place config facts made = by (is_some (as_null config)) made
  where
    by : (plain : Bool) → cond plain (known (record { access = place_access place; time = 3 })) misshapen ≡ known facts → DeclaresKnown gated_book facts.access
    by true e = let same : record { access = place_access place; time = 3 } ≡ facts = cc in subst (λ (some : Facts). DeclaresKnown gated_book some.access) same (gate-declares place)
    by false e = absurd cc

pub law-gates_known : (kind : Name) (config : Json) (facts : Facts) → gated_book.system kind config ≡ known facts → DeclaresKnown gated_book facts.access
law-gates_known kind config facts made = by (bytes_eq kind first_name) (bytes_eq kind second_name) made
  where
    by : (one other : Bool) → cond one (configured (place_access First) config) (cond other (configured (place_access Second) config) unknown) ≡ known facts → DeclaresKnown gated_book facts.access
    by true other e = configured-declares First config facts e
    by false true e = configured-declares Second config facts e
    by false false e = absurd cc
