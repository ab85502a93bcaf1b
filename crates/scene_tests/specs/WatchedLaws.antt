-- The laws of the rules with four systems.
use Rattle.std.proofs.Common.{◌≡◌, Bool, true, false, cond, [], is_some, refl, subst}
use Rattle.std.specs.Str.{bytes_eq}
use Rattle.std.proofs.lemmas.List.Elements.{All-nil, All-cons}
use Rattle.serde_json.specs.Find.{as_null}
use Rattle.scene_model.specs.Parts.{Json, Name, is_among}
use Rattle.scene_model.specs.Rulebook.{Access, Facts, unknown, known, misshapen}
use Rattle.scene_model.specs.Laws.{DeclaresKnown}
use Rattle.scene_cases.specs.Drifting.{pos_name, vel_name, drift_name, drift_access}
use Rattle.scene_tests.specs.Watched.{watch_name, halt_name, found_name, watch_access, found_access, configured, watched_book}

abbrev KindKnown : Name → Type 0
KindKnown kind = is_among kind watched_book.part_names ≡ true

abbrev GlobalKnown : Name → Type 0
GlobalKnown name = is_among name watched_book.global_names ≡ true

-- all declare kinds of the rules
drift-declares : DeclaresKnown watched_book drift_access
drift-declares = record {
  reads = All-cons KindKnown vel_name [] refl (All-nil KindKnown);
  writes = All-cons KindKnown pos_name [] refl (All-nil KindKnown);
  read_globals = All-nil GlobalKnown;
  written_globals = All-nil GlobalKnown;
}

watch-declares : DeclaresKnown watched_book watch_access
watch-declares = record {
  reads = All-cons KindKnown vel_name [] refl (All-nil KindKnown);
  writes = All-nil KindKnown;
  read_globals = All-nil GlobalKnown;
  written_globals = All-nil GlobalKnown;
}

found-declares : DeclaresKnown watched_book found_access
found-declares = record {
  reads = All-nil KindKnown;
  writes = All-nil KindKnown;
  read_globals = All-nil GlobalKnown;
  written_globals = All-nil GlobalKnown;
}

configured-declares : (access : Access) → DeclaresKnown watched_book access → (config : Json) (facts : Facts) → configured access config ≡ known facts → DeclaresKnown watched_book facts.access
configured-declares access declares config facts made = by (is_some (as_null config)) made
  where
    by : (plain : Bool) → cond plain (known (record { access = access; time = 3 })) misshapen ≡ known facts → DeclaresKnown watched_book facts.access
    by true e = let same : record { access = access; time = 3 } ≡ facts = cc in subst (λ (some : Facts). DeclaresKnown watched_book some.access) same declares
    by false e = absurd cc

pub law-declares_known : (kind : Name) (config : Json) (facts : Facts) → watched_book.system kind config ≡ known facts → DeclaresKnown watched_book facts.access
law-declares_known kind config facts made = by (bytes_eq kind drift_name) (bytes_eq kind watch_name) (bytes_eq kind halt_name) (bytes_eq kind found_name) made
  where
    by : (drifts watches halts founds : Bool)
        → cond drifts (configured drift_access config) (cond watches (configured watch_access config) (cond halts (configured watch_access config) (cond founds (configured found_access config) unknown))) ≡ known facts
        → DeclaresKnown watched_book facts.access
    by true watches halts founds e = configured-declares drift_access drift-declares config facts e
    by false true halts founds e = configured-declares watch_access watch-declares config facts e
    by false false true founds e = configured-declares watch_access watch-declares config facts e
    by false false false true e = configured-declares found_access found-declares config facts e
    by false false false false e = absurd cc
