-- The laws of the rules whose system takes hp out.
use Rattle.std.proofs.Common.{◌≡◌, Bool, true, false, cond, [], ◌∷◌, Option, Some, None, refl, ap, sym, subst, All}
use Rattle.std.specs.Str.{bytes_eq}
use Rattle.std.proofs.lemmas.Option.{none-some, same_Some}
use Rattle.std.proofs.lemmas.List.Elements.{All-nil, All-cons}
use Rattle.serde_json.specs.Data.{null, boolean, number, string, array, object}
use Rattle.serde_json.specs.Find.{as_bool}
use Rattle.scene_model.specs.Parts.{Json, Name, is_among}
use Rattle.scene_model.specs.Rulebook.{Facts, unknown, known}
use Rattle.scene_model.specs.Laws.{DeclaresKnown}
use Rattle.scene_basics.specs.Names.{hp_kind, g_name, part_kinds}
use Rattle.scene_tests.specs.Leavers.{leave_kind, leaving, configured, leavers}

-- what the system declares is known
pub law-leaving_is_known : (kind : Name) (config : Json) (facts : Facts) → leavers.system kind config ≡ known facts → DeclaresKnown leavers facts.access
law-leaving_is_known kind config facts made = here (bytes_eq kind leave_kind) (as_bool config) made
  where
    Kind : Name → Type 0
    Kind kind = is_among kind part_kinds ≡ true

    Known : Name → Type 0
    Known name = is_among name (g_name ∷ []) ≡ true

    writes : (hp_goes : Bool) → All Kind (leaving hp_goes).access.writes
    writes true = All-cons Kind hp_kind [] refl (All-nil Kind)
    writes false = All-nil Kind

    declares : (hp_goes : Bool) → DeclaresKnown leavers (leaving hp_goes).access
    declares hp_goes = record { reads = All-nil Kind; writes = writes hp_goes; read_globals = All-nil Known; written_globals = All-cons Known g_name [] refl (All-nil Known) }

    here : (named : Bool) (config : Option Bool) → cond named (configured config) unknown ≡ known facts → DeclaresKnown leavers facts.access
    here true (Some hp_goes) e = let same : leaving hp_goes ≡ facts = cc in subst (λ (some : Facts). DeclaresKnown leavers some.access) same (declares hp_goes)
    here true None e = absurd cc
    here false config e = absurd cc

-- a configuration that is a boolean is that boolean
pub plain-boolean : (config : Json) (b : Bool) → as_bool config ≡ Some b → boolean b ≡ config
plain-boolean null b e = absurd (none-some b e)
plain-boolean (boolean other) b e = ap (λ x. boolean x) (sym (same_Some other b e))
plain-boolean (number n) b e = absurd (none-some b e)
plain-boolean (string s) b e = absurd (none-some b e)
plain-boolean (array _) b e = absurd (none-some b e)
plain-boolean (object _) b e = absurd (none-some b e)
