-- Lemmas on what the rules read and write, and their laws.
use Rattle.std.proofs.Common.{◌≡◌, ◌^◌, ℕ, ℤ, pos, negsuc, Bool, true, false, ◌&&◌, ◌||◌, ◌⊎◌, inl, inr, cond, eqb, [], ◌∷◌, Option, Some, None, option_map, option_and_then, is_some, refl, sym, ◌∙◌, ap, subst, FitsSigned, All}
use Rattle.std.specs.Int.{w64}
use Rattle.std.specs.Str.{bytes_eq}
use Rattle.std.proofs.lemmas.Option.{none-some, same_Some}
use Rattle.std.proofs.lemmas.Bool.{false≢true, or_cases}
use Rattle.std.proofs.lemmas.Bool.Decides.{Decides-ltb, Decides-eqb}
use Rattle.std.proofs.lemmas.Slice.Eq.{bytes_eq-Decides}
use Rattle.std.proofs.lemmas.List.Elements.{All-nil, All-cons}
use Rattle.serde_json.specs.Data.{unsigned, number}
use Rattle.serde_json.specs.Find.{as_null}
use Rattle.serde_json.specs.Written.{has_float}
use Rattle.scene_model.specs.Parts.{Json, Name, Part, is_among}
use Rattle.scene_model.specs.Rulebook.{Facts, known, misshapen}
use Rattle.scene_model.specs.Laws.{Ascend, DeclaresKnown}
use Rattle.scene_world.specs.RuleLemmas.{ascending-names}
use Rattle.scene_basics.specs.declared.data.Datum.{Datum}
use Rattle.scene_basics.specs.declared.data.Datum.TheVariants.{Whole, Owner}
use Rattle.scene_basics.specs.declared.data.BasicSystem.{BasicSystem}
use Rattle.scene_basics.specs.declared.data.BasicSystem.TheVariants.{Drift, Pull, Decay, Reap, Bud}
use Rattle.scene_basics.specs.Names.{bond_kind, hp_kind, owner_kind, pos_kind, vel_kind, g_name, drift_kind, pull_kind, decay_kind, reap_kind, bud_kind, part_kinds, number_kinds, reference_kinds}
use Rattle.scene_basics.specs.Numbers.{json_of, counting, referring, part_of, whole_in, is_signed, if_signed, signed_in, id_in, refers_once, refers_never, read_part, read_global, admits}
use Rattle.scene_basics.specs.Systems.{kind_of, system_named, declared_access, facts_of, configured, basics}

-- a whole number is read back as it was written
pub whole_in-json_of : (z : ℤ) → whole_in (json_of z) ≡ Some z
whole_in-json_of (pos n) = refl
whole_in-json_of (negsuc n) = refl

-- a number that fits 64 signed bits is one of them
pub is_signed-fits : (z : ℤ) → FitsSigned w64 z → is_signed z ≡ true
is_signed-fits (pos n) fits = (Decides-ltb n (2 ^ 63)).1 fits.sfits
is_signed-fits (negsuc n) fits = (Decides-ltb n (2 ^ 63)).1 fits.sfits

-- a number that is read is one of 64 signed bits, and is that number
pub if_signed-some : (z read : ℤ) → if_signed z ≡ Some read → (is_signed read ≡ true) × (z ≡ read)
if_signed-some z read e = here (is_signed z) refl e
  where
    here : (b : Bool) → is_signed z ≡ b → cond b (Some z) None ≡ Some read → (is_signed read ≡ true) × (z ≡ read)
    here true is f = (subst (λ (x : ℤ). is_signed x ≡ true) (same_Some z read f) is, same_Some z read f)
    here false is f = absurd (none-some read f)

pub signed_in-some : (o : Option ℤ) (read : ℤ) → option_and_then if_signed o ≡ Some read → is_signed read ≡ true
signed_in-some None read e = absurd (none-some read e)
signed_in-some (Some z) read e = (if_signed-some z read e).0

-- a number of 64 signed bits is read back as it was written
pub signed_in-json_of : (z : ℤ) → is_signed z ≡ true → signed_in (json_of z) ≡ Some z
signed_in-json_of z is = ap (option_and_then if_signed) (whole_in-json_of z) ∙ ap (λ b. cond b (Some z) None) is

-- a list of no references is no one reference
pub refers_once-none : (id : Option ℕ) → refers_once id [] ≡ false
refers_once-none None = refl
refers_once-none (Some id) = refl

-- a kind of references is none of numbers
pub number_kind-reference : (kind : Name) → is_among kind reference_kinds ≡ true → is_among kind number_kinds ≡ false
number_kind-reference kind is = by (or_cases (bytes_eq kind bond_kind) (bytes_eq kind owner_kind || false) is)
  where
    by : (bytes_eq kind bond_kind ≡ true) ⊎ ((bytes_eq kind owner_kind || false) ≡ true) → is_among kind number_kinds ≡ false
    by (inl bond) = subst (λ (other : Name). is_among other number_kinds ≡ false) (sym ((bytes_eq-Decides kind bond_kind).0 bond)) refl
    by (inr rest) = elim (or_cases (bytes_eq kind owner_kind) false rest) [
      | inl owner ↦ subst (λ (other : Name). is_among other number_kinds ≡ false) (sym ((bytes_eq-Decides kind owner_kind).0 owner)) refl
      | inr never ↦ absurd (false≢true never)
    ]

-- a number that fits is of the kinds of numbers
pub admits-counting : (kind : Name) (z : ℤ) → FitsSigned w64 z → is_among kind number_kinds ≡ admits kind (counting z)
admits-counting kind z fits = here (is_among kind reference_kinds) refl
  where
    signed : (is_some (signed_in (json_of z)) && true) ≡ true
    signed = ap (λ o. is_some o && true) (signed_in-json_of z (is_signed-fits z fits))

    among : (b : Bool) → b ≡ (b && (is_some (signed_in (json_of z)) && true))
    among true = sym signed
    among false = refl

    here : (b : Bool) → is_among kind reference_kinds ≡ b → is_among kind number_kinds ≡ cond b (refers_once (id_in (json_of z)) []) (is_among kind number_kinds && (is_some (signed_in (json_of z)) && true))
    here true is = number_kind-reference kind is ∙ sym (refers_once-none (id_in (json_of z)))
    here false is = among (is_among kind number_kinds)

-- what is read under a kind is of that kind
pub law-reads_admitted : (kind : Name) (json : Json) (part : Part) → read_part kind json ≡ Some part → admits kind part ≡ true
law-reads_admitted kind json part read = here (is_among kind reference_kinds) (is_among kind number_kinds) read
  where
    owner : (o : Option ℕ) → option_map referring o ≡ Some part → refers_once (id_in part.json) part.refs ≡ true
    owner None e = absurd (none-some part e)
    owner (Some id) e = subst (λ (p : Part). refers_once (id_in p.json) p.refs ≡ true) (same_Some (referring id) part e) ((Decides-eqb id id).1 refl)

    whole : (o : Option ℤ) → ((z : ℤ) → o ≡ Some z → is_signed z ≡ true) → option_map counting o ≡ Some part → (is_some (signed_in part.json) && refers_never part.refs) ≡ true
    whole None signed e = absurd (none-some part e)
    whole (Some z) signed e = subst (λ (p : Part). (is_some (signed_in p.json) && refers_never p.refs) ≡ true) (same_Some (counting z) part e) (ap (λ o. is_some o && true) (signed_in-json_of z (signed z refl)))

    here : (b c : Bool) → cond b (option_map referring (id_in json)) (cond c (option_map counting (signed_in json)) None) ≡ Some part → cond b (refers_once (id_in part.json) part.refs) (c && (is_some (signed_in part.json) && refers_never part.refs)) ≡ true
    here true c e = owner (id_in json) e
    here false true e = whole (signed_in json) (λ z is. signed_in-some (whole_in json) z is) e
    here false false e = absurd (none-some part e)

-- what is written is read back under a kind that admits it
pub law-reads_back : (kind : Name) (datum : Datum) → admits kind (part_of datum) ≡ true → read_part kind (part_of datum).json ≡ Some (part_of datum)
law-reads_back kind (Whole z) admitted = here (is_among kind reference_kinds) (is_among kind number_kinds) admitted
  where
    signed : (o : Option ℤ) → o ≡ signed_in (json_of z) → (is_some o && true) ≡ true → o ≡ Some z
    signed None is e = absurd (false≢true e)
    signed (Some other) is e = is ∙ signed_in-json_of z (subst (λ (x : ℤ). is_signed x ≡ true) (sym (same z other (sym is))) (signed_in-some (whole_in (json_of z)) other (sym is)))
      where
        same : (z other : ℤ) → signed_in (json_of z) ≡ Some other → z ≡ other
        same z other e = (if_signed-some z other (sym (ap (option_and_then if_signed) (whole_in-json_of z)) ∙ e)).1

    here : (b c : Bool) → cond b (refers_once (id_in (json_of z)) []) (c && (is_some (signed_in (json_of z)) && true)) ≡ true → cond b (option_map referring (id_in (json_of z))) (cond c (option_map counting (signed_in (json_of z))) None) ≡ Some (counting z)
    here true c e = absurd (false≢true (sym (refers_once-none (id_in (json_of z))) ∙ e))
    here false true e = ap (option_map counting) (signed (signed_in (json_of z)) refl e)
    here false false e = absurd (false≢true e)
law-reads_back kind (Owner id) admitted = here (is_among kind reference_kinds) (is_among kind number_kinds) (is_some (signed_in (number (unsigned id)))) admitted
  where
    here : (b c d : Bool) → cond b (eqb id id) (c && (d && false)) ≡ true → cond b (Some (referring id)) (cond c (option_map counting (signed_in (number (unsigned id)))) None) ≡ Some (referring id)
    here true c d e = refl
    here false true true e = absurd (false≢true e)
    here false true false e = absurd (false≢true e)
    here false false d e = absurd (false≢true e)

-- what is read for a global is read back as it was
pub law-global_reads_back : (name : Name) (json value : Json) → read_global name json ≡ Some value → read_global name value ≡ Some value
law-global_reads_back name json value e = found (signed_in json) refl e
  where
    found : (o : Option ℤ) → signed_in json ≡ o → option_map json_of o ≡ Some value → read_global name value ≡ Some value
    found None is f = absurd (none-some value f)
    found (Some z) is f =
        let back : signed_in (json_of z) ≡ Some z = signed_in-json_of z (signed_in-some (whole_in json) z is) in
        subst (λ (other : Json). read_global name other ≡ Some other) (same_Some (json_of z) value f) (ap (option_map json_of) back)

-- no float is written for a whole number, and none for a datum
pub law-no_global_float : (z : ℤ) → has_float (json_of z) ≡ false
law-no_global_float (pos n) = refl
law-no_global_float (negsuc n) = refl

pub law-no_float : (datum : Datum) → has_float (part_of datum).json ≡ false
law-no_float (Whole z) = law-no_global_float z
law-no_float (Owner id) = refl

-- the names ascend
pub law-kinds_ascend : Ascend part_kinds
law-kinds_ascend = ascending-names part_kinds refl

pub law-globals_ascend : Ascend (g_name ∷ [])
law-globals_ascend = ascending-names (g_name ∷ []) refl

-- a system's kind names it
pub system_named-kind_of : (system : BasicSystem) → system_named (kind_of system) ≡ Some system
system_named-kind_of Drift = refl
system_named-kind_of Pull = refl
system_named-kind_of Decay = refl
system_named-kind_of Reap = refl
system_named-kind_of Bud = refl

-- a system that a kind names is of that kind
pub kind_of-system_named : (kind : Name) (system : BasicSystem) → system_named kind ≡ Some system → kind_of system ≡ kind
kind_of-system_named kind system is = here (bytes_eq kind drift_kind) (bytes_eq kind pull_kind) (bytes_eq kind decay_kind) (bytes_eq kind reap_kind) (bytes_eq kind bud_kind) ((bytes_eq-Decides kind drift_kind).0) ((bytes_eq-Decides kind pull_kind).0) ((bytes_eq-Decides kind decay_kind).0) ((bytes_eq-Decides kind reap_kind).0) ((bytes_eq-Decides kind bud_kind).0) is
  where
    here : (a b c d f : Bool) → (a ≡ true → kind ≡ drift_kind) → (b ≡ true → kind ≡ pull_kind) → (c ≡ true → kind ≡ decay_kind) → (d ≡ true → kind ≡ reap_kind) → (f ≡ true → kind ≡ bud_kind) → cond a (Some Drift) (cond b (Some Pull) (cond c (Some Decay) (cond d (Some Reap) (cond f (Some Bud) None)))) ≡ Some system → kind_of system ≡ kind
    here true b c d f one two three four five e = subst (λ (s : BasicSystem). kind_of s ≡ kind) (same_Some Drift system e) (sym (one refl))
    here false true c d f one two three four five e = subst (λ (s : BasicSystem). kind_of s ≡ kind) (same_Some Pull system e) (sym (two refl))
    here false false true d f one two three four five e = subst (λ (s : BasicSystem). kind_of s ≡ kind) (same_Some Decay system e) (sym (three refl))
    here false false false true f one two three four five e = subst (λ (s : BasicSystem). kind_of s ≡ kind) (same_Some Reap system e) (sym (four refl))
    here false false false false true one two three four five e = subst (λ (s : BasicSystem). kind_of s ≡ kind) (same_Some Bud system e) (sym (five refl))
    here false false false false false one two three four five e = absurd (none-some system e)

-- what is known of a configured system is known of the system
pub configured-facts : (system : BasicSystem) (config : Json) (facts : Facts) → configured (Some system) config ≡ known facts → facts_of system ≡ facts
configured-facts system config facts e = here (is_some (as_null config)) e
  where
    here : (b : Bool) → cond b (known (facts_of system)) misshapen ≡ known facts → facts_of system ≡ facts
    here true f = cc
    here false f = absurd cc

abbrev KindKnown : Name → Type 0
KindKnown kind = is_among kind part_kinds ≡ true

abbrev GlobalKnown : Name → Type 0
GlobalKnown name = is_among name (g_name ∷ []) ≡ true

-- a list of one kind of the rules has kinds of the rules alone, and so has the list of the global
kind-known : (kind : Name) → is_among kind part_kinds ≡ true → All KindKnown (kind ∷ [])
kind-known kind is = All-cons KindKnown kind [] is (All-nil KindKnown)

global-known : All GlobalKnown (g_name ∷ [])
global-known = All-cons GlobalKnown g_name [] refl (All-nil GlobalKnown)

-- what a system declares is the rules'
pub declares-known : (system : BasicSystem) → DeclaresKnown basics (declared_access system)
declares-known Drift = record { reads = kind-known vel_kind refl; writes = kind-known pos_kind refl; read_globals = All-nil GlobalKnown; written_globals = All-nil GlobalKnown }
declares-known Pull = record { reads = All-nil KindKnown; writes = kind-known vel_kind refl; read_globals = global-known; written_globals = All-nil GlobalKnown }
declares-known Decay = record { reads = All-nil KindKnown; writes = kind-known hp_kind refl; read_globals = All-nil GlobalKnown; written_globals = All-nil GlobalKnown }
declares-known Reap = record { reads = kind-known hp_kind refl; writes = All-nil KindKnown; read_globals = All-nil GlobalKnown; written_globals = All-nil GlobalKnown }
declares-known Bud = record { reads = All-cons KindKnown hp_kind (pos_kind ∷ []) refl (kind-known pos_kind refl); writes = All-nil KindKnown; read_globals = All-nil GlobalKnown; written_globals = All-nil GlobalKnown }

pub law-declares_known : (kind : Name) (config : Json) (facts : Facts) → configured (system_named kind) config ≡ known facts → DeclaresKnown basics facts.access
law-declares_known kind config facts e = here (system_named kind) e
  where
    here : (found : Option BasicSystem) → configured found config ≡ known facts → DeclaresKnown basics facts.access
    here None f = absurd cc
    here (Some system) f = subst (λ (some : Facts). DeclaresKnown basics some.access) (configured-facts system config facts f) (declares-known system)
