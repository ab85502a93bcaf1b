-- Rules over numbers and references, whose systems take no configuration: what they mean, and the laws that hold of them.
use Rattle.std.proofs.Common.{◌≡◌, Bool, true, false, cond, List, [], ◌∷◌, Option, Some, None, is_some, refl, sym, subst, if◌then◌else◌}
use Rattle.std.specs.Prelude.{option_map}
use Rattle.std.specs.List.{list_all}
use Rattle.std.specs.Str.{bytes_eq}
use Rattle.std.proofs.lemmas.Bool.{and_parts}
use Rattle.std.proofs.lemmas.Option.{none-some, same_Some}
use Rattle.std.proofs.lemmas.Slice.Eq.{bytes_eq-Decides}
use Rattle.serde_json.specs.Data.{null}
use Rattle.serde_json.specs.Find.{as_null}
use Rattle.scene_model.specs.Parts.{Json, Name}
use Rattle.scene_model.specs.Rulebook.{Access, Book, Described, misshapen, unknown, known, Facts, Fragment, Outcome}
use Rattle.scene_model.specs.Laws.{DeclaresKnown}
use Rattle.scene_world.specs.Numbers.{counted, number_in, part_for, admits_number}
use Rattle.scene_world.specs.RuleLemmas.{are_known, known-names}
use Rattle.scene_world.specs.Turns.{sense_of, IsOfBook, meaning_of}

-- the first of some systems whose kind has this name
abbrev pub named_among : {S : Type 0} → (S → Name) → List S → Name → Option S
named_among kind_of [] name = None
named_among kind_of (system ∷ systems) name = if bytes_eq name (kind_of system) then Some system else named_among kind_of systems name

-- a system that was found, with a configuration, which has to be null; each has the time `Average`
abbrev pub configured : {S : Type 0} → (S → Access) → Option S → Json → Described
configured access_of None config = unknown
configured access_of (Some system) config = if is_some (as_null config) then known (record { access = access_of system; time = 3 }) else misshapen

-- what a system that was found may make of what it is lent
abbrev pub found_does : {S : Type 0} → (S → Fragment → Outcome → Type 0) → Option S → Fragment → Outcome → Type 0
found_does does None seen outcome = ⊥
found_does does (Some system) seen outcome = does system seen outcome

-- what rules mean with these names, under some of whose kinds stand references and else numbers, and with these systems
abbrev pub plain_book : {S : Type 0} → List Name → (Name → Bool) → List Name → (S → Name) → (S → Access) → (S → Fragment → Outcome → Type 0) → List S → Book
plain_book part_names refers global_names kind_of access_of does systems = record {
  part_names = part_names;
  owning = λ kind. false;
  global_names = global_names;
  read_part = λ kind json. option_map (part_for (refers kind)) (number_in json);
  read_global = λ name json. option_map counted (number_in json);
  admits = λ kind part. admits_number (refers kind) part;
  system = λ kind config. configured access_of (named_among kind_of systems kind) config;
  meets = λ kind config seen outcome. found_does does (named_among kind_of systems kind) seen outcome;
}

-- who is found under a kind is of that kind
pub found-kind : {S : Type 0} (kind_of : S → Name) (systems : List S) (kind : Name) (system : S) → named_among kind_of systems kind ≡ Some system → kind_of system ≡ kind
found-kind kind_of [] kind system e = absurd (none-some system e)
found-kind {S} kind_of (first ∷ systems) kind system e = by (bytes_eq kind (kind_of first)) ((bytes_eq-Decides kind (kind_of first)).0) (found-kind kind_of systems kind system) e
  where
    by : (b : Bool) → (b ≡ true → kind ≡ kind_of first) → (named_among kind_of systems kind ≡ Some system → kind_of system ≡ kind) → cond b (Some first) (named_among kind_of systems kind) ≡ Some system
        → kind_of system ≡ kind
    by true same later found = subst (λ (s : S). kind_of s ≡ kind) (same_Some first system found) (sym (same refl))
    by false same later found = later found

-- what holds of the names that all systems declare holds of those of one that is found
knows-found : {S : Type 0} (P : S → Bool) (kind_of : S → Name) (systems : List S) (kind : Name) (system : S) → list_all P systems ≡ true → named_among kind_of systems kind ≡ Some system → P system ≡ true
knows-found P kind_of [] kind system all e = absurd (none-some system e)
knows-found {S} P kind_of (first ∷ systems) kind system all e =
    let both = and_parts (P first) (list_all P systems) all in
    by (bytes_eq kind (kind_of first)) both.0 (knows-found P kind_of systems kind system both.1) e
  where
    by : (b : Bool) → P first ≡ true → (named_among kind_of systems kind ≡ Some system → P system ≡ true) → cond b (Some first) (named_among kind_of systems kind) ≡ Some system → P system ≡ true
    by true one later found = subst (λ (s : S). P s ≡ true) (same_Some first system found) one
    by false one later found = later found

module _ {S : Type 0} (part_names : List Name) (refers : Name → Bool) (global_names : List Name) (kind_of : S → Name) (access_of : S → Access) (does : S → Fragment → Outcome → Type 0) (systems : List S) where
  abbrev book : Book
  book = plain_book part_names refers global_names kind_of access_of does systems

  -- what a system declares is the rules', where it is so of all
  pub plain-declares : list_all (λ system. are_known book (access_of system)) systems ≡ true → (kind : Name) (config : Json) (facts : Facts)
      → configured access_of (named_among kind_of systems kind) config ≡ known facts → DeclaresKnown book facts.access
  plain-declares all kind config facts = by (named_among kind_of systems kind) refl
    where
      at : (system : S) → DeclaresKnown book (access_of system) → (b : Bool) → cond b (known (record { access = access_of system; time = 3 })) misshapen ≡ known facts → DeclaresKnown book facts.access
      at system knows true f = let one : Facts = record { access = access_of system; time = 3 } in let same : one ≡ facts = cc in subst (λ (some : Facts). DeclaresKnown book some.access) same knows
      at system knows false f = absurd cc

      by : (found : Option S) → named_among kind_of systems kind ≡ found → configured access_of found config ≡ known facts → DeclaresKnown book facts.access
      by None is f = absurd cc
      by (Some system) is f =
          at system (known-names book (access_of system) (knows-found (λ one. are_known book (access_of one)) kind_of systems kind system all is)) (is_some (as_null config)) f

  -- a system that is found under its kind does what the rules say of it
  pub plain-of-book : (system : S) → named_among kind_of systems (kind_of system) ≡ Some system → IsOfBook (meaning_of 0 kind_of (λ _. null) access_of (λ _. sense_of book) does) book system
  plain-of-book system found = record { is = tt; sense_so = refl; does_so = λ seen outcome did. subst (λ (one : Option S). found_does does one seen outcome) (sym found) did }
