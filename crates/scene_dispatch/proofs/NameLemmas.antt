-- Systems of entries that are named as a document's are.
use Rattle.std.proofs.Common.{◌≡◌, Bool, true, false, not, ◌||◌, List, [], ◌∷◌, ◌++◌, Option, Some, None, refl}
use Rattle.std.specs.Prelude.{is_none}
use Rattle.std.specs.List.{All, AllByRecursion, list_any}
use Rattle.std.specs.Str.{bytes_eq}
use Rattle.std.proofs.lemmas.Bool.{or_parts, not-false}
use Rattle.std.proofs.lemmas.List.Elements.{All-head, All-tail}
use Rattle.std.proofs.lemmas.Slice.Eq.{bytes_eq-Decides}
use Rattle.scene_model.specs.Parts.{Name, is_among}
use Rattle.scene_model.specs.Rulebook.{Facts}
use Rattle.scene_document.specs.Drafts.{DraftEntry, DraftSystem, system}
use Rattle.scene_document.specs.Documents.{has_unknown_dependency}
use Rattle.scene_document.specs.Openings.{is_staged, is_staged_as}
use Rattle.scene_dispatch.specs.Entries.{systems_among, AreNamed}

-- a system's kind is known, and it has no name if it is local
abbrev pub IsFit : DraftSystem → Type 0
IsFit one = (is_none one.facts ≡ false) × (one.local ≡ true → one.name ≡ [])

-- the names that a system comes after aren't empty, and are some names
abbrev pub Follows : List Name → DraftSystem → Type 0
Follows earlier one = AllByRecursion (λ name. (bytes_eq name [] ≡ false) × (is_among name earlier ≡ true)) one.after

-- each of some systems is fit, and comes after some names or those of systems before it
abbrev pub AreFit : List Name → List DraftSystem → Type 0
AreFit earlier [] = Unit {0}
AreFit earlier (one ∷ others) = IsFit one × Follows earlier one × AreFit (earlier ++ one.name ∷ []) others

-- they are so where none is empty or another
follows-all : (earlier after : List Name) → list_any (λ name. bytes_eq name [] || not (is_among name earlier)) after ≡ false → AllByRecursion (λ name. (bytes_eq name [] ≡ false) × (is_among name earlier ≡ true)) after
follows-all earlier [] none = tt
follows-all earlier (name ∷ after) none =
    let both = or_parts (bytes_eq name [] || not (is_among name earlier)) (list_any (λ name. bytes_eq name [] || not (is_among name earlier)) after) none in
    let here = or_parts (bytes_eq name []) (not (is_among name earlier)) both.0 in
    ((here.0, not-false (is_among name earlier) here.1), follows-all earlier after both.1)

-- systems whose kinds are known, that have no name if they are local, and come after earlier ones are fit
fit-all : (earlier : List Name) (systems : List DraftSystem) → list_any (λ one. is_none one.facts) systems ≡ false → All (λ one. one.local ≡ true → one.name ≡ []) systems → has_unknown_dependency earlier systems ≡ false → AreFit earlier systems
fit-all earlier [] known unnamed depends = tt
fit-all earlier (one ∷ others) known unnamed depends =
    let knows = or_parts (is_none one.facts) (list_any (λ one. is_none one.facts) others) known in
    let both = or_parts (list_any (λ name. bytes_eq name [] || not (is_among name earlier)) one.after) (has_unknown_dependency (earlier ++ one.name ∷ []) others) depends in (
      (knows.0, All-head (λ one. one.local ≡ true → one.name ≡ []) one others unnamed),
      follows-all earlier one.after both.0,
      fit-all (earlier ++ one.name ∷ []) others knows.1 (All-tail (λ one. one.local ≡ true → one.name ≡ []) one others unnamed) both.1,
    )

-- so they are in a document
pub named-fit : (entries : List DraftEntry) → AreNamed entries → AreFit [] (systems_among entries)
named-fit entries named = fit-all [] (systems_among entries) named.none_unknown named.unnamed named.earlier

-- a fit system that has a name is staged
pub fit-staged : (one : DraftSystem) → IsFit one → bytes_eq one.name [] ≡ false → is_staged (system one) ≡ true
fit-staged one fit filled = by one.local one.facts fit.0 fit.1
  where
    by : (local : Bool) (facts : Option Facts) → is_none facts ≡ false → (local ≡ true → one.name ≡ []) → is_staged_as local facts ≡ true
    by local None known unnamed = cc
    by true (Some facts) known unnamed = let empty : bytes_eq one.name [] ≡ true = (bytes_eq-Decides one.name []).1 (unnamed refl) in cc
    by false (Some facts) known unnamed = refl

-- one that isn't staged has none
pub unstaged-unnamed : (one : DraftSystem) → IsFit one → is_staged (system one) ≡ false → bytes_eq one.name [] ≡ true
unstaged-unnamed one fit unstaged = by (bytes_eq one.name []) refl
  where
    by : (b : Bool) → bytes_eq one.name [] ≡ b → b ≡ true
    by true is = refl
    by false is = let staged = fit-staged one fit is in cc
