-- The numbers that a builder has of names are those of the entries that it was asked for.
use Rattle.std.proofs.Common.{◌≡◌, ℕ, suc, ◌+◌, Bool, true, false, ◌||◌, List, [], ◌∷◌, ◌++◌, map, Option, Some, None, refl, ap, sym, ◌∙◌, append-nil, arith}
use Rattle.std.specs.Prelude.{if◌then◌else◌}
use Rattle.std.specs.List.{AllByRecursion, filter_map, cons_option}
use Rattle.std.specs.Option.{option_or}
use Rattle.std.specs.Str.{bytes_eq}
use Rattle.std.proofs.lemmas.List.{map-append}
use Rattle.std.proofs.lemmas.List.Elements.{filter_map-append}
use Rattle.std.proofs.lemmas.List.Sums.{sum_by-cons}
use Rattle.std.proofs.lemmas.Slice.Eq.{bytes_eq-Decides}
use Rattle.scene_model.specs.Parts.{Name, is_among}
use Rattle.scene_document.specs.Drafts.{DraftEntry, DraftSystem, barrier, system, system_of_entry}
use Rattle.scene_document.proofs.CallerLemmas.{bytes_eq-symmetric}
use Rattle.shred.specs.Names.{Named, number_under, numbers_under, with_name}
use Rattle.scene_document.specs.Openings.{is_staged, number_named, next_number}
use Rattle.scene_dispatch.specs.Entries.{systems_among}
use Rattle.scene_dispatch.proofs.NumberLemmas.{staged_count}

-- nothing else changes nothing
or-nothing : {X : Type 0} (o : Option X) → option_or o None ≡ o
or-nothing None = refl
or-nothing (Some x) = refl

-- a name that isn't empty, and one that is, differ
empty-other : (one name : Name) → bytes_eq name [] ≡ false → bytes_eq one [] ≡ true → bytes_eq one name ≡ false
empty-other one name filled empty = ap (λ n. bytes_eq n name) ((bytes_eq-Decides one []).0 empty) ∙ bytes_eq-symmetric [] name ∙ filled

-- what is found of a name in one more entry
abbrev found_in : ℕ → DraftEntry → Name → Option ℕ
found_in number entry name = number_named number (entry ∷ []) name

-- the number of a name among entries and one more
named-more : (number end : ℕ) (early : List DraftEntry) (entry : DraftEntry) (name : Name) → end ≡ number + staged_count early → number_named number (early ++ entry ∷ []) name ≡ option_or (number_named number early name) (found_in end entry name)
named-more number end [] entry name at = let e : number ≡ end = omega arith in ap (λ n. found_in n entry name) e
named-more number end (barrier ∷ early) entry name at =
    let e = sum_by-cons (λ (e : DraftEntry). if is_staged e then 1 else 0) barrier early in
    named-more number end early entry name (omega (arith, e))
named-more number end (system one ∷ early) entry name at =
    by (bytes_eq one.name name) (named-more (next_number number (system one)) end early entry name (counted (is_staged (system one)) (sum_by-cons (λ (e : DraftEntry). if is_staged e then 1 else 0) (system one) early)))
  where
    counted : (b : Bool) → staged_count (system one ∷ early) ≡ (if b then 1 else 0) + staged_count early → end ≡ (if b then suc number else number) + staged_count early
    counted true e = omega arith
    counted false e = omega arith

    by : (b : Bool) → number_named (next_number number (system one)) (early ++ entry ∷ []) name ≡ option_or (number_named (next_number number (system one)) early name) (found_in end entry name)
        → (if b then Some number else number_named (next_number number (system one)) (early ++ entry ∷ []) name) ≡ option_or (if b then Some number else number_named (next_number number (system one)) early name) (found_in end entry name)
    by true rest = refl
    by false rest = rest

-- the names of the systems among entries
abbrev pub names_in : List DraftEntry → List Name
names_in entries = map (λ one. one.name) (systems_among entries)

-- a barrier adds none
pub names-barrier : (early : List DraftEntry) → names_in (early ++ barrier ∷ []) ≡ names_in early
names-barrier early = ap (map (λ one. one.name)) (filter_map-append system_of_entry early (barrier ∷ []) ∙ append-nil (systems_among early))

-- a system adds its own
pub names-system : (early : List DraftEntry) (one : DraftSystem) → names_in (early ++ system one ∷ []) ≡ names_in early ++ one.name ∷ []
names-system early one = ap (map (λ one. one.name)) (filter_map-append system_of_entry early (system one ∷ [])) ∙ map-append (λ one. one.name) (systems_among early) (one ∷ [])

-- a name of one of some entries is looked up among them
named-early : (number : ℕ) (early later : List DraftEntry) (name : Name) → is_among name (names_in early) ≡ true → number_named number (early ++ later) name ≡ number_named number early name
named-early number [] later name among = cc
named-early number (barrier ∷ early) later name among = named-early number early later name among
named-early number (system one ∷ early) later name among =
    by (bytes_eq one.name name) (ap (λ b. b || is_among name (names_in early)) (bytes_eq-symmetric one.name name) ∙ among) (named-early (next_number number (system one)) early later name)
  where
    by : (b : Bool) → (b || is_among name (names_in early)) ≡ true → (is_among name (names_in early) ≡ true → number_named (next_number number (system one)) (early ++ later) name ≡ number_named (next_number number (system one)) early name)
        → (if b then Some number else number_named (next_number number (system one)) (early ++ later) name) ≡ (if b then Some number else number_named (next_number number (system one)) early name)
    by true among rest = refl
    by false among rest = rest among

-- the number under a name, with one name more
pub under-more : (names : List Named) (one : List ℕ) (number : ℕ) (name : List ℕ) → number_under (names ++ (one, number) ∷ []) name ≡ option_or (number_under names name) (if bytes_eq name one then Some number else None)
under-more [] one number name = refl
under-more (first ∷ names) one number name = by (bytes_eq name first.0) (under-more names one number name)
  where
    by : (b : Bool) → number_under (names ++ (one, number) ∷ []) name ≡ option_or (number_under names name) (if bytes_eq name one then Some number else None)
        → (if b then Some first.1 else number_under (names ++ (one, number) ∷ []) name) ≡ option_or (if b then Some first.1 else number_under names name) (if bytes_eq name one then Some number else None)
    by true rest = refl
    by false rest = rest

-- a builder's numbers of names that aren't empty are those of entries
abbrev pub NamesOf : List Named → List DraftEntry → Type 0
NamesOf names early = (name : Name) → bytes_eq name [] ≡ false → number_under names name ≡ number_named 0 early name

-- a barrier adds none
pub names-after-barrier : (names : List Named) (early : List DraftEntry) → NamesOf names early → NamesOf names (early ++ barrier ∷ [])
names-after-barrier names early of name filled = of name filled ∙ sym (named-more 0 (staged_count early) early barrier name (omega arith) ∙ or-nothing (number_named 0 early name))

-- a system that isn't staged has no name
pub names-after-unstaged : (names : List Named) (early : List DraftEntry) (one : DraftSystem) → bytes_eq one.name [] ≡ true → NamesOf names early → NamesOf names (early ++ system one ∷ [])
names-after-unstaged names early one empty of name filled =
    of name filled
    ∙ sym (named-more 0 (staged_count early) early (system one) name (omega arith)
    ∙ ap (λ b. option_or (number_named 0 early name) (if b then Some (staged_count early) else None)) (empty-other one.name name filled empty)
    ∙ or-nothing (number_named 0 early name))

-- a staged system adds its own, with its number
pub names-after-staged : (names : List Named) (early : List DraftEntry) (one : DraftSystem) (number : ℕ) → number ≡ staged_count early → NamesOf names early → NamesOf (with_name names one.name number) (early ++ system one ∷ [])
names-after-staged names early one number counted of name filled =
    by (bytes_eq one.name []) refl
    ∙ ap (λ o. option_or o (if bytes_eq one.name name then Some number else None)) (of name filled)
    ∙ ap (λ n. option_or (number_named 0 early name) (if bytes_eq one.name name then Some n else None)) counted
    ∙ sym (named-more 0 (staged_count early) early (system one) name (omega arith))
  where
    by : (b : Bool) → bytes_eq one.name [] ≡ b → number_under (if b then names else names ++ (one.name, number) ∷ []) name ≡ option_or (number_under names name) (if bytes_eq one.name name then Some number else None)
    by true empty = sym (ap (λ b. option_or (number_under names name) (if b then Some number else None)) (empty-other one.name name filled empty) ∙ or-nothing (number_under names name))
    by false full = under-more names one.name number name ∙ ap (λ b. option_or (number_under names name) (if b then Some number else None)) (bytes_eq-symmetric name one.name)

-- the numbers of those that a system comes after are the builder's
pub numbers-told : (names : List Named) (all early later : List DraftEntry) → all ≡ early ++ later → NamesOf names early → (after : List Name)
    → AllByRecursion (λ name. (bytes_eq name [] ≡ false) × (is_among name (names_in early) ≡ true)) after → numbers_under names after ≡ filter_map (number_named 0 all) after
numbers-told names all early later is of [] follows = refl
numbers-told names all early later is of (name ∷ after) follows =
    ap (λ o. cons_option o (numbers_under names after)) (of name follows.0.0 ∙ sym (ap (λ list. number_named 0 list name) is ∙ named-early 0 early later name follows.0.1))
    ∙ ap (cons_option (number_named 0 all name)) (numbers-told names all early later is of after follows.1)
