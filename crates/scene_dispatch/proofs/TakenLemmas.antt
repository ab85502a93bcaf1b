-- A builder takes each staged system of a document: its name is free, and those that it comes after are there.
use Rattle.std.proofs.Common.{◌≡◌, ℕ, suc, ◌+◌, ◌<◌, ◌≤◌, Bool, true, false, not, ◌||◌, ◌&&◌, List, [], ◌∷◌, ◌++◌, length, map, Option, Some, None, refl, ap, sym, ◌∙◌, subst, append_assoc, append-nil, length-append, arith}
use Rattle.std.specs.Prelude.{is_none, is_some, nat_lt, if◌then◌else◌}
use Rattle.std.specs.List.{AllByRecursion, list_any}
use Rattle.std.specs.Option.{option_or}
use Rattle.std.specs.Str.{bytes_eq}
use Rattle.std.proofs.lemmas.Bool.{or_parts, lt-ltb}
use Rattle.std.proofs.lemmas.List.{length_push}
use Rattle.std.proofs.lemmas.List.Sums.{count_by-le-length}
use Rattle.std.proofs.lemmas.Slice.Eq.{bytes_eq-Decides}
use Rattle.shred_world.specs.declared.resource_id.ResourceId.{ResourceId}
use Rattle.scene_model.specs.Parts.{Name, is_among}
use Rattle.scene_model.specs.Rulebook.{Facts}
use Rattle.scene_model.specs.Scenes.{PlainSystem}
use Rattle.scene_document.specs.Drafts.{DraftEntry, DraftSystem, barrier, system}
use Rattle.scene_document.proofs.CallerLemmas.{bytes_eq-symmetric}
use Rattle.scene_document.specs.Documents.{has_taken_name}
use Rattle.scene_world.specs.Standing.{Kinds}
use Rattle.shred.specs.declared.error.AddError.TheVariants.{NoSuchSystem, NameTaken, SystemsFull}
use Rattle.shred.specs.Names.{Named, number_under, lacks_one, with_name}
use Rattle.shred.specs.Building.{Building, nothing_built, refusal}
use Rattle.shred.specs.Histories.{Asked, with_asked, built_from}
use Rattle.shred.specs.Histories as asked
use Rattle.scene_document.specs.Openings.{is_staged, is_staged_as, number_named, next_number}
use Rattle.scene_dispatch.specs.Entries.{systems_among, AreNamed, plain_system}
use Rattle.scene_dispatch.specs.Told.{declared_of}
use Rattle.scene_dispatch.specs.Asked.{asked_at, asked_entries, asked_as, IsBuiltOf}
use Rattle.scene_dispatch.proofs.NumberLemmas.{staged_count, count-more}
use Rattle.scene_dispatch.proofs.NameLemmas.{IsFit, Follows, AreFit, named-fit, unstaged-unnamed}
use Rattle.scene_dispatch.proofs.EarlierLemmas.{NamesOf, names_in, under-more, names-after-barrier, names-after-unstaged, names-after-staged}

-- ---- what names find

-- a name of one of some entries is found
named-some : (number : ℕ) (early : List DraftEntry) (name : Name) → is_among name (names_in early) ≡ true → is_none (number_named number early name) ≡ false
named-some number [] name among = cc
named-some number (barrier ∷ early) name among = named-some number early name among
named-some number (system one ∷ early) name among =
    by (bytes_eq one.name name) (ap (λ b. b || is_among name (names_in early)) (bytes_eq-symmetric one.name name) ∙ among) (named-some (next_number number (system one)) early name)
  where
    by : (b : Bool) → (b || is_among name (names_in early)) ≡ true → (is_among name (names_in early) ≡ true → is_none (number_named (next_number number (system one)) early name) ≡ false)
        → is_none (if b then Some number else number_named (next_number number (system one)) early name) ≡ false
    by true among rest = refl
    by false among rest = rest among

-- a test that passes for no system passes for none among later entries
any-at : (test : DraftSystem → Bool) (early later : List DraftEntry) (one : DraftSystem) → list_any test (systems_among (early ++ system one ∷ later)) ≡ false → test one ≡ false
any-at test [] later one none = (or_parts (test one) (list_any test (systems_among later)) none).0
any-at test (barrier ∷ early) later one none = any-at test early later one none
any-at test (system first ∷ early) later one none = any-at test early later one ((or_parts (test first) (list_any test (systems_among (early ++ system one ∷ later))) none).1)

-- where a denial and something else don't stand together, and that does, what is denied stands
and-false : (a b : Bool) → (not a && b) ≡ false → b ≡ true → a ≡ true
and-false true b e f = refl
and-false false b e f = cc

-- where names are their systems' own, no earlier system has that of a later one
named-none : (number : ℕ) (early later : List DraftEntry) (one : DraftSystem) → bytes_eq one.name [] ≡ false → has_taken_name (systems_among (early ++ system one ∷ later)) ≡ false → number_named number early one.name ≡ None
named-none number [] later one filled own = refl
named-none number (barrier ∷ early) later one filled own = named-none number early later one filled own
named-none number (system first ∷ early) later one filled own =
    let both = or_parts (not (bytes_eq first.name []) && list_any (λ other. bytes_eq other.name first.name) (systems_among (early ++ system one ∷ later))) (has_taken_name (systems_among (early ++ system one ∷ later))) own in
    ap (λ b. if b then Some number else number_named (next_number number (system first)) early one.name) (differ both.0) ∙ named-none (next_number number (system first)) early later one filled both.1
  where
    others : Bool
    others = list_any (λ other. bytes_eq other.name first.name) (systems_among (early ++ system one ∷ later))

    differ : (not (bytes_eq first.name []) && others) ≡ false → bytes_eq first.name one.name ≡ false
    differ none = by others refl
      where
        by : (b : Bool) → others ≡ b → bytes_eq first.name one.name ≡ false
        by false is = bytes_eq-symmetric first.name one.name ∙ any-at (λ other. bytes_eq other.name first.name) early later one is
        by true is =
            let empty : bytes_eq first.name [] ≡ true = and-false (bytes_eq first.name []) others none is in
            ap (λ name. bytes_eq name one.name) ((bytes_eq-Decides first.name []).0 empty) ∙ bytes_eq-symmetric [] one.name ∙ filled

-- fit entries are fit from a later one on, with the names of those before it
fit-later : (earlier : List Name) (early later : List DraftEntry) → AreFit earlier (systems_among (early ++ later)) → AreFit (earlier ++ names_in early) (systems_among later)
fit-later earlier [] later fit = subst (λ names. AreFit names (systems_among later)) (sym (append-nil earlier)) fit
fit-later earlier (barrier ∷ early) later fit = fit-later earlier early later fit
fit-later earlier (system one ∷ early) later fit =
    subst (λ names. AreFit names (systems_among later)) (append_assoc earlier (one.name ∷ []) (names_in early)) (fit-later (earlier ++ one.name ∷ []) early later fit.2)

-- and the entries before it are
fit-early : (earlier : List Name) (early later : List DraftEntry) → AreFit earlier (systems_among (early ++ later)) → AllByRecursion IsFit (systems_among early)
fit-early earlier [] later fit = tt
fit-early earlier (barrier ∷ early) later fit = fit-early earlier early later fit
fit-early earlier (system one ∷ early) later fit = (fit.0, fit-early (earlier ++ one.name ∷ []) early later fit.2)

-- ---- what a builder has

-- a builder has as many systems as entries stage, and their names with their numbers
record HasNames {S : Type 0} (early : List DraftEntry) (building : Building S) : Type 0 where
  names : NamesOf building.names early
  empty : number_under building.names [] ≡ None
  size : length building.staging.systems ≡ staged_count early

-- the empty name isn't entered
empty-more : (names : List Named) (name : Name) (number : ℕ) → number_under names [] ≡ None → number_under (with_name names name number) [] ≡ None
empty-more names name number none = by (bytes_eq name []) refl
  where
    by : (b : Bool) → bytes_eq name [] ≡ b → number_under (if b then names else names ++ (name, number) ∷ []) [] ≡ None
    by true is = none
    by false is =
        under-more names name number [] ∙ ap (λ o. option_or o (if bytes_eq [] name then Some number else None)) none
        ∙ ap (λ b. if b then Some number else None) (bytes_eq-symmetric [] name ∙ is)

module _ {V : Type 0} (kinds : Kinds V) (same : ResourceId → ResourceId → Bool) where
  -- so it is once it is asked for them
  has-names : (early later : List DraftEntry) (place : ℕ) → AllByRecursion IsFit (systems_among later) → (building : Building PlainSystem) → HasNames early building
      → HasNames (early ++ later) (built_from same building (asked_entries kinds place later))
  has-names early [] place fit building has = subst (λ entries. HasNames entries building) (sym (append-nil early)) has
  has-names early (barrier ∷ later) place fit building has =
      let after : Building PlainSystem = with_asked same building asked.barrier in
      subst (λ entries. HasNames entries (built_from same after (asked_entries kinds (suc place) later))) (append_assoc early (barrier ∷ []) later)
      (has-names (early ++ barrier ∷ []) later (suc place) fit after
      (record { names = names-after-barrier building.names early has.names; empty = has.empty; size = has.size ∙ sym (count-more early barrier) }))
  has-names early (system one ∷ later) place fit building has =
      subst (λ entries. HasNames entries (built_from same building (asked_at kinds place one one.local one.facts ++ asked_entries kinds (suc place) later))) (append_assoc early (system one ∷ []) later)
      (by one.local refl one.facts refl (has-names (early ++ system one ∷ []) later (suc place) fit.1))
    where
      unstaged : is_staged (system one) ≡ false → HasNames (early ++ system one ∷ []) building
      unstaged none = record {
        names = names-after-unstaged building.names early one (unstaged-unnamed one fit.0 none) has.names;
        empty = has.empty;
        size = has.size ∙ sym (count-more early (system one) ∙ ap (λ b. if b then suc (staged_count early) else staged_count early) none);
      }

      by : (local : Bool) → one.local ≡ local → (facts : Option Facts) → one.facts ≡ facts
          → ((building : Building PlainSystem) → HasNames (early ++ system one ∷ []) building → HasNames ((early ++ system one ∷ []) ++ later) (built_from same building (asked_entries kinds (suc place) later)))
          → HasNames ((early ++ system one ∷ []) ++ later) (built_from same building (asked_at kinds place one local facts ++ asked_entries kinds (suc place) later))
      by local e None there rest = rest building (unstaged (ap (is_staged_as one.local) there))
      by true e (Some facts) there rest = rest building (unstaged (ap (is_staged_as one.local) there ∙ ap not e))
      by false e (Some facts) there rest =
          let plain : PlainSystem = plain_system place one facts in
          let staged : is_staged (system one) ≡ true = ap (is_staged_as one.local) there ∙ ap not e in
          rest (with_asked same building (asked.system plain (declared_of kinds place facts) one.name one.after))
          (record {
            names = names-after-staged building.names early one (length building.staging.systems) has.size has.names;
            empty = empty-more building.names one.name (length building.staging.systems) has.empty;
            size = length_push building.staging.systems plain ∙ ap (λ n. n + 1) has.size ∙ omega arith ∙ sym (count-more early (system one) ∙ ap (λ b. if b then suc (staged_count early) else staged_count early) staged);
          })

  -- what a builder has hangs on what it was asked, by what its systems are for a document
  has-alike : {S T : Type 0} (plain : S → T) (entries : List DraftEntry) (list : List (Asked S)) (building : Building S) (other : Building T) → building.names ≡ other.names → length building.staging.systems ≡ length other.staging.systems
      → HasNames entries (built_from same other (map (asked_as plain) list)) → HasNames entries (built_from same building list)
  has-alike plain entries [] building other names size has = record {
    names = subst (λ known. NamesOf known entries) (sym names) has.names;
    empty = ap (λ known. number_under known []) names ∙ has.empty;
    size = size ∙ has.size;
  }
  has-alike plain entries (asked.barrier ∷ list) building other names size has = has-alike plain entries list (with_asked same building asked.barrier) (with_asked same other asked.barrier) names size has
  has-alike plain entries (asked.system one declared name after ∷ list) building other names size has =
      has-alike plain entries list (with_asked same building (asked.system one declared name after)) (with_asked same other (asked.system (plain one) declared name after))
      (ap (λ known. with_name known name (length building.staging.systems)) names ∙ ap (with_name other.names name) size)
      (length_push building.staging.systems one ∙ ap (λ n. n + 1) size ∙ sym (length_push other.staging.systems (plain one))) has

  -- so it is of each builder that is asked for entries
  built-has : {S : Type 0} (plain : S → PlainSystem) (early : List DraftEntry) (building : Building S) → AllByRecursion IsFit (systems_among early) → IsBuiltOf kinds same plain early building → HasNames early building
  built-has {S} plain early building fit is =
      let start : HasNames [] (nothing_built {S = PlainSystem}) = record { names = λ name filled. refl; empty = refl; size = refl } in
      let P : Building S → Type 0 = λ b. HasNames early b in
      subst P (sym is.built)
      (has-alike plain early is.list nothing_built nothing_built refl refl
      (subst (λ list. HasNames early (built_from same nothing_built list)) (sym is.asks) (has-names [] early 1 fit nothing_built start)))

  -- ---- what it takes

  -- each name that a system comes after has a number
  none-lacking : (names : List Named) (early : List DraftEntry) → NamesOf names early → (after : List Name) → AllByRecursion (λ name. (bytes_eq name [] ≡ false) × (is_among name (names_in early) ≡ true)) after → lacks_one names after ≡ false
  none-lacking names early of [] follows = refl
  none-lacking names early of (name ∷ after) follows =
      ap (λ o. is_none o || lacks_one names after) (of name follows.0.0) ∙ ap (λ b. b || lacks_one names after) (named-some 0 early name follows.0.1) ∙ none-lacking names early of after follows.1

  -- the name of a system has none
  name-free : (names : List Named) (early later : List DraftEntry) (one : DraftSystem) → NamesOf names early → number_under names [] ≡ None → has_taken_name (systems_among (early ++ system one ∷ later)) ≡ false → number_under names one.name ≡ None
  name-free names early later one of empty own = by (bytes_eq one.name []) refl
    where
      by : (b : Bool) → bytes_eq one.name [] ≡ b → number_under names one.name ≡ None
      by true is = ap (number_under names) ((bytes_eq-Decides one.name []).0 is) ∙ empty
      by false is = of one.name is ∙ named-none 0 early later one is own

  -- nothing stands against a system of a document
  pub none-refused : {S : Type 0} (plain : S → PlainSystem) (entries early later : List DraftEntry) (one : DraftSystem) (building : Building S) → AreNamed entries → length entries ≤ 65536 → entries ≡ early ++ system one ∷ later
      → IsBuiltOf kinds same plain early building → refusal building one.name one.after ≡ None
  none-refused plain entries early later one building named few is built =
      let fit : AreFit [] (systems_among (early ++ system one ∷ later)) = subst (λ list. AreFit [] (systems_among list)) is (named-fit entries named) in
      let own : has_taken_name (systems_among (early ++ system one ∷ later)) ≡ false = ap (λ list. has_taken_name (systems_among list)) (sym is) ∙ named.own in
      let has : HasNames early building = built-has plain early building (fit-early [] early (system one ∷ later) fit) built in
      let follows : Follows (names_in early) one = (fit-later [] early (system one ∷ later) fit).1 in
      let long : length entries ≡ length early + suc (length later) = ap length is ∙ length-append early (system one ∷ later) in
      let most = count_by-le-length is_staged early in
      let size = has.size in
      let less : length building.staging.systems < 65536 = omega arith in
      ap (λ b. if b then Some NoSuchSystem else (if is_some (number_under building.names one.name) then Some NameTaken else (if nat_lt (length building.staging.systems) 65536 then None else Some SystemsFull)))
      (none-lacking building.names early has.names one.after follows)
      ∙ ap (λ o. if is_some o then Some NameTaken else (if nat_lt (length building.staging.systems) 65536 then None else Some SystemsFull)) (name-free building.names early later one has.names has.empty own)
      ∙ ap (λ b. if b then None else Some SystemsFull) (lt-ltb (length building.staging.systems) 65536 less)
