-- What a builder that is asked for the systems of entries tells the planner, and which systems it has then.
use Rattle.std.proofs.Common.{◌≡◌, ℕ, suc, ◌+◌, Bool, true, false, not, List, [], ◌∷◌, ◌++◌, length, map, Option, Some, None, refl, ap, sym, ◌∙◌, subst, append_assoc, append-nil, arith}
use Rattle.std.specs.Prelude.{if◌then◌else◌}
use Rattle.std.specs.List.{filter_map}
use Rattle.std.proofs.lemmas.List.{map-append, length_push}
use Rattle.shred_world.specs.declared.resource_id.ResourceId.{ResourceId}
use Rattle.shred_plan.specs.Plan.{fence, placing}
use Rattle.scene_model.specs.Rulebook.{Facts}
use Rattle.scene_model.specs.Scenes.{PlainSystem}
use Rattle.scene_document.specs.Drafts.{DraftEntry, barrier, system}
use Rattle.scene_world.specs.Standing.{Kinds}
use Rattle.shred.specs.Names.{numbers_under, with_name}
use Rattle.shred.specs.Building.{Building, Declared, nothing_built}
use Rattle.shred.specs.Histories.{Asked, with_asked, built_from, told}
use Rattle.shred.specs.Histories as asked
use Rattle.scene_document.specs.Openings.{with_facts, is_staged, is_staged_as, number_named, next_number, staged_list}
use Rattle.scene_dispatch.specs.Entries.{systems_among, AreNamed}
use Rattle.scene_dispatch.specs.Told.{declared_of, told_at, told_from, told_entries}
use Rattle.scene_dispatch.specs.Asked.{asked_at, asked_entries, asked_as}
use Rattle.scene_dispatch.proofs.NumberLemmas.{staged_count, next-counted, further}
use Rattle.scene_dispatch.proofs.EarlierLemmas.{NamesOf, names_in, names-barrier, names-system, names-after-barrier, names-after-unstaged, names-after-staged, numbers-told}
use Rattle.scene_dispatch.proofs.NameLemmas.{AreFit, named-fit, unstaged-unnamed}

-- the systems that are asked for
abbrev systems_asked : {S : Type 0} → List (Asked S) → List S
systems_asked [] = []
systems_asked (asked.system one declared name after ∷ list) = one ∷ systems_asked list
systems_asked (asked.barrier ∷ list) = systems_asked list

-- those of one list and then of another
asked-append : {S : Type 0} (list others : List (Asked S)) → systems_asked (list ++ others) ≡ systems_asked list ++ systems_asked others
asked-append [] others = refl
asked-append (asked.barrier ∷ list) others = asked-append list others
asked-append (asked.system one declared name after ∷ list) others = ap (λ systems. one ∷ systems) (asked-append list others)

module _ (same : ResourceId → ResourceId → Bool) where
  -- what is told hangs on the names and on how many systems there are
  told-as : {S T : Type 0} (plain : S → T) (list : List (Asked S)) (building : Building S) (other : Building T) → building.names ≡ other.names → length building.staging.systems ≡ length other.staging.systems
      → told same building list ≡ told same other (map (asked_as plain) list)
  told-as plain [] building other names size = refl
  told-as plain (asked.barrier ∷ list) building other names size = ap (λ later. fence ∷ later) (told-as plain list (with_asked same building asked.barrier) (with_asked same other asked.barrier) names size)
  told-as plain (asked.system one declared name after ∷ list) building other names size =
      ap (λ n. placing (record { number = n; reads = declared.reads; writes = declared.writes; after = numbers_under building.names after; time = declared.time }) ∷ told same (with_asked same building (asked.system one declared name after)) list) size
      ∙ ap (λ known. placing (record { number = length other.staging.systems; reads = declared.reads; writes = declared.writes; after = numbers_under known after; time = declared.time })
      ∷ told same (with_asked same building (asked.system one declared name after)) list) names
      ∙ ap (λ later. placing (record { number = length other.staging.systems; reads = declared.reads; writes = declared.writes; after = numbers_under other.names after; time = declared.time }) ∷ later)
      (told-as plain list (with_asked same building (asked.system one declared name after)) (with_asked same other (asked.system (plain one) declared name after))
      (ap (λ known. with_name known name (length building.staging.systems)) names ∙ ap (with_name other.names name) size)
      (length_push building.staging.systems one ∙ ap (λ n. n + 1) size ∙ sym (length_push other.staging.systems (plain one))))

  -- a builder has the systems that it is asked for
  built-systems : {S T : Type 0} (plain : S → T) (list : List (Asked S)) (building : Building S) → map plain (built_from same building list).staging.systems ≡ map plain building.staging.systems ++ systems_asked (map (asked_as plain) list)
  built-systems plain [] building = sym (append-nil (map plain building.staging.systems))
  built-systems plain (asked.barrier ∷ list) building = built-systems plain list (with_asked same building asked.barrier)
  built-systems plain (asked.system one declared name after ∷ list) building =
      built-systems plain list (with_asked same building (asked.system one declared name after))
      ∙ ap (λ systems. systems ++ systems_asked (map (asked_as plain) list)) (map-append plain building.staging.systems (one ∷ []))
      ∙ append_assoc (map plain building.staging.systems) (plain one ∷ []) (systems_asked (map (asked_as plain) list))

module _ {V : Type 0} (kinds : Kinds V) (same : ResourceId → ResourceId → Bool) where
  -- a builder with the names of some entries is asked for the others
  entries-told : (all early later : List DraftEntry) (place number : ℕ) → all ≡ early ++ later → number ≡ staged_count early → AreFit (names_in early) (systems_among later)
      → (building : Building PlainSystem) → length building.staging.systems ≡ number → NamesOf building.names early
      → told same building (asked_entries kinds place later) ≡ told_from kinds all number place later
  entries-told all early [] place number is counted fit building size of = refl
  entries-told all early (barrier ∷ later) place number is counted fit building size of =
      ap (λ list. fence ∷ list)
      (entries-told all (early ++ barrier ∷ []) later (suc place) number (further all early barrier later is) (next-counted early barrier number counted)
      (subst (λ names. AreFit names (systems_among later)) (sym (names-barrier early)) fit) (with_asked same building asked.barrier) size (names-after-barrier building.names early of))
  entries-told all early (system one ∷ later) place number is counted fit building size of =
      by one.local refl one.facts refl
      (entries-told all (early ++ system one ∷ []) later (suc place) (next_number number (system one)) (further all early (system one) later is)
      (next-counted early (system one) number counted) (subst (λ names. AreFit names (systems_among later)) (sym (names-system early one)) fit.2))
    where
      unstaged : is_staged (system one) ≡ false
          → ((building : Building PlainSystem) → length building.staging.systems ≡ next_number number (system one) → NamesOf building.names (early ++ system one ∷ [])
          → told same building (asked_entries kinds (suc place) later) ≡ told_from kinds all (next_number number (system one)) (suc place) later)
          → told same building (asked_entries kinds (suc place) later) ≡ told_from kinds all (next_number number (system one)) (suc place) later
      unstaged none rest = rest building (size ∙ sym (ap (λ b. if b then suc number else number) none)) (names-after-unstaged building.names early one (unstaged-unnamed one fit.0 none) of)

      by : (local : Bool) → one.local ≡ local → (facts : Option Facts) → one.facts ≡ facts
          → ((building : Building PlainSystem) → length building.staging.systems ≡ next_number number (system one) → NamesOf building.names (early ++ system one ∷ [])
          → told same building (asked_entries kinds (suc place) later) ≡ told_from kinds all (next_number number (system one)) (suc place) later)
          → told same building (asked_at kinds place one local facts ++ asked_entries kinds (suc place) later) ≡ told_at kinds all number place one local facts ++ told_from kinds all (next_number number (system one)) (suc place) later
      by local e None there rest = unstaged (ap (is_staged_as one.local) there) rest
      by true e (Some facts) there rest = unstaged (ap (is_staged_as one.local) there ∙ ap not e) rest
      by false e (Some facts) there rest =
          let plain : PlainSystem = record { position = place; kind = one.kind; config = one.config; access = facts.access } in
          let declared : Declared = declared_of kinds place facts in
          let after : Building PlainSystem = with_asked same building (asked.system plain declared one.name one.after) in
          let staged : is_staged (system one) ≡ true = ap (is_staged_as one.local) there ∙ ap not e in
          let more : length after.staging.systems ≡ next_number number (system one) =
          length_push building.staging.systems plain ∙ ap (λ n. n + 1) size ∙ omega arith ∙ sym (ap (λ b. if b then suc number else number) staged) in
          ap (λ n. placing (record { number = n; reads = declared.reads; writes = declared.writes; after = numbers_under building.names one.after; time = facts.time }) ∷ told same after (asked_entries kinds (suc place) later)) size
          ∙ ap (λ numbers. placing (record { number = number; reads = declared.reads; writes = declared.writes; after = numbers; time = facts.time }) ∷ told same after (asked_entries kinds (suc place) later))
          (numbers-told building.names all early (system one ∷ later) is of one.after fit.1)
          ∙ ap (λ list. placing (record { number = number; reads = declared.reads; writes = declared.writes; after = filter_map (number_named 0 all) one.after; time = facts.time }) ∷ list)
          (rest after more (names-after-staged building.names early one (length building.staging.systems) (size ∙ counted) of))

  -- one that has nothing yet, for all of them
  all-told : (entries : List DraftEntry) → AreNamed entries → told same nothing_built (asked_entries kinds 1 entries) ≡ told_entries kinds entries
  all-told entries named = entries-told entries [] entries 1 0 refl refl (named-fit entries named) nothing_built refl (λ name filled. refl)

  -- a builder that is asked for what entries say tells the planner so
  pub builder-told : {S : Type 0} (plain : S → PlainSystem) (list : List (Asked S)) (entries : List DraftEntry) → AreNamed entries → map (asked_as plain) list ≡ asked_entries kinds 1 entries
      → told same nothing_built list ≡ told_entries kinds entries
  builder-told plain list entries named asks = told-as same plain list nothing_built nothing_built refl refl ∙ ap (told same nothing_built) asks ∙ all-told entries named

  -- those of entries are the staged ones
  staged-asked : (place : ℕ) (entries : List DraftEntry) → systems_asked (asked_entries kinds place entries) ≡ staged_list place entries
  staged-asked place [] = refl
  staged-asked place (barrier ∷ entries) = staged-asked (suc place) entries
  staged-asked place (system one ∷ entries) =
      asked-append (asked_at kinds place one one.local one.facts) (asked_entries kinds (suc place) entries)
      ∙ ap (λ systems. systems ++ systems_asked (asked_entries kinds (suc place) entries)) (by one.local one.facts)
      ∙ ap (λ systems. (if not one.local then with_facts place one one.facts else []) ++ systems) (staged-asked (suc place) entries)
    where
      by : (local : Bool) (facts : Option Facts) → systems_asked (asked_at kinds place one local facts) ≡ (if not local then with_facts place one facts else [])
      by true None = refl
      by true (Some facts) = refl
      by false None = refl
      by false (Some facts) = refl

  -- the systems of a builder that is asked for what entries say are the staged ones
  pub builder-systems : {S : Type 0} (plain : S → PlainSystem) (list : List (Asked S)) (entries : List DraftEntry) → map (asked_as plain) list ≡ asked_entries kinds 1 entries
      → map plain (built_from same nothing_built list).staging.systems ≡ staged_list 1 entries
  builder-systems plain list entries asks = built-systems same plain list nothing_built ∙ ap systems_asked asks ∙ staged-asked 1 entries
