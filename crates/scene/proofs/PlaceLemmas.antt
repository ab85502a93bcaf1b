-- The places of a document's systems ascend, and each system of a frame stands at one of them.
use Rattle.std.proofs.Common.{◌≡◌, ◌<◌, ℕ, zero, suc, Bool, true, false, not, cond, eqb, ◌||◌, List, [], ◌∷◌, ◌++◌, map, Option, Some, None, refl, ap, sym, ◌∙◌, subst, arith, All, AllPairs}
use Rattle.std.specs.List.{filter_map, cons_option}
use Rattle.std.specs.Prelude.{slice_get, option_map}
use Rattle.std.specs.Global.{Vec}
use Rattle.std.proofs.lemmas.Bool.{eq-eqb, or_right}
use Rattle.std.proofs.lemmas.List.Elements.{All-nil, All-cons, All-head, All-tail, All-append, All-weaker}
use Rattle.std.proofs.lemmas.List.Kept.{AllPairs-cons}
use Rattle.scene_model.specs.declared.command.Command.{Command}
use Rattle.scene_model.specs.Parts.{Json, Name, Part}
use Rattle.scene_model.specs.Rulebook.{Book, Facts}
use Rattle.scene_model.specs.Scenes.{PlainSystem, IsDescribed, lives}
use Rattle.scene_model.specs.Lawful.{IsLawful}
use Rattle.scene_model.specs.Queues.{plain_commands}
use Rattle.scene_document.specs.declared.draft.EntryDraft.{EntryDraft}
use Rattle.scene_document.specs.declared.draft.EntryDraft.TheVariants as entry
use Rattle.scene_document.specs.declared.draft.MadeDraft.{MadeDraft}
use Rattle.scene_document.specs.declared.draft.CommandDraft.{CommandDraft}
use Rattle.scene_document.specs.DraftViews.{plain_draft, plain_system, plain_list, plain_asked, facts_of, seen, config_seen, IsMadeAs, IsOfBook, IsLawfulDraft}
use Rattle.scene_document.specs.Loading.{commands_at}
use Rattle.scene_document.proofs.CallerLemmas.{commands-plain, lists-lawful}
use Rattle.scene_document.specs.Drafts.{Draft, DraftEntry, DraftSystem, barrier, system}
use Rattle.scene_document.specs.Openings.{with_facts, systems_at, staged_list, all_systems, local_systems, staged_systems, frames_of, staged, same_resource, command_of, commands_in, commands_for}
use Rattle.scene_dispatch.proofs.CallerLemmas.{all-at}
use Rattle.shred_plan.specs.Plan.{order}

-- the places of systems
abbrev pub places_of : List PlainSystem → List ℕ
places_of systems = map (λ one. one.position) systems

-- the systems among entries stand above what is below the first of these
above-entries : (least place : ℕ) (entries : List DraftEntry) → least < place → All (λ one. least < one) (places_of (systems_at (λ one. true) place entries))
above-entries least place [] below = All-nil (λ one. least < one)
above-entries least place (barrier ∷ entries) below = above-entries least (suc place) entries (omega (arith, below))
above-entries least place (system one ∷ entries) below = by one.facts (above-entries least (suc place) entries (omega (arith, below)))
  where
    by : (facts : Option Facts) → All (λ other. least < other) (places_of (systems_at (λ other. true) (suc place) entries)) → All (λ other. least < other) (places_of (with_facts place one facts ++ systems_at (λ other. true) (suc place) entries))
    by None later = later
    by (Some facts) later = All-cons (λ other. least < other) place (places_of (systems_at (λ other. true) (suc place) entries)) below later

ascend-entries : (place : ℕ) (entries : List DraftEntry) → AllPairs (λ one other. one < other) (places_of (systems_at (λ one. true) place entries))
ascend-entries place [] = λ i j d before inside. absurd (omega (arith, inside))
ascend-entries place (barrier ∷ entries) = ascend-entries (suc place) entries
ascend-entries place (system one ∷ entries) = by one.facts (ascend-entries (suc place) entries) (above-entries place (suc place) entries (omega arith))
  where
    by : (facts : Option Facts) → AllPairs (λ first other. first < other) (places_of (systems_at (λ other. true) (suc place) entries)) → All (λ other. place < other) (places_of (systems_at (λ other. true) (suc place) entries))
        → AllPairs (λ first other. first < other) (places_of (with_facts place one facts ++ systems_at (λ other. true) (suc place) entries))
    by None later above = later
    by (Some facts) later above = AllPairs-cons (λ first other. first < other) place (places_of (systems_at (λ other. true) (suc place) entries)) above later

-- what holds of each that is found holds of all that are
all-found : {X Y : Type 0} (P : Y → Type 0) (f : X → Option Y) → ((x : X) (y : Y) → f x ≡ Some y → P y) → (xs : List X) → All P (filter_map f xs)
all-found {X} {Y} P f gives [] = All-nil P
all-found {X} {Y} P f gives (x ∷ xs) = by (f x) refl (all-found P f gives xs)
  where
    by : (o : Option Y) → f x ≡ o → All P (filter_map f xs) → All P (filter_map f (x ∷ xs))
    by None is later = subst (All P) (sym (ap (λ o. cons_option o (filter_map f xs)) is)) later
    by (Some y) is later = subst (All P) (sym (ap (λ o. cons_option o (filter_map f xs)) is)) (All-cons P y (filter_map f xs) (gives x y is) later)

-- the systems that pass a test are some of all
some-there : (test : DraftSystem → Bool) (place : ℕ) (entries : List DraftEntry) → All (λ one. lives one.position (places_of (systems_at (λ other. true) place entries)) ≡ true) (systems_at test place entries)
some-there test place [] = All-nil (λ one. lives one.position [] ≡ true)
some-there test place (barrier ∷ entries) = some-there test (suc place) entries
some-there test place (system one ∷ entries) = by (test one) one.facts (some-there test (suc place) entries)
  where
    rest : List PlainSystem
    rest = systems_at (λ other. true) (suc place) entries

    more : (facts : Option Facts) → All (λ other. lives other.position (places_of rest) ≡ true) (systems_at test (suc place) entries)
        → All (λ other. lives other.position (places_of (with_facts place one facts ++ rest)) ≡ true) (systems_at test (suc place) entries)
    more None later = later
    more (Some facts) later = All-weaker (λ other. lives other.position (places_of rest) ≡ true) (λ other. lives other.position (place ∷ places_of rest) ≡ true) (λ other is. or_right (eqb place other.position) (lives other.position (places_of rest)) is) (systems_at test (suc place) entries) later

    by : (b : Bool) (facts : Option Facts) → All (λ other. lives other.position (places_of rest) ≡ true) (systems_at test (suc place) entries)
        → All (λ other. lives other.position (places_of (with_facts place one facts ++ rest)) ≡ true) (cond b (with_facts place one facts) [] ++ systems_at test (suc place) entries)
    by false facts later = more facts later
    by true None later = later
    by true (Some facts) later = All-cons (λ other. lives other.position (place ∷ places_of rest) ≡ true) (record { position = place; kind = one.kind; config = one.config; access = facts.access }) (systems_at test (suc place) entries)
        (ap (λ b. b || lives place (places_of rest)) (eq-eqb place place refl)) (more (Some facts) later)

-- so it is with the systems of each frame
pub places-ascend : (draft : Draft) → AllPairs (λ one other. one < other) (places_of (all_systems draft))
places-ascend draft = ascend-entries 1 draft.entries

pub order-there : (draft : Draft) (frame : ℕ) → All (λ one. lives one.position (places_of (all_systems draft)) ≡ true) (frames_of draft frame).order
order-there draft frame =
    All-append (λ one. lives one.position (places_of (all_systems draft)) ≡ true) (staged_systems draft) (local_systems draft)
    (all-found (λ one. lives one.position (places_of (all_systems draft)) ≡ true) (λ number. slice_get (staged_list 1 draft.entries) number)
    (all-at (λ one. lives one.position (places_of (all_systems draft)) ≡ true) (staged_list 1 draft.entries) (some-there (λ one. not one.local) 1 draft.entries)) (order same_resource (staged draft.entries 0 draft.entries)))
    (some-there (λ one. one.local) 1 draft.entries)

-- the systems of entries that the rules made are ones that they describe
described-entries : {S : Type 0} (kind_of : S → Name) (config_of : S → Json) (book : Book) (test : DraftSystem → Bool) (place : ℕ) (entries : List (EntryDraft S)) → All (IsOfBook kind_of config_of book) entries → All (IsDescribed book) (systems_at test place (map plain_draft entries))
described-entries {S = S} kind_of config_of book test place [] all = All-nil (IsDescribed book)
described-entries {S = S} kind_of config_of book test place (entry.Barrier ∷ entries) all = described-entries kind_of config_of book test (suc place) entries (All-tail (IsOfBook kind_of config_of book) entry.Barrier entries all)
described-entries {S = S} kind_of config_of book test place (entry.System draft ∷ entries) all =
    by (test (plain_system draft)) draft.made (All-head (IsOfBook kind_of config_of book) (entry.System draft) entries all) (described-entries kind_of config_of book test (suc place) entries (All-tail (IsOfBook kind_of config_of book) (entry.System draft) entries all))
  where
    by : (b : Bool) (made : Option (MadeDraft S)) → IsMadeAs kind_of config_of book draft.kind.now (config_seen (seen draft.config)) made → All (IsDescribed book) (systems_at test (suc place) (map plain_draft entries))
        → All (IsDescribed book) (cond b (with_facts place (plain_system draft) (option_map facts_of made)) [] ++ systems_at test (suc place) (map plain_draft entries))
    by false made is later = later
    by true None is later = later
    by true (Some made) is later = All-cons (IsDescribed book) (record { position = place; kind = draft.kind.now; config = config_seen (seen draft.config); access = (facts_of made).access }) (systems_at test (suc place) (map plain_draft entries)) (facts_of made, is.known, refl) later

pub order-described : {S : Type 0} (kind_of : S → Name) (config_of : S → Json) (book : Book) (draft : Draft) (entries : List (EntryDraft S)) (frame : ℕ) → draft.entries ≡ map plain_draft entries → All (IsOfBook kind_of config_of book) entries → All (IsDescribed book) (frames_of draft frame).order
order-described kind_of config_of book draft entries frame are made =
    let those : (test : DraftSystem → Bool) → All (IsDescribed book) (systems_at test 1 draft.entries) = λ test. subst (λ list. All (IsDescribed book) (systems_at test 1 list)) (sym are) (described-entries kind_of config_of book test 1 entries made) in
    All-append (IsDescribed book) (staged_systems draft) (local_systems draft)
    (all-found (IsDescribed book) (λ number. slice_get (staged_list 1 draft.entries) number) (all-at (IsDescribed book) (staged_list 1 draft.entries) (those (λ one. not one.local))) (order same_resource (staged draft.entries 0 draft.entries)))
    (those (λ one. one.local))

-- the commands of a document for a frame are those that were made of its lists
pub frame-commands : {D : Type 0} (part_of : D → Part) (draft : Draft) (lists : List (Vec (CommandDraft D))) (commands : List (Vec (Command D))) → draft.commands ≡ map (plain_list part_of) lists
    → map (λ list. plain_commands part_of list.items) commands ≡ map (λ list. filter_map command_of (plain_list part_of list)) lists → (frame : ℕ) → commands_for draft frame ≡ commands_at part_of commands frame
frame-commands part_of draft lists commands are made zero = refl
frame-commands part_of draft lists commands are made (suc place) = ap (λ all. commands_in (slice_get all place)) are ∙ commands-plain part_of lists commands made place

pub frame-lawful : {D : Type 0} (part_of : D → Part) (book : Book) (lists : List (Vec (CommandDraft D))) (commands : List (Vec (Command D))) → All (λ list. All (λ one. IsLawfulDraft book (plain_asked part_of one)) list.items) lists
    → map (λ list. plain_commands part_of list.items) commands ≡ map (λ list. filter_map command_of (plain_list part_of list)) lists → (frame : ℕ) → All (IsLawful book) (commands_at part_of commands frame)
frame-lawful part_of book lists commands lawful made zero = All-nil (IsLawful book)
frame-lawful part_of book lists commands lawful made (suc place) = subst (All (IsLawful book)) (commands-plain part_of lists commands made place) (lists-lawful part_of book lists lawful place)
