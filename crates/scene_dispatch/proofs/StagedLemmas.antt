-- Lemmas on builders that have the systems of entries.
use Rattle.std.proofs.Common.{◌≡◌, ◌≤◌, ℕ, suc, Bool, true, false, List, [], ◌∷◌, ◌++◌, map, length, option_map, Some, ap, sym, subst, ◌∙◌}
use Rattle.std.specs.List.{All, filter_map}
use Rattle.std.proofs.lemmas.List.Elements.{All-nil, All-cons, All-head, All-tail, All-push}
use Rattle.shred_world.specs.declared.resource_id.ResourceId.{ResourceId}
use Rattle.shred_world.specs.ResourceIds.{same_id}
use Rattle.shred_world.specs.contracts.resource_id.ResourceIdPartialEq.TheImpl.{ghosts}
use Rattle.shred.specs.Building.{Declared, nothing_built, built_with, fenced}
use Rattle.shred.specs.Dispatchers.{Drafting, with_building, dispatcher_of}
use Rattle.scene_model.specs.Parts.{Json, Name}
use Rattle.scene_model.specs.Declaring.{texts}
use Rattle.scene_model.specs.Laws.{DeclaresKnown}
use Rattle.scene_model.specs.Rulebook.{Access, Book, Facts, Fragment, Outcome}
use Rattle.scene_model.specs.Rulebook as said
use Rattle.scene_model.specs.Scenes.{PlainSystem}
use Rattle.scene_document.specs.declared.draft.EntryDraft.{EntryDraft}
use Rattle.scene_document.specs.declared.draft.EntryDraft.TheVariants as entry
use Rattle.scene_document.specs.declared.draft.SystemDraft.{SystemDraft}
use Rattle.scene_document.specs.declared.draft.MadeDraft.{MadeDraft}
use Rattle.scene_document.specs.Drafts.{Draft, DraftEntry, DraftSystem, barrier, system, system_of_entry}
use Rattle.scene_document.specs.DraftViews.{seen, config_seen, facts_of, plain_draft, IsMadeAs, IsMadeOf, IsMadeBy, IsMadeIfKnown, EntryIsMade, AreMade}
use Rattle.scene_document.specs.DraftViews.{plain_system as plain_of_draft, IsOfBook as IsSaidBy}
use Rattle.scene_document.specs.Openings.{staged_list, frames_of}
use Rattle.scene_world.specs.Standing.{Kinds}
use Rattle.scene_world.specs.Lent.{StandApart, id_of_place, read_places, written_places}
use Rattle.scene_world.specs.Turns.{Meaning, Sense, meaning_of, placed_as, IsOfBook}
use Rattle.scene_world.specs.Chains.{plan_order}
use Rattle.scene_dispatch.specs.Entries.{plain_system, meant_at, AreNamed}
use Rattle.scene_dispatch.specs.Told.{FactsKnown, AllKnown, declared_of}
use Rattle.scene_dispatch.proofs.StepLemmas.{none-drafted, barrier-drafted, system-drafted, local-drafted}
use Rattle.scene_dispatch.proofs.DocumentLemmas.{document-named, document-few, document-described}
use Rattle.scene_dispatch.proofs.KnownLemmas.{declares-known, all-known}
use Rattle.scene_dispatch.proofs.SameLemmas.{same-ids}
use Rattle.scene_dispatch.proofs.BuiltLemmas.{built-systems, built-order}
use Rattle.scene_dispatch.specs.Asked.{IsDraftedOf}
use Rattle.scene_dispatch.specs.Orders.{plain_at, turn_order}
use Rattle.scene_dispatch.specs.Staged.{AreOfDocument, IsKnownEntry, IsFit, HasSystems}

-- what each system among entries declares stands in a world, of each entry
first-known : {V : Type 0} (kinds : Kinds V) (one : DraftEntry) (others : List DraftEntry) → AllKnown kinds (one ∷ others) → IsKnownEntry kinds one
first-known kinds barrier others known = tt
first-known kinds (system one) others known = All-head (λ one. FactsKnown kinds one.facts) one (filter_map system_of_entry others) known

others-known : {V : Type 0} (kinds : Kinds V) (one : DraftEntry) (others : List DraftEntry) → AllKnown kinds (one ∷ others) → AllKnown kinds others
others-known kinds barrier others known = known
others-known kinds (system one) others known = All-tail (λ one. FactsKnown kinds one.facts) one (filter_map system_of_entry others) known

module _ {V S : Type 0} (kinds : Kinds V) (kind_of : S → Name) (config_of : S → Json) (declared : S → Access) (said_time : S → ℕ) (made_by : S → Type 0) (book : Book) where
  -- each entry is fit
  pub all-fit : (entries : List (EntryDraft S)) → All (IsSaidBy kind_of config_of book) entries → AreMade declared said_time made_by entries → AllKnown kinds (map plain_draft entries)
      → All (IsFit kinds kind_of config_of declared said_time made_by book) entries
  all-fit [] said made known = All-nil (IsFit kinds kind_of config_of declared said_time made_by book)
  all-fit (one ∷ others) said made known =
      All-cons (IsFit kinds kind_of config_of declared said_time made_by book) one others
      (record {
        said = All-head (IsSaidBy kind_of config_of book) one others said;
        made = All-head (EntryIsMade declared said_time made_by) one others made;
        known = first-known kinds (plain_draft one) (map plain_draft others) known;
      })
      (all-fit others (All-tail (IsSaidBy kind_of config_of book) one others said) (All-tail (EntryIsMade declared said_time made_by) one others made) (others-known kinds (plain_draft one) (map plain_draft others) known))

  module _ (draft : SystemDraft S) (made : MadeDraft S) (is : draft.made ≡ Some made) (fit : IsFit kinds kind_of config_of declared said_time made_by book (entry.System draft)) where
    -- what the rules say of a made system
    said-of : IsMadeOf kind_of config_of book draft.kind.now (config_seen (seen draft.config)) made
    said-of = subst (IsMadeAs kind_of config_of book draft.kind.now (config_seen (seen draft.config))) is fit.said

    -- what it says of itself
    pub made-of : IsMadeBy declared said_time made_by made
    made-of = subst (IsMadeIfKnown declared said_time made_by) is fit.made

    pub facts-there : (plain_of_draft draft).facts ≡ Some (facts_of made)
    facts-there = ap (option_map facts_of) is

    -- at a place it is the system of its entry
    pub made-plain : {P : Type 0} (position : P → ℕ) (held : P → S) (sense : S → Sense) (does : S → Fragment → Outcome → Type 0) (taken : P) (place : ℕ) → position taken ≡ place → held taken ≡ made.system
        → (placed_as position held kind_of config_of declared sense does).plain taken ≡ plain_system place (plain_of_draft draft) (facts_of made)
    made-plain position held sense does taken place at holds =
        let kind : kind_of (held taken) ≡ draft.kind.now = ap kind_of holds ∙ said-of.of_kind in
        let config : config_of (held taken) ≡ config_seen (seen draft.config) = ap config_of holds ∙ said-of.with_config in
        let access : declared (held taken) ≡ (facts_of made).access = ap declared holds ∙ made-of.access in
        cc

    -- and declares what its entry does
    pub made-declares : (place : ℕ) → record { reads = map (id_of_place kinds) (read_places (declared made.system)); writes = map (id_of_place kinds) (written_places (declared made.system) place); time = said_time made.system } ≡ declared_of kinds place (facts_of made)
    made-declares place =
        ap (λ (access : Access). record { reads = map (id_of_place kinds) (read_places access); writes = map (id_of_place kinds) (written_places access place); time = said_time made.system }) made-of.access
        ∙ ap (λ (time : ℕ). record { reads = map (id_of_place kinds) (read_places (facts_of made).access); writes = map (id_of_place kinds) (written_places (facts_of made).access place); time = time }) made-of.time

-- a system that holds one of some rules is of them
pub placed-of-book : {P S : Type 0} (position : P → ℕ) (held : P → S) (kind_of : S → Name) (config_of : S → Json) (declared : S → Access) (sense : S → Sense) (does : S → Fragment → Outcome → Type 0) (book : Book) (taken : P)
    → IsOfBook (meaning_of 0 kind_of config_of declared sense does) book (held taken) → IsOfBook (placed_as position held kind_of config_of declared sense does) book taken
placed-of-book position held kind_of config_of declared sense does book taken of_book = record { is = of_book.is; sense_so = of_book.sense_so; does_so = of_book.does_so }

module _ {V P : Type 0} (kinds : Kinds V) (same : ResourceId → ResourceId → Bool) (meaning : Meaning P) (book : Book) where
  -- an empty builder has the systems of no entries
  pub none-has : (workers : ℕ) → HasSystems kinds same meaning book [] (record { building = nothing_built; locals = []; workers = workers })
  none-has workers = record { drafted = none-drafted kinds same meaning.plain meaning.plain workers; staged = All-nil (IsOfBook meaning book); locals = All-nil (IsOfBook meaning book) }

  module _ (early : List DraftEntry) (old new : Drafting P P) (has : HasSystems kinds same meaning book early old) where
    -- with a barrier
    pub barrier-has : new ≡ with_building old (record { staging = fenced same old.building.staging; names = old.building.names }) → HasSystems kinds same meaning book (early ++ barrier ∷ []) new
    barrier-has is = subst (HasSystems kinds same meaning book (early ++ barrier ∷ [])) (sym is) (record { drafted = barrier-drafted kinds same meaning.plain meaning.plain early old has.drafted; staged = has.staged; locals = has.locals })

    module _ (one : DraftSystem) (facts : Facts) (taken : P) (known : one.facts ≡ Some facts) (means : meaning.plain taken ≡ plain_system (suc (length early)) one facts) (own : IsOfBook meaning book taken) where
      -- with a staged system
      pub staged-has : (declared : Declared) (name : Name) (after : List Name) → one.local ≡ false → declared ≡ declared_of kinds (suc (length early)) facts → name ≡ one.name → after ≡ one.after
          → new ≡ with_building old (built_with same old.building taken declared name after) → HasSystems kinds same meaning book (early ++ system one ∷ []) new
      staged-has declared name after staged declares called follows is =
          subst (HasSystems kinds same meaning book (early ++ system one ∷ [])) (sym is)
          (record {
            drafted = system-drafted kinds same meaning.plain meaning.plain early old one facts taken declared name after has.drafted staged known means declares called follows;
            staged = All-push (IsOfBook meaning book) old.building.staging.systems taken has.staged own;
            locals = has.locals;
          })

      -- with a local one
      pub local-has : one.local ≡ true → new ≡ record { building = old.building; locals = old.locals ++ taken ∷ []; workers = old.workers } → HasSystems kinds same meaning book (early ++ system one ∷ []) new
      local-has local is =
          subst (HasSystems kinds same meaning book (early ++ system one ∷ [])) (sym is)
          (record {
            drafted = local-drafted kinds same meaning.plain meaning.plain early old one facts taken has.drafted local known means;
            staged = has.staged;
            locals = All-push (IsOfBook meaning book) old.locals taken has.locals own;
          })

module _ {V P S : Type 0} (kinds : Kinds V) (same : ResourceId → ResourceId → Bool) (position : P → ℕ) (held : P → S) (kind_of : S → Name) (config_of : S → Json) (declared : S → Access) (said_time : S → ℕ) (made_by : S → Type 0) (sense : S → Sense)
    (does : S → Fragment → Outcome → Type 0) (book : Book) (of_book : (system : S) → made_by system → IsOfBook (meaning_of 0 kind_of config_of declared sense does) book system) where
  -- what is meant of what holds a system at its position
  abbrev pub placed : Meaning P
  placed = placed_as position held kind_of config_of declared sense does

  -- a barrier more
  pub barrier-on : (one : EntryDraft S) → one ≡ entry.Barrier → (early : List DraftEntry) (old new : Drafting P P) → new ≡ with_building old (record { staging = fenced same old.building.staging; names = old.building.names })
      → HasSystems kinds same placed book early old → HasSystems kinds same placed book (early ++ plain_draft one ∷ []) new
  barrier-on one is early old new then has = subst (λ e. HasSystems kinds same placed book (early ++ plain_draft e ∷ []) new) (sym is) (barrier-has kinds same placed book early old new has then)

  module _ (one : EntryDraft S) (fit : IsFit kinds kind_of config_of declared said_time made_by book one) (draft : SystemDraft S) (made : MadeDraft S) (is : one ≡ entry.System draft) (there : draft.made ≡ Some made) where
    fit-draft : IsFit kinds kind_of config_of declared said_time made_by book (entry.System draft)
    fit-draft = subst (IsFit kinds kind_of config_of declared said_time made_by book) is fit

    module _ (taken : P) (place : ℕ) (at : position taken ≡ place) (holds : held taken ≡ made.system) (early : List DraftEntry) (next : place ≡ suc (length early)) (old new : Drafting P P) (has : HasSystems kinds same placed book early old) where
      plain-taken : placed.plain taken ≡ plain_system (suc (length early)) (plain_of_draft draft) (facts_of made)
      plain-taken = made-plain kinds kind_of config_of declared said_time made_by book draft made there fit-draft position held sense does taken (suc (length early)) (at ∙ next) holds

      own-taken : IsOfBook placed book taken
      own-taken =
          placed-of-book position held kind_of config_of declared sense does book taken
          (subst (IsOfBook (meaning_of 0 kind_of config_of declared sense does) book) (sym holds) (of_book made.system (made-of kinds kind_of config_of declared said_time made_by book draft made there fit-draft).made_so))

      -- a staged system more
      pub staged-on : (name : Name) (after : List Name) → draft.local ≡ false → name ≡ draft.name.now → after ≡ texts draft.after.items
          → new ≡ with_building old (built_with same old.building taken (record { reads = map (id_of_place kinds) (read_places (declared made.system)); writes = map (id_of_place kinds) (written_places (declared made.system) place); time = said_time made.system }) name after)
          → HasSystems kinds same placed book (early ++ plain_draft one ∷ []) new
      staged-on name after staged called follows then =
          subst (λ e. HasSystems kinds same placed book (early ++ plain_draft e ∷ []) new) (sym is)
          (staged-has kinds same placed book early old new has (plain_of_draft draft) (facts_of made) taken (facts-there kinds kind_of config_of declared said_time made_by book draft made there fit-draft) plain-taken own-taken _ name after staged
          (made-declares kinds kind_of config_of declared said_time made_by book draft made there fit-draft place ∙ ap (λ at. declared_of kinds at (facts_of made)) next) called follows then)

      -- a local one more
      pub local-on : draft.local ≡ true → new ≡ record { building = old.building; locals = old.locals ++ taken ∷ []; workers = old.workers } → HasSystems kinds same placed book (early ++ plain_draft one ∷ []) new
      local-on local then =
          subst (λ e. HasSystems kinds same placed book (early ++ plain_draft e ∷ []) new) (sym is)
          (local-has kinds same placed book early old new has (plain_of_draft draft) (facts_of made) taken (facts-there kinds kind_of config_of declared said_time made_by book draft made there fit-draft) plain-taken own-taken local then)

-- the order of turns is that of the plan, by what is meant of each number, and then the local ones
pub order-meant : {P : Type 0} (plain : P → PlainSystem) (entries : List DraftEntry) (drafting : Drafting P P) → map plain (dispatcher_of drafting).staging.systems ≡ staged_list 1 entries
    → turn_order plain (dispatcher_of drafting) ≡ plan_order (meant_at entries) (dispatcher_of drafting).staging.planning.stages ++ map plain (dispatcher_of drafting).locals
order-meant plain entries drafting is = ap (λ systems. plan_order (plain_at systems) (dispatcher_of drafting).staging.planning.stages ++ map plain (dispatcher_of drafting).locals) is

-- ---- a document

module _ (book : Book) (entries : List DraftEntry) (document : AreOfDocument book entries) where
  -- its entries are named, and few
  pub entries-named : AreNamed entries
  entries-named = subst AreNamed document.its (document-named book document.indices document.json document.document document.is)

  pub entries-few : length entries ≤ 4096
  entries-few = subst (λ list. length list ≤ 4096) document.its (document-few book document.indices document.json document.document document.is)

  -- and what their systems declare stands in a world
  pub entries-known : {V : Type 0} (kinds : Kinds V) → kinds.part_names ≡ book.part_names → kinds.global_names ≡ book.global_names
      → ((kind : Name) (config : Json) (facts : Facts) → book.system kind config ≡ said.known facts → DeclaresKnown book facts.access) → AllKnown kinds entries
  entries-known kinds parts globals declares =
      subst (AllKnown kinds) document.its
      (all-known kinds book (λ kind config facts says. declares-known kinds book parts globals facts.access (declares kind config facts says)) document.document.entries
      (document-described book document.indices document.json document.document document.is))

-- the dispatcher of a builder that has the systems of entries runs them in the order of each document of these
pub document-order : {V P : Type 0} (kinds : Kinds V) (plain : P → PlainSystem) (apart : StandApart kinds) (entries : List DraftEntry) (drafting : Drafting P P) → AllKnown kinds entries → AreNamed entries → IsDraftedOf kinds ghosts.eq plain plain entries drafting
    → (draft : Draft) (frame : ℕ) → draft.entries ≡ entries → turn_order plain (dispatcher_of drafting) ≡ (frames_of draft frame).order
document-order kinds plain apart entries drafting stands named is draft frame its =
    let drafted : IsDraftedOf kinds same_id plain plain draft.entries drafting = subst (λ list. IsDraftedOf kinds same_id plain plain list drafting) (sym its) (subst (λ same. IsDraftedOf kinds same plain plain entries drafting) same-ids is) in
    order-meant plain draft.entries drafting (built-systems kinds plain same_id draft.entries drafting.building drafted.building)
    ∙ built-order kinds plain plain apart draft (subst (AllKnown kinds) (sym its) stands) (subst AreNamed (sym its) named) drafting drafted frame
