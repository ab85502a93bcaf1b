-- A builder that is asked for entries, one more at a time.
use Rattle.std.proofs.Common.{◌≡◌, ℕ, suc, ◌+◌, Bool, true, false, List, [], ◌∷◌, ◌++◌, length, Option, Some, None, refl, ap, sym, ◌∙◌, append_assoc, append-nil, arith, subst₂}
use Rattle.std.specs.Prelude.{if◌then◌else◌}
use Rattle.std.proofs.lemmas.List.{map-append}
use Rattle.shred_world.specs.declared.resource_id.ResourceId.{ResourceId}
use Rattle.scene_model.specs.Parts.{Name}
use Rattle.scene_model.specs.Rulebook.{Facts}
use Rattle.scene_model.specs.Scenes.{PlainSystem}
use Rattle.scene_document.specs.Drafts.{DraftEntry, DraftSystem, barrier, system}
use Rattle.scene_document.specs.Openings.{with_facts, is_staged, is_staged_as, local_list}
use Rattle.scene_world.specs.Standing.{Kinds}
use Rattle.shred.specs.Building.{Building, Declared, nothing_built, built_with, fenced}
use Rattle.shred.specs.Dispatchers.{Drafting, with_building}
use Rattle.shred.specs.Histories.{Asked, with_asked, built_from}
use Rattle.shred.specs.Histories as asked
use Rattle.scene_dispatch.specs.Entries.{plain_system}
use Rattle.scene_dispatch.specs.Told.{declared_of}
use Rattle.scene_dispatch.specs.Asked.{asked_at, asked_entries, asked_as, IsBuiltOf, IsDraftedOf}
use Rattle.scene_dispatch.proofs.FoundLemmas.{systems-append}

-- a builder once one thing after others is done
built-more : {S : Type 0} (same : ResourceId → ResourceId → Bool) (list : List (Asked S)) (one : Asked S) (building : Building S) → built_from same building (list ++ one ∷ []) ≡ with_asked same (built_from same building list) one
built-more same [] one building = refl
built-more same (first ∷ list) one building = built-more same list one (with_asked same building first)

module _ {V : Type 0} (kinds : Kinds V) where
  -- what is asked for entries, and then for later ones
  asked-append : (place end : ℕ) (early later : List DraftEntry) → end ≡ place + length early → asked_entries kinds place (early ++ later) ≡ asked_entries kinds place early ++ asked_entries kinds end later
  asked-append place end [] later at = let e : place ≡ end = omega arith in ap (λ p. asked_entries kinds p later) e
  asked-append place end (barrier ∷ early) later at = ap (λ list. asked.barrier ∷ list) (asked-append (suc place) end early later (omega arith))
  asked-append place end (system one ∷ early) later at =
      ap (λ list. asked_at kinds place one one.local one.facts ++ list) (asked-append (suc place) end early later (omega arith))
      ∙ sym (append_assoc (asked_at kinds place one one.local one.facts) (asked_entries kinds (suc place) early) (asked_entries kinds end later))

  -- what is asked for entries, and then for one more
  asked-more : (early : List DraftEntry) (entry : DraftEntry) → asked_entries kinds 1 (early ++ entry ∷ []) ≡ asked_entries kinds 1 early ++ asked_entries kinds (suc (length early)) (entry ∷ [])
  asked-more early entry = asked-append 1 (suc (length early)) early (entry ∷ []) (omega arith)

  module _ {S : Type 0} (same : ResourceId → ResourceId → Bool) (plain : S → PlainSystem) where
    -- a builder that has nothing is asked for no entries
    none-asked : IsBuiltOf kinds same plain [] nothing_built
    none-asked = record { list = []; built = refl; asks = refl }

    -- one thing more is asked for one entry more
    step-asked : (early : List DraftEntry) (entry : DraftEntry) (building : Building S) (one : Asked S) → IsBuiltOf kinds same plain early building
        → asked_as plain one ∷ [] ≡ asked_entries kinds (suc (length early)) (entry ∷ []) → IsBuiltOf kinds same plain (early ++ entry ∷ []) (with_asked same building one)
    step-asked early entry building one is asks = record {
      list = is.list ++ one ∷ [];
      built = ap (λ (b : Building S). with_asked same b one) is.built ∙ sym (built-more same is.list one nothing_built);
      asks = map-append (asked_as plain) is.list (one ∷ []) ∙ ap (λ list. list ++ asked_as plain one ∷ []) is.asks ∙ ap (λ list. asked_entries kinds 1 early ++ list) asks ∙ sym (asked-more early entry);
    }

    -- a barrier
    barrier-asked : (early : List DraftEntry) (building : Building S) → IsBuiltOf kinds same plain early building
        → IsBuiltOf kinds same plain (early ++ barrier ∷ []) (record { staging = fenced same building.staging; names = building.names })
    barrier-asked early building is = step-asked early barrier building asked.barrier is refl

    -- a staged system
    system-asked : (early : List DraftEntry) (building : Building S) (one : DraftSystem) (facts : Facts) (taken : S) (declared : Declared) → IsBuiltOf kinds same plain early building
        → one.local ≡ false → one.facts ≡ Some facts → plain taken ≡ plain_system (suc (length early)) one facts → declared ≡ declared_of kinds (suc (length early)) facts
        → IsBuiltOf kinds same plain (early ++ system one ∷ []) (built_with same building taken declared one.name one.after)
    system-asked early building one facts taken declared is staged known means declares =
        step-asked early (system one) building (asked.system taken declared one.name one.after) is
        (ap (λ p. asked.system p declared one.name one.after ∷ []) means ∙ ap (λ d. asked.system (plain_system (suc (length early)) one facts) d one.name one.after ∷ []) declares
        ∙ sym (ap (λ local. asked_at kinds (suc (length early)) one local one.facts ++ []) staged ∙ ap (λ found. asked_at kinds (suc (length early)) one false found ++ []) known))

    -- for one that isn't staged nothing is asked
    unstaged-asked : (early : List DraftEntry) (building : Building S) (one : DraftSystem) → IsBuiltOf kinds same plain early building → is_staged (system one) ≡ false
        → IsBuiltOf kinds same plain (early ++ system one ∷ []) building
    unstaged-asked early building one is unstaged = record {
      list = is.list;
      built = is.built;
      asks = is.asks ∙ sym (asked-more early (system one) ∙ ap (λ list. asked_entries kinds 1 early ++ (list ++ [])) (by one.local one.facts unstaged) ∙ append-nil (asked_entries kinds 1 early));
    }
      where
        by : (local : Bool) (facts : Option Facts) → is_staged_as local facts ≡ false → asked_at kinds (suc (length early)) one local facts ≡ []
        by local None e = refl
        by true (Some facts) e = refl
        by false (Some facts) e = cc

    -- ---- with the local systems

    -- one entry more may have a local system
    locals-more : (early : List DraftEntry) (entry : DraftEntry) → local_list 1 (early ++ entry ∷ []) ≡ local_list 1 early ++ local_list (suc (length early)) (entry ∷ [])
    locals-more early entry = systems-append (λ one. one.local) 1 (suc (length early)) early (entry ∷ []) (omega arith)

    module _ {L : Type 0} (plain_local : L → PlainSystem) where
      -- a builder that has nothing
      pub none-drafted : (workers : ℕ) → IsDraftedOf kinds same plain plain_local [] (record { building = nothing_built; locals = []; workers = workers })
      none-drafted workers = record { building = none-asked; locals = refl }

      -- a barrier
      pub barrier-drafted : (early : List DraftEntry) (draft : Drafting S L) → IsDraftedOf kinds same plain plain_local early draft
          → IsDraftedOf kinds same plain plain_local (early ++ barrier ∷ []) (with_building draft (record { staging = fenced same draft.building.staging; names = draft.building.names }))
      barrier-drafted early draft is = record {
        building = barrier-asked early draft.building is.building;
        locals = is.locals ∙ sym (locals-more early barrier ∙ append-nil (local_list 1 early));
      }

      -- a staged system
      pub system-drafted : (early : List DraftEntry) (draft : Drafting S L) (one : DraftSystem) (facts : Facts) (taken : S) (declared : Declared) (name : Name) (after : List Name) → IsDraftedOf kinds same plain plain_local early draft
          → one.local ≡ false → one.facts ≡ Some facts → plain taken ≡ plain_system (suc (length early)) one facts → declared ≡ declared_of kinds (suc (length early)) facts → name ≡ one.name → after ≡ one.after
          → IsDraftedOf kinds same plain plain_local (early ++ system one ∷ []) (with_building draft (built_with same draft.building taken declared name after))
      system-drafted early draft one facts taken declared name after is staged known means declares called follows =
          subst₂ (λ name after. IsDraftedOf kinds same plain plain_local (early ++ system one ∷ []) (with_building draft (built_with same draft.building taken declared name after))) (sym called) (sym follows)
          (record {
            building = system-asked early draft.building one facts taken declared is.building staged known means declares;
            locals = is.locals ∙ sym (locals-more early (system one) ∙ ap (λ b. local_list 1 early ++ ((if b then with_facts (suc (length early)) one one.facts else []) ++ [])) staged ∙ append-nil (local_list 1 early));
          })

      -- a local one
      pub local-drafted : (early : List DraftEntry) (draft : Drafting S L) (one : DraftSystem) (facts : Facts) (taken : L) → IsDraftedOf kinds same plain plain_local early draft
          → one.local ≡ true → one.facts ≡ Some facts → plain_local taken ≡ plain_system (suc (length early)) one facts
          → IsDraftedOf kinds same plain plain_local (early ++ system one ∷ []) (record { building = draft.building; locals = draft.locals ++ taken ∷ []; workers = draft.workers })
      local-drafted early draft one facts taken is local known means = record {
        building = unstaged-asked early draft.building one is.building (ap (λ b. is_staged_as b one.facts) local ∙ ap (is_staged_as true) known);
        locals = map-append plain_local draft.locals (taken ∷ []) ∙ ap (λ list. list ++ plain_local taken ∷ []) is.locals ∙ ap (λ last. local_list 1 early ++ last ∷ []) means
            ∙ sym (locals-more early (system one) ∙ ap (λ b. local_list 1 early ++ ((if b then with_facts (suc (length early)) one one.facts else []) ++ [])) local
            ∙ ap (λ found. local_list 1 early ++ (with_facts (suc (length early)) one found ++ [])) known);
      }
