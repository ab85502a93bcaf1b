-- What the planner of a dispatcher is told of a document's entries.
use Rattle.std.specs.Prelude.{ℕ, suc, Bool, true, false, List, [], ◌∷◌, ◌++◌, map, Option, Some, None}
use Rattle.std.specs.List.{All, filter_map}
use Rattle.shred_world.specs.declared.resource_id.ResourceId.{ResourceId}
use Rattle.shred_plan.specs.Plan.{Added, fence, placing}
use Rattle.scene_model.specs.Rulebook.{Facts}
use Rattle.scene_document.specs.Drafts.{DraftEntry, DraftSystem, barrier, system}
use Rattle.scene_world.specs.Standing.{Kinds}
use Rattle.scene_world.specs.Lent.{AreKnown, id_of_place, read_places, written_places}
use Rattle.shred.specs.Building.{Declared}
use Rattle.scene_document.specs.Openings.{number_named, next_number}
use Rattle.scene_dispatch.specs.Entries.{systems_among}

module _ {V : Type 0} (kinds : Kinds V) where
  -- the rules know what each system of a known kind declares
  abbrev pub FactsKnown : Option Facts → Type 0
  FactsKnown None = Unit {0}
  FactsKnown (Some facts) = AreKnown kinds facts.access

  abbrev pub AllKnown : List DraftEntry → Type 0
  AllKnown entries = All (λ one. FactsKnown one.facts) (systems_among entries)

  -- what a system at a place declares, by the ids of what it is lent
  abbrev pub declared_of : ℕ → Facts → Declared
  declared_of place facts = record {
    reads = map (id_of_place kinds) (read_places facts.access);
    writes = map (id_of_place kinds) (written_places facts.access place);
    time = facts.time;
  }

  -- a staged system as the planner is told of it: by its number, after the numbers of those that it names
  abbrev pub told_at : List DraftEntry → ℕ → ℕ → DraftSystem → Bool → Option Facts → List (Added ResourceId)
  told_at all number place one local None = []
  told_at all number place one true (Some facts) = []
  told_at all number place one false (Some facts) =
      placing (record {
        number = number;
        reads = (declared_of place facts).reads;
        writes = (declared_of place facts).writes;
        after = filter_map (number_named 0 all) one.after;
        time = facts.time;
      }) ∷ []

  abbrev pub told_from : List DraftEntry → ℕ → ℕ → List DraftEntry → List (Added ResourceId)
  told_from all number place [] = []
  told_from all number place (barrier ∷ entries) = fence ∷ told_from all number (suc place) entries
  told_from all number place (system one ∷ entries) = told_at all number place one one.local one.facts ++ told_from all (next_number number (system one)) (suc place) entries

  -- what the planner is told of entries: a barrier is a fence, a local system isn't staged
  abbrev pub told_entries : List DraftEntry → List (Added ResourceId)
  told_entries entries = told_from entries 0 1 entries
