-- What is told of a small document's entries, and the order of its plan.
use Rattle.std.proofs.Common.{◌≡◌, ℕ, true, false, List, [], ◌∷◌, map, Option, Some, None, refl}
use Rattle.std.specs.Prelude.{codes}
use Rattle.serde_json.specs.Data.{null}
use Rattle.shred_world.specs.ResourceIds.{same_id, id_of}
use Rattle.shred_plan.specs.Plan.{Added, fence, placing, plan, order}
use Rattle.specs_layouts.specs.Channels.{no_log}
use Rattle.scene_model.specs.Parts.{Name}
use Rattle.scene_model.specs.Scenes.{PlainSystem}
use Rattle.scene_document.specs.Drafts.{Draft, DraftEntry, barrier, system}
use Rattle.scene_document.specs.Openings.{same_resource, staged, staged_systems}
use Rattle.scene_world.specs.Standing.{Kinds}
use Rattle.scene_world.specs.Chains.{plan_order}
use Rattle.scene_dispatch.specs.Entries.{meant_at}
use Rattle.scene_dispatch.specs.Told.{told_entries}

-- a kind of part, and the places of a scene's values
abbrev kinds : Kinds (Unit {0})
kinds = record {
  part_names = codes "p" ∷ codes "q" ∷ [];
  owning = λ kind. false;
  global_names = [];
  entities_id = id_of 0 0;
  markers_id = id_of 1 0;
  allocator_id = id_of 2 0;
  part_id = λ kind. id_of 3 (head kind);
  global_id = λ name. id_of 4 0;
  queue_id = λ position. id_of 5 position;
  births = λ v. None;
  marker = λ v index. None;
  marker_events = λ v. no_log;
  marker_emits = λ v. false;
  noting = λ v. None;
  stored = λ kind v index. None;
  events = λ kind v. no_log;
  emits = λ kind v. false;
  value = λ name v. None;
  queued = λ v. [];
}
  where
    head : Name → ℕ
    head [] = 0
    head (first ∷ rest) = first

-- an entry of a system: its name, those that it comes after, the kind that it writes, its time
abbrev entry : Name → List Name → Name → ℕ → DraftEntry
entry name after written time = system (record {
  kind = codes "k";
  name = name;
  after = after;
  config = null;
  local = false;
  facts = Some (record { access = record { reads = []; writes = written ∷ []; read_globals = []; written_globals = []; reserved = false }; time = time });
})

-- a local one
abbrev local_entry : DraftEntry
local_entry = system (record {
  kind = codes "k";
  name = [];
  after = [];
  config = null;
  local = true;
  facts = Some (record { access = record { reads = []; writes = []; read_globals = []; written_globals = []; reserved = false }; time = 1 });
})

-- two long writers of one kind with a local system between them, a short writer of another, a barrier, and one more after the second of the long
abbrev small : Draft
small = record {
  next = 0;
  entities = [];
  globals = [];
  entries = entry (codes "a") [] (codes "p") 5 ∷ local_entry ∷ entry (codes "b") [] (codes "p") 5 ∷ entry [] [] (codes "q") 1 ∷ barrier ∷ entry [] (codes "b" ∷ []) (codes "q") 1 ∷ [];
  frames = 0;
  commands = [];
  workers = 1;
  store = codes "vec";
}

-- the number of a system and those that it comes after; none of a fence
abbrev numbers : {Id : Type 0} → Added Id → Option (ℕ × List ℕ)
numbers fence = None
numbers (placing one) = Some (one.number, one.after)

-- the numbers of the document
document_numbers : map numbers (staged small.entries 0 small.entries) ≡ Some (0, []) ∷ Some (1, []) ∷ Some (2, []) ∷ None ∷ Some (3, 1 ∷ []) ∷ []
document_numbers = refl

-- and those of the dispatcher
dispatched_numbers : map numbers (told_entries kinds small.entries) ≡ Some (0, []) ∷ Some (1, []) ∷ Some (2, []) ∷ None ∷ Some (3, 1 ∷ []) ∷ []
dispatched_numbers = refl

-- in both plans the short one runs beside the first of the long
document_order : order same_resource (staged small.entries 0 small.entries) ≡ 0 ∷ 2 ∷ 1 ∷ 3 ∷ []
document_order = refl

-- so it is by ids
dispatched_order : order same_id (told_entries kinds small.entries) ≡ 0 ∷ 2 ∷ 1 ∷ 3 ∷ []
dispatched_order = refl

-- and so the systems run in the order of the document
positions : map (λ (one : PlainSystem). one.position) (plan_order (meant_at small.entries) (plan same_id (told_entries kinds small.entries))) ≡ 1 ∷ 4 ∷ 3 ∷ 6 ∷ []
positions = refl

-- that is this
staged_positions : map (λ (one : PlainSystem). one.position) (staged_systems small) ≡ 1 ∷ 4 ∷ 3 ∷ 6 ∷ []
staged_positions = refl
