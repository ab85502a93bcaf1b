-- Trees of systems: what their runs do, in the order of the tree.
use Rattle.std.specs.Prelude.{◌≡◌, ℕ, Bool, true, false, ◌||◌, Option, Some, List, ◌++◌, if◌then◌else◌}
use Rattle.std.specs.Option.{MatchOption, option_or}
use Rattle.std.specs.List.{list_any}
use Rattle.shred_world.specs.declared.resource_id.ResourceId.{ResourceId}
use Rattle.shred_world.specs.Worlds.{Slots}
use Rattle.shred_world.specs.Bundles.{Holding, readable, takable, is_listed}
use Rattle.shred_stages.specs.declared.stop.Stop.{Stop}
use Rattle.shred_stages.specs.Views.{Leaves, merged}
use Rattle.shred_stages.specs.Setups.{WhenAccepted}

-- the two halves of a tree
pub record Halves (H T : Type 0) : Type 0 where
  pub head : H
  pub tail : T

-- a head and a tail as one
abbrev pub halves : {H T : Type 0} → H → T → Halves H T
halves head tail = record { head = head; tail = tail }

-- a tree, and how many workers run it
pub record Pooled (T : Type 0) : Type 0 where
  pub tree : T
  pub workers : ℕ

-- what two halves have in two lists, the head's first
abbrev pub both_lists : {H T A : Type 0} → (H → List A) → (T → List A) → Halves H T → List A
both_lists head_list tail_list tree = head_list tree.head ++ tail_list tree.tail

-- two states of what is held have the same values under what is declared
pub record Agree {V : Type 0} (reads writes : List ResourceId) (w other : Holding V) : Type 0 where
  pub read : (id : ResourceId) → is_listed reads id ≡ true → readable (other id) ≡ readable (w id)
  pub written : (id : ResourceId) → is_listed writes id ≡ true → takable (other id) ≡ takable (w id)

-- what a run left under what it writes, over another state of what is held
abbrev pub carried : {V : Type 0} → (writes : List ResourceId) → (left other : Holding V) → Holding V
carried writes left other id = if is_listed writes id then merged (left id) (other id) else other id

-- the same ids have values, and none but those that are written has another
pub record Within {V : Type 0} (writes : List ResourceId) (w w_after : Holding V) : Type 0 where
  pub leaves : Leaves w w_after
  pub others : (id : ResourceId) → is_listed writes id ≡ false → w_after id ≡ w id

-- what is to be written can be taken out, where it can be read: so it is in a world
abbrev pub CanBeTaken : {V : Type 0} → List ResourceId → Holding V → Type 0
CanBeTaken writes w = (id : ResourceId) → is_listed writes id ≡ true → readable (w id) ≡ takable (w id)

-- whether two lists have an id in common
abbrev pub have_common : List ResourceId → List ResourceId → Bool
have_common ids others = list_any (is_listed others) ids

-- whether what one of two writes is used by the other
abbrev pub conflict : (reads writes other_reads other_writes : List ResourceId) → Bool
conflict reads writes other_reads other_writes = have_common writes other_writes || (have_common writes other_reads || have_common reads other_writes)

-- neither of two trees uses what the other writes
abbrev pub AreApart : {H T : Type 0} → (reads writes : H → List ResourceId) → (other_reads other_writes : T → List ResourceId) → H → T → Type 0
AreApart reads writes other_reads other_writes tree other = conflict (reads tree) (writes tree) (other_reads other) (other_writes other) ≡ false

module _ {V H T : Type 0} (head_meets : H → Holding V → Option Stop → H → Holding V → Type 0) (tail_meets : T → Holding V → Option Stop → T → Holding V → Type 0) where
  -- the head, and then the tail, unless the head refuses
  abbrev pub SeqRuns : Halves H T → Holding V → Option Stop → Halves H T → Holding V → Type 0
  SeqRuns tree w refused after w_after =
      (between : Holding V) × (first : Option Stop) × head_meets tree.head w first after.head between
      × MatchOption first (tail_meets tree.tail between refused after.tail w_after) (λ why. (refused ≡ Some why) × (after.tail ≡ tree.tail) × (w_after ≡ between))

  -- the head, and then the tail in any case; the head's refusal is told, else the tail's
  abbrev pub ParRuns : Halves H T → Holding V → Option Stop → Halves H T → Holding V → Type 0
  ParRuns tree w refused after w_after =
      (between : Holding V) × (first later : Option Stop) × head_meets tree.head w first after.head between
      × tail_meets tree.tail between later after.tail w_after × (refused ≡ option_or first later)

  -- the tail, and then the head in any case; the head's refusal is told, else the tail's
  abbrev pub TurnedRuns : Halves H T → Holding V → Option Stop → Halves H T → Holding V → Type 0
  TurnedRuns tree w refused after w_after =
      (between : Holding V) × (first later : Option Stop) × tail_meets tree.tail w later after.tail between
      × head_meets tree.head between first after.head w_after × (refused ≡ option_or first later)

-- both halves are set up, the head first; where it is refused the tail isn't tried
abbrev pub BothSetUp : {V H T : Type 0} → (H → Bool → Slots V → H → Slots V → Type 0) → (T → Bool → Slots V → T → Slots V → Type 0)
    → Halves H T → Bool → Slots V → Halves H T → Slots V → Type 0
BothSetUp {V} head_sets_up tail_sets_up tree accepted w after w_after =
    (first : Bool) × (between : Slots V) × head_sets_up tree.head first w after.head between
    × WhenAccepted first (tail_sets_up tree.tail accepted between after.tail w_after) ((accepted ≡ false) × (after.tail ≡ tree.tail) × (w_after ≡ between))

-- runs leave the same ids, and write none but those that are declared
abbrev pub StaysWithin : {V X : Type 0} → (X → Holding V → Option Stop → X → Holding V → Type 0) → (X → List ResourceId) → Type 0
StaysWithin {V} {X} meets writes = (before : X) (w : Holding V) (refused : Option Stop) (after : X) (w_after : Holding V)
    → meets before w refused after w_after → Within (writes before) w w_after

-- runs go the same way over any state that has the same values under what is declared
abbrev pub SeesWhatItDeclares : {V X : Type 0} → (X → Holding V → Option Stop → X → Holding V → Type 0) → (reads writes : X → List ResourceId) → Type 0
SeesWhatItDeclares {V} {X} meets reads writes = (before : X) (w : Holding V) (refused : Option Stop) (after : X) (w_after other : Holding V)
    → meets before w refused after w_after → Agree (reads before) (writes before) w other → meets before other refused after (carried (writes before) w_after other)
