-- What bundles are stated over: each id's slot, as a world or a view holds it.
use Rattle.std.specs.Prelude.{◌≡◌, Bool, true, false, Option, None, Some, List, [], ◌∷◌, ◌++◌, is_some, is_none, ◌||◌, ◌⊎◌, refl, if◌then◌else◌}
use Rattle.std.specs.Option.{option_and_then, option_map_or, MatchOption}
use mathlib.Core.Path.{sym}
use Rattle.std.proofs.lemmas.Bool.{false≢true}
use Rattle.std.specs.List.{list_any}
use Rattle.std.specs.FinMap as map
use Rattle.shred_world.specs.declared.resource_id.ResourceId.{ResourceId}
use Rattle.shred_world.specs.ResourceIds.{same_id}
use Rattle.shred_world.specs.Worlds.{Slots, value_at}

-- what a holder has at an id: nothing, a slot whose value is out, a value for reading, or a value that may be taken out
pub data Slot (V : Type 0) : Type 0 where
  absent : Slot V
  out : Slot V
  shared : V → Slot V
  owned : V → Slot V

-- each id's slot
abbrev pub Holding : Type 0 → Type 0
Holding V = ResourceId → Slot V

-- the value that can be read
abbrev pub readable : {V : Type 0} → Slot V → Option V
readable absent = None
readable out = None
readable (shared v) = Some v
readable (owned v) = Some v

-- the value that can be taken out
abbrev pub takable : {V : Type 0} → Slot V → Option V
takable absent = None
takable out = None
takable (shared v) = None
takable (owned v) = Some v

-- the slot of a world
abbrev pub slot_of : {V : Type 0} → Option (Option V) → Slot V
slot_of None = absent
slot_of (Some None) = out
slot_of (Some (Some v)) = owned v

-- a world holds each of its values for taking out
abbrev pub holding_of : {V : Type 0} → Slots V → Holding V
holding_of w id = slot_of (map.get w id)

-- the same but for one id's slot
abbrev pub with_slot : {V : Type 0} → Holding V → ResourceId → Slot V → Holding V
with_slot w id slot q = if same_id q id then slot else w q

-- whether the id is in the list
abbrev pub is_listed : List ResourceId → ResourceId → Bool
is_listed ids q = list_any (same_id q) ids

-- the id, where what it needs is wanting
abbrev pub unless_there : {A : Type 0} → Option A → ResourceId → Option ResourceId
unless_there None id = Some id
unless_there (Some a) id = None

-- what reading and writing a resource needs
abbrev pub lack_reading : {V R : Type 0} → (V → Option R) → ResourceId → Holding V → Option ResourceId
lack_reading part id w = unless_there (option_and_then part (readable (w id))) id

abbrev pub lack_writing : {V R : Type 0} → (V → Option R) → ResourceId → Holding V → Option ResourceId
lack_writing part id w = unless_there (option_and_then part (takable (w id))) id

-- the default stands at the id where no value stood, and else nothing changed
abbrev pub DefaultsTo : {V R : Type 0} → (R → Type 0) → (R → V) → ResourceId → Slots V → Slots V → Type 0
DefaultsTo {R = R} IsDefault wrapped id old new = MatchOption (value_at old id) ((r : R) × IsDefault r × (new ≡ map.insert old id (Some (wrapped r)))) (λ _. new ≡ old)

-- what a handler's setup makes of a world, where it is accepted; refused, it changes nothing
abbrev pub HandlerSetsUp : {V : Type 0} → (Slots V → Slots V → Type 0) → Bool → Slots V → Slots V → Type 0
HandlerSetsUp sets_up true old new = sets_up old new
HandlerSetsUp sets_up false old new = new ≡ old

-- one after the other: where the first is refused the second isn't tried
abbrev pub SetsUpInTurn : {V : Type 0} → (first second : Bool → Slots V → Slots V → Type 0) → Bool → Slots V → Slots V → Type 0
SetsUpInTurn {V} first second true old new = (middle : Slots V) × first true old middle × second true middle new
SetsUpInTurn {V} first second false old new = first false old new ⊎ ((middle : Slots V) × first true old middle × second false middle new)

-- an id that is in neither list
pub unlisted-append : (xs ys : List ResourceId) (q : ResourceId) → is_listed (xs ++ ys) q ≡ false → (is_listed xs q ≡ false) × (is_listed ys q ≡ false)
unlisted-append [] ys q e = (refl, e)
unlisted-append (x ∷ xs) ys q e = at (same_id q x) (unlisted-append xs ys q) e
  where
    at : (b : Bool) → (is_listed (xs ++ ys) q ≡ false → (is_listed xs q ≡ false) × (is_listed ys q ≡ false)) → (b || is_listed (xs ++ ys) q) ≡ false
        → ((b || is_listed xs q) ≡ false) × (is_listed ys q ≡ false)
    at true rest e = absurd (false≢true (sym e))
    at false rest e = rest e

-- what an optional bundle leaves: the edit, where nothing is wanting
abbrev pub where_there : {V : Type 0} → (Holding V → Option ResourceId) → (Holding V → Holding V) → Holding V → Holding V
where_there lack edit w = option_map_or (λ _. w) (lack w) (edit w)

-- a bundle is there exactly where nothing is wanting
abbrev pub IsThereUnless : {B : Type 0} → Option B → Option ResourceId → Type 0
IsThereUnless bundle lack = is_some bundle ≡ is_none lack

-- what giving back an optional bundle makes of the slots, and what it needs
abbrev pub given_bundle : {V B : Type 0} → (B → Holding V → Holding V) → Option B → Holding V → Holding V
given_bundle given None w = w
given_bundle given (Some bundle) w = given bundle w

abbrev pub CanGiveBundle : {V B : Type 0} → (B → Holding V → Type 0) → Option B → Holding V → Type 0
CanGiveBundle can_give None w = Unit {0}
CanGiveBundle can_give (Some bundle) w = can_give bundle w

-- nothing is set up, and nothing is refused
abbrev pub UnitSetsUp : {V : Type 0} → Bool → Slots V → Slots V → Type 0
UnitSetsUp accepted old new = (accepted ≡ true) × (new ≡ old)
