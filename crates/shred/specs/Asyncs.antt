-- A dispatcher that owns its world and runs in a thread of its own: what it holds, and what its calls leave.
use Rattle.std.specs.Prelude.{◌≡◌, ℕ, Bool, true, false, List, Option, None, Some, Result, Ok, Err, refl}
use Rattle.std.specs.Option.{MatchOption}
use Rattle.std.specs.FinMap as map
use Rattle.std.specs.Coded.{Coded, code_by, coded×, coded_bool, coded_ℕ, coded_list, coded_option}
use Rattle.shred_world.specs.ResourceIds.{id_cmp, coded_id}
use Rattle.shred_world.specs.Worlds.{Slots}
use Rattle.shred_world.specs.Bundles.{Holding, holding_of}
use Rattle.shred_stages.specs.declared.stop.Stop.{Stop}
use Rattle.shred_stages.specs.declared.error.DispatchError.{DispatchError}
use Rattle.shred_stages.specs.Views.{Leaves}
use Rattle.shred_stages.specs.Staging.{Staging}
use Rattle.shred_stages.specs.Errands.{staging_code}
use Rattle.shred.specs.declared.async_error.AsyncError.{AsyncError}
use Rattle.shred.specs.declared.async_error.AsyncError.TheVariants.{Refused, Memory, Failed}
use Rattle.shred_stages.specs.Orders.{RunsInAnyOrder}
use Rattle.shred.specs.Dispatching.{Dispatching, DispatchesOnThreads, DispatchesLocals, DispatchesAll, DispatchesInAnyOrder, DispatcherSetsUp}

-- the dispatcher and its world, as they are, or as they were when the dispatch that is away began
pub record Owning (V S L : Type 0) : Type 0 where
  pub is_away : Bool
  pub dispatching : Dispatching S L
  pub world : map.FinMap id_cmp (Option V)

-- where a thread couldn't be started, nothing is left of them
abbrev pub Owned : (V S L : Type 0) → Type 0
Owned V S L = Option (Owning V S L)

-- each is stored as the tuple of its fields
abbrev dispatching_code : {S L : Type 0} → Coded S → Coded L → Coded (Dispatching S L)
dispatching_code {S} {L} systems local_systems =
    code_by (Staging S × (List L × ℕ))
    (coded× (staging_code systems) (coded× (coded_list local_systems) coded_ℕ))
    (λ d. (d.staging, (d.locals, d.workers)))
    (λ q. record { staging = q.0; locals = q.1.0; workers = q.1.1 })
    (λ _. refl)

abbrev owning_code : {V S L : Type 0} → Coded V → Coded S → Coded L → Coded (Owning V S L)
owning_code {V} {S} {L} values systems local_systems =
    code_by (Bool × (Dispatching S L × map.FinMap id_cmp (Option V)))
    (coded× coded_bool (coded× (dispatching_code systems local_systems) (map.code coded_id (coded_option values))))
    (λ o. (o.is_away, (o.dispatching, o.world)))
    (λ q. record { is_away = q.0; dispatching = q.1.0; world = q.1.1 })
    (λ _. refl)

abbrev pub owned_code : {V S L : Type 0} → Coded V → Coded S → Coded L → Coded (Owned V S L)
owned_code values systems local_systems = coded_option (owning_code values systems local_systems)

-- a dispatcher that has its world at hand
abbrev pub here : {V S L : Type 0} → Dispatching S L → map.FinMap id_cmp (Option V) → Owned V S L
here dispatching world = Some (record { is_away = false; dispatching = dispatching; world = world })

-- a dispatch is under way
abbrev pub IsAway : {V S L : Type 0} → Owned V S L → Type 0
IsAway owned = MatchOption owned ⊥ (λ owning. owning.is_away ≡ true)

-- none is, and dispatcher and world are at hand
abbrev pub IsAtHand : {V S L : Type 0} → Owned V S L → Type 0
IsAtHand owned = MatchOption owned ⊥ (λ owning. owning.is_away ≡ false)

-- the call was accepted
abbrev pub IsAccepted : {A B : Type 0} → Result A B → Type 0
IsAccepted (Ok a) = Unit {0}
IsAccepted (Err error) = ⊥

-- the call was refused with an error
abbrev pub IsRefusedWith : {A : Type 0} → AsyncError → Result A AsyncError → Type 0
IsRefusedWith error (Ok a) = ⊥
IsRefusedWith error (Err told) = told ≡ error

-- an answer tells how a dispatch ended
abbrev pub Tells : {A B : Type 0} → Result A DispatchError → Result B AsyncError → Type 0
Tells (Ok a) answer = IsAccepted answer
Tells (Err error) answer = IsRefusedWith (Refused error) answer

-- an answer tells whether a setup found memory
abbrev pub TellsMemory : {A : Type 0} → Bool → Result A AsyncError → Type 0
TellsMemory true answer = IsAccepted answer
TellsMemory false answer = IsRefusedWith Memory answer

-- what holds where a dispatch is under way, and what holds where none is
abbrev pub WhenAway : Bool → (away here : Type 0) → Type 0
WhenAway true away here = away
WhenAway false away here = here

-- what follows where a call was accepted; its refusal is told
abbrev pub ThenDoes : {A B State : Type 0} → (first : Result A AsyncError) → (does : Type 0) → (between : State) → Result B AsyncError → (after : State) → Type 0
ThenDoes (Ok a) does between answer after = does
ThenDoes (Err error) does between answer after = IsRefusedWith error answer × (after ≡ between)

module _ {V S L A : Type 0} where
  -- a dispatch, or a part of one, over the world that is owned: the answer tells how it ended, and dispatcher and world are at hand
  pub record Ends (dispatches : Dispatching S L → Holding V → Result Unit DispatchError → Dispatching S L → Holding V → Type 0) (before : Owning V S L) (answer : Result A AsyncError) (after : Owned V S L) : Type 0 where
    pub outcome : Result Unit DispatchError
    pub left : Dispatching S L
    pub world : map.FinMap id_cmp (Option V)
    pub runs : dispatches before.dispatching (holding_of before.world) outcome left (holding_of world)
    pub leaves : Leaves (holding_of before.world) (holding_of world)
    pub told : Tells outcome answer
    pub at_hand : after ≡ here left world

  -- something is done with what is owned
  abbrev pub Does : (does : Owning V S L → Result A AsyncError → Owned V S L → Type 0) → Owned V S L → Result A AsyncError → Owned V S L → Type 0
  Does does owned answer after = MatchOption owned ⊥ (λ owning. does owning answer after)

  -- nothing is left, and nothing comes back
  abbrev pub IsLost : Result A AsyncError → Owned V S L → Type 0
  IsLost answer after = IsRefusedWith Failed answer × (after ≡ None)

  -- a dispatch is started with what is at hand; without memory for it all stays, and without a thread all is lost
  abbrev pub StartsFrom : Owning V S L → Result A AsyncError → Owned V S L → Type 0
  StartsFrom before (Ok a) after = after ≡ Some (record { is_away = true; dispatching = before.dispatching; world = before.world })
  StartsFrom before (Err Memory) after = after ≡ Some before
  StartsFrom before (Err Failed) after = after ≡ None
  StartsFrom before (Err (Refused error)) after = ⊥

  module _ (sets_up : S → Bool → Slots V → S → Slots V → Type 0) (local_sets_up : L → Bool → Slots V → L → Slots V → Type 0) where
    -- the systems are set up over the world that is at hand
    pub record SetsUpOwned (before : Owning V S L) (answer : Result A AsyncError) (after : Owned V S L) : Type 0 where
      pub accepted : Bool
      pub left : Dispatching S L
      pub world : map.FinMap id_cmp (Option V)
      pub runs : DispatcherSetsUp sets_up local_sets_up before.dispatching accepted before.world left world
      pub told : TellsMemory accepted answer
      pub at_hand : after ≡ here left world

module _ {V S L : Type 0} (meets : S → Holding V → Option Stop → S → Holding V → Type 0) (local_meets : L → Holding V → Option Stop → L → Holding V → Type 0) where
  -- the staged systems have run on threads; where none refused, their steps come to the same in any order
  pub record HasRun {A : Type 0} (before : Dispatching S L) (w : Holding V) (result : Result A DispatchError) (after : Dispatching S L) (w_after : Holding V) : Type 0 where
    pub runs : DispatchesOnThreads meets local_meets before w result after w_after
    pub any_order : RunsInAnyOrder meets before.staging w result after.staging w_after

  -- so they have, and then the local ones
  pub record HasRunWhole {A : Type 0} (before : Dispatching S L) (w : Holding V) (result : Result A DispatchError) (after : Dispatching S L) (w_after : Holding V) : Type 0 where
    pub runs : DispatchesAll meets local_meets before w result after w_after
    pub any_order : DispatchesInAnyOrder meets local_meets before w result after w_after

  -- a dispatch that is under way is waited for: the staged systems have run on threads; what is at hand stays
  abbrev pub Joins : {A : Type 0} → Owned V S L → Result A AsyncError → Owned V S L → Type 0
  Joins None answer after = IsLost answer after
  Joins (Some before) answer after = WhenAway before.is_away (Ends HasRun before answer after) (IsAccepted answer × (after ≡ Some before))

  -- the same, and then the local systems run: with the dispatch that was under way, as a dispatch does both
  abbrev pub Finishes : {A : Type 0} → Owned V S L → Result A AsyncError → Owned V S L → Type 0
  Finishes None answer after = IsLost answer after
  Finishes (Some before) answer after = WhenAway before.is_away (Ends HasRunWhole before answer after) (Ends (DispatchesLocals meets local_meets) before answer after)

  -- a dispatch that is under way is waited for; where that is accepted, something is done with what is then at hand
  pub record JoinsFirst {A : Type 0} (does : Owning V S L → Result A AsyncError → Owned V S L → Type 0) (before : Owned V S L) (answer : Result A AsyncError) (after : Owned V S L) : Type 0 where
    pub first : Result Unit AsyncError
    pub between : Owned V S L
    pub joins : Joins before first between
    pub then_does : ThenDoes first (Does does between answer after) between answer after
