-- A phase in which several callers create and delete entities: the claim word, the raised and the killed set, each caller's births, and what holds of them between any two steps.
use Rattle.std.specs.Prelude.{◌≡◌, ◌⊎◌, ◌↔◌, ℕ, ◌+◌, ◌-◌, ◌*◌, ◌/◌, ◌%◌, ◌<◌, ◌≤◌, ◌==◌, ◌&&◌, ◌||◌, nat_lt, Bool, true, false, List, [], ◌∷◌, ◌++◌, length, map, slice_index, slice_set, if◌then◌else◌}
use Rattle.std.specs.Int.{bit_at}
use Rattle.std.specs.List.{All}
use mathlib.Core.Option.{Option, none, some}
use lib.ListN.{get_elem?}
use Rattle.hibitset.specs.declared.atomic_core.Caller.{Caller}
use Rattle.hibitset.specs.declared.atomic_core.Run.{Run}
use Rattle.hibitset.specs.declared.atomic_core.Step.TheVariants.{Begin, Rise, Look}
use Rattle.hibitset.specs.AtomicCore.{Sizes, AreExact, AreWordsOf, bit, total, calls_of}
use Rattle.hibitset.specs.AtomicRuns.{after, start, IsSoundRun, IsAtRest, IsListed}
use Rattle.specs_entity.specs.declared.phase_core.Claimer.{Claimer}
use Rattle.specs_entity.specs.declared.phase_core.Phase.{Phase}
use Rattle.specs_entity.specs.declared.phase_core.Event.{Event}
use Rattle.specs_entity.specs.declared.phase_core.Event.TheVariants.{Claim, Raise, Kill, Bury, LookUp}

-- what a phase begins with: the sizes of the layers, the index of each entity of the reserve, the members of the raised and of the killed set, and where an entity lived
pub record Setting : Type 0 where
  pub sizes : Sizes
  pub reserve : List ℕ
  pub raised : ℕ → Bool
  pub killed : ℕ → Bool
  pub lives : ℕ → Bool

-- the index at a place of the reserve
abbrev pub index_at : Setting → ℕ → ℕ
index_at setting place = slice_index setting.reserve place

abbrev pub claimer_with : List ℕ → List ℕ → ℕ → Claimer
claimer_with births pending allowance = record { births = births; pending = pending; allowance = allowance }

abbrev pub phase_with : ℕ → Run → Run → List Claimer → Phase
phase_with claim raised killed claimers = record { claim = claim; raised = raised; killed = killed; claimers = claimers }

-- a place is claimed
abbrev pub claimed : Claimer → ℕ → Claimer
claimed claimer place = claimer_with (claimer.births ++ place ∷ []) (place ∷ []) (claimer.allowance - 1)

-- the first bit of the claimed index is set
abbrev pub raising : Claimer → Claimer
raising claimer = claimer_with claimer.births [] claimer.allowance

-- whether no call of a caller is in flight on a set
abbrev pub is_resting : Option Caller → Bool
is_resting none = true
is_resting (some caller) = caller.stage == 0

-- whether no claim of a caller waits for its first bit
abbrev pub is_unclaimed : Option Claimer → Bool
is_unclaimed none = true
is_unclaimed (some claimer) = length claimer.pending == 0

-- whether a caller has no call in flight
abbrev pub is_idle : Phase → ℕ → Bool
is_idle phase who = is_unclaimed (get_elem? phase.claimers who) && (is_resting (get_elem? phase.raised.callers who) && is_resting (get_elem? phase.killed.callers who))

-- whether a load found the bit of an index set
abbrev pub saw_set : List (ℕ × ℕ) → ℕ → Bool
saw_set [] index = false
saw_set (look ∷ looks) index = ((look.0 == index / 64) && (bit_at look.1 (index % 64) == 1)) || saw_set looks index

-- the same of a caller, if there is one
abbrev pub has_seen : Option Caller → ℕ → Bool
has_seen none index = false
has_seen (some caller) index = saw_set caller.seen index

-- whether an entity lived at the index at the opening, or the caller saw it raised
abbrev pub may_delete : Setting → Phase → ℕ → ℕ → Bool
may_delete setting phase who index = setting.lives index || has_seen (get_elem? phase.raised.callers who) index

-- the next place is claimed, where an allowance is left and no call is in flight
abbrev pub after_claim : Phase → ℕ → Option Claimer → Phase
after_claim phase who none = phase
after_claim phase who (some claimer) =
    if nat_lt 0 claimer.allowance && is_idle phase who
    then phase_with (phase.claim + 1) phase.raised phase.killed (slice_set phase.claimers who (claimed claimer phase.claim))
    else phase

-- the claim that waits gets its first bit; where none waits, the call in flight goes one layer up
abbrev pub after_raise_of : Setting → Phase → ℕ → Claimer → List ℕ → Phase
after_raise_of setting phase who claimer [] = phase_with phase.claim (after setting.sizes phase.raised (Rise who)) phase.killed phase.claimers
after_raise_of setting phase who claimer (place ∷ places) =
    phase_with phase.claim (after setting.sizes phase.raised (Begin who (index_at setting place))) phase.killed (slice_set phase.claimers who (raising claimer))

abbrev pub after_raise : Setting → Phase → ℕ → Option Claimer → Phase
after_raise setting phase who none = phase
after_raise setting phase who (some claimer) = after_raise_of setting phase who claimer claimer.pending

-- the phase after an event
abbrev pub after_event : Setting → Phase → Event → Phase
after_event setting phase (Claim who) = after_claim phase who (get_elem? phase.claimers who)
after_event setting phase (Raise who) = after_raise setting phase who (get_elem? phase.claimers who)
after_event setting phase (Kill who index) =
    if is_idle phase who && may_delete setting phase who index
    then phase_with phase.claim phase.raised (after setting.sizes phase.killed (Begin who index)) phase.claimers
    else phase
after_event setting phase (Bury who) = phase_with phase.claim phase.raised (after setting.sizes phase.killed (Rise who)) phase.claimers
after_event setting phase (LookUp who number) = phase_with phase.claim (after setting.sizes phase.raised (Look who number)) phase.killed phase.claimers

-- the phase after all of the events in order
abbrev pub after_events : Setting → List Event → Phase → Phase
after_events setting [] phase = phase
after_events setting (event ∷ events) phase = after_events setting events (after_event setting phase event)

-- how often a number stands in a list
abbrev pub occurrences : ℕ → List ℕ → ℕ
occurrences number [] = 0
occurrences number (first ∷ numbers) = (if first == number then 1 else 0) + occurrences number numbers

-- once for a number below a limit, else not at all
abbrev pub once_below : ℕ → ℕ → ℕ
once_below number limit = if nat_lt number limit then 1 else 0

-- the index of a call
abbrev pub called : ℕ × Bool → ℕ
called call = call.0

-- the indices of a caller's births are those of its calls on the raised set, and then that of the claim that waits; while one waits no such call is in flight
pub record IsClaimer (setting : Setting) (claimer : Claimer) (caller : Caller) : Type 0 where
  pub born : map (index_at setting) claimer.births ≡ map called (calls_of caller) ++ map (index_at setting) claimer.pending
  pub waits : (claimer.pending ≡ []) ⊎ ((place : ℕ) × (claimer.pending ≡ place ∷ []) × (caller.stage ≡ 0))

abbrev pub AreClaimers : Setting → List Claimer → List Caller → Type 0
AreClaimers setting claimers callers = (who : ℕ) (claimer : Claimer) → get_elem? claimers who ≡ some claimer → (caller : Caller) × (get_elem? callers who ≡ some caller) × IsClaimer setting claimer caller

-- an entity lived at the index at the opening, or was raised since
abbrev pub HasLived : Setting → List ℕ → ℕ → Type 0
HasLived setting words index = (setting.lives index ≡ true) ⊎ (bit words index ≡ 1)

-- each deletion is of an index where an entity has lived
abbrev pub AreOfTheLiving : Setting → List ℕ → List Caller → Type 0
AreOfTheLiving setting words callers = (who : ℕ) (caller : Caller) → get_elem? callers who ≡ some caller → All (λ call. HasLived setting words call.0) (calls_of caller)

-- between any two steps each of the first places of the reserve, as many as the claim word says, is the birth of one caller, once, and no other place is anyone's; the allowances are at most what is left of the reserve; both sets are sound; and each deletion is of one who has lived
pub record IsPhase (setting : Setting) (phase : Phase) : Type 0 where
  pub range : (place : ℕ) → index_at setting place < 64 * setting.sizes.first
  pub claims : (place : ℕ) → total (λ claimer. occurrences place claimer.births) phase.claimers ≡ once_below place phase.claim
  pub allowances : total (λ claimer. claimer.allowance) phase.claimers + phase.claim ≤ length setting.reserve
  pub raised : IsSoundRun setting.sizes setting.raised phase.raised
  pub killed : IsSoundRun setting.sizes setting.killed phase.killed
  pub claimers : AreClaimers setting phase.claimers phase.raised.callers
  pub same : length phase.raised.callers ≡ length phase.claimers
  pub deletions : AreOfTheLiving setting phase.raised.words phase.killed.callers

-- a phase at its opening: nothing is claimed, and callers come whose allowances are at most the length of the reserve
pub record IsOpening (setting : Setting) (phase : Phase) : Type 0 where
  pub range : (place : ℕ) → index_at setting place < 64 * setting.sizes.first
  pub claim : phase.claim ≡ 0
  pub unborn : (who : ℕ) (claimer : Claimer) → get_elem? phase.claimers who ≡ some claimer → (claimer.births ≡ []) × (claimer.pending ≡ [])
  pub allowances : total (λ claimer. claimer.allowance) phase.claimers ≤ length setting.reserve
  pub raised : phase.raised ≡ start phase.raised.words (length phase.claimers)
  pub killed : phase.killed ≡ start phase.killed.words (length phase.claimers)
  pub raised_words : AreWordsOf setting.sizes setting.raised phase.raised.words
  pub killed_words : AreWordsOf setting.sizes setting.killed phase.killed.words

-- no call is in flight
pub record IsPhaseAtRest (phase : Phase) : Type 0 where
  pub claims : (who : ℕ) (claimer : Claimer) → get_elem? phase.claimers who ≡ some claimer → claimer.pending ≡ []
  pub raised : IsAtRest phase.raised.callers
  pub killed : IsAtRest phase.killed.callers

-- the index is at one of the first places of the reserve
abbrev pub IsReserved : Setting → ℕ → ℕ → Type 0
IsReserved setting count index = (place : ℕ) × (place < count) × (index_at setting place ≡ index)

-- raised has exactly the old members and the indices of the births, killed exactly the old members and the deletions that callers list, and the summaries of both are exact
pub record HasSettled (setting : Setting) (phase : Phase) : Type 0 where
  pub raised : (index : ℕ) → index < 64 * setting.sizes.first → (bit phase.raised.words index ≡ 1) ↔ ((setting.raised index ≡ true) ⊎ IsReserved setting phase.claim index)
  pub killed : (index : ℕ) → index < 64 * setting.sizes.first → (bit phase.killed.words index ≡ 1) ↔ ((setting.killed index ≡ true) ⊎ IsListed phase.killed.callers index)
  pub raised_exact : AreExact setting.sizes phase.raised.words
  pub killed_exact : AreExact setting.sizes phase.killed.words
