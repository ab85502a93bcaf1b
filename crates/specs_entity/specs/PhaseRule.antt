-- The rule of the table of shared entities, and what each atomic step tells. No public clause cites this file.
use Rattle.std.specs.Prelude.{◌≡◌, ◌⊎◌, ℕ, ◌+◌, ◌-◌, ◌*◌, ◌/◌, ◌%◌, ◌^◌, ◌<◌, ◌≤◌, true, List, [], ◌∷◌, ◌++◌, map}
use Rattle.std.specs.Int.{bit_at}
use Rattle.std.specs.FinSet as set
use mathlib.Core.Option.{some}
use lib.ListN.{get_elem?}
use Rattle.atomic_table.specs.Table.{State, Me, Step}
use Rattle.hibitset.specs.declared.atomic_core.Caller.{Caller}
use Rattle.hibitset.specs.AtomicCore.{word_count, total, newcomer, begun, risen, ended, looked}
use Rattle.hibitset.specs.AtomicRuns.{run_of}
use Rattle.specs_entity.specs.Births.{CanCreate, none_born}
use Rattle.specs_entity.specs.declared.phase_core.Claimer.{Claimer}
use Rattle.specs_entity.specs.declared.phase_core.Phase.{Phase}
use Rattle.specs_entity.specs.declared.phase_rule.PhaseKey.{PhaseKey}
use Rattle.specs_entity.specs.declared.phase_rule.EntityView.{EntityView}
use Rattle.specs_entity.specs.PhaseCore.{index_at, claimer_with, phase_with, occurrences, IsPhase}
use Rattle.specs_entity.specs.PhaseViews.{setting_of, view_with, with_raise, with_kill, kept_view, given_view, joined_view, claiming, begin_raise, HasSeen, HasRaised}

abbrev pub raiser : EntityView → Caller
raiser view = view.raise

abbrev pub killer : EntityView → Caller
killer view = view.kill

abbrev pub claimer_of : EntityView → Claimer
claimer_of view = view.claimer

-- a view with parts has the key; one without did nothing
pub record IsView (key : PhaseKey) (view : EntityView) : Type 0 where
  pub holds : 0 < view.parts → view.key ≡ key
  pub spent : view.parts ≡ 0 → (view.claimer.births ≡ []) × (view.kill.calls ≡ []) × (view.kill.stage ≡ 0)

-- the state of the core that words and views are
abbrev pub phase_of : ℕ → List ℕ → List ℕ → List EntityView → Phase
phase_of claim raised killed views = phase_with claim (run_of raised (map raiser views)) (run_of killed (map killer views)) (map claimer_of views)

-- the claim word, then the words of the raised set, then those of the killed set; 65,536 parts in all; and words and views are a state of the core
pub record IsTable (key : PhaseKey) (state : State (Unit {0}) EntityView) : Type 0 where
  pub claim : ℕ
  pub raised : List ℕ
  pub killed : List ℕ
  pub laid : state.words ≡ claim ∷ raised ++ killed
  pub parts : total (λ view. view.parts) state.views ≡ 65536
  pub phase : IsPhase (setting_of key) (phase_of claim raised killed state.views)
  pub views : (who : ℕ) (view : EntityView) → get_elem? state.views who ≡ some view → IsView key view

-- the same once the reserve could be created
abbrev pub Holds : PhaseKey → State (Unit {0}) EntityView → Type 0
Holds key state = CanCreate key.reserve key.before → IsTable key state

-- how many words a set has
abbrev pub width : EntityView → ℕ
width view = word_count (setting_of view.key).sizes

abbrev pub planning_parts : EntityView → ℕ → EntityView
planning_parts view parts = view_with view.raise view.kill view.claimer view.key view.parts parts view.plan_allowance

abbrev pub planning_allowance : EntityView → ℕ → EntityView
planning_allowance view allowance = view_with view.raise view.kill view.claimer view.key view.parts view.plan_parts allowance

abbrev pub kept : EntityView → EntityView
kept view = kept_view view view.plan_parts view.plan_allowance

abbrev pub given : EntityView → EntityView
given view = given_view view view.plan_parts view.plan_allowance

abbrev pub both : EntityView → EntityView → EntityView
both view other = planning_allowance (joined_view view other) view.plan_allowance

-- what is left of a seat that another took in
abbrev pub spent_view : EntityView
spent_view = view_with newcomer newcomer (claimer_with [] [] 0) (record { before = none_born 0 0; reserve = 0 }) 0 0 0

-- a seat: its view, and the slots that it holds, which are none
abbrev Mine : Type 0
Mine = Me (Unit {0}) EntityView

-- the number found is a place of the reserve that the seat did not claim before
abbrev pub claims : Step (Unit {0}) → Mine → ℕ → Mine → Type 0
claims step before word after = (after.1 ≡ before.1) × (after.0 ≡ claiming before.0 word) × (word < before.0.key.reserve) × (occurrences word before.0.claimer.births ≡ 0)

abbrev pub raises : Step (Unit {0}) → Mine → ℕ → Mine → Type 0
raises step before word after = (after.1 ≡ before.1) × ((place : ℕ) → place < 64 → step.first ≡ 1 * 2 ^ place % 2 ^ 64 → after.0 ≡ begin_raise before.0 ((step.word - 1) * 64 + place) word)

abbrev pub raises_on : Step (Unit {0}) → Mine → ℕ → Mine → Type 0
raises_on step before word after = (after.1 ≡ before.1) × (after.0 ≡ with_raise before.0 (risen before.0.raise))

abbrev pub raise_ends : Step (Unit {0}) → Mine → ℕ → Mine → Type 0
raise_ends step before word after = (after.1 ≡ before.1) × (after.0 ≡ with_raise before.0 (ended before.0.raise))

abbrev pub kills : Step (Unit {0}) → Mine → ℕ → Mine → Type 0
kills step before word after =
    (after.1 ≡ before.1) × ((place : ℕ) → place < 64 → step.first ≡ 1 * 2 ^ place % 2 ^ 64 → after.0 ≡ with_kill before.0 (begun before.0.kill ((step.word - 1 - width before.0) * 64 + place) word))

abbrev pub buries : Step (Unit {0}) → Mine → ℕ → Mine → Type 0
buries step before word after = (after.1 ≡ before.1) × (after.0 ≡ with_kill before.0 (risen before.0.kill))

abbrev pub bury_ends : Step (Unit {0}) → Mine → ℕ → Mine → Type 0
bury_ends step before word after = (after.1 ≡ before.1) × (after.0 ≡ with_kill before.0 (ended before.0.kill))

-- a load enters what it found; it has all that the seat knows raised, and nothing but what was raised before or is of the reserve
abbrev pub looks : Step (Unit {0}) → Mine → ℕ → Mine → Type 0
looks step before word after =
    (after.1 ≡ before.1) × (after.0 ≡ with_raise before.0 (looked before.0.raise (step.word - 1) word))
    × ((index : ℕ) → index / 64 ≡ step.word - 1 → (set.contains before.0.key.before.fresh index ≡ true) ⊎ (HasRaised before.0 index ⊎ HasSeen before.0 index) → bit_at word (index % 64) ≡ 1)
    × ((index : ℕ) → index / 64 ≡ step.word - 1 → index < 64 * (setting_of before.0.key).sizes.first → bit_at word (index % 64) ≡ 1
    → (set.contains before.0.key.before.fresh index ≡ true) ⊎ ((place : ℕ) × (place < before.0.key.reserve) × (index_at (setting_of before.0.key) place ≡ index)))

abbrev pub plans_parts : Step (Unit {0}) → Mine → ℕ → Mine → Type 0
plans_parts step before word after = (after.1 ≡ before.1) × (after.0 ≡ planning_parts before.0 step.first)

abbrev pub plans_allowance : Step (Unit {0}) → Mine → ℕ → Mine → Type 0
plans_allowance step before word after = (after.1 ≡ before.1) × (after.0 ≡ planning_allowance before.0 step.first) × (before.0.parts < 65537) × (before.0.claimer.allowance < before.0.key.reserve + 1) × ((place : ℕ) → occurrences place before.0.claimer.births ≤ 1)
