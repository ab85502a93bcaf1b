-- Each step of a run, and so each run, keeps what holds of the words and the callers.
use Rattle.std.proofs.Common.{◌≡◌, ℕ, zero, suc, ◌*◌, ◌/◌, ◌<◌, ◌==◌, ◌&&◌, Bool, true, false, nat_lt, if◌then◌else◌, List, [], ◌∷◌, get_or, set, refl, arith}
use mathlib.Core.Option.{Option, none, some}
use lib.ListN.{get_elem?}
use Rattle.hibitset.specs.Cut.{number_in}
use Rattle.hibitset.specs.declared.atomic_core.Caller.{Caller}
use Rattle.hibitset.specs.declared.atomic_core.Run.{Run}
use Rattle.hibitset.specs.declared.atomic_core.Step.{Step}
use Rattle.hibitset.specs.declared.atomic_core.Step.TheVariants.{Begin, Rise, Look}
use Rattle.hibitset.specs.AtomicCore.{Sizes, Fits, AreWordsOf, with_bit, address, begun, risen, ended}
use Rattle.hibitset.specs.AtomicRuns.{run_of, after_begin, after_rise, after_look, after, after_all, start, IsSoundRun}
use Rattle.hibitset.proofs.AtomicStepLemmas.{begin-sound, rise-sound, end-sound, look-sound, start-sound}

module _ (sizes : Sizes) (fits : Fits sizes) (old : ℕ → Bool) where
  begin-keeps : (run : Run) (who index : ℕ) → IsSoundRun sizes old run → (found : Option Caller) → get_elem? run.callers who ≡ found → IsSoundRun sizes old (after_begin sizes run who index found)
  begin-keeps run who index sound none at = sound
  begin-keeps run who index sound (some caller) at = by (caller.stage == 0) (nat_lt index (64 * sizes.first)) refl refl
    where
      by : (idle small : Bool) → (caller.stage == 0) ≡ idle → nat_lt index (64 * sizes.first) ≡ small
          → IsSoundRun sizes old (if idle && small then run_of (with_bit run.words index) (set run.callers who (begun caller index (get_or run.words (index / 64) 0))) else run)
      by true true idle small = begin-sound sizes fits old run.words run.callers who caller sound at index (grind arith) (grind arith)
      by true false idle small = sound
      by false any idle small = sound

  rise-keeps : (run : Run) (who : ℕ) → IsSoundRun sizes old run → (found : Option Caller) → get_elem? run.callers who ≡ found → IsSoundRun sizes old (after_rise sizes run who found)
  rise-keeps run who sound none at = sound
  rise-keeps run who sound (some caller) at = by caller.stage refl (sound.each who caller at).stage
    where
      by : (stage : ℕ) → caller.stage ≡ stage → stage < 4
          → IsSoundRun sizes old (if stage == 0 then run else run_of (with_bit run.words (address sizes stage (number_in stage caller.index))) (set run.callers who (if nat_lt stage 3 then risen caller else ended caller)))
      by zero is low = sound
      by (suc zero) is low = rise-sound sizes fits old run.words run.callers who caller sound at 0 is (omega arith) (omega arith)
      by (suc (suc zero)) is low = rise-sound sizes fits old run.words run.callers who caller sound at 1 is (omega arith) (omega arith)
      by (suc (suc (suc zero))) is low = end-sound sizes fits old run.words run.callers who caller sound at 2 is (omega arith) refl
      by (suc (suc (suc (suc stage)))) is low = absurd (omega arith)

  look-keeps : (run : Run) (who number : ℕ) → IsSoundRun sizes old run → (found : Option Caller) → get_elem? run.callers who ≡ found → IsSoundRun sizes old (after_look run who number found)
  look-keeps run who number sound none at = sound
  look-keeps run who number sound (some caller) at = look-sound sizes fits old run.words run.callers who caller sound at number

  pub step-keeps : (run : Run) (step : Step) → IsSoundRun sizes old run → IsSoundRun sizes old (after sizes run step)
  step-keeps run (Begin who index) sound = begin-keeps run who index sound (get_elem? run.callers who) refl
  step-keeps run (Rise who) sound = rise-keeps run who sound (get_elem? run.callers who) refl
  step-keeps run (Look who number) sound = look-keeps run who number sound (get_elem? run.callers who) refl

  steps-keep : (run : Run) (steps : List Step) → IsSoundRun sizes old run → IsSoundRun sizes old (after_all sizes steps run)
  steps-keep run [] sound = sound
  steps-keep run (step ∷ steps) sound = steps-keep (after sizes run step) steps (step-keeps run step sound)

  pub run-sound : (words : List ℕ) (callers : ℕ) (steps : List Step) → AreWordsOf sizes old words → IsSoundRun sizes old (after_all sizes steps (start words callers))
  run-sound words callers steps of_old = steps-keep (start words callers) steps (start-sound sizes fits old words callers of_old)
