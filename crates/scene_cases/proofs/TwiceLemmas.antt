-- Two turns of drift over a scene.
use Rattle.std.proofs.Common.{◌≡◌, ℕ, List, ap, ◌∙◌, subst}
use Rattle.std.specs.Prelude.{Result, Ok, Err, OnOk}
use Rattle.shred_world.specs.Bundles.{Holding}
use Rattle.shred.specs.Dispatching.{Dispatching}
use Rattle.scene_model.specs.declared.refusals.FrameRefusal.{FrameRefusal}
use Rattle.scene_model.specs.Rulebook.{Command}
use Rattle.scene_model.specs.Scenes.{PlainScene, Steps}
use Rattle.scene_model.specs.Frames.{Queues, SystemsRun}
use Rattle.scene_world.specs.Standing.{seen_in, plain_of}
use Rattle.scene_cases.specs.Drifting.{drifting_book, moved_part, pos_name, vel_name}
use Rattle.scene_cases.specs.declared.turns.values.Value.{Value}
use Rattle.scene_dispatch.specs.Orders.{turn_order}
use Rattle.scene_dispatch.specs.Frames.{Come}
use Rattle.scene_cases.specs.Twice.{drifting_kinds, drift_at, drift_meaning, two_drifts, DriftsTwice}

-- what one turn leaves
pub record DriftsOnce (scene after : PlainScene) : Type 0 where
  pub ids : after.ids ≡ scene.ids
  pub positions : (id : ℕ) → after.part id pos_name ≡ moved_part (scene.part id pos_name) (scene.part id vel_name)
  pub velocities : (id : ℕ) → after.part id vel_name ≡ scene.part id vel_name

drifts-once : (position : ℕ) (scene after : PlainScene) (commands : List Command) → Steps drifting_book (drift_at position) scene after commands → DriftsOnce scene after
drifts-once position scene after commands (left, (drifted, none), lawful, is) = record {
  ids = ap (λ (s : PlainScene). s.ids) is;
  positions = λ id. ap (λ (s : PlainScene). s.part id pos_name) is ∙ drifted.positions id;
  velocities = λ id. ap (λ (s : PlainScene). s.part id vel_name) is;
}

-- two turns
pub drifts-twice : (scene after : PlainScene) (queues : Queues) → SystemsRun drifting_book two_drifts scene after queues → DriftsTwice scene after
drifts-twice scene after queues (mid, commands, rest, step, (last, more, others, next, (same, none), are), all) = record {
  ids = ap (λ (s : PlainScene). s.ids) same ∙ second.ids ∙ first.ids;
  positions = λ id. ap (λ (s : PlainScene). s.part id pos_name) same ∙ second.positions id
      ∙ ap (λ p. moved_part p (mid.part id vel_name)) (first.positions id) ∙ ap (moved_part (moved_part (scene.part id pos_name) (scene.part id vel_name))) (first.velocities id);
  velocities = λ id. ap (λ (s : PlainScene). s.part id vel_name) same ∙ second.velocities id ∙ first.velocities id;
}
  where
    first : DriftsOnce scene mid
    first = drifts-once 1 scene mid commands step

    second : DriftsOnce mid last
    second = drifts-once 2 mid last more next

-- so it is after a frame in which the two take their turns
pub frame-drifts : {P A : Type 0} (position : P → ℕ) (before after : Dispatching P P) (w w_after : Holding Value) (result : Result A FrameRefusal) → turn_order (drift_meaning position).plain before ≡ two_drifts
    → Come drifting_kinds (drift_meaning position) drifting_book before w result after w_after → OnOk result (DriftsTwice (plain_of drifting_kinds (seen_in w)) (plain_of drifting_kinds (seen_in w_after)))
frame-drifts position before after w w_after (Ok a) order come =
    drifts-twice _ _ come.queues (subst (λ systems. SystemsRun drifting_book systems (plain_of drifting_kinds (seen_in w)) (plain_of drifting_kinds (seen_in w_after)) come.queues) order come.systems)
frame-drifts position before after w w_after (Err cause) order come = tt
