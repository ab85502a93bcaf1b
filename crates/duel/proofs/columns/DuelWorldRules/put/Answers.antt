use Rattle.std.proofs.Common.{◌≡◌, ℕ, Bool, [], ◌∷◌, Option, sym, ◌∙◌}
use Rattle.std.specs.Prelude.{OnErr}
use Rattle.scene_world.specs.Putting.{SameColumn}
use Rattle.specs_layouts.specs.Channels.{Log}
use Rattle.specs_layouts.specs.declared.track.ComponentEvent.{ComponentEvent}
use Rattle.scene_world.specs.Stored.{Stored}
use Rattle.scene_world.proofs.CallerLemmas.{first-kind, next-kind}
use Rattle.duel.specs.declared.values.Value.{Value}
use Rattle.duel.specs.Values.{attack_column}
use Rattle.duel.specs.Values.{hp_column}
use Rattle.duel.specs.Values.{target_column}
use Rattle.duel.proofs.columns.DuelWorldRules.put.Goals as goal

pub returns-then-eq-clause-err : goal.returns-then-eq-clause-err
returns-then-eq-clause-err c =
    let Holds : (Value → ℕ → Option Stored) → (Value → Log ComponentEvent) → (Value → Bool) → Type 0 = λ stored events emits.
    OnErr c.put.result (SameColumn stored c.args.value.now c.put.new.value) in
    first-kind Holds c.args.kind.now attack_column hp_column (target_column ∷ []) (sym c.eq.ensures ∙ c.if-eq.true)
    (c.put.ensures.err)

pub returns-then-eq-2-clause-err : goal.returns-then-eq-2-clause-err
returns-then-eq-2-clause-err c =
    let Holds : (Value → ℕ → Option Stored) → (Value → Log ComponentEvent) → (Value → Bool) → Type 0 = λ stored events emits.
    OnErr c.put-then-eq-2.result (SameColumn stored c.args.value.now c.put-then-eq-2.new.value) in
    next-kind Holds c.args.kind.now attack_column hp_column (target_column ∷ []) (sym c.eq.ensures ∙ c.if-eq.false)
    (first-kind Holds c.args.kind.now hp_column target_column ([]) (sym c.eq-2.ensures ∙ c.if-eq-2.true)
    (c.put-then-eq-2.ensures.err))

pub returns-clause-err : goal.returns-clause-err
returns-clause-err c =
    let Holds : (Value → ℕ → Option Stored) → (Value → Log ComponentEvent) → (Value → Bool) → Type 0 = λ stored events emits.
    OnErr c.put-2.result (SameColumn stored c.args.value.now c.put-2.new.value) in
    next-kind Holds c.args.kind.now attack_column hp_column (target_column ∷ []) (sym c.eq.ensures ∙ c.if-eq.false)
    (next-kind Holds c.args.kind.now hp_column target_column ([]) (sym c.eq-2.ensures ∙ c.if-eq-2.false)
    (c.put-2.ensures.err))
