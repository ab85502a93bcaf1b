use Rattle.std.proofs.Common.{◌≡◌, ℕ, Bool, [], ◌∷◌, Option, sym, ◌∙◌}
use Rattle.scene_world.specs.Telling.{CatchesUp}
use Rattle.specs_layouts.specs.Channels.{Log}
use Rattle.specs_layouts.specs.declared.track.ComponentEvent.{ComponentEvent}
use Rattle.scene_world.specs.Stored.{Stored}
use Rattle.scene_world.proofs.CallerLemmas.{first-kind, next-kind}
use Rattle.duel.specs.declared.values.Value.{Value}
use Rattle.duel.specs.Values.{attack_column}
use Rattle.duel.specs.Values.{hp_column}
use Rattle.duel.specs.Values.{target_column}
use Rattle.duel.proofs.columns.DuelWorldRules.catch_up.Goals as goal

pub returns-then-eq : goal.returns-then-eq
returns-then-eq c =
    let Holds : (Value → ℕ → Option Stored) → (Value → Log ComponentEvent) → (Value → Bool) → Type 0 = λ stored events emits.
    CatchesUp stored events emits c.args.reader.now c.args.value.now c.catch_up.new.value in
    first-kind Holds c.args.kind.now attack_column hp_column (target_column ∷ []) (sym c.eq.ensures ∙ c.if-eq.true)
    (c.catch_up.ensures)

pub returns-then-eq-2 : goal.returns-then-eq-2
returns-then-eq-2 c =
    let Holds : (Value → ℕ → Option Stored) → (Value → Log ComponentEvent) → (Value → Bool) → Type 0 = λ stored events emits.
    CatchesUp stored events emits c.args.reader.now c.args.value.now c.catch_up-then-eq-2.new.value in
    next-kind Holds c.args.kind.now attack_column hp_column (target_column ∷ []) (sym c.eq.ensures ∙ c.if-eq.false)
    (first-kind Holds c.args.kind.now hp_column target_column ([]) (sym c.eq-2.ensures ∙ c.if-eq-2.true)
    (c.catch_up-then-eq-2.ensures))

pub returns : goal.returns
returns c =
    let Holds : (Value → ℕ → Option Stored) → (Value → Log ComponentEvent) → (Value → Bool) → Type 0 = λ stored events emits.
    CatchesUp stored events emits c.args.reader.now c.args.value.now c.catch_up-2.new.value in
    next-kind Holds c.args.kind.now attack_column hp_column (target_column ∷ []) (sym c.eq.ensures ∙ c.if-eq.false)
    (next-kind Holds c.args.kind.now hp_column target_column ([]) (sym c.eq-2.ensures ∙ c.if-eq-2.false)
    (c.catch_up-2.ensures))
