use Rattle.std.proofs.Common.{◌≡◌, ℕ, Bool, [], ◌∷◌, Option, sym, ◌∙◌}
use Rattle.std.proofs.Common.{true}
use Rattle.scene_world.specs.Putting.{named_in}
use Rattle.specs_layouts.specs.Channels.{Log}
use Rattle.specs_layouts.specs.declared.track.ComponentEvent.{ComponentEvent}
use Rattle.scene_world.specs.Stored.{Stored}
use Rattle.scene_world.proofs.CallerLemmas.{first-kind, next-kind}
use Rattle.duel.specs.declared.values.Value.{Value}
use Rattle.duel.specs.Values.{attack_column}
use Rattle.duel.specs.Values.{hp_column}
use Rattle.duel.specs.Values.{target_column}
use Rattle.duel.proofs.columns.DuelWorldRules.names_nobody.Goals as goal

pub returns : goal.returns
returns c =
    let Holds : (Value → ℕ → Option Stored) → (Value → Log ComponentEvent) → (Value → Bool) → Type 0 = λ stored events emits.
    c.names_nobody-2.result ≡ true → (index : ℕ) → named_in (stored c.args.value.now index) ≡ [] in
    next-kind Holds c.args.kind.now attack_column hp_column (target_column ∷ []) (sym c.eq.ensures ∙ c.if-eq.false)
    (next-kind Holds c.args.kind.now hp_column target_column ([]) (sym c.eq-2.ensures ∙ c.if-eq-2.false)
    (c.names_nobody-2.ensures))
