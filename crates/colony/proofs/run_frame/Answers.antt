use Rattle.std.proofs.Common.{refl}
use Rattle.colony.specs.Systems.{Ends, Moves}
use Rattle.specs.proofs.CallerLemmas.{turned}
use Rattle.colony.proofs.FrameLemmas.{dispatched, ends-there, moves-there}
use Rattle.colony.proofs.run_frame.Goals as goal

pub returns-clause-frame : goal.returns-clause-frame
returns-clause-frame g c =
    let did =
    dispatched _ _ _ _ (turned (λ bundle. bundle.1.parts.value) (λ _ _ fits. fits.1) Moves (λ seen bundle changed _ _ becoming. moves-there seen _ _ (becoming refl)))
    (turned (λ bundle. bundle.0.value) (λ _ _ fits. fits) _ (λ seen bundle changed _ _ becoming. becoming refl))
    (turned (λ bundle. bundle.0.value) (λ _ _ fits. fits.0) Ends (λ seen bundle changed _ _ becoming. ends-there seen _ _ becoming.1))
    c.args.systems.now c.dispatch.new.self _ _ c.in_ok-dispatch.field-0 c.requires.colony c.in_ok-dispatch.ensures.any_order in
    record { dispatched = c.dispatch.new.world; dispatches = did.2; maintained = c.in_ok-maintain.ensures.maintains }
