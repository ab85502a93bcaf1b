use Rattle.std.proofs.Common.{Ok, refl}
use Rattle.simulation.proofs.FrameLemmas.{dispatch-moves}
use Rattle.simulation.proofs.MergeLemmas.{frame-framed}
use Rattle.simulation.proofs.frames.run_frame.Goals as goal

pub returns-in-Ok-merge-clause-parts : goal.returns-in-Ok-merge-clause-parts
returns-in-Ok-merge-clause-parts g c =
    (frame-framed c.args.world.now c.dispatch.new.world c.merge.new.self c.requires.stands
    (dispatch-moves _ _ c.args.dispatcher.now c.dispatch.new.self _ _ (Ok c.in-Ok.field-0) c.requires.two c.in-Ok.ensures.any_order)
    c.in-Ok-merge.field-0.items c.in-Ok-merge.ensures.ok (λ _. refl) (λ _. refl) (λ _ _ _ dropped. dropped.parts) (λ _ _ _ dropped. dropped.parts)).1

pub returns-in-Ok-merge-clause-stays : goal.returns-in-Ok-merge-clause-stays
returns-in-Ok-merge-clause-stays g c =
    (frame-framed c.args.world.now c.dispatch.new.world c.merge.new.self c.requires.stands
    (dispatch-moves _ _ c.args.dispatcher.now c.dispatch.new.self _ _ (Ok c.in-Ok.field-0) c.requires.two c.in-Ok.ensures.any_order)
    c.in-Ok-merge.field-0.items c.in-Ok-merge.ensures.ok (λ _. refl) (λ _. refl) (λ _ _ _ dropped. dropped.parts) (λ _ _ _ dropped. dropped.parts)).0
