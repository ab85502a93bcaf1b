use Rattle.std.proofs.Common.{ap, ◌∙◌}
use Rattle.std.proofs.lemmas.Result.{on_ok_weaker}
use Rattle.simulation.specs.Frames.{framed}
use Rattle.simulation.proofs.frames.run_three.Goals as goal

pub returns : goal.returns
returns g c =
    on_ok_weaker c.run_frame-3.result
    (λ parts index. parts index ∙ ap framed (c.in_ok-run_frame-2.ensures.parts index ∙ ap framed (c.in_ok-run_frame.ensures.parts index)))
    c.run_frame-3.ensures.parts
