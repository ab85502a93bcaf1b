use Rattle.std.proofs.Common.{ap, ◌∙◌, length, length-drop, arith}
use Rattle.std.proofs.lemmas.List.{take_rest}
use Rattle.scene.proofs.DeviceLemmas.{Appends-take}
use Rattle.scene.proofs.devices.writing.write_text.Goals as goal

-- the bytes that the write took follow those that were sent before
pub loop-sent-preserved : goal.loop-sent-preserved
loop-sent-preserved g c =
    let text = c.args.text.now in
    let sent = c.loop-sent.sent in
    let rest = take_rest text sent in
    record {
      appended = Appends-take _ _ _ text _ sent c.in-Ok.taken _ rest (omega arith) c.loop-sent.invariant.appended c.in-Ok.ensures.bytes;
      steady = c.in-Ok.ensures.count.some_taken (omega arith) ∙ c.loop-sent.invariant.steady;
      within = omega (arith, ap length rest, length-drop sent text, c.in-Ok.ensures.bound, c.loop-sent.invariant.within);
    }
