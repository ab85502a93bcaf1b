-- What stops a system: a command that was not taken in, or a text with which it refuses.
use Rattle.std.specs.Prelude.{◌≡◌, ℕ, List}
use Rattle.std.specs.String.{string_bytes}
use Rattle.shred_stages.specs.declared.stop.Stop.{Stop}
use Rattle.shred_stages.specs.declared.stop.Stop.TheVariants as stop
use Rattle.scene_model.specs.declared.command.NotQueued.{NotQueued}
use Rattle.scene_model.specs.declared.command.NotQueued.TheVariants as refused

-- the stop of a system whose command was not taken in
abbrev pub stop_for : {D : Type 0} → NotQueued D → Stop
stop_for (refused.Full command) = stop.Full
stop_for (refused.Memory command) = stop.Memory

-- a system refuses with a text, or memory was wanting for it
abbrev pub RefusesWith : List ℕ → Stop → Type 0
RefusesWith text (stop.Refused said) = string_bytes said ≡ text
RefusesWith text stop.Memory = Unit {0}
RefusesWith text stop.Full = ⊥
