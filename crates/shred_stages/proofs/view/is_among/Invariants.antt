use Rattle.std.proofs.Common.{◌≡◌, false, take}
use Rattle.shred_world.specs.Bundles.{is_listed}
use Rattle.shred_stages.proofs.view.is_among.Given as goal

abbrev pub invariant-loop-other : goal.invariant-loop-other
invariant-loop-other l = is_listed (take l.other-index l.ids) l.id ≡ false
