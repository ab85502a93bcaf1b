use Rattle.std.proofs.Common.{arith}
use Rattle.scene.proofs.frame.Scene.rest.Goals as goal

pub returns-clause-ready : goal.returns-clause-ready
returns-clause-ready g c = record {
  stands = c.requires.ready.stands;
  kept = c.requires.ready.kept;
  under = c.requires.ready.under;
  lawful = c.requires.ready.lawful;
  proper = c.requires.ready.proper;
  few = omega (arith, c.requires.ready.few, c.requires.left);
}
