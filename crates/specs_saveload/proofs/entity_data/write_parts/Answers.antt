use Rattle.std.proofs.Common.{[]}
use Rattle.specs_saveload.proofs.PartsLemmas.{parts-written}
use Rattle.specs_saveload.proofs.entity_data.write_parts.Goals as goal

pub returns-clause-written : goal.returns-clause-written
returns-clause-written g c = parts-written g.D.PartForms.rest_of (g.D.PartForms.forms c.args.parts.now) (c.in_ok-values.ensures.written [])
