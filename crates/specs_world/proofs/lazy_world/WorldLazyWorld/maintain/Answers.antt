use Rattle.std.proofs.Common.{inl}
use Rattle.specs_world.proofs.lazy_world.WorldLazyWorld.maintain.Goals as goal

pub returns-in-Ok-clause-maintains : goal.returns-in-Ok-clause-maintains
returns-in-Ok-clause-maintains g c = inl (c.in-Ok.field-0.items, c.merge.new.self, c.in-Ok.ensures.ok, c.run_jobs.ensures.runs)
