use Rattle.std.specs.Vec.Iter.{into_iter_items}
use Rattle.specs_world.specs.Resources.{place}
use Rattle.specs_world.specs.Jobs.{PutsPair}
use Rattle.specs_world.proofs.JobLemmas.{AreLeft}
use Rattle.specs_world.proofs.job.InsertAllJob.run.Given as goal

abbrev pub invariant-loop-entity : goal.invariant-loop-entity
invariant-loop-entity g l =
    let storage = g.C.Storage.UnprotectedStorage in
    let births_at = place g.bound-5.part g.bound-5.wrapped g.bound-5.kind_number in
    let at = place g.bound-7.part g.bound-7.wrapped g.bound-7.kind_number in
    AreLeft (PutsPair births_at at storage.part_at storage.events storage.emits) l.fn.self.pairs.items l.initial.world (into_iter_items l.entity-iterator) l.refused l.world
