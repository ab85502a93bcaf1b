-- What the tasks of the tests make of a world.
use Rattle.std.specs.Prelude.{Option}
use Rattle.shred_world.specs.Worlds.{Slots}
use Rattle.specs_entity.specs.declared.errors.Error.{Error}
use Rattle.specs_world.specs.declared.job.Insert.{Insert}
use Rattle.specs_world.specs.declared.job.InsertAll.{InsertAll}
use Rattle.specs_world.specs.declared.job.Remove.{Remove}
use Rattle.specs_layouts.specs.declared.storages.vec.VecStorage.{VecStorage}
use Rattle.world_cases.specs.declared.lazy.tasks.Health.{Health}
use Rattle.world_cases.specs.declared.lazy.tasks.Task.{Task}
use Rattle.world_cases.specs.declared.lazy.tasks.Task.TheVariants.{PutHealth, PutHealths, DropHealth, Note, NoteAndQueue, MakeEntity, FindNoMemory}

-- those that put and drop parts do that, and of the others nothing is told
abbrev pub task_runs : {V : Type 0} → (Insert Health (VecStorage Health) → Option Error → Slots V → Slots V → Type 0) → (InsertAll Health (VecStorage Health) → Option Error → Slots V → Slots V → Type 0) → (Remove Health → Option Error → Slots V → Slots V → Type 0)
    → Task → Option Error → Slots V → Slots V → Type 0
task_runs puts puts_each drops (PutHealth job) = puts job
task_runs puts puts_each drops (PutHealths job) = puts_each job
task_runs puts puts_each drops (DropHealth job) = drops job
task_runs puts puts_each drops (Note number) = λ _ _ _. Unit {0}
task_runs puts puts_each drops (NoteAndQueue number under later) = λ _ _ _. Unit {0}
task_runs puts puts_each drops MakeEntity = λ _ _ _. Unit {0}
task_runs puts puts_each drops FindNoMemory = λ _ _ _. Unit {0}
