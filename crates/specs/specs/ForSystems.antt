-- The words of contracts over systems and dispatchers, for crates that stand on this one alone.
pub use Rattle.shred.specs.Batches.{Batched}
pub use Rattle.shred.specs.Bundling.{BundleMeets, ChangesBundle, IsFetched, IsWanting}
pub use Rattle.shred.specs.Dispatching.{Dispatching, DispatchesAll, DispatchesInAnyOrder, StepsThenLocals}
pub use Rattle.shred.specs.Eithers.{EitherDoes}
pub use Rattle.shred.specs.Locals.{LocalsRun}
pub use Rattle.shred.specs.Nothing.{ChangesNothing}
pub use Rattle.shred.specs.Works.{WorkMeets}
pub use Rattle.shred.specs.declared.either.Either.{Either}
pub use Rattle.shred.specs.declared.either.Either.TheVariants.{Left, Right}
pub use Rattle.shred.specs.declared.nothing.NoBatch.{NoBatch}
pub use Rattle.shred.specs.declared.nothing.NoLocal.{NoLocal}
pub use Rattle.shred.specs.declared.work.Work.{Work}
pub use Rattle.shred.specs.declared.work.Work.TheVariants.{System, Batch}
pub use Rattle.shred_plan.specs.Plan.{Placing, plan_order}
pub use Rattle.shred_stages.specs.Changes.{with_values}
pub use Rattle.shred_stages.specs.Orders.{RunsUpToOrder, TakeTurns}
pub use Rattle.shred_stages.specs.Runs.{State, Step, Turn}
pub use Rattle.shred_stages.specs.Staging.{Staging}
pub use Rattle.shred_stages.specs.Views.{cut, error_of}
pub use Rattle.shred_stages.specs.declared.error.DispatchError.{DispatchError}
pub use Rattle.shred_stages.specs.declared.stop.Stop.{Stop}
pub use Rattle.specs.specs.Turning.{Turns}
