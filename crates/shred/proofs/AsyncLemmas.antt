-- Waiting for a dispatch, and the local systems after it, are one dispatch.
use Rattle.std.proofs.Common.{◌≡◌, sym, subst, refl, Bool, true, false, List, Option, Some, None, Result, Ok, Err}
use Rattle.shred_world.specs.Bundles.{Holding, holding_of}
use Rattle.shred_stages.specs.declared.stop.Stop.{Stop}
use Rattle.shred_stages.specs.declared.error.DispatchError.{DispatchError}
use Rattle.shred_stages.specs.Ends.{RunsApart}
use Rattle.shred_stages.specs.Orders.{RunsInAnyOrder}
use Rattle.shred_stages.proofs.CallerLemmas.{leaves-leaves}
use Rattle.shred_stages.specs.declared.errand.Errand.{Errand}
use Rattle.shred_stages.specs.Errands.{Leaves as ErrandLeaves}
use Rattle.shred.specs.declared.async_error.AsyncError.{AsyncError}
use Rattle.shred.specs.Dispatching.{Dispatching, DispatchesLocals, DispatchesInAnyOrder, ThenLocals}
use Rattle.shred.specs.Asyncs.{Owning, Owned, here, Tells, WhenAway, Does, Ends, HasRun, HasRunWhole, Joins, Finishes}
use Rattle.shred.proofs.OrderLemmas.{steps-and-locals, refused-in-any-order}

-- what holds of one that is away and of one that is here follows from what holds so far, in each case
when-away : {away here away2 here2 : Type 0} (is_away : Bool) → (away → away2) → (here → here2) → WhenAway is_away away here → WhenAway is_away away2 here2
when-away true of_away of_here holds = of_away holds
when-away false of_away of_here holds = of_here holds

module _ {V S L : Type 0} (meets : S → Holding V → Option Stop → S → Holding V → Type 0) (local_meets : L → Holding V → Option Stop → L → Holding V → Type 0) where
  -- a run of the stages in a thread of their own, which came back, is a dispatch of them on threads
  pub comes-back : (begun left : Errand V S) (locals : List L) (outcome : Result Unit DispatchError) (answer : Result Unit AsyncError) (dispatching : Dispatching S L)
      → dispatching ≡ record { staging = left.stages; locals = locals; workers = left.workers } → ErrandLeaves meets begun outcome left → Tells outcome answer
      → Ends (HasRun meets local_meets) (record { is_away = true; dispatching = record { staging = begun.stages; locals = locals; workers = begun.workers }; world = begun.world }) answer (here dispatching left.world)
  comes-back begun left locals outcome answer dispatching is leaves told =
      record {
        outcome = outcome;
        left = dispatching;
        world = left.world;
        runs = subst (λ after. HasRun meets local_meets (record { staging = begun.stages; locals = locals; workers = begun.workers }) (holding_of begun.world) outcome after (holding_of left.world)) (sym is)
            (record { runs = record { runs = leaves.runs; alone = leaves.alone; plan = leaves.plan; locals = refl; workers = leaves.workers }; any_order = leaves.any_order });
        leaves = leaves.ids;
        told = told;
        at_hand = refl;
      }

  -- the local systems that run after what was accepted
  then-locals : (between left : Dispatching S L) (w w2 : Holding V) (staged outcome : Result Unit DispatchError) → Tells {B = Unit} staged (Ok tt)
      → DispatchesLocals meets local_meets between w outcome left w2 → ThenLocals meets local_meets between w staged outcome left w2
  then-locals between left w w2 (Ok tt) outcome told locals = locals
  then-locals between left w w2 (Err error) outcome told locals = absurd told

  -- a dispatch that was refused ends there
  no-locals : (between : Dispatching S L) (w : Holding V) (outcome : Result Unit DispatchError) (error : AsyncError) → Tells {B = Unit} outcome (Err error)
      → ThenLocals meets local_meets between w outcome outcome between w
  no-locals between w (Ok tt) error told = absurd told
  no-locals between w (Err refusal) error told = (refl, refl, refl)

  -- both come to the same in any order of the staged systems
  then-in-any-order : (before between left : Dispatching S L) (w w2 w3 : Holding V) → between.locals ≡ before.locals → (staged outcome : Result Unit DispatchError) → Tells {B = Unit} staged (Ok tt)
      → RunsInAnyOrder meets before.staging w staged between.staging w2 → DispatchesLocals meets local_meets between w2 outcome left w3 → DispatchesInAnyOrder meets local_meets before w outcome left w3
  then-in-any-order before between left w w2 w3 same (Ok tt) outcome told steps locals = steps-and-locals meets local_meets before between left w w2 w3 same outcome steps locals
  then-in-any-order before between left w w2 w3 same (Err error) outcome told steps locals = absurd told

  none-in-any-order : (before between : Dispatching S L) (w w2 : Holding V) → between.locals ≡ before.locals → (outcome : Result Unit DispatchError) (error : AsyncError) → Tells {B = Unit} outcome (Err error)
      → RunsApart meets before.staging w outcome between.staging w2 → DispatchesInAnyOrder meets local_meets before w outcome between w2
  none-in-any-order before between w w2 same (Ok tt) error told runs = absurd told
  none-in-any-order before between w w2 same (Err refusal) error told runs = refused-in-any-order meets local_meets before between between w w2 w2 same Unit refusal runs

  -- what was waited for, and the local systems over what it left
  ends-with-locals : (before : Owning V S L) (between after : Owned V S L) (answer : Result Unit AsyncError)
      → Ends {A = Unit} (HasRun meets local_meets) before (Ok tt) between → Does (Ends (DispatchesLocals meets local_meets)) between answer after
      → Ends (HasRunWhole meets local_meets) before answer after
  ends-with-locals before between after answer joined does =
      let local : Ends (DispatchesLocals meets local_meets) (record { is_away = false; dispatching = joined.left; world = joined.world }) answer after = subst (λ owned. Does (Ends (DispatchesLocals meets local_meets)) owned answer after) joined.at_hand does in
      record {
        outcome = local.outcome;
        left = local.left;
        world = local.world;
        runs = record {
          runs = record {
            between = joined.left;
            w_between = holding_of joined.world;
            staged_result = joined.outcome;
            staged = joined.runs.runs;
            then_locals = then-locals joined.left local.left (holding_of joined.world) (holding_of local.world) joined.outcome local.outcome joined.told local.runs;
          };
          any_order = then-in-any-order before.dispatching joined.left local.left (holding_of before.world) (holding_of joined.world) (holding_of local.world) joined.runs.runs.locals joined.outcome local.outcome joined.told joined.runs.any_order local.runs;
        };
        leaves = leaves-leaves (holding_of before.world) (holding_of joined.world) (holding_of local.world) joined.leaves local.leaves;
        told = local.told;
        at_hand = local.at_hand;
      }

  -- what was waited for and refused
  ends-refused : (before : Owning V S L) (after : Owned V S L) (error : AsyncError)
      → Ends {A = Unit} (HasRun meets local_meets) before (Err error) after → Ends {A = Unit} (HasRunWhole meets local_meets) before (Err error) after
  ends-refused before after error joined =
      record {
        outcome = joined.outcome;
        left = joined.left;
        world = joined.world;
        runs = record {
          runs = record {
            between = joined.left;
            w_between = holding_of joined.world;
            staged_result = joined.outcome;
            staged = joined.runs.runs;
            then_locals = no-locals joined.left (holding_of joined.world) joined.outcome error joined.told;
          };
          any_order = none-in-any-order before.dispatching joined.left (holding_of before.world) (holding_of joined.world) joined.runs.runs.locals joined.outcome error joined.told joined.runs.runs.runs;
        };
        leaves = joined.leaves;
        told = joined.told;
        at_hand = joined.at_hand;
      }

  -- waiting, and then the local systems
  pub finishes : (before between after : Owned V S L) (answer : Result Unit AsyncError) → Joins meets local_meets {A = Unit} before (Ok tt) between
      → Does (Ends (DispatchesLocals meets local_meets)) between answer after → Finishes meets local_meets before answer after
  finishes None between after answer joins does = absurd joins.0
  finishes (Some before) between after answer joins does =
      when-away before.is_away
      (λ joined. ends-with-locals before between after answer joined does)
      (λ stays. subst (λ owned. Does (Ends (DispatchesLocals meets local_meets)) owned answer after) stays.1 does)
      joins

  -- waiting for what was refused
  pub finishes-refused : (before after : Owned V S L) (error : AsyncError) → Joins meets local_meets {A = Unit} before (Err error) after
      → Finishes meets local_meets {A = Unit} before (Err error) after
  finishes-refused None after error joins = joins
  finishes-refused (Some before) after error joins = when-away before.is_away (λ joined. ends-refused before after error joined) (λ stays. absurd stays.0) joins
