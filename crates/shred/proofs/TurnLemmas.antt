-- What one of several systems did in its turn, whatever type it has, and what an accepted dispatch comes to.
use Rattle.std.proofs.Common.{◌≡◌, List, [], ◌∷◌, ap, sym, ◌∙◌, subst, Option, None, Some, Result, Ok, Err}
use Rattle.std.specs.Prelude.{slice_get, slice_set, OnOk}
use Rattle.std.proofs.lemmas.Option.{same_Some}
use Rattle.shred_world.specs.Bundles.{Holding}
use Rattle.shred_plan.specs.Plan.{Placing, plan_order}
use Rattle.shred_world.specs.declared.resource_id.ResourceId.{ResourceId}
use Rattle.shred_stages.specs.declared.stop.Stop.{Stop}
use Rattle.shred_stages.specs.declared.error.DispatchError.{DispatchError}
use Rattle.shred_stages.specs.Views.{cut}
use Rattle.shred_stages.specs.Runs.{Step, State, Turn}
use Rattle.shred_stages.specs.Orders.{TakeTurns}
use Rattle.shred_stages.proofs.CallerLemmas.{turn-of, turns-in-order}
use Rattle.shred.specs.declared.work.Work.{Work}
use Rattle.shred.specs.declared.work.Work.TheVariants.{System}
use Rattle.shred.specs.declared.either.Either.{Either}
use Rattle.shred.specs.declared.either.Either.TheVariants.{Left, Right}
use Rattle.shred.specs.Works.{WorkMeets}
use Rattle.shred.specs.Eithers.{EitherDoes}
use Rattle.shred.specs.Locals.{LocalsRun}
use Rattle.shred.specs.Dispatching.{Dispatching, DispatchesInAnyOrder}

-- systems of one type among those of another: a run of one there is a run of it alone
abbrev pub Means : {V A S : Type 0} → (A → S) → (A → Holding V → Option Stop → A → Holding V → Type 0) → (S → Holding V → Option Stop → S → Holding V → Type 0) → Type 0
Means {V} {A} {S} wrapped alone meets =
    (a : A) (w : Holding V) (refused : Option Stop) (after : S) (w_after : Holding V) → meets (wrapped a) w refused after w_after → (left : A) × (after ≡ wrapped left) × alone a w refused left w_after

-- the one type and the other, and systems beside batches
pub left-means : {V L R : Type 0} (meets : L → Holding V → Option Stop → L → Holding V → Type 0) (other_meets : R → Holding V → Option Stop → R → Holding V → Type 0) → Means Left meets (EitherDoes meets other_meets)
left-means meets other_meets a w refused after w_after runs = runs

pub right-means : {V L R : Type 0} (meets : L → Holding V → Option Stop → L → Holding V → Type 0) (other_meets : R → Holding V → Option Stop → R → Holding V → Type 0) → Means Right other_meets (EitherDoes meets other_meets)
right-means meets other_meets a w refused after w_after runs = runs

pub system-means : {V S B : Type 0} (meets : S → Holding V → Option Stop → S → Holding V → Type 0) (batch_meets : B → Holding V → Option Stop → B → Holding V → Type 0) → Means System meets (WorkMeets meets batch_meets)
system-means meets batch_meets a w refused after w_after runs = runs

-- a type within a type within a third
pub means-within : {V A B S : Type 0} (alone : A → Holding V → Option Stop → A → Holding V → Type 0) (between : B → Holding V → Option Stop → B → Holding V → Type 0) (meets : S → Holding V → Option Stop → S → Holding V → Type 0)
    (inner : A → B) (outer : B → S) → Means inner alone between → Means outer between meets → Means (λ a. outer (inner a)) alone meets
means-within alone between meets inner outer inner_means outer_means a w refused after w_after runs =
    let whole = outer_means (inner a) w refused after w_after runs in
    let part = inner_means a w refused whole.0 w_after whole.2 in
    (part.0, whole.1 ∙ ap outer part.1, part.2)

module _ {V A S : Type 0} (wrapped : A → S) (alone : A → Holding V → Option Stop → A → Holding V → Type 0) where
  -- one of the systems took its turn, and nothing else changed its state
  pub record OneTurn (a : A) (one : Placing ResourceId) (before : State V S) (refused : Option Stop) (after : State V S) : Type 0 where
    pub left : A
    pub systems : after.systems ≡ slice_set before.systems one.number (wrapped left)
    pub step : Step alone one.reads one.writes a before.held refused left after.held

  pub turn-of-one : (meets : S → Holding V → Option Stop → S → Holding V → Type 0) → Means wrapped alone meets → (a : A) (one : Placing ResourceId) (before after : State V S) (refused : Option Stop)
      → slice_get before.systems one.number ≡ Some (wrapped a) → Turn meets one before refused after → OneTurn a one before refused after
  turn-of-one meets means a one before after refused there turn =
      let t = turn-of meets one before after refused turn in
      let is : t.system ≡ wrapped a = same_Some t.system (wrapped a) (sym t.there ∙ there) in
      let P : S → Type 0 = λ system. meets system (cut one.reads one.writes before.held) refused t.left t.step.after in
      let did = means a _ refused t.left t.step.after (subst P is t.step.runs) in
      record {
        left = did.0;
        systems = t.put ∙ ap (λ system. slice_set before.systems one.number system) did.1;
        step = record { after = t.step.after; runs = did.2; leaves = t.step.leaves; comes_back = t.step.comes_back };
      }

module _ {V S L : Type 0} (meets : S → Holding V → Option Stop → S → Holding V → Type 0) (local_meets : L → Holding V → Option Stop → L → Holding V → Type 0) where
  -- the staged systems took their turns in the order of the plan, and then the local ones ran
  pub record TurnsThenLocals (before : Dispatching S L) (w : Holding V) (after : Dispatching S L) (w_after : Holding V) : Type 0 where
    pub w_between : Holding V
    pub turns : TakeTurns meets (plan_order before.staging.planning.stages) (record { systems = before.staging.systems; held = w }) (record { systems = after.staging.systems; held = w_between })
    pub locals : LocalsRun local_meets 0 before.locals w_between None after.locals w_after

  -- so it is after a dispatch that is accepted
  pub dispatch-turns : {A : Type 0} (before after : Dispatching S L) (w w_after : Holding V) (result : Result A DispatchError) → DispatchesInAnyOrder meets local_meets before w result after w_after
      → OnOk result (TurnsThenLocals before w after w_after)
  dispatch-turns before after w w_after (Err error) did = tt
  dispatch-turns before after w w_after (Ok a) did =
      record { w_between = did.w_between; turns = turns-in-order meets (plan_order before.staging.planning.stages) _ _ did.steps; locals = did.locals }

module _ {V L : Type 0} (local_meets : L → Holding V → Option Stop → L → Holding V → Type 0) (w w_after : Holding V) (before after : List L) where
  -- without local systems nothing more is done
  pub no-local : before ≡ [] → LocalsRun local_meets 0 before w None after w_after → (after ≡ []) × (w_after ≡ w)
  no-local none runs =
      let P : List L → Type 0 = λ locals. LocalsRun local_meets 0 locals w None after w_after in
      let did = subst P none runs in
      (did.1, did.2)

  -- and one alone runs over what the staged ones left
  pub one-local : (local : L) → before ≡ local ∷ [] → LocalsRun local_meets 0 before w None after w_after → (left : L) × (after ≡ left ∷ []) × local_meets local w None left w_after
  one-local local one runs =
      let P : List L → Type 0 = λ locals. LocalsRun local_meets 0 locals w None after w_after in
      by (subst P one runs)
    where
      by : LocalsRun local_meets 0 (local ∷ []) w None after w_after → (left : L) × (after ≡ left ∷ []) × local_meets local w None left w_after
      by (None, left, rest, between, runs, leaves, is, (told, none, same)) =
          let Q : Holding V → Type 0 = λ held. local_meets local w None left held in
          (left, is ∙ ap (λ others. left ∷ others) none, subst Q (sym same) runs)
      by (Some stop, left, rest, between, runs, leaves, is, (told, same, held)) = cc
