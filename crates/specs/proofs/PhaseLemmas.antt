-- Seats stay in their phases along every dispatch.
use Rattle.std.proofs.Common.{◌≡◌, ℕ, suc, List, [], ◌∷◌, Bool, true, false, Option, Some, None, is_some, Result, Ok, Err, refl, ap, sym, ◌∙◌, subst}
use Rattle.std.proofs.lemmas.Bool.{false≢true}
use Rattle.std.specs.Option.{MatchOption}
use Rattle.std.specs.Prelude.{slice_get, if◌then◌else◌}
use Rattle.shred_world.specs.declared.resource_id.ResourceId.{ResourceId}
use Rattle.shred_world.specs.Bundles.{Slot, absent, out, shared, owned, Holding, takable, readable, is_listed}
use Rattle.shred_plan.specs.Plan.{Placing, Group, Stage}
use Rattle.shred_stages.specs.declared.stop.Stop.{Stop}
use Rattle.shred_stages.specs.declared.error.DispatchError.{DispatchError}
use Rattle.shred_stages.specs.declared.error.DispatchError.TheVariants.{System, Local, Memory, Threads}
use Rattle.shred_stages.specs.Views.{IsLeft, cut, merged, owned_of, reading, shared_of}
use Rattle.shred_stages.specs.Runs.{State, Step, Turn, GroupRuns, StageRuns, StagesRun}
use Rattle.shred_stages.specs.Staging.{Staging}
use Rattle.shred_stages.specs.Ends.{RunsApart}
use Rattle.shred.specs.Locals.{LocalsRun}
use Rattle.shred.specs.Dispatching.{Dispatching, DispatchesAll, ThenLocals}
use Rattle.specs_entity.specs.declared.phase_seat.PhaseSeat.{PhaseSeat}
use Rattle.specs.specs.Phases.{seat_in, StaysSeated, KeepPhases}

module _ {V : Type 0} (part : V → Option PhaseSeat) where
  same-seated : (before after : Slot V) → after ≡ before → StaysSeated part before after
  same-seated before after same seat there = (seat, ap (seat_in part) same ∙ there, refl)

  then-seated : (first second third : Slot V) → StaysSeated part first second → StaysSeated part second third → StaysSeated part first third
  then-seated first second third one other seat there =
      let between = one seat there in
      let last = other between.0 between.1 in
      (last.0, last.1, last.2 ∙ between.2)

  -- what is not lent for writing comes back as it was
  read-back : (there : Option V) (left now : Slot V) → IsLeft (shared_of there) left → merged left now ≡ now
  read-back None left now is = ap (λ slot. merged slot now) is
  read-back (Some v) left now is = ap (λ slot. merged slot now) is

  absent-back : (lent left now : Slot V) → lent ≡ absent → IsLeft lent left → merged left now ≡ now
  absent-back absent left now same is = ap (λ slot. merged slot now) is
  absent-back out left now same is = ap (λ slot. merged slot now) is
  absent-back (shared v) left now same is = ap (λ slot. merged slot now) is
  absent-back (owned v) left now same is = absurd (false≢true (ap (λ slot. is_some (takable slot)) (sym same)))

  -- a seat that is lent for writing comes back in its phase
  written-back : (left now : Slot V) → StaysSeated part (owned_of (takable now)) left → StaysSeated part now (merged left now)
  written-back left absent keeps seat there = absurd (false≢true (ap is_some there))
  written-back left out keeps seat there = absurd (false≢true (ap is_some there))
  written-back left (shared v) keeps seat there = absurd (false≢true (ap is_some there))
  written-back absent (owned v) keeps seat there = (seat, there, refl)
  written-back out (owned v) keeps seat there = (seat, there, refl)
  written-back (shared w) (owned v) keeps seat there = (seat, there, refl)
  written-back (owned w) (owned v) keeps seat there = keeps seat there

  module _ {S : Type 0} (meets : S → Holding V → Option Stop → S → Holding V → Type 0) (keep : KeepPhases part meets) where
    step-seated : (reads writes : List ResourceId) (system left : S) (w w_after : Holding V) (refused : Option Stop) → Step meets reads writes system w refused left w_after → (id : ResourceId) → StaysSeated part (w id) (w_after id)
    step-seated reads writes system left w w_after refused step id =
        subst (StaysSeated part (w id)) (sym (step.comes_back id)) (by (is_listed writes id) refl (is_listed reads id) refl)
      where
        by : (written : Bool) → is_listed writes id ≡ written → (read : Bool) → is_listed reads id ≡ read → StaysSeated part (w id) (merged (step.after id) (w id))
        by true is read is_read =
            let lent : cut reads writes w id ≡ owned_of (takable (w id)) = ap (λ b. if b then owned_of (takable (w id)) else reading reads w id) is in
            written-back (step.after id) (w id) (subst (λ slot. StaysSeated part slot (step.after id)) lent (keep system left (cut reads writes w) step.after refused step.runs id))
        by false is true is_read =
            let lent : cut reads writes w id ≡ shared_of (readable (w id)) =
            ap (λ b. if b then owned_of (takable (w id)) else reading reads w id) is ∙ ap (λ b. if b then shared_of (readable (w id)) else absent) is_read in
            same-seated (w id) (merged (step.after id) (w id)) (read-back (readable (w id)) (step.after id) (w id) (subst (λ slot. IsLeft slot (step.after id)) lent (step.leaves id)))
        by false is false is_read =
            let lent : cut reads writes w id ≡ absent = ap (λ b. if b then owned_of (takable (w id)) else reading reads w id) is ∙ ap (λ b. if b then shared_of (readable (w id)) else absent) is_read in
            same-seated (w id) (merged (step.after id) (w id)) (absent-back (cut reads writes w id) (step.after id) (w id) lent (step.leaves id))

    turn-seated : (one : Placing ResourceId) (before after : State V S) (refused : Option Stop) → Turn meets one before refused after → (id : ResourceId) → StaysSeated part (before.held id) (after.held id)
    turn-seated one before after refused (left, step, put) id = by (slice_get before.systems one.number) step
      where
        by : (found : Option S) → MatchOption found ⊥ (λ system. Step meets one.reads one.writes system before.held refused left after.held) → StaysSeated part (before.held id) (after.held id)
        by None none_there = absurd none_there
        by (Some system) ran = step-seated one.reads one.writes system left before.held after.held refused ran id

    held-seated : (before after : State V S) → after ≡ before → (id : ResourceId) → StaysSeated part (before.held id) (after.held id)
    held-seated before after same id = same-seated (before.held id) (after.held id) (ap (λ (state : State V S). state.held id) same)

    group-seated : (group : Group ResourceId) (before after : State V S) (refused : Option (ℕ × Stop)) → GroupRuns meets group before refused after → (id : ResourceId) → StaysSeated part (before.held id) (after.held id)
    group-seated [] before after refused ran id = held-seated before after ran.1 id
    group-seated (one ∷ others) before after refused (between, stop, turn, rest) id =
        then-seated (before.held id) (between.held id) (after.held id) (turn-seated one before between stop turn id) (by stop rest (λ ran. group-seated others between after refused ran id))
      where
        by : (stop : Option Stop) → MatchOption stop (GroupRuns meets others between refused after) (λ why. (refused ≡ Some (one.number, why)) × (after ≡ between))
            → (GroupRuns meets others between refused after → StaysSeated part (between.held id) (after.held id)) → StaysSeated part (between.held id) (after.held id)
        by None ran goes_on = goes_on ran
        by (Some why) ended goes_on = held-seated between after ended.1 id

    stage-seated : (stage : Stage ResourceId) (before after : State V S) (refused : Option (ℕ × Stop)) → StageRuns meets stage before refused after → (id : ResourceId) → StaysSeated part (before.held id) (after.held id)
    stage-seated [] before after refused ran id = held-seated before after ran.1 id
    stage-seated (group ∷ stage) before after refused (between, first, later, ran, rest, told) id =
        then-seated (before.held id) (between.held id) (after.held id) (group-seated group before between first ran id) (stage-seated stage between after later rest id)

    stages-seated : (stages : List (Stage ResourceId)) (before after : State V S) (refused : Option (ℕ × Stop)) → StagesRun meets stages before refused after → (id : ResourceId) → StaysSeated part (before.held id) (after.held id)
    stages-seated [] before after refused ran id = held-seated before after ran.1 id
    stages-seated (stage ∷ later) before after refused (between, stop, ran, rest) id =
        then-seated (before.held id) (between.held id) (after.held id) (stage-seated stage before between stop ran id) (by stop rest (λ ran'. stages-seated later between after refused ran' id))
      where
        by : (stop : Option (ℕ × Stop)) → MatchOption stop (StagesRun meets later between refused after) (λ why. (refused ≡ Some why) × (after ≡ between))
            → (StagesRun meets later between refused after → StaysSeated part (between.held id) (after.held id)) → StaysSeated part (between.held id) (after.held id)
        by None ran' goes_on = goes_on ran'
        by (Some why) ended goes_on = held-seated between after ended.1 id

    apart-seated : {A : Type 0} (before after : Staging S) (w w_after : Holding V) (result : Result A DispatchError) → RunsApart meets before w result after w_after → (id : ResourceId) → StaysSeated part (w id) (w_after id)
    apart-seated before after w w_after (Ok a) ran id = stages-seated before.planning.stages _ _ ran.0 ran.2 id
    apart-seated before after w w_after (Err (System number stop)) ran id = stages-seated before.planning.stages _ _ ran.0 ran.2 id
    apart-seated before after w w_after (Err (Local place stop)) ran id = absurd ran
    apart-seated before after w w_after (Err Memory) same id = held-seated _ _ same id
    apart-seated before after w w_after (Err Threads) same id = held-seated _ _ same id

    locals-seated : (place : ℕ) (locals after : List S) (w w_after : Holding V) (refused : Option (ℕ × Stop)) → LocalsRun meets place locals w refused after w_after → (id : ResourceId) → StaysSeated part (w id) (w_after id)
    locals-seated place [] after w w_after refused ran id = same-seated (w id) (w_after id) (ap (λ h. h id) ran.2)
    locals-seated place (local ∷ others) after w w_after refused (stop, left, rest, between, ran, leaves, put, more) id =
        then-seated (w id) (between id) (w_after id) (keep local left w between stop ran id) (by stop more (λ ran'. locals-seated (suc place) others rest between w_after refused ran' id))
      where
        by : (stop : Option Stop) → MatchOption stop (LocalsRun meets (suc place) others between refused rest w_after) (λ why. (refused ≡ Some (place, why)) × (rest ≡ others) × (w_after ≡ between))
            → (LocalsRun meets (suc place) others between refused rest w_after → StaysSeated part (between id) (w_after id)) → StaysSeated part (between id) (w_after id)
        by None ran' goes_on = goes_on ran'
        by (Some why) ended goes_on = same-seated (between id) (w_after id) (ap (λ h. h id) ended.2)

  module _ {S L : Type 0} (meets : S → Holding V → Option Stop → S → Holding V → Type 0) (local_meets : L → Holding V → Option Stop → L → Holding V → Type 0) (keep : KeepPhases part meets) (keep_locals : KeepPhases part local_meets) where
    then-locals-seated : {A : Type 0} (before after : Dispatching S L) (w w_after : Holding V) (staged result : Result A DispatchError) → ThenLocals meets local_meets before w staged result after w_after → (id : ResourceId) → StaysSeated part (w id) (w_after id)
    then-locals-seated before after w w_after (Ok a) result ran id = locals-seated local_meets keep_locals 0 before.locals after.locals w w_after ran.refused ran.runs id
    then-locals-seated before after w w_after (Err error) result same id = same-seated (w id) (w_after id) (ap (λ h. h id) same.2)

    pub dispatch-seated : {A : Type 0} (before after : Dispatching S L) (w w_after : Holding V) (result : Result A DispatchError) → DispatchesAll meets local_meets before w result after w_after → (id : ResourceId) → StaysSeated part (w id) (w_after id)
    dispatch-seated before after w w_after result ran id =
        then-seated (w id) (ran.w_between id) (w_after id) (apart-seated meets keep before.staging ran.between.staging w ran.w_between ran.staged_result ran.staged.runs id)
        (then-locals-seated ran.between after ran.w_between w_after ran.staged_result result ran.then_locals id)
