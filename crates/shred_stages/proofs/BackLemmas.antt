-- Values that were lent to groups and came back make the world in which the groups ran in their order.
use Rattle.std.proofs.Common.{◌≡◌, ℕ, Bool, true, false, List, [], ◌∷◌, refl, ap, sym, ◌∙◌, subst, Option}
use Rattle.std.specs.Prelude.{if◌then◌else◌}
use Rattle.std.specs.Option.{option_or}
use Rattle.std.specs.List.{AllZip}
use Rattle.std.specs.FinMap.{get}
use Rattle.std.proofs.Math.Path.{fun_ext}
use Rattle.shred_world.specs.declared.resource_id.ResourceId.{ResourceId}
use Rattle.shred_world.specs.Worlds.{Slots}
use Rattle.shred_world.specs.Bundles.{Holding, holding_of, is_listed}
use Rattle.shred_plan.specs.Plan.{Group, Stage}
use Rattle.shred_stages.specs.declared.stop.Stop.{Stop}
use Rattle.shred_stages.specs.Views.{reading, cut, view_slots, Leaves, merged}
use Rattle.shred_stages.specs.Moves.{emptied, filled, left_of}
use Rattle.shred_stages.specs.Runs.{State, StageRuns}
use Rattle.shred_stages.specs.Apart.{group_reads, group_writes, Ran, put_back, gathered, first_refusal, put_systems, PlacesRun, RanApart}
use Rattle.shred_stages.specs.Packs.{Packed, PackRuns}
use Rattle.shred_stages.specs.Lending.{IsPack, AreLent, SeeWhatTheyDeclare, IsBack, AreBack, Holds, put_all, first_told}
use Rattle.shred_stages.proofs.ViewLemmas.{reads-so, back}
use Rattle.shred_stages.specs.Free.{IsFreeOfAll, AreFree}
use Rattle.shred_stages.proofs.ApartLemmas.{IsWhole, places-leave, all-still, apart-runs}
use Rattle.shred_stages.proofs.LendLemmas.{NoneWrites, left-other, lent-see}

pub none-written : (group : Group ResourceId) (stage : Stage ResourceId) (id : ResourceId) → IsFreeOfAll group stage → is_listed (group_writes group) id ≡ true → NoneWrites stage id
none-written group [] id free e = tt
none-written group (other ∷ stage) id free e = ((free.0.ids id e).1, none-written group stage id free.1 e)

module _ {V : Type 0} where
  -- what is left where the values that some groups write are out
  abbrev pub out_of : Stage ResourceId → Holding V → Holding V
  out_of [] w = w
  out_of (group ∷ stage) w = out_of stage (left_of (group_writes group) w)

  pub out-none : (stage : Stage ResourceId) (w : Holding V) (id : ResourceId) → NoneWrites stage id → out_of stage w id ≡ w id
  out-none [] w id none = refl
  out-none (group ∷ stage) w id none = out-none stage (left_of (group_writes group) w) id none.1 ∙ left-other (group_writes group) w id none.0

  out-same : (stage : Stage ResourceId) (w w2 : Holding V) (id : ResourceId) → w id ≡ w2 id → out_of stage w id ≡ out_of stage w2 id
  out-same [] w w2 id e = e
  out-same (group ∷ stage) w w2 id e =
      out-same stage (left_of (group_writes group) w) (left_of (group_writes group) w2) id (ap (λ slot. if is_listed (group_writes group) id then emptied slot else slot) e)

module _ {V S : Type 0} where
  pub lent-out : (stage : Stage ResourceId) (packs : List (Packed V S)) (w w2 : Holding V) → AreLent stage packs w w2 → w2 ≡ out_of stage w
  lent-out [] [] w w2 lent = fun_ext lent
  lent-out [] (pack ∷ packs) w w2 lent = absurd lent
  lent-out (group ∷ stage) [] w w2 lent = absurd lent
  lent-out (group ∷ stage) (pack ∷ packs) w w2 (between, first, later) = lent-out stage packs between w2 later ∙ ap (out_of stage) (fun_ext first.left)

  -- one slot that came back, where a group held it or not
  back-slot : (group : Group ResourceId) (pack : Packed V S) (ran : Ran V S) (w : Holding V) (id : ResourceId) → Holds pack ran → Leaves (cut (group_reads group) (group_writes group) w) ran.held
      → (if is_listed (group_writes group) id
      then filled (holding_of pack.seat id) (if is_listed (group_writes group) id then emptied (w id) else w id)
      else (if is_listed (group_writes group) id then emptied (w id) else w id)) ≡ merged (ran.held id) (w id)
  back-slot group pack ran w id holds leaves =
      let P : Holding V → Type 0 = λ held. Leaves (cut (group_reads group) (group_writes group) w) held in
      let come = back (is_listed (group_writes group) id) (is_listed holds.writes id) (w id) (get pack.seat id) (reading (group_reads group) w id) (reading holds.reads holds.world id)
      (reads-so (group_reads group) w id) (reads-so holds.reads holds.world id) (holds.fits id) (subst P holds.held leaves id) in
      come.0 ∙ ap (λ held. merged (held id) (w id)) (sym holds.held)

  pub one-back : (group : Group ResourceId) (stage : Stage ResourceId) (pack : Packed V S) (ran : Ran V S) (w now next : Holding V) → IsFreeOfAll group stage → Holds pack ran
      → Leaves (cut (group_reads group) (group_writes group) w) ran.held → now ≡ out_of (group ∷ stage) w → IsBack group pack now next → next ≡ out_of stage (λ id. merged (ran.held id) (w id))
  one-back group stage pack ran w now next free holds leaves is came = fun_ext (λ id. came id ∙ ap (λ h. if is_listed (group_writes group) id then filled (holding_of pack.seat id) (h id) else h id) is ∙ by id (is_listed (group_writes group) id) refl)
    where
      W : Holding V
      W id = merged (ran.held id) (w id)

      by : (id : ResourceId) (L : Bool) → is_listed (group_writes group) id ≡ L
          → (if is_listed (group_writes group) id then filled (holding_of pack.seat id) (out_of stage (left_of (group_writes group) w) id) else out_of stage (left_of (group_writes group) w) id) ≡ out_of stage W id
      by id true e =
          let none = none-written group stage id free e in
          ap (λ slot. if is_listed (group_writes group) id then filled (holding_of pack.seat id) slot else slot) (out-none stage (left_of (group_writes group) w) id none)
          ∙ back-slot group pack ran w id holds leaves ∙ sym (out-none stage W id none)
      by id false e =
          ap (λ b. if b then filled (holding_of pack.seat id) (out_of stage (left_of (group_writes group) w) id) else out_of stage (left_of (group_writes group) w) id) e
          ∙ out-same stage (left_of (group_writes group) w) W id
          (ap (λ b. if b then emptied (w id) else w id) e
          ∙ ap (λ b. if b then filled (holding_of pack.seat id) (if b then emptied (w id) else w id) else (if b then emptied (w id) else w id)) (sym e) ∙ back-slot group pack ran w id holds leaves)

  module _ (meets : S → Holding V → Option Stop → S → Holding V → Type 0) where
    -- the values of all groups came back
    pub all-back : (stage : Stage ResourceId) (packs : List (Packed V S)) (rans : List (Ran V S)) (before : State V S) (now last : Holding V) → AreFree stage → RanApart meets before stage rans → AllZip Holds packs rans
        → now ≡ out_of stage before.held → AreBack stage packs now last → last ≡ (gathered stage rans before).held
    all-back [] [] [] before now last free apart holds is came = fun_ext came ∙ is
    all-back [] [] (ran ∷ rans) before now last free apart holds is came = absurd apart
    all-back [] (pack ∷ packs) rans before now last free apart holds is came = absurd came
    all-back (group ∷ stage) [] rans before now last free apart holds is came = absurd came
    all-back (group ∷ stage) (pack ∷ packs) [] before now last free apart holds is came = absurd apart
    all-back (group ∷ stage) (pack ∷ packs) (ran ∷ rans) before now last (_, free_of, free) (from, apart) (first, holds) is (between, one, later) =
        all-back stage packs rans (put_back group ran before) between last free (all-still meets group stage before ran rans free_of from apart) holds
        (one-back group stage pack ran before.held now between free_of first
        (places-leave meets group from.systems (cut (group_reads group) (group_writes group) before.held) ran.refused ran.systems ran.held from.runs) is one) later

    -- what came of the groups, by what threads did with what they were lent
    pub rans-of : (stage : Stage ResourceId) (packs packs2 : List (Packed V S)) (before : State V S) (world : Slots V) → AllZip (IsPack before.systems) stage packs
        → SeeWhatTheyDeclare stage packs before.held (holding_of world) → AllZip (PackRuns meets world) packs packs2 → (rans : List (Ran V S)) × RanApart meets before stage rans × AllZip Holds packs2 rans
    rans-of [] [] [] before world are see runs = ([], tt, tt)
    rans-of [] [] (pack2 ∷ packs2) before world are see runs = absurd runs
    rans-of [] (pack ∷ packs) packs2 before world are see runs = absurd are
    rans-of (group ∷ stage) [] packs2 before world are see runs = absurd are
    rans-of (group ∷ stage) (pack ∷ packs) [] before world are see runs = absurd runs
    rans-of (group ∷ stage) (pack ∷ packs) (pack2 ∷ packs2) before world (is, are) (seen, see) (run, runs) =
        let view = run.runs in
        let held : Holding V = view_slots view.reads_after view.writes_after view.world_after pack2.seat in
        let ran : Ran V S = record { refused = pack2.refused; systems = pack2.systems; held = held } in
        let P : Group ResourceId → Type 0 = λ g. PlacesRun meets g pack.systems (view_slots pack.reads pack.writes (holding_of world) pack.seat) pack2.refused pack2.systems held in
        let Q : List ResourceId → Type 0 = λ ids. PlacesRun meets group pack.systems (view_slots ids pack.writes (holding_of world) pack.seat) pack2.refused pack2.systems held in
        let R : List ResourceId → Type 0 = λ ids. PlacesRun meets group pack.systems (view_slots (group_reads group) ids (holding_of world) pack.seat) pack2.refused pack2.systems held in
        let T : Holding V → Type 0 = λ h. PlacesRun meets group pack.systems h pack2.refused pack2.systems held in
        let rest = rans-of stage packs packs2 before world are see runs in (
          ran ∷ rest.0,
          (record { systems = pack.systems; stand = is.stand; runs = subst T seen (subst R is.writes (subst Q is.reads (subst P is.group view.runs))) }, rest.1),
          (record { reads = view.reads_after; writes = view.writes_after; world = view.world_after; fits = view.fits; held = refl; systems = refl; refused = refl }, rest.2),
        )

    -- the systems and the refusal of what came back
    same-systems : (stage : Stage ResourceId) (packs : List (Packed V S)) (rans : List (Ran V S)) (before : State V S) → AllZip Holds packs rans → (gathered stage rans before).systems ≡ put_all stage packs before.systems
    same-systems [] packs rans before holds = refl
    same-systems (group ∷ stage) [] [] before holds = refl
    same-systems (group ∷ stage) [] (ran ∷ rans) before holds = absurd holds
    same-systems (group ∷ stage) (pack ∷ packs) [] before holds = absurd holds
    same-systems (group ∷ stage) (pack ∷ packs) (ran ∷ rans) before (first, holds) =
        same-systems stage packs rans (put_back group ran before) holds ∙ ap (λ systems. put_all stage packs (put_systems group systems before.systems)) first.systems

    same-refusal : (packs : List (Packed V S)) (rans : List (Ran V S)) → AllZip Holds packs rans → first_refusal rans ≡ first_told packs
    same-refusal [] [] holds = refl
    same-refusal [] (ran ∷ rans) holds = absurd holds
    same-refusal (pack ∷ packs) [] holds = absurd holds
    same-refusal (pack ∷ packs) (ran ∷ rans) (first, holds) = ap (λ o. option_or o (first_refusal rans)) first.refused ∙ ap (option_or pack.refused) (same-refusal packs rans holds)

    -- a stage whose groups were lent what they write, ran, and gave it back, ran in order
    pub lent-stage-runs : (stage : Stage ResourceId) (packs packs2 : List (Packed V S)) (systems : List S) (w last : Holding V) (world : Slots V) → IsWhole w → AreFree stage
        → AllZip (IsPack systems) stage packs → AreLent stage packs w (holding_of world) → AllZip (PackRuns meets world) packs packs2 → AreBack stage packs2 (holding_of world) last
        → StageRuns meets stage (record { systems = systems; held = w }) (first_told packs2) (record { systems = put_all stage packs2 systems; held = last })
    lent-stage-runs stage packs packs2 systems w last world whole free are lent runs came =
        let before : State V S = record { systems = systems; held = w } in
        let made = rans-of stage packs packs2 before world are (lent-see stage packs w (holding_of world) free lent) runs in
        let rans = made.0 in
        let held : last ≡ (gathered stage rans before).held = all-back stage packs2 rans before (holding_of world) last free made.1 made.2 (lent-out stage packs w (holding_of world) lent) came in
        let P : Option (ℕ × Stop) → Type 0 = λ refused. StageRuns meets stage before refused (gathered stage rans before) in
        let Q : List S → Type 0 = λ list. StageRuns meets stage before (first_told packs2) (record { systems = list; held = (gathered stage rans before).held }) in
        let R : Holding V → Type 0 = λ h. StageRuns meets stage before (first_told packs2) (record { systems = put_all stage packs2 systems; held = h }) in
        subst R (sym held) (subst Q (same-systems stage packs2 rans before made.2) (subst P (same-refusal packs2 rans made.2) (apart-runs meets stage rans before whole free made.1)))
