-- Facts on groups of a stage that are lent their values, run or not, and give them back.
use Rattle.std.proofs.Common.{◌≡◌, suc, Bool, true, false, List, [], ◌∷◌, ◌++◌, length, map, refl, ap, ap₂, sym, ◌∙◌, subst, Option, Some, None, IsSome}
use Rattle.std.specs.Prelude.{if◌then◌else◌, is_some}
use Rattle.std.specs.Option.{option_flatten}
use Rattle.std.specs.List.{AllZip}
use Rattle.std.specs.FinMap.{get}
use Rattle.std.proofs.Math.Path.{fun_ext}
use Rattle.std.proofs.lemmas.Bool.{false≢true}
use Rattle.shred_world.specs.declared.resource_id.ResourceId.{ResourceId}
use Rattle.shred_world.specs.Worlds.{Slots}
use Rattle.shred_world.specs.Bundles.{Slot, absent, out, shared, owned, Holding, holding_of, slot_of, readable, takable, is_listed}
use Rattle.shred_plan.specs.Plan.{Group, Stage}
use Rattle.shred_stages.specs.declared.stop.Stop.{Stop}
use Rattle.shred_stages.specs.declared.turn.Staged.{Staged}
use Rattle.shred_stages.specs.Views.{reading, owned_of, cut, IsLeft, Leaves, merged}
use Rattle.shred_stages.specs.Moves.{emptied, filled, left_of, HasSlots}
use Rattle.shred_stages.specs.Runs.{State, StageRuns}
use Rattle.shred_stages.specs.Seats.{state_of, StageIsSeated, SeatsKept}
use Rattle.shred_stages.specs.Apart.{group_reads, group_writes, Ran, put_back, RanApart}
use Rattle.shred_stages.specs.Packs.{Packed, PackRuns}
use Rattle.shred_stages.specs.Lending.{IsPack, IsLent, AreLent, IsBack, AreBack, Holds, put_all, first_told}
use Rattle.shred_stages.specs.Free.{AreFree}
use Rattle.shred_stages.specs.Away.{systems_in, AreIn, IsHome, AreHome, ComeHome, ArePutBack}
use Rattle.shred_stages.specs.Loading.{AreLoaded}
use Rattle.shred_stages.proofs.ApartLemmas.{IsWhole, places-leave, all-still}
use Rattle.shred_stages.proofs.LendLemmas.{lent-see}
use Rattle.shred_stages.proofs.BackLemmas.{none-written, out_of, out-none, lent-out, one-back, rans-of, lent-stage-runs}
use Rattle.shred_stages.proofs.AwayLemmas.{back-stage, back-in}

module _ {V : Type 0} where
  -- what a world holds can be taken out
  pub world-whole : (w : Slots V) → IsWhole (holding_of w)
  world-whole w id = by (get w id)
    where
      by : (o : Option (Option V)) → readable (slot_of o) ≡ takable (slot_of o)
      by None = refl
      by (Some None) = refl
      by (Some (Some v)) = refl

  pub fit : (L : Bool) (o : Option (Option V)) (slot : Slot V) → slot_of o ≡ (if L then filled slot out else absent) → is_some o ≡ L
  fit true None absent e = absurd (cc)
  fit true None out e = absurd (cc)
  fit true None (shared v) e = absurd (cc)
  fit true None (owned v) e = absurd (cc)
  fit true (Some x) slot e = refl
  fit false None slot e = refl
  fit false (Some None) slot e = absurd (cc)
  fit false (Some (Some v)) slot e = absurd (cc)

  -- a value that came out of its slot finds that empty
  out-slot : (o : Option (Option V)) (slot : Slot V) (l : Bool) (r : Slot V) → is_some o ≡ l → IsSome (takable (slot_of o)) → IsLeft (owned_of (takable slot)) (if l then owned_of (option_flatten o) else r) → emptied slot ≡ out
  out-slot None slot l r e some left = absurd (false≢true some)
  out-slot (Some None) slot l r e some left = absurd (false≢true some)
  out-slot (Some (Some v)) slot false r e some left = absurd (false≢true (sym e))
  out-slot (Some (Some v)) absent true r e some left = absurd (cc)
  out-slot (Some (Some v)) out true r e some left = absurd (cc)
  out-slot (Some (Some v)) (shared x) true r e some left = absurd (cc)
  out-slot (Some (Some v)) (owned x) true r e some left = refl

module _ {V S : Type 0} where
  -- one more group is lent its values
  pub lent-more : (stage : Stage ResourceId) (packs : List (Packed V S)) (w between next : Holding V) (group : Group ResourceId) (pack : Packed V S) → AreLent stage packs w between → IsLent group pack between next
      → AreLent (stage ++ group ∷ []) (packs ++ pack ∷ []) w next
  lent-more [] [] w between next group pack lent one =
      let P : Holding V → Type 0 = λ h. IsLent group pack h next in
      (next, subst P (fun_ext lent) one, λ id. refl)
  lent-more [] (p ∷ packs) w between next group pack lent one = absurd lent
  lent-more (g ∷ stage) [] w between next group pack lent one = absurd lent
  lent-more (g ∷ stage) (p ∷ packs) w between next group pack (middle, first, later) one = (middle, first, lent-more stage packs middle between next group pack later one)

  -- what packs hold is what groups left, each of what the state held to which the earlier ones came back
  abbrev Backs : Stage ResourceId → List (Packed V S) → Holding V → Type 0
  Backs [] [] w = Unit {0}
  Backs [] (pack ∷ packs) w = ⊥
  Backs (group ∷ stage) [] w = ⊥
  Backs (group ∷ stage) (pack ∷ packs) w = (ran : Ran V S) × Holds pack ran × Leaves (cut (group_reads group) (group_writes group) w) ran.held × Backs stage packs (λ id. merged (ran.held id) (w id))

  abbrev HaveGroups : Stage ResourceId → List (Packed V S) → Type 0
  HaveGroups stage packs = AllZip (λ group pack. pack.group ≡ group) stage packs

  abbrev HaveWrites : Stage ResourceId → List (Packed V S) → Type 0
  HaveWrites stage packs = AllZip (λ group pack. pack.writes ≡ group_writes group) stage packs

  home-one : (group : Group ResourceId) (pack : Packed V S) (w w2 : Holding V) → pack.writes ≡ group_writes group → IsHome pack w w2 → IsBack group pack w w2
  home-one group pack w w2 e home id = home id ∙ ap (λ ids. if is_listed ids id then filled (holding_of pack.seat id) (w id) else w id) e

  home-back : (stage : Stage ResourceId) (packs : List (Packed V S)) (w w2 : Holding V) → HaveWrites stage packs → AreHome packs w w2 → AreBack stage packs w w2
  home-back [] [] w w2 have home = home
  home-back [] (pack ∷ packs) w w2 have home = absurd have
  home-back (group ∷ stage) [] w w2 have home = absurd have
  home-back (group ∷ stage) (pack ∷ packs) w w2 have (between, one, later) = (between, home-one group pack w between have.0 one, home-back stage packs between w2 have.1 later)

  -- each value finds its empty slot
  come-home : (stage : Stage ResourceId) (packs : List (Packed V S)) (w now : Holding V) → AreFree stage → HaveWrites stage packs → Backs stage packs w → now ≡ out_of stage w → ComeHome packs now
  come-home [] [] w now free have backs is = tt
  come-home [] (pack ∷ packs) w now free have backs is = absurd have
  come-home (group ∷ stage) [] w now free have backs is = absurd have
  come-home (group ∷ stage) (pack ∷ packs) w now (_, free_of, free) have (ran, holds, leaves, later) is = (
    slots,
    λ between home. come-home stage packs (λ id. merged (ran.held id) (w id)) between free have.1 later
        (one-back group stage pack ran w now between free_of holds leaves is (home-one group pack now between have.0 home)),
  )
    where
      slots : HasSlots pack.writes (holding_of pack.seat) now
      slots id listed some =
          let L : is_listed (group_writes group) id ≡ true = ap (λ ids. is_listed ids id) (sym have.0) ∙ listed in
          let there : now id ≡ emptied (w id) = ap (λ h. h id) is ∙ out-none stage (left_of (group_writes group) w) id (none-written group stage id free_of L) ∙ ap (λ b. if b then emptied (w id) else w id) L in
          let P : Slot V → Type 0 = λ slot. IsLeft slot (ran.held id) in
          let Q : Slot V → Type 0 = λ slot. IsLeft (owned_of (takable (w id))) slot in
          let before : cut (group_reads group) (group_writes group) w id ≡ owned_of (takable (w id)) = ap (λ b. if b then owned_of (takable (w id)) else reading (group_reads group) w id) L in
          let left = subst Q (ap (λ h. h id) holds.held) (subst P before (leaves id)) in
          there ∙ out-slot (get pack.seat id) (w id) (is_listed holds.writes id) (reading holds.reads holds.world id) (holds.fits id) some left

  module _ (meets : S → Holding V → Option Stop → S → Holding V → Type 0) where
    backs-run : (stage : Stage ResourceId) (packs : List (Packed V S)) (rans : List (Ran V S)) (before : State V S) → AreFree stage → RanApart meets before stage rans → AllZip Holds packs rans → Backs stage packs before.held
    backs-run [] [] rans before free apart holds = tt
    backs-run [] (pack ∷ packs) [] before free apart holds = absurd holds
    backs-run [] (pack ∷ packs) (ran ∷ rans) before free apart holds = absurd apart
    backs-run (group ∷ stage) [] [] before free apart holds = absurd apart
    backs-run (group ∷ stage) [] (ran ∷ rans) before free apart holds = absurd holds
    backs-run (group ∷ stage) (pack ∷ packs) [] before free apart holds = absurd holds
    backs-run (group ∷ stage) (pack ∷ packs) (ran ∷ rans) before (_, free_of, free) (from, apart) (first, holds) = (
      ran,
      first,
      places-leave meets group from.systems (cut (group_reads group) (group_writes group) before.held) ran.refused ran.systems ran.held from.runs,
      backs-run stage packs rans (put_back group ran before) free (all-still meets group stage before ran rans free_of from apart) holds,
    )

    ran-groups : (all : List S) (world : Slots V) (stage : Stage ResourceId) (packs packs2 : List (Packed V S)) → AllZip (IsPack all) stage packs → AllZip (PackRuns meets world) packs packs2 → HaveGroups stage packs2
    ran-groups all world [] [] [] are runs = tt
    ran-groups all world [] [] (pack2 ∷ packs2) are runs = absurd runs
    ran-groups all world [] (pack ∷ packs) packs2 are runs = absurd are
    ran-groups all world (group ∷ stage) [] packs2 are runs = absurd are
    ran-groups all world (group ∷ stage) (pack ∷ packs) [] are runs = absurd runs
    ran-groups all world (group ∷ stage) (pack ∷ packs) (pack2 ∷ packs2) are runs = (runs.0.group ∙ are.0.group, ran-groups all world stage packs packs2 are.1 runs.1)

    ran-writes : (all : List S) (world : Slots V) (stage : Stage ResourceId) (packs packs2 : List (Packed V S)) → AllZip (IsPack all) stage packs → AllZip (PackRuns meets world) packs packs2 → HaveWrites stage packs2
    ran-writes all world [] [] [] are runs = tt
    ran-writes all world [] [] (pack2 ∷ packs2) are runs = absurd runs
    ran-writes all world [] (pack ∷ packs) packs2 are runs = absurd are
    ran-writes all world (group ∷ stage) [] packs2 are runs = absurd are
    ran-writes all world (group ∷ stage) (pack ∷ packs) [] are runs = absurd runs
    ran-writes all world (group ∷ stage) (pack ∷ packs) (pack2 ∷ packs2) are runs = (runs.0.writes ∙ are.0.writes, ran-writes all world stage packs packs2 are.1 runs.1)

  module _ (meets : S → Holding V → Option Stop → S → Holding V → Type 0) (stage : Stage ResourceId) (all : List (Staged V S)) (packs packs2 : List (Packed V S)) (slots : List (Option (Staged V S))) (w : Slots V) (world : Slots V)
      (free : AreFree stage) (loaded : AreLoaded all stage packs slots (holding_of w) (holding_of world)) (runs : AllZip (PackRuns meets world) packs packs2) where
    abbrev systems : List S
    systems = map (λ one. one.system) all

    -- what threads ran comes home
    pub ran-home : ComeHome packs2 (holding_of world)
    ran-home =
        let before : State V S = record { systems = systems; held = holding_of w } in
        let made = rans-of meets stage packs packs2 before world loaded.packs (lent-see stage packs (holding_of w) (holding_of world) free loaded.lent) runs in
        come-home stage packs2 (holding_of w) (holding_of world) free (ran-writes meets systems world stage packs packs2 loaded.packs runs)
        (backs-run meets stage packs2 made.0 before free made.1 made.2) (lent-out stage packs (holding_of w) (holding_of world) loaded.lent)

    -- and is the stage's run
    pub ran-stage : (slots2 : List (Option (Staged V S))) (w2 : Slots V) → StageIsSeated stage all → AreHome packs2 (holding_of world) (holding_of w2) → ArePutBack packs2 slots slots2
        → StageRuns meets stage (state_of all (holding_of w)) (first_told packs2) (state_of (systems_in slots2) (holding_of w2)) × AreIn slots2 × SeatsKept all (systems_in slots2) × (length (systems_in slots2) ≡ length all)
    ran-stage slots2 w2 seated home put =
        let back = back-stage stage packs2 slots slots2 all (ran-groups meets systems world stage packs packs2 loaded.packs runs) seated loaded.away put in
        let is = back-in slots2 back.0 back.1 in
        let ran = lent-stage-runs meets stage packs packs2 systems (holding_of w) (holding_of w2) world (world-whole w) free loaded.packs loaded.lent runs
        (home-back stage packs2 (holding_of world) (holding_of w2) (ran-writes meets systems world stage packs packs2 loaded.packs runs) home) in
        let same : put_all stage packs2 systems ≡ map (λ one. one.system) (systems_in slots2) = sym back.2 ∙ ap (map (λ one. one.system)) (sym is.1) in
        let P : List S → Type 0 = λ list. StageRuns meets stage (state_of all (holding_of w)) (first_told packs2) (record { systems = list; held = holding_of w2 }) in
        let Q : List (Staged V S) → Type 0 = λ list. SeatsKept all list in
        (subst P same ran, is.0, subst Q (sym is.1) back.3, ap length is.1 ∙ back.4)

    -- and has the stage's groups still
    pub ran-kits : map (λ pack. pack.group) packs2 ≡ stage
    ran-kits = by stage packs2 (ran-groups meets systems world stage packs packs2 loaded.packs runs)
      where
        by : (stage : Stage ResourceId) (packs : List (Packed V S)) → HaveGroups stage packs → map (λ pack. pack.group) packs ≡ stage
        by [] [] have = refl
        by [] (pack ∷ packs) have = absurd have
        by (group ∷ stage) [] have = absurd have
        by (group ∷ stage) (pack ∷ packs) have = ap₂ (λ one others. one ∷ others) have.0 (by stage packs have.1)

-- lists that are related place by place are as long
pub zip-length : {A B : Type 0} (R : A → B → Type 0) (xs : List A) (ys : List B) → AllZip R xs ys → length xs ≡ length ys
zip-length R [] [] all = refl
zip-length R [] (y ∷ ys) all = absurd all
zip-length R (x ∷ xs) [] all = absurd all
zip-length R (x ∷ xs) (y ∷ ys) all = ap suc (zip-length R xs ys all.1)
