-- Facts on views: what taking and putting does to their slots, and what comes back of one into the world.
use Rattle.std.proofs.Common.{◌≡◌, Bool, true, false, List, refl, ap, sym, ◌∙◌, subst, cond, Option, Some, None, IsSome, IfSome, IfNone}
use Rattle.std.specs.Prelude.{if◌then◌else◌, is_some}
use Rattle.std.specs.Option.{option_flatten}
use Rattle.std.specs.FinMap.{get, insert, get-insert}
use Rattle.std.proofs.Math.Path.{fun_ext}
use Rattle.std.proofs.lemmas.Bool.{false≢true}
use Rattle.shred_world.specs.declared.resource_id.ResourceId.{ResourceId}
use Rattle.shred_world.specs.ResourceIds.{same_id}
use Rattle.shred_world.specs.Worlds.{Slots, value_at}
use Rattle.shred_world.specs.Bundles.{Slot, absent, out, shared, owned, Holding, readable, takable, slot_of, holding_of, is_listed, with_slot}
use Rattle.shred_world.proofs.CallerLemmas.{ids_total, same_id-is, same_id-itself}
use Rattle.shred_stages.specs.Views.{shared_of, owned_of, reading, cut, view_slots, FitsSeat, IsLeft, Leaves, merged}
use Rattle.shred_stages.specs.declared.stop.Stop.{Stop}
use Rattle.shred_stages.specs.Runs.{RunsInView, Step}
use Rattle.shred_stages.specs.Moves.{emptied, filled, left_of, moved_to, HasSlots, IsSeat}

module _ {V : Type 0} where
  pub insert-here : (seat : Slots V) (id : ResourceId) (x : Option V) → get (insert seat id x) id ≡ Some x
  insert-here seat id x = get-insert ids_total seat id x id ∙ ap (λ b. cond b (Some x) (get seat id)) (same_id-itself id)

  pub insert-other : (seat : Slots V) (id q : ResourceId) (x : Option V) → same_id q id ≡ false → get (insert seat id x) q ≡ get seat q
  insert-other seat id q x e = get-insert ids_total seat id x q ∙ ap (λ b. cond b (Some x) (get seat q)) e

  -- a slot that is there gets another value
  view-insert : (reads writes : List ResourceId) (w : Holding V) (seat : Slots V) (id : ResourceId) (x : Option V) → is_listed writes id ≡ true
      → view_slots reads writes w (insert seat id x) ≡ with_slot (view_slots reads writes w seat) id (owned_of x)
  view-insert reads writes w seat id x listed = fun_ext (λ q. by q (same_id q id) refl)
    where
      here : view_slots reads writes w (insert seat id x) id ≡ owned_of x
      here = ap (λ b. if b then owned_of (value_at (insert seat id x) id) else reading reads w id) listed ∙ ap (λ slot. owned_of (option_flatten slot)) (insert-here seat id x)

      by : (q : ResourceId) (s : Bool) → same_id q id ≡ s
          → view_slots reads writes w (insert seat id x) q ≡ (if same_id q id then owned_of x else view_slots reads writes w seat q)
      by q true is =
          let P : ResourceId → Type 0 = λ r. view_slots reads writes w (insert seat id x) r ≡ owned_of x in
          subst P (sym (same_id-is q id is)) here ∙ ap (λ b. if b then owned_of x else view_slots reads writes w seat q) (sym is)
      by q false is =
          ap (λ slot. if is_listed writes q then owned_of (option_flatten slot) else reading reads w q) (insert-other seat id q x is)
          ∙ ap (λ b. if b then owned_of x else view_slots reads writes w seat q) (sym is)

  seat-insert : (seat : Slots V) (id : ResourceId) (x : Option V) → is_some (get seat id) ≡ true → (q : ResourceId) → is_some (get (insert seat id x) q) ≡ is_some (get seat q)
  seat-insert seat id x there q = by (same_id q id) refl
    where
      by : (s : Bool) → same_id q id ≡ s → is_some (get (insert seat id x) q) ≡ is_some (get seat q)
      by true is =
          let P : ResourceId → Type 0 = λ r. is_some (get (insert seat id x) r) ≡ is_some (get seat r) in
          subst P (sym (same_id-is q id is)) (ap is_some (insert-here seat id x) ∙ sym there)
      by false is = ap is_some (insert-other seat id q x is)

  value-there : (slot : Option (Option V)) (v : V) → option_flatten slot ≡ Some v → is_some slot ≡ true
  value-there None v e = cc
  value-there (Some x) v e = refl

  -- taking a value out
  pub take-fits : (writes : List ResourceId) (seat after : Slots V) (id : ResourceId) (value : Option V) → FitsSeat writes seat → value ≡ value_at seat id
      → IfSome value (λ _. after ≡ insert seat id None) → IfNone value (after ≡ seat) → FitsSeat writes after
  take-fits writes seat after id None fits e some none q = ap (λ m. is_some (get m q)) none ∙ fits q
  take-fits writes seat after id (Some v) fits e some none q = ap (λ m. is_some (get m q)) some ∙ seat-insert seat id None (value-there (get seat id) v (sym e)) q ∙ fits q

  pub take-slots : (reads writes : List ResourceId) (w : Holding V) (seat after : Slots V) (id : ResourceId) (value : Option V) → FitsSeat writes seat → value ≡ value_at seat id
      → IfSome value (λ _. after ≡ insert seat id None) → IfSome value (λ _. view_slots reads writes w after ≡ with_slot (view_slots reads writes w seat) id out)
  take-slots reads writes w seat after id None fits e some = tt
  take-slots reads writes w seat after id (Some v) fits e some =
      ap (view_slots reads writes w) some ∙ view-insert reads writes w seat id None (sym (fits id) ∙ value-there (get seat id) v (sym e))

  -- a slot for reading is none that a value may come back to
  abbrev pub IsReading : Slot V → Type 0
  IsReading absent = Unit {0}
  IsReading out = ⊥
  IsReading (shared v) = Unit {0}
  IsReading (owned v) = ⊥

  pub reads-so : (reads : List ResourceId) (w : Holding V) (q : ResourceId) → IsReading (reading reads w q)
  reads-so reads w q = by (is_listed reads q) (readable (w q))
    where
      by : (b : Bool) (value : Option V) → IsReading (if b then shared_of value else absent)
      by true None = tt
      by true (Some v) = tt
      by false value = tt

  not-reading : (slot other : Slot V) → IsReading slot → slot ≡ other → IsReading other
  not-reading slot other is e = subst IsReading e is

  -- putting a value back
  out-listed : (reads writes : List ResourceId) (w : Holding V) (seat : Slots V) (id : ResourceId) → view_slots reads writes w seat id ≡ out → is_listed writes id ≡ true
  out-listed reads writes w seat id e = by (is_listed writes id) e
    where
      by : (b : Bool) → (if b then owned_of (value_at seat id) else reading reads w id) ≡ out → b ≡ true
      by true q = refl
      by false q = absurd (not-reading _ out (reads-so reads w id) q)

  pub put-fits : (reads writes : List ResourceId) (w : Holding V) (seat after : Slots V) (id : ResourceId) (v : V) → FitsSeat writes seat → view_slots reads writes w seat id ≡ out → after ≡ insert seat id (Some v) → FitsSeat writes after
  put-fits reads writes w seat after id v fits is e q =
      ap (λ m. is_some (get m q)) e ∙ seat-insert seat id (Some v) (fits id ∙ out-listed reads writes w seat id is) q ∙ fits q

  pub put-slots : (reads writes : List ResourceId) (w : Holding V) (seat after : Slots V) (id : ResourceId) (v : V) → view_slots reads writes w seat id ≡ out → after ≡ insert seat id (Some v)
      → view_slots reads writes w after ≡ with_slot (view_slots reads writes w seat) id (owned v)
  put-slots reads writes w seat after id v is e = ap (view_slots reads writes w) e ∙ view-insert reads writes w seat id (Some v) (out-listed reads writes w seat id is)

  -- the content of a world's slot, and its slot
  flat-slot : (o : Option (Option V)) → option_flatten o ≡ takable (slot_of o)
  flat-slot None = refl
  flat-slot (Some None) = refl
  flat-slot (Some (Some v)) = refl

  abbrev content : Slot V → Option (Option V)
  content absent = None
  content out = Some None
  content (shared v) = None
  content (owned v) = Some (Some v)

  content-slot : (o : Option (Option V)) → content (slot_of o) ≡ o
  content-slot None = refl
  content-slot (Some None) = refl
  content-slot (Some (Some v)) = refl

  -- one slot of the world, of the seat and of the view, before and after a run
  abbrev pub ComesBack : (l l2 : Bool) → Slot V → (seat : Option (Option V)) → Slot V → Type 0
  ComesBack l l2 start seat read2 =
      ((if l then filled (slot_of seat) (if l then emptied start else start) else (if l then emptied start else start)) ≡ merged (if l2 then owned_of (option_flatten seat) else read2) start)
      × ((if l then emptied (slot_of seat) else slot_of seat) ≡ slot_of (if l then Some None else None))
      × (l ≡ true → IsSome (takable (slot_of seat)) → (if l then emptied start else start) ≡ out)

  pub back : (l l2 : Bool) (start : Slot V) (seat : Option (Option V)) (read read2 : Slot V) → IsReading read → IsReading read2 → is_some seat ≡ l2
      → IsLeft (if l then owned_of (takable start) else read) (if l2 then owned_of (option_flatten seat) else read2) → ComesBack l l2 start seat read2
  back true false absent seat read read2 r r2 is e = absurd (not-reading read2 out r2 e)
  back true false out seat read read2 r r2 is e = absurd (not-reading read2 out r2 e)
  back true false (shared v) seat read read2 r r2 is e = absurd (not-reading read2 out r2 e)
  back true false (owned v) seat read read2 r r2 is e = absurd (not-reading read2 (owned e.0) r2 e.1)
  back true true start None read read2 r r2 is e = absurd (false≢true is)
  back true true absent (Some None) read read2 r r2 is e = (refl, refl, λ l there. absurd (false≢true there))
  back true true out (Some None) read read2 r r2 is e = (refl, refl, λ l there. absurd (false≢true there))
  back true true (shared v) (Some None) read read2 r r2 is e = (refl, refl, λ l there. absurd (false≢true there))
  back true true (owned v) (Some None) read read2 r r2 is e = cc
  back true true absent (Some (Some u)) read read2 r r2 is e = cc
  back true true out (Some (Some u)) read read2 r r2 is e = cc
  back true true (shared v) (Some (Some u)) read read2 r r2 is e = cc
  back true true (owned v) (Some (Some u)) read read2 r r2 is e = (refl, refl, λ l there. refl)
  back false l2 start seat out read2 r r2 is e = absurd r
  back false l2 start seat (owned v) read2 r r2 is e = absurd r
  back false true start None absent read2 r r2 is e = cc
  back false true start (Some None) absent read2 r r2 is e = cc
  back false true start (Some (Some u)) absent read2 r r2 is e = cc
  back false true start None (shared v) read2 r r2 is e = cc
  back false true start (Some None) (shared v) read2 r r2 is e = cc
  back false true start (Some (Some u)) (shared v) read2 r r2 is e = cc
  back false false start (Some x) absent read2 r r2 is e = cc
  back false false start (Some x) (shared v) read2 r r2 is e = cc
  back false false start None absent read2 r r2 is e = (ap (λ slot. merged slot start) (sym e), refl, λ l there. absurd (false≢true l))
  back false false start None (shared v) read2 r r2 is e = (ap (λ slot. merged slot start) (sym e), refl, λ l there. absurd (false≢true l))

  -- a seat that is left has the slots that it had
  left-fits : (l l2 : Bool) (value : Option V) (seat : Option (Option V)) (read read2 : Slot V) → IsReading read → IsReading read2 → is_some seat ≡ l2
      → IsLeft (if l then owned_of value else read) (if l2 then owned_of (option_flatten seat) else read2) → is_some seat ≡ l
  left-fits true true value seat read read2 r r2 is e = is
  left-fits false false value seat read read2 r r2 is e = is
  left-fits true false None seat read read2 r r2 is e = absurd (not-reading read2 out r2 e)
  left-fits true false (Some v) seat read read2 r r2 is e = absurd (not-reading read2 (owned e.0) r2 e.1)
  left-fits false true value None read read2 r r2 is e = absurd (false≢true is)
  left-fits false true value (Some None) absent read2 r r2 is e = cc
  left-fits false true value (Some (Some u)) absent read2 r r2 is e = cc
  left-fits false true value (Some None) (shared v) read2 r r2 is e = cc
  left-fits false true value (Some (Some u)) (shared v) read2 r r2 is e = cc
  left-fits false true value (Some x) out read2 r r2 is e = absurd r
  left-fits false true value (Some x) (owned v) read2 r r2 is e = absurd r

  pub still-fits : (reads writes reads2 writes2 : List ResourceId) (w w2 : Holding V) (seat seat2 : Slots V) → FitsSeat writes2 seat2
      → Leaves (view_slots reads writes w seat) (view_slots reads2 writes2 w2 seat2) → FitsSeat writes seat2
  still-fits reads writes reads2 writes2 w w2 seat seat2 fits leaves id =
      left-fits (is_listed writes id) (is_listed writes2 id) (value_at seat id) (get seat2 id) (reading reads w id) (reading reads2 w2 id) (reads-so reads w id) (reads-so reads2 w2 id) (fits id) (leaves id)

  module _ (reads writes : List ResourceId) (start : Holding V) (seat : Slots V) (seated : IsSeat writes seat) (lent : Holding V) (lent_seat : Slots V)
      (from : (q : ResourceId) → lent q ≡ left_of writes start q) (to : (q : ResourceId) → holding_of lent_seat q ≡ moved_to writes start (holding_of seat) q) where
    lent-slot : (q : ResourceId) → holding_of lent_seat q ≡ (if is_listed writes q then filled (start q) (slot_of (if is_listed writes q then Some None else None)) else slot_of (if is_listed writes q then Some None else None))
    lent-slot q = to q ∙ ap (λ slot. if is_listed writes q then filled (start q) (slot_of slot) else slot_of slot) (seated q)

    -- the view shows what is held, cut to what is declared
    pub lent-view : view_slots reads writes lent lent_seat ≡ cut reads writes start
    lent-view = fun_ext (λ q.
        ap (λ value. if is_listed writes q then owned_of value else reading reads lent q) (flat-slot (get lent_seat q) ∙ ap takable (lent-slot q))
        ∙ ap (λ slot. if is_listed writes q then owned_of (takable (if is_listed writes q then filled (start q) (slot_of (if is_listed writes q then Some None else None)) else slot_of (if is_listed writes q then Some None else None))) else (if is_listed reads q then shared_of (readable slot) else absent)) (from q)
        ∙ by (is_listed writes q) (start q) (is_listed reads q))
      where
        by : (l : Bool) (slot : Slot V) (b : Bool)
            → (if l then owned_of (takable (if l then filled slot (slot_of (if l then Some None else None)) else slot_of (if l then Some None else None))) else (if b then shared_of (readable (if l then emptied slot else slot)) else absent))
            ≡ (if l then owned_of (takable slot) else (if b then shared_of (readable slot) else absent))
        by true absent b = refl
        by true out b = refl
        by true (shared v) b = refl
        by true (owned v) b = refl
        by false slot b = refl

    module _ (reads2 writes2 : List ResourceId) (world2 : Holding V) (seat2 : Slots V) (fits : FitsSeat writes2 seat2)
        (leaves : Leaves (view_slots reads writes lent lent_seat) (view_slots reads2 writes2 world2 seat2)) where
      pub cut-leaves : Leaves (cut reads writes start) (view_slots reads2 writes2 world2 seat2)
      cut-leaves = let P : Holding V → Type 0 = λ before. Leaves before (view_slots reads2 writes2 world2 seat2) in subst P lent-view leaves

      comes : (q : ResourceId) → ComesBack (is_listed writes q) (is_listed writes2 q) (start q) (get seat2 q) (reading reads2 world2 q)
      comes q = back (is_listed writes q) (is_listed writes2 q) (start q) (get seat2 q) (reading reads start q) (reading reads2 world2 q) (reads-so reads start q) (reads-so reads2 world2 q) (fits q) (cut-leaves q)

      -- what comes back finds its slots
      pub second-slots : HasSlots writes (holding_of seat2) lent
      second-slots q listed there = from q ∙ (comes q).2 listed there

      module _ (last : Holding V) (last_seat : Slots V) (from2 : (q : ResourceId) → holding_of last_seat q ≡ left_of writes (holding_of seat2) q)
          (to2 : (q : ResourceId) → last q ≡ moved_to writes (holding_of seat2) lent q) where
        pub world-back : (q : ResourceId) → last q ≡ merged (view_slots reads2 writes2 world2 seat2 q) (start q)
        world-back q = to2 q ∙ ap (λ slot. if is_listed writes q then filled (holding_of seat2 q) slot else slot) (from q) ∙ (comes q).0

        pub seat-back : (q : ResourceId) → get last_seat q ≡ get seat q
        seat-back q =
            sym (content-slot (get last_seat q)) ∙ ap content (from2 q ∙ (comes q).1) ∙ content-slot (if is_listed writes q then Some None else None) ∙ sym (seated q)

-- a turn of a system, from what its parts say
module _ {V S : Type 0} (meets : S → Holding V → Option Stop → S → Holding V → Type 0) (reads writes : List ResourceId) (start : Holding V) (seat : Slots V) (lent : Holding V)
    (lent_seat seat2 : Slots V) (last : Holding V) (last_seat : Slots V)
    (system : S) (refused : Option Stop) (system2 : S) (seated : IsSeat writes seat)
    (from : (q : ResourceId) → lent q ≡ left_of writes start q) (to : (q : ResourceId) → holding_of lent_seat q ≡ moved_to writes start (holding_of seat) q)
    (run : RunsInView meets system (view_slots reads writes lent lent_seat) refused system2 seat2) where
  pub turn-slots : HasSlots writes (holding_of seat2) lent
  turn-slots = second-slots reads writes start seat seated lent lent_seat from to run.reads_after run.writes_after run.world_after seat2 run.fits run.leaves

  module _ (from2 : (q : ResourceId) → holding_of last_seat q ≡ left_of writes (holding_of seat2) q) (to2 : (q : ResourceId) → last q ≡ moved_to writes (holding_of seat2) lent q) where
    pub turn-seat : (q : ResourceId) → get last_seat q ≡ get seat q
    turn-seat = seat-back reads writes start seat seated lent lent_seat from to run.reads_after run.writes_after run.world_after seat2 run.fits run.leaves last last_seat from2 to2

    pub turn-step : Step meets reads writes system start refused system2 last
    turn-step =
        let after : Holding V = view_slots run.reads_after run.writes_after run.world_after seat2 in
        let P : Holding V → Type 0 = λ before. meets system before refused system2 after in
        record {
          after = after;
          runs = subst P (lent-view reads writes start seat seated lent lent_seat from to) run.runs;
          leaves = cut-leaves reads writes start seat seated lent lent_seat from to run.reads_after run.writes_after run.world_after seat2 run.fits run.leaves;
          comes_back = world-back reads writes start seat seated lent lent_seat from to run.reads_after run.writes_after run.world_after seat2 run.fits run.leaves last last_seat from2 to2;
        }
