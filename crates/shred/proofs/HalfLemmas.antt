-- Two trees that don't conflict, each over what was lent to it, run as one after the other.
use Rattle.std.proofs.Common.{◌≡◌, Bool, true, false, ◌||◌, List, [], ◌∷◌, refl, ap, sym, ◌∙◌, subst, Option, Some, None}
use Rattle.std.specs.Prelude.{if◌then◌else◌}
use Rattle.std.specs.Option.{option_or}
use Rattle.std.specs.FinMap.{get}
use Rattle.std.proofs.Math.Path.{fun_ext}
use Rattle.std.proofs.lemmas.Bool.{false≢true}
use Rattle.shred_world.specs.declared.resource_id.ResourceId.{ResourceId}
use Rattle.shred_world.specs.ResourceIds.{same_id}
use Rattle.shred_world.specs.Worlds.{Slots, value_at}
use Rattle.shred_world.specs.Bundles.{Slot, absent, out, shared, owned, Holding, holding_of, readable, takable, is_listed}
use Rattle.shred_world.proofs.CallerLemmas.{same_id-is}
use Rattle.shred_stages.specs.declared.stop.Stop.{Stop}
use Rattle.shred_stages.specs.Views.{IsLeft, Leaves, FitsSeat, merged, cut, owned_of, shared_of, view_slots}
use Rattle.shred_stages.specs.Moves.{IsSeat, HasSlots, emptied, filled, left_of, moved_to}
use Rattle.shred_stages.specs.Runs.{Step, RunsInView}
use Rattle.shred_stages.proofs.CallerLemmas.{left-other, turn-slots, turn-seat, turn-step}
use Rattle.shred.specs.Trees.{Within, CanBeTaken, have_common, conflict, ParRuns, StaysWithin, SeesWhatItDeclares}
use Rattle.shred.specs.TreeLaws.{read-stays}
use Rattle.shred.specs.Rooms.{Lends, Returns}

-- lists with nothing in common
none-common : (ids others : List ResourceId) (id : ResourceId) → have_common ids others ≡ false → is_listed ids id ≡ true → is_listed others id ≡ false
none-common [] others id none listed = absurd (false≢true listed)
none-common (first ∷ ids) others id none listed = by (is_listed others first) (same_id id first) refl refl (none-common ids others id) none listed
  where
    by : (there same : Bool) → is_listed others first ≡ there → same_id id first ≡ same → (have_common ids others ≡ false → is_listed ids id ≡ true → is_listed others id ≡ false)
        → (there || have_common ids others) ≡ false → (same || is_listed ids id) ≡ true → is_listed others id ≡ false
    by true same is is2 rest n l = absurd (false≢true (sym n))
    by false true is is2 rest n l = let P : ResourceId → Type 0 = λ q. is_listed others q ≡ false in subst P (sym (same_id-is id first is2)) is
    by false false is is2 rest n l = rest n l

or-first : (a b : Bool) → (a || b) ≡ false → a ≡ false
or-first true b e = e
or-first false b e = refl

or-second : (a b : Bool) → (a || b) ≡ false → b ≡ false
or-second true b e = absurd (false≢true (sym e))
or-second false b e = e

turned : (a b : Bool) → (a ≡ true → b ≡ false) → b ≡ true → a ≡ false
turned true b f e = absurd (false≢true (sym (f refl) ∙ e))
turned false b f e = refl

module _ (reads writes reads2 writes2 : List ResourceId) (apart : conflict reads writes reads2 writes2 ≡ false) where
  -- what the first reads, the second doesn't write
  pub reads-unwritten : (id : ResourceId) → is_listed reads id ≡ true → is_listed writes2 id ≡ false
  reads-unwritten id = none-common reads writes2 id (or-second (have_common writes reads2) (have_common reads writes2) (or-second (have_common writes writes2) (have_common writes reads2 || have_common reads writes2) apart))

  -- what the first writes, the second doesn't write
  pub writes-unwritten : (id : ResourceId) → is_listed writes id ≡ true → is_listed writes2 id ≡ false
  writes-unwritten id = none-common writes writes2 id (or-first (have_common writes writes2) (have_common writes reads2 || have_common reads writes2) apart)

  -- what the second reads or writes, the first doesn't write
  pub read-unwritten : (id : ResourceId) → is_listed reads2 id ≡ true → is_listed writes id ≡ false
  read-unwritten id = turned (is_listed writes id) (is_listed reads2 id)
      (none-common writes reads2 id (or-first (have_common writes reads2) (have_common reads writes2) (or-second (have_common writes writes2) (have_common writes reads2 || have_common reads writes2) apart)))

  pub written-unwritten : (id : ResourceId) → is_listed writes2 id ≡ true → is_listed writes id ≡ false
  written-unwritten id = turned (is_listed writes id) (is_listed writes2 id) (writes-unwritten id)

module _ {V : Type 0} where
  readable-owned : (value : Option V) → readable (owned_of value) ≡ value
  readable-owned None = refl
  readable-owned (Some v) = refl

  takable-owned : (value : Option V) → takable (owned_of value) ≡ value
  takable-owned None = refl
  takable-owned (Some v) = refl

  readable-shared : (value : Option V) → readable (shared_of value) ≡ value
  readable-shared None = refl
  readable-shared (Some v) = refl

  -- a slot of what is lent, and what can be seen of it
  seen-cut : (l r : Bool) (slot : Slot V) → r ≡ true → (l ≡ true → readable slot ≡ takable slot)
      → readable slot ≡ readable (if l then owned_of (takable slot) else (if r then shared_of (readable slot) else absent))
  seen-cut true r slot listed whole = whole refl ∙ sym (readable-owned (takable slot))
  seen-cut false true slot listed whole = sym (readable-shared (readable slot))
  seen-cut false false slot listed whole = absurd (false≢true listed)

  taken-cut : (l r : Bool) (slot : Slot V) → l ≡ true → takable slot ≡ takable (if l then owned_of (takable slot) else (if r then shared_of (readable slot) else absent))
  taken-cut true r slot listed = sym (takable-owned (takable slot))
  taken-cut false r slot listed = absurd (false≢true listed)

  back-cut : (l r : Bool) (slot after last : Slot V) → last ≡ merged after slot → IsLeft (if l then owned_of (takable slot) else (if r then shared_of (readable slot) else absent)) after
      → (if l then merged after slot else slot) ≡ last
  back-cut true r slot after last e left = sym e
  back-cut false r slot after last e left = sym (read-stays r (readable slot) after slot left) ∙ sym e

  -- a slot that was left comes back as it is
  pub left-merged : (before after : Slot V) → IsLeft before after → merged after before ≡ after
  left-merged absent after left = let P : Slot V → Type 0 = λ x. merged x absent ≡ x in subst P (sym left) refl
  left-merged out after left = let P : Slot V → Type 0 = λ x. merged x out ≡ x in subst P (sym left) refl
  left-merged (shared v) after left = let P : Slot V → Type 0 = λ x. merged x (shared v) ≡ x in subst P (sym left) refl
  left-merged (owned v) after left = let P : Slot V → Type 0 = λ x. merged x (owned v) ≡ x in subst P (sym left.1) refl

  same-view : (l r : Bool) (lent now was : Slot V) → (r ≡ true → now ≡ was)
      → (if l then lent else (if r then shared_of (readable now) else absent)) ≡ (if l then lent else (if r then shared_of (readable was) else absent))
  same-view true r lent now was same = refl
  same-view false true lent now was same = ap (λ slot. shared_of (readable slot)) (same refl)
  same-view false false lent now was same = refl

  same-moved : (l : Bool) (now was seat : Slot V) → (l ≡ true → now ≡ was) → (if l then filled now seat else seat) ≡ (if l then filled was seat else seat)
  same-moved true now was seat same = ap (λ slot. filled slot seat) (same refl)
  same-moved false now was seat same = refl

  -- an id that isn't moved keeps its slot
  moved-other : (ids : List ResourceId) (from to : Holding V) (id : ResourceId) → is_listed ids id ≡ false → moved_to ids from to id ≡ to id
  moved-other ids from to id e = ap (λ b. if b then filled (from id) (to id) else to id) e

-- a step over what is declared is a run over all that is held
module _ {V X : Type 0} (meets : X → Holding V → Option Stop → X → Holding V → Type 0) (reads writes : X → List ResourceId) (sees : SeesWhatItDeclares meets reads writes) where
  pub step-meets : (tree : X) (w : Holding V) (refused : Option Stop) (after : X) (last : Holding V) → CanBeTaken (writes tree) w
      → Step meets (reads tree) (writes tree) tree w refused after last → meets tree w refused after last
  step-meets tree w refused after last whole step =
      let P : Holding V → Type 0 = λ left. meets tree w refused after left in
      subst P (fun_ext (λ id. back-cut (is_listed (writes tree) id) (is_listed (reads tree) id) (w id) (step.after id) (last id) (step.comes_back id) (step.leaves id)))
      (sees tree (cut (reads tree) (writes tree) w) refused after step.after w step.runs (record {
        read = λ id listed. seen-cut (is_listed (writes tree) id) (is_listed (reads tree) id) (w id) listed (whole id);
        written = λ id listed. taken-cut (is_listed (writes tree) id) (is_listed (reads tree) id) (w id) listed;
      }))

module _ {V H T : Type 0} (head_meets : H → Holding V → Option Stop → H → Holding V → Type 0) (tail_meets : T → Holding V → Option Stop → T → Holding V → Type 0)
    (head_reads head_writes : H → List ResourceId) (tail_reads tail_writes : T → List ResourceId)
    (head : H) (tail : T) (apart : conflict (head_reads head) (head_writes head) (tail_reads tail) (tail_writes tail) ≡ false)
    (w0 w1 w2 : Holding V) (head_seat head_lent head_ran tail_seat tail_lent tail_ran : Slots V)
    (head_seated : IsSeat (head_writes head) head_seat) (tail_seated : IsSeat (tail_writes tail) tail_seat)
    (head_lends : Lends (head_writes head) w0 w1 head_seat head_lent) (tail_lends : Lends (tail_writes tail) w1 w2 tail_seat tail_lent)
    (first later : Option Stop) (head2 : H) (tail2 : T)
    (head_run : RunsInView head_meets head (view_slots (head_reads head) (head_writes head) w2 head_lent) first head2 head_ran)
    (tail_run : RunsInView tail_meets tail (view_slots (tail_reads tail) (tail_writes tail) w2 tail_lent) later tail2 tail_ran) where
  abbrev pub hr : List ResourceId
  hr = head_reads head

  abbrev pub hw : List ResourceId
  hw = head_writes head

  abbrev pub tr : List ResourceId
  tr = tail_reads tail

  abbrev pub tw : List ResourceId
  tw = tail_writes tail

  -- what the tail doesn't write is as the head left it there; what the head doesn't write is as it was
  tail-kept : (id : ResourceId) → is_listed tw id ≡ false → w2 id ≡ w1 id
  tail-kept id e = tail_lends.left id ∙ left-other tw w1 id e

  head-kept : (id : ResourceId) → is_listed hw id ≡ false → w1 id ≡ w0 id
  head-kept id e = head_lends.left id ∙ left-other hw w0 id e

  -- the world as it is where the tail alone was lent what it writes
  abbrev pub lent : Holding V
  lent = left_of tw w0

  tail-left : (id : ResourceId) → is_listed hw id ≡ false → w2 id ≡ lent id
  tail-left id e = tail_lends.left id ∙ ap (λ slot. if is_listed tw id then emptied slot else slot) (head-kept id e)

  head-sees : RunsInView head_meets head (view_slots hr hw w1 head_lent) first head2 head_ran
  head-sees =
      let P : Holding V → Type 0 = λ seen. RunsInView head_meets head seen first head2 head_ran in
      subst P (fun_ext (λ id. same-view (is_listed hw id) (is_listed hr id) (owned_of (value_at head_lent id)) (w2 id) (w1 id) (λ listed. tail-kept id (reads-unwritten hr hw tr tw apart id listed)))) head_run

  tail-sees : RunsInView tail_meets tail (view_slots tr tw lent tail_lent) later tail2 tail_ran
  tail-sees =
      let P : Holding V → Type 0 = λ seen. RunsInView tail_meets tail seen later tail2 tail_ran in
      subst P (fun_ext (λ id. same-view (is_listed tw id) (is_listed tr id) (owned_of (value_at tail_lent id)) (w2 id) (lent id) (λ listed. tail-left id (read-unwritten hr hw tr tw apart id listed)))) tail_run

  tail-moved : (id : ResourceId) → holding_of tail_lent id ≡ moved_to tw w0 (holding_of tail_seat) id
  tail-moved id = tail_lends.moved id ∙ same-moved (is_listed tw id) (w1 id) (w0 id) (holding_of tail_seat id) (λ listed. head-kept id (written-unwritten hr hw tr tw apart id listed))

  -- what comes back from the head finds its slots
  pub head-slots : HasSlots hw (holding_of head_ran) w2
  head-slots id listed there =
      tail-kept id (writes-unwritten hr hw tr tw apart id listed)
      ∙ turn-slots head_meets hr hw w0 head_seat w1 head_lent head_ran w1 head_ran head first head2 head_seated head_lends.left head_lends.moved head-sees id listed there

  module _ (w3 : Holding V) (head_back : Slots V) (head_returns : Returns hw head_ran head_back w2 w3) where
    head-stays : (id : ResourceId) → is_listed hw id ≡ false → w3 id ≡ w2 id
    head-stays id e = head_returns.moved id ∙ moved-other hw (holding_of head_ran) w2 id e

    -- and so does what comes back from the tail
    pub tail-slots : HasSlots tw (holding_of tail_ran) w3
    tail-slots id listed there =
        let unwritten = written-unwritten hr hw tr tw apart id listed in
        head-stays id unwritten ∙ tail-left id unwritten
        ∙ turn-slots tail_meets tr tw w0 tail_seat lent tail_lent tail_ran lent tail_ran tail later tail2 tail_seated (λ q. refl) tail-moved tail-sees id listed there

    module _ (w4 : Holding V) (tail_back : Slots V) (tail_returns : Returns tw tail_ran tail_back w3 w4) where
      -- the world as each half leaves it by itself
      abbrev pub head_last : Holding V
      head_last = moved_to hw (holding_of head_ran) w1

      abbrev pub tail_last : Holding V
      tail_last = moved_to tw (holding_of tail_ran) lent

      head-step : Step head_meets hr hw head w0 first head2 head_last
      head-step = turn-step head_meets hr hw w0 head_seat w1 head_lent head_ran head_last head_back head first head2 head_seated head_lends.left head_lends.moved head-sees head_returns.left (λ q. refl)

      tail-step : Step tail_meets tr tw tail w0 later tail2 tail_last
      tail-step = turn-step tail_meets tr tw w0 tail_seat lent tail_lent tail_ran tail_last tail_back tail later tail2 tail_seated (λ q. refl) tail-moved tail-sees tail_returns.left (λ q. refl)

      -- the seats are as they were
      pub head-seat : (id : ResourceId) → get head_back id ≡ get head_seat id
      head-seat = turn-seat head_meets hr hw w0 head_seat w1 head_lent head_ran head_last head_back head first head2 head_seated head_lends.left head_lends.moved head-sees head_returns.left (λ q. refl)

      pub tail-seat : (id : ResourceId) → get tail_back id ≡ get tail_seat id
      tail-seat = turn-seat tail_meets tr tw w0 tail_seat lent tail_lent tail_ran tail_last tail_back tail later tail2 tail_seated (λ q. refl) tail-moved tail-sees tail_returns.left (λ q. refl)

      module _ (head_within : StaysWithin head_meets head_writes) (tail_within : StaysWithin tail_meets tail_writes)
          (head_sees : SeesWhatItDeclares head_meets head_reads head_writes) (tail_sees : SeesWhatItDeclares tail_meets tail_reads tail_writes)
          (head_whole : CanBeTaken hw w0) (tail_whole : CanBeTaken tw w0) where
        head-meets : head_meets head w0 first head2 head_last
        head-meets = step-meets head_meets head_reads head_writes head_sees head w0 first head2 head_last head_whole head-step

        tail-meets : tail_meets tail w0 later tail2 tail_last
        tail-meets = step-meets tail_meets tail_reads tail_writes tail_sees tail w0 later tail2 tail_last tail_whole tail-step

        head-within : Within hw w0 head_last
        head-within = head_within head w0 first head2 head_last head-meets

        tail-within : Within tw w0 tail_last
        tail-within = tail_within tail w0 later tail2 tail_last tail-meets

        -- what is held at an id, once both are back
        last-slot : (id : ResourceId) (l : Bool) → is_listed tw id ≡ l → (if l then merged (tail_last id) (head_last id) else head_last id) ≡ w4 id
        last-slot id true e =
            let unwritten = written-unwritten hr hw tr tw apart id e in
            ap (λ slot. merged (tail_last id) slot) (head-within.others id unwritten)
            ∙ left-merged (w0 id) (tail_last id) (tail-within.leaves id)
            ∙ sym (tail_returns.moved id ∙ ap (λ slot. if is_listed tw id then filled (holding_of tail_ran id) slot else slot) (head-stays id unwritten ∙ tail-left id unwritten))
        last-slot id false e =
            sym (tail_returns.moved id ∙ moved-other tw (holding_of tail_ran) w3 id e ∙ head_returns.moved id
            ∙ ap (λ slot. if is_listed hw id then filled (holding_of head_ran id) slot else slot) (tail-kept id e))

        -- both halves have run, one after the other
        pub both-run : ParRuns head_meets tail_meets (record { head = head; tail = tail }) w0 (option_or first later) (record { head = head2; tail = tail2 }) w4
        both-run =
            let P : Holding V → Type 0 = λ left. tail_meets tail head_last later tail2 left in (
              head_last,
              first,
              later,
              head-meets,
              subst P (fun_ext (λ id. last-slot id (is_listed tw id) refl))
                  (tail_sees tail w0 later tail2 tail_last head_last tail-meets (record {
                    read = λ id listed. ap readable (head-within.others id (read-unwritten hr hw tr tw apart id listed));
                    written = λ id listed. ap takable (head-within.others id (written-unwritten hr hw tr tw apart id listed));
                  })),
              refl,
            )

-- a run over a view, which ends with a seat
module _ {V X : Type 0} (meets : X → Holding V → Option Stop → X → Holding V → Type 0) (tree : X) (refused : Option Stop) (after : X) (seen lent : Holding V)
    (reads2 writes2 : List ResourceId) (world2 : Holding V) (seat2 back : Slots V) where
  pub ran-in-view : seen ≡ lent → back ≡ seat2 → FitsSeat writes2 seat2 → meets tree seen refused after (view_slots reads2 writes2 world2 seat2)
      → Leaves seen (view_slots reads2 writes2 world2 seat2) → RunsInView meets tree lent refused after back
  ran-in-view is is2 fits runs leaves =
      let P : Holding V → Type 0 = λ from. RunsInView meets tree from refused after back in
      let Q : Slots V → Type 0 = λ seat. RunsInView meets tree seen refused after seat in
      subst P is (subst Q (sym is2) (record { reads_after = reads2; writes_after = writes2; world_after = world2; fits = fits; runs = runs; leaves = leaves }))

-- the same under other names of the lists
module _ {V : Type 0} where
  pub lends-in : {writes ids : List ResourceId} {w w2 : Holding V} {seat seat2 : Slots V} → writes ≡ ids → Lends writes w w2 seat seat2 → Lends ids w w2 seat seat2
  lends-in {w} {w2} {seat} {seat2} e lends = let P : List ResourceId → Type 0 = λ list. Lends list w w2 seat seat2 in subst P e lends

  pub returns-in : {writes ids : List ResourceId} {w w2 : Holding V} {seat seat2 : Slots V} → writes ≡ ids → Returns writes seat seat2 w w2 → Returns ids seat seat2 w w2
  returns-in {w} {w2} {seat} {seat2} e returns = let P : List ResourceId → Type 0 = λ list. Returns list seat seat2 w w2 in subst P e returns

  pub slots-in : {writes ids : List ResourceId} (from to : Holding V) → writes ≡ ids → HasSlots ids from to → HasSlots writes from to
  slots-in from to e slots = let P : List ResourceId → Type 0 = λ list. HasSlots list from to in subst P (sym e) slots

  pub runs-in : {X : Type 0} {meets : X → Holding V → Option Stop → X → Holding V → Type 0} {tree after : X} {refused : Option Stop} {reads ids writes ids2 : List ResourceId} (w : Holding V) (seat : Slots V) {seat2 : Slots V}
      → reads ≡ ids → writes ≡ ids2 → RunsInView meets tree (view_slots reads writes w seat) refused after seat2 → RunsInView meets tree (view_slots ids ids2 w seat) refused after seat2
  runs-in {meets} {tree} {after} {refused} {ids} {writes} w seat {seat2} e e2 runs =
      let P : List ResourceId → Type 0 = λ list. RunsInView meets tree (view_slots list writes w seat) refused after seat2 in
      let Q : List ResourceId → Type 0 = λ list. RunsInView meets tree (view_slots ids list w seat) refused after seat2 in
      subst Q e2 (subst P e runs)
