-- Groups that share no system and no id that an earlier one writes, run apart and gathered, are a run of their stage in order.
use Rattle.std.proofs.Common.{◌≡◌, ◌≢◌, ℕ, zero, suc, Bool, true, false, ◌||◌, List, [], ◌∷◌, refl, ap, sym, ◌∙◌, subst, Option, Some, None}
use Rattle.std.specs.Prelude.{slice_get, if◌then◌else◌, ◌++◌}
use Rattle.std.specs.Option.{MatchOption}
use Rattle.std.proofs.Math.ListN.{set}
use Rattle.std.proofs.Math.Path.{fun_ext}
use Rattle.std.proofs.lemmas.Bool.{false≢true, or_right}
use Rattle.std.proofs.lemmas.List.Folds.{list_any-append}
use Rattle.shred_world.specs.declared.resource_id.ResourceId.{ResourceId}
use Rattle.shred_world.specs.ResourceIds.{same_id}
use Rattle.shred_world.specs.Bundles.{Slot, absent, out, shared, owned, Holding, readable, takable, is_listed}
use Rattle.shred_plan.specs.Plan.{Group, Stage}
use Rattle.shred_stages.specs.declared.stop.Stop.{Stop}
use Rattle.shred_stages.specs.Views.{shared_of, owned_of, cut, IsLeft, Leaves, merged}
use Rattle.shred_stages.specs.Runs.{Step, State, Turn, GroupRuns, StageRuns}
use Rattle.shred_stages.specs.Apart.{group_reads, group_writes, Ran, StandAt, put_systems, put_back, gathered, first_refusal, PlacesRun, RanFrom, RanApart}
use Rattle.shred_stages.specs.Free.{IsNone, AreDistinct, ShareNone, IsFreeOf, IsFreeOfAll, AreFree}
use Rattle.shred_stages.proofs.LeaveLemmas.{leaves-itself, leaves-leaves, leaves-to, step-leaves}

-- one system in the place of another among all

module _ {S : Type 0} where
  pub set-other : (xs : List S) (n m : ℕ) (y : S) → n ≢ m → slice_get (set xs n y) m ≡ slice_get xs m
  set-other [] n m y e = refl
  set-other (x ∷ xs) zero zero y e = absurd (e refl)
  set-other (x ∷ xs) zero (suc m) y e = refl
  set-other (x ∷ xs) (suc n) zero y e = refl
  set-other (x ∷ xs) (suc n) (suc m) y e = set-other xs n m y (λ same. e (ap suc same))

  set-same : (xs : List S) (n : ℕ) (x : S) → slice_get xs n ≡ Some x → set xs n x ≡ xs
  set-same [] n x e = refl
  set-same (y ∷ xs) zero x e = let same : y ≡ x = cc in ap (λ z. z ∷ xs) (sym same)
  set-same (y ∷ xs) (suc n) x e = ap (λ rest. y ∷ rest) (set-same xs n x e)

  stand-set : (all : List S) (number : ℕ) (y : S) (group : Group ResourceId) (systems : List S) → IsNone number group → StandAt all group systems → StandAt (set all number y) group systems
  stand-set all number y [] [] none stand = tt
  stand-set all number y [] (system ∷ systems) none stand = absurd stand
  stand-set all number y (one ∷ others) [] none stand = absurd stand
  stand-set all number y (one ∷ others) (system ∷ systems) none stand =
      (set-other all number one.number y none.0 ∙ stand.0, stand-set all number y others systems none.1 stand.1)

  -- systems put where they stand change nothing
  pub put-same : (group : Group ResourceId) (systems all : List S) → StandAt all group systems → put_systems group systems all ≡ all
  put-same [] systems all stand = refl
  put-same (one ∷ others) [] all stand = refl
  put-same (one ∷ others) (system ∷ systems) all stand =
      let same : set all one.number system ≡ all = set-same all one.number system stand.0 in
      let P : List S → Type 0 = λ list. StandAt list others systems in
      put-same others systems (set all one.number system) (subst P (sym same) stand.1) ∙ same

-- what a group sees, and what is held where its values came back

module _ {V : Type 0} where
  -- what can be read can be taken out: so it is in a world
  abbrev pub IsWhole : Holding V → Type 0
  IsWhole w = (id : ResourceId) → readable (w id) ≡ takable (w id)

  merged-twice : (a b c : Slot V) → merged (merged a b) c ≡ merged a (merged b c)
  merged-twice absent b c = refl
  merged-twice out b c = refl
  merged-twice (shared v) b c = refl
  merged-twice (owned v) b c = refl

  -- a slot that comes back as it was lent
  lent-back : (l r : Bool) (slot : Slot V) → readable slot ≡ takable slot → merged (if l then owned_of (takable slot) else (if r then shared_of (readable slot) else absent)) slot ≡ slot
  lent-back true r absent e = refl
  lent-back true r out e = refl
  lent-back true r (shared v) e = cc
  lent-back true r (owned v) e = refl
  lent-back false true absent e = refl
  lent-back false true out e = refl
  lent-back false true (shared v) e = refl
  lent-back false true (owned v) e = refl
  lent-back false false slot e = refl

  pub cut-back : (reads writes : List ResourceId) (w : Holding V) → IsWhole w → (λ id. merged (cut reads writes w id) (w id)) ≡ w
  cut-back reads writes w whole = fun_ext (λ id. lent-back (is_listed writes id) (is_listed reads id) (w id) (whole id))

  -- a system of a group sees the same in what the group holds and in what is held where that came back
  see : (L R l r : Bool) (slot held : Slot V) → readable slot ≡ takable slot → (l ≡ true → L ≡ true) → (r ≡ true → (L || R) ≡ true)
      → IsLeft (if L then owned_of (takable slot) else (if R then shared_of (readable slot) else absent)) held
      → (if l then owned_of (takable held) else (if r then shared_of (readable held) else absent))
      ≡ (if l then owned_of (takable (merged held slot)) else (if r then shared_of (readable (merged held slot)) else absent))
  see L R l r slot (owned v) e f g left = refl
  see L R false false slot held e f g left = refl
  see true R l r (shared u) held e f g left = absurd (let n : Some u ≡ None = e in cc)
  see true R l r (owned u) absent e f g left = cc
  see true R l r (owned u) out e f g left = cc
  see true R l r (owned u) (shared v) e f g left = cc
  see true R true r absent absent e f g left = cc
  see true R true r absent out e f g left = refl
  see true R true r absent (shared v) e f g left = cc
  see true R true r out absent e f g left = cc
  see true R true r out out e f g left = refl
  see true R true r out (shared v) e f g left = cc
  see true R false true absent absent e f g left = cc
  see true R false true absent out e f g left = refl
  see true R false true absent (shared v) e f g left = cc
  see true R false true out absent e f g left = cc
  see true R false true out out e f g left = refl
  see true R false true out (shared v) e f g left = cc
  see false R true r slot held e f g left = absurd (false≢true (f refl))
  see false false false true slot held e f g left = absurd (false≢true (g refl))
  see false true false true absent absent e f g left = refl
  see false true false true absent out e f g left = cc
  see false true false true absent (shared v) e f g left = cc
  see false true false true out absent e f g left = refl
  see false true false true out out e f g left = cc
  see false true false true out (shared v) e f g left = cc
  see false true false true (shared u) absent e f g left = cc
  see false true false true (shared u) out e f g left = cc
  see false true false true (shared u) (shared v) e f g left = absurd (let n : Some u ≡ None = e in cc)
  see false true false true (owned u) absent e f g left = cc
  see false true false true (owned u) out e f g left = cc
  see false true false true (owned u) (shared v) e f g left = ap shared_of (let same : shared v ≡ shared u = left in ap readable same)

-- ids of one list stand in another
abbrev pub AreListed : (ids others : List ResourceId) → Type 0
AreListed ids others = (id : ResourceId) → is_listed ids id ≡ true → is_listed others id ≡ true

listed-first : (ids others : List ResourceId) → AreListed ids (ids ++ others)
listed-first ids others id e = list_any-append (same_id id) ids others ∙ ap (λ b. b || is_listed others id) e

or-true : (b : Bool) → (b || true) ≡ true
or-true true = refl
or-true false = refl

listed-later : (ids others : List ResourceId) → AreListed others (ids ++ others)
listed-later ids others id e = list_any-append (same_id id) ids others ∙ ap (λ b. is_listed ids id || b) e ∙ or-true (is_listed ids id)

module _ {V S : Type 0} (meets : S → Holding V → Option Stop → S → Holding V → Type 0) where
  pub places-leave : (group : Group ResourceId) (systems : List S) (w : Holding V) (refused : Option (ℕ × Stop)) (after : List S) (w2 : Holding V) → PlacesRun meets group systems w refused after w2 → Leaves w w2
  places-leave [] systems w refused after w2 (_, _, e) = leaves-to w w w2 (leaves-itself w) e
  places-leave (one ∷ others) [] w refused after w2 runs = absurd runs
  places-leave (one ∷ others) (system ∷ systems) w refused after w2 (left, rest, between, stop, step, _, m) =
      leaves-leaves w between w2 (step-leaves meets one.reads one.writes system w stop left between step) (by stop (places-leave others systems between refused rest w2) m)
    where
      by : (stop : Option Stop) → (PlacesRun meets others systems between refused rest w2 → Leaves between w2)
          → MatchOption stop (PlacesRun meets others systems between refused rest w2) (λ why. (refused ≡ Some (one.number, why)) × (rest ≡ systems) × (w2 ≡ between)) → Leaves between w2
      by None later m = later m
      by (Some why) later m = leaves-to between between w2 (leaves-itself between) m.2

  abbrev state : List S → Holding V → State V S
  state systems w = record { systems = systems; held = w }

  module _ (reads writes : List ResourceId) (start : Holding V) (whole : IsWhole start) where
    -- what is held where what a group holds came back
    abbrev back : Holding V → Holding V
    back held id = merged (held id) (start id)

    see-same : (r w : List ResourceId) (held : Holding V) → AreListed r reads → AreListed w writes → Leaves (cut reads writes start) held → cut r w held ≡ cut r w (back held)
    see-same r w held among_reads among_writes leaves =
        fun_ext (λ id. see (is_listed writes id) (is_listed reads id) (is_listed w id) (is_listed r id) (start id) (held id) (whole id) (among_writes id)
        (λ e. or_right (is_listed writes id) (is_listed reads id) (among_reads id e)) (leaves id))

    step-back : (r w : List ResourceId) (system left : S) (held next : Holding V) (stop : Option Stop) → AreListed r reads → AreListed w writes → Leaves (cut reads writes start) held
        → Step meets r w system held stop left next → Step meets r w system (back held) stop left (back next)
    step-back r w system left held next stop among_reads among_writes leaves step =
        let same = see-same r w held among_reads among_writes leaves in
        let P : Holding V → Type 0 = λ seen. meets system seen stop left step.after in
        let Q : Holding V → Type 0 = λ seen. Leaves seen step.after in
        record {
          after = step.after;
          runs = subst P same step.runs;
          leaves = subst Q same step.leaves;
          comes_back = λ id. ap (λ slot. merged slot (start id)) (step.comes_back id) ∙ merged-twice (step.after id) (held id) (start id);
        }

    -- the systems of a group take their turns among all
    group-back : (group : Group ResourceId) (systems all : List S) (held : Holding V) (refused : Option (ℕ × Stop)) (after : List S) (held2 : Holding V)
        → PlacesRun meets group systems held refused after held2 → Leaves (cut reads writes start) held → AreListed (group_reads group) reads → AreListed (group_writes group) writes
        → AreDistinct group → StandAt all group systems
        → GroupRuns meets group (state all (back held)) refused (state (put_systems group after all) (back held2))
    group-back [] systems all held refused after held2 (none, _, e) leaves among_reads among_writes distinct stand =
        (none, ap (λ w. state all (back w)) e)
    group-back (one ∷ others) [] all held refused after held2 runs leaves among_reads among_writes distinct stand = absurd runs
    group-back (one ∷ others) (system ∷ systems) all held refused after held2 (left, rest, between, stop, step, is, m) leaves among_reads among_writes distinct stand =
        let P : Option S → Type 0 = λ o. MatchOption o ⊥ (λ there. Step meets one.reads one.writes there (back held) stop left (back between)) in
        let turn : Turn meets one (state all (back held)) stop (state (set all one.number left) (back between)) = (
          left,
          subst P (sym stand.0) (step-back one.reads one.writes system left held between stop (λ id e. among_reads id (listed-first one.reads (group_reads others) id e))
              (λ id e. among_writes id (listed-first one.writes (group_writes others) id e)) leaves step),
          refl,
        ) in
        let later = group-back others systems (set all one.number left) between refused rest held2 in
        let Q : List S → Type 0 = λ list. GroupRuns meets (one ∷ others) (state all (back held)) refused (state (put_systems (one ∷ others) list all) (back held2)) in
        subst Q (sym is) (
          (state (set all one.number left) (back between)),
          stop,
          turn,
          by stop
              (λ runs. later runs (leaves-leaves (cut reads writes start) held between leaves (step-leaves meets one.reads one.writes system held stop left between step))
              (λ id e. among_reads id (listed-later one.reads (group_reads others) id e)) (λ id e. among_writes id (listed-later one.writes (group_writes others) id e)) distinct.1 there) m,
        )
      where
        there : StandAt (set all one.number left) others systems
        there = stand-set all one.number left others systems distinct.0 stand.1

        by : (stop : Option Stop)
            → (PlacesRun meets others systems between refused rest held2
            → GroupRuns meets others (state (set all one.number left) (back between)) refused (state (put_systems others rest (set all one.number left)) (back held2)))
            → MatchOption stop (PlacesRun meets others systems between refused rest held2) (λ why. (refused ≡ Some (one.number, why)) × (rest ≡ systems) × (held2 ≡ between))
            → MatchOption stop
            (GroupRuns meets others (state (set all one.number left) (back between)) refused (state (put_systems others rest (set all one.number left)) (back held2)))
            (λ why. (refused ≡ Some (one.number, why)) × (state (put_systems others rest (set all one.number left)) (back held2) ≡ state (set all one.number left) (back between)))
        by None later m = later m
        by (Some why) later (told, same, e) =
            let R : List S → Type 0 = λ list. state (put_systems others list (set all one.number left)) (back held2) ≡ state (set all one.number left) (back between) in
            let put : put_systems others systems (set all one.number left) ≡ set all one.number left = put-same others systems (set all one.number left) there in
            (told, subst R (sym same) (ap (λ w. state (put_systems others systems (set all one.number left)) (back w)) e ∙ ap (λ list. state list (back between)) put))

module _ {V : Type 0} where
  merged-whole : (held slot : Slot V) → readable slot ≡ takable slot → readable (merged held slot) ≡ takable (merged held slot)
  merged-whole absent slot e = e
  merged-whole out slot e = e
  merged-whole (shared v) slot e = e
  merged-whole (owned v) slot e = refl

  -- what a group leaves, another that it is free of sees as it was
  pub unseen : (L R l r : Bool) (slot held : Slot V) → (L ≡ true → (r ≡ false) × (l ≡ false)) → IsLeft (if L then owned_of (takable slot) else (if R then shared_of (readable slot) else absent)) held
      → (if l then owned_of (takable slot) else (if r then shared_of (readable slot) else absent))
      ≡ (if l then owned_of (takable (merged held slot)) else (if r then shared_of (readable (merged held slot)) else absent))
  unseen L R l r slot absent free left = refl
  unseen L R l r slot out free left = refl
  unseen L R l r slot (shared v) free left = refl
  unseen true R false false slot (owned v) free left = refl
  unseen true R true r slot (owned v) free left = absurd (false≢true (sym (free refl).1))
  unseen true R false true slot (owned v) free left = absurd (false≢true (sym (free refl).0))
  unseen false true l r absent (owned v) free left = cc
  unseen false true l r out (owned v) free left = cc
  unseen false true l r (shared u) (owned v) free left = cc
  unseen false true l r (owned u) (owned v) free left = cc
  unseen false false l r slot (owned v) free left = cc

module _ {S : Type 0} where
  put-stand : (group other : Group ResourceId) (after systems all : List S) → ShareNone group other → StandAt all other systems → StandAt (put_systems group after all) other systems
  put-stand [] other after systems all none stand = stand
  put-stand (one ∷ others) other [] systems all none stand = stand
  put-stand (one ∷ others) other (left ∷ after) systems all none stand =
      put-stand others other after systems (set all one.number left) none.1 (stand-set all one.number left other systems none.0 stand)

module _ {V S : Type 0} (meets : S → Holding V → Option Stop → S → Holding V → Type 0) where
  -- a group goes the same way from a state to which one came back that is free of it
  still-from : (group other : Group ResourceId) (before : State V S) (first ran : Ran V S) → IsFreeOf group other → RanFrom meets before group first → RanFrom meets before other ran
      → RanFrom meets (put_back group first before) other ran
  still-from group other before first ran free runs from =
      let leaves = places-leave meets group runs.systems (cut (group_reads group) (group_writes group) before.held) first.refused first.systems first.held runs.runs in
      let same : cut (group_reads other) (group_writes other) before.held ≡ cut (group_reads other) (group_writes other) (put_back group first before).held =
      fun_ext (λ id. unseen (is_listed (group_writes group) id) (is_listed (group_reads group) id) (is_listed (group_writes other) id) (is_listed (group_reads other) id) (before.held id) (first.held id) (free.ids id) (leaves id)) in
      let P : Holding V → Type 0 = λ seen. PlacesRun meets other from.systems seen ran.refused ran.systems ran.held in
      record { systems = from.systems; stand = put-stand group other first.systems from.systems before.systems free.numbers from.stand; runs = subst P same from.runs }

  pub all-still : (group : Group ResourceId) (stage : Stage ResourceId) (before : State V S) (first : Ran V S) (rans : List (Ran V S)) → IsFreeOfAll group stage → RanFrom meets before group first → RanApart meets before stage rans
      → RanApart meets (put_back group first before) stage rans
  all-still group [] before first [] free runs apart = tt
  all-still group [] before first (ran ∷ rans) free runs apart = absurd apart
  all-still group (other ∷ stage) before first [] free runs apart = absurd apart
  all-still group (other ∷ stage) before first (ran ∷ rans) free runs apart = (still-from group other before first ran free.0 runs apart.0, all-still group stage before first rans free.1 runs apart.1)

  -- a group that ran by itself took its turn
  group-turn : (group : Group ResourceId) (before : State V S) (ran : Ran V S) → IsWhole before.held → AreDistinct group → RanFrom meets before group ran → GroupRuns meets group before ran.refused (put_back group ran before)
  group-turn group before ran whole distinct from =
      let reads = group_reads group in let writes = group_writes group in
      let runs = group-back meets reads writes before.held whole group from.systems before.systems (cut reads writes before.held) ran.refused ran.systems ran.held from.runs
      (leaves-itself (cut reads writes before.held)) (λ id e. e) (λ id e. e) distinct from.stand in
      let P : Holding V → Type 0 = λ w. GroupRuns meets group (record { systems = before.systems; held = w }) ran.refused (put_back group ran before) in
      subst P (cut-back reads writes before.held whole) runs

  -- groups that are free of one another, run apart and gathered, are a run of their stage in order
  pub apart-runs : (stage : Stage ResourceId) (rans : List (Ran V S)) (before : State V S) → IsWhole before.held → AreFree stage → RanApart meets before stage rans
      → StageRuns meets stage before (first_refusal rans) (gathered stage rans before)
  apart-runs [] [] before whole free apart = (refl, refl)
  apart-runs [] (ran ∷ rans) before whole free apart = absurd apart
  apart-runs (group ∷ stage) [] before whole free apart = absurd apart
  apart-runs (group ∷ stage) (ran ∷ rans) before whole (distinct, free_of, free) (from, apart) =
      let whole_after : IsWhole (put_back group ran before).held = λ id. merged-whole (ran.held id) (before.held id) (whole id) in (
        put_back group ran before,
        ran.refused,
        first_refusal rans,
        group-turn group before ran whole distinct from,
        apart-runs stage rans (put_back group ran before) whole_after free (all-still group stage before ran rans free_of from apart),
        refl,
      )
