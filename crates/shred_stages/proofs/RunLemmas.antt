-- Facts on runs: a system's turn among the staged ones, and the steps of the loops over groups, stages and plans.
use Rattle.std.proofs.Common.{◌≡◌, ℕ, ◌<◌, ◌≤◌, ◌+◌, zero, suc, List, [], ◌∷◌, length, get_or, drop, map, refl, ap, sym, ◌∙◌, subst, arith, Option, Some, None, drop-cons}
use Rattle.std.specs.Prelude.{slice_get}
use Rattle.std.specs.Option.{MatchOption, option_map, option_or}
use Rattle.std.specs.FinMap.{get}
use Rattle.std.proofs.Math.ListN.{set}
use Rattle.std.proofs.lemmas.List.{map-set, drop_all}
use Rattle.std.proofs.lemmas.Option.{slice_get-map, slice_get_within, slice_get-get_or}
use Rattle.shred_world.specs.declared.resource_id.ResourceId.{ResourceId}
use Rattle.shred_world.specs.Bundles.{Holding}
use Rattle.shred_plan.specs.Plan.{Placing, Group, Stage}
use Rattle.shred_stages.specs.declared.stop.Stop.{Stop}
use Rattle.shred_stages.specs.declared.turn.Staged.{Staged}
use Rattle.shred_stages.specs.Moves.{IsSeat}
use Rattle.shred_stages.specs.Runs.{Step, State, Turn, GroupRuns, StageRuns, StagesRun}
use Rattle.shred_stages.specs.Seats.{state_of, IsSeated, SeatsKept}

-- from an element of a list on
pub from-at : {A : Type 0} (xs : List A) (i : ℕ) (x : A) → i < length xs → x ≡ get_or xs i x → drop i xs ≡ x ∷ drop (i + 1) xs
from-at xs i x h read =
    let e : drop i xs ≡ get_or xs i x ∷ drop (suc i) xs = drop-cons xs i x h in
    let more : suc i ≡ i + 1 = omega arith in
    e ∙ ap (λ y. y ∷ drop (suc i) xs) (sym read) ∙ ap (λ n. x ∷ drop n xs) more

pub from-end : {A : Type 0} (xs : List A) (i : ℕ) → length xs ≤ i → drop i xs ≡ []
from-end xs i h = drop_all i xs h

module _ {V S : Type 0} where
  pub seat-there : (staged : List (Staged V S)) (one : Placing ResourceId) → IsSeated staged one → one.number < length staged
  seat-there staged one seated = by (slice_get staged one.number) refl seated
    where
      by : (o : Option (Staged V S)) → slice_get staged one.number ≡ o → MatchOption o ⊥ (λ there. IsSeat one.writes there.seat) → one.number < length staged
      by None e m = absurd m
      by (Some x) e m = slice_get_within staged one.number x e

  -- another in the place of one
  kept-at : (P : Staged V S → Type 0) (staged : List (Staged V S)) (n m : ℕ) (x y : Staged V S) → slice_get staged n ≡ Some x → (P x → P y)
      → MatchOption (slice_get staged m) ⊥ P → MatchOption (slice_get (set staged n y) m) ⊥ P
  kept-at P [] n m x y e f there = there
  kept-at P (s ∷ staged) zero zero x y e f there = let same : s ≡ x = cc in f (subst P same there)
  kept-at P (s ∷ staged) zero (suc m) x y e f there = there
  kept-at P (s ∷ staged) (suc n) zero x y e f there = there
  kept-at P (s ∷ staged) (suc n) (suc m) x y e f there = kept-at P staged n m x y e f there

  pub seats-set : (staged : List (Staged V S)) (n : ℕ) (x y : Staged V S) → slice_get staged n ≡ Some x → ((q : ResourceId) → get y.seat q ≡ get x.seat q) → SeatsKept staged (set staged n y)
  seats-set staged n x y e same one seated =
      kept-at (λ there. IsSeat one.writes there.seat) staged n one.number x y e (λ seat q. same q ∙ seat q) seated

  -- the system at a number
  read-there : (staged : List (Staged V S)) (one : Placing ResourceId) (n : ℕ) (x : Staged V S) → IsSeated staged one → n ≡ one.number → slice_get staged n ≡ Some (get_or staged n x)
  read-there staged one n x seated number =
      let there : n < length staged = omega (arith, seat-there staged one seated) in
      slice_get-get_or staged n x there

  pub seats-read : (staged : List (Staged V S)) (one : Placing ResourceId) (n : ℕ) (x y : Staged V S) → IsSeated staged one → n ≡ one.number
      → ((q : ResourceId) → get y.seat q ≡ get (get_or staged n x).seat q) → SeatsKept staged (set staged n y)
  seats-read staged one n x y seated number same = seats-set staged n (get_or staged n x) y (read-there staged one n x seated number) same

  module _ (meets : S → Holding V → Option Stop → S → Holding V → Type 0) where
    pub turn-set : (staged : List (Staged V S)) (one : Placing ResourceId) (x y : Staged V S) (w w2 : Holding V) (refused : Option Stop) → slice_get staged one.number ≡ Some x
        → Step meets one.reads one.writes x.system w refused y.system w2 → Turn meets one (state_of staged w) refused (state_of (set staged one.number y) w2)
    turn-set staged one x y w w2 refused e step =
        let P : Option S → Type 0 = λ o. MatchOption o ⊥ (λ system. Step meets one.reads one.writes system w refused y.system w2) in
        let at : slice_get (map (λ s. s.system) staged) one.number ≡ Some x.system = slice_get-map (λ s. s.system) staged one.number ∙ ap (option_map (λ s. s.system)) e in
        (y.system, subst P (sym at) step, map-set (λ s. s.system) staged one.number y)

    pub turn-read : (staged : List (Staged V S)) (one : Placing ResourceId) (n : ℕ) (x y : Staged V S) (w w2 : Holding V) (refused : Option Stop) (reads writes : List ResourceId)
        → IsSeated staged one → n ≡ one.number → reads ≡ one.reads → writes ≡ one.writes
        → Step meets reads writes (get_or staged n x).system w refused y.system w2 → Turn meets one (state_of staged w) refused (state_of (set staged n y) w2)
    turn-read staged one n x y w w2 refused reads writes seated number is_reads is_writes step =
        let P : List ResourceId → Type 0 = λ list. Step meets list writes (get_or staged n x).system w refused y.system w2 in
        let Q : List ResourceId → Type 0 = λ list. Step meets one.reads list (get_or staged n x).system w refused y.system w2 in
        let R : ℕ → Type 0 = λ k. Turn meets one (state_of staged w) refused (state_of (set staged k y) w2) in
        let there : slice_get staged one.number ≡ Some (get_or staged n x) = ap (slice_get staged) (sym number) ∙ read-there staged one n x seated number in
        subst R (sym number) (turn-set staged one (get_or staged n x) y w w2 refused there (subst Q is_writes (subst P is_reads step)))

    -- the loop over a group
    pub group-next : (group : Group ResourceId) (i : ℕ) (one : Placing ResourceId) (start now next : State V S) → i < length group → one ≡ get_or group i one
        → ((refused : Option (ℕ × Stop)) (after : State V S) → GroupRuns meets (drop i group) now refused after → GroupRuns meets group start refused after)
        → Turn meets one now None next
        → (refused : Option (ℕ × Stop)) (after : State V S) → GroupRuns meets (drop (i + 1) group) next refused after → GroupRuns meets group start refused after
    group-next group i one start now next h read known turn refused after rest =
        let P : Group ResourceId → Type 0 = λ list. GroupRuns meets list now refused after in
        known refused after (subst P (sym (from-at group i one h read)) (next, None, turn, rest))

    pub group-stops : (group : Group ResourceId) (i : ℕ) (one : Placing ResourceId) (start now next : State V S) (number : ℕ) (why : Stop) → i < length group → one ≡ get_or group i one
        → ((refused : Option (ℕ × Stop)) (after : State V S) → GroupRuns meets (drop i group) now refused after → GroupRuns meets group start refused after)
        → Turn meets one now (Some why) next → number ≡ one.number
        → GroupRuns meets group start (Some (number, why)) next
    group-stops group i one start now next number why h read known turn same =
        let P : Group ResourceId → Type 0 = λ list. GroupRuns meets list now (Some (number, why)) next in
        known (Some (number, why)) next (subst P (sym (from-at group i one h read)) (next, Some why, turn, (ap (λ n. Some (n, why)) same, refl)))

    -- the loop over a stage
    pub or-assoc : (a b c : Option (ℕ × Stop)) → option_or a (option_or b c) ≡ option_or (option_or a b) c
    or-assoc None b c = refl
    or-assoc (Some x) b c = refl

    pub or-none : (a : Option (ℕ × Stop)) → option_or a None ≡ a
    or-none None = refl
    or-none (Some x) = refl

    pub stage-next : (stage : Stage ResourceId) (i : ℕ) (group lent : Group ResourceId) (start now next : State V S) (first run both : Option (ℕ × Stop)) → i < length stage → group ≡ get_or stage i group
        → ((later : Option (ℕ × Stop)) (after : State V S) → StageRuns meets (drop i stage) now later after → StageRuns meets stage start (option_or first later) after)
        → lent ≡ group → GroupRuns meets lent now run next → both ≡ option_or first run
        → (later : Option (ℕ × Stop)) (after : State V S) → StageRuns meets (drop (i + 1) stage) next later after → StageRuns meets stage start (option_or both later) after
    stage-next stage i group lent start now next first run both h read known lends runs same later after rest =
        let R : Group ResourceId → Type 0 = λ list. GroupRuns meets list now run next in
        let P : Stage ResourceId → Type 0 = λ list. StageRuns meets list now (option_or run later) after in
        let Q : Option (ℕ × Stop) → Type 0 = λ refused. StageRuns meets stage start refused after in
        subst Q (or-assoc first run later ∙ ap (λ o. option_or o later) (sym same))
        (known (option_or run later) after (subst P (sym (from-at stage i group h read)) (next, run, later, subst R lends runs, rest, refl)))

    pub stage-ends : (stage : Stage ResourceId) (i : ℕ) (start now : State V S) (first : Option (ℕ × Stop)) → length stage ≤ i
        → ((later : Option (ℕ × Stop)) (after : State V S) → StageRuns meets (drop i stage) now later after → StageRuns meets stage start (option_or first later) after)
        → StageRuns meets stage start first now
    stage-ends stage i start now first h known =
        let P : Stage ResourceId → Type 0 = λ list. StageRuns meets list now None now in
        let Q : Option (ℕ × Stop) → Type 0 = λ refused. StageRuns meets stage start refused now in
        subst Q (or-none first) (known None now (subst P (sym (from-end stage i h)) (refl, refl)))

    -- the loop over the stages
    pub stages-next : (stages : List (Stage ResourceId)) (i : ℕ) (stage lent : Stage ResourceId) (start now next : State V S) → i < length stages → stage ≡ get_or stages i stage
        → ((refused : Option (ℕ × Stop)) (after : State V S) → StagesRun meets (drop i stages) now refused after → StagesRun meets stages start refused after)
        → lent ≡ stage → StageRuns meets lent now None next
        → (refused : Option (ℕ × Stop)) (after : State V S) → StagesRun meets (drop (i + 1) stages) next refused after → StagesRun meets stages start refused after
    stages-next stages i stage lent start now next h read known lends runs refused after rest =
        let R : Stage ResourceId → Type 0 = λ list. StageRuns meets list now None next in
        let P : List (Stage ResourceId) → Type 0 = λ list. StagesRun meets list now refused after in
        known refused after (subst P (sym (from-at stages i stage h read)) (next, None, subst R lends runs, rest))

    pub stages-stop : (stages : List (Stage ResourceId)) (i : ℕ) (stage lent : Stage ResourceId) (start now next : State V S) (why : ℕ × Stop) → i < length stages → stage ≡ get_or stages i stage
        → ((refused : Option (ℕ × Stop)) (after : State V S) → StagesRun meets (drop i stages) now refused after → StagesRun meets stages start refused after)
        → lent ≡ stage → StageRuns meets lent now (Some why) next → StagesRun meets stages start (Some why) next
    stages-stop stages i stage lent start now next why h read known lends runs =
        let R : Stage ResourceId → Type 0 = λ list. StageRuns meets list now (Some why) next in
        let P : List (Stage ResourceId) → Type 0 = λ list. StagesRun meets list now (Some why) next in
        known (Some why) next (subst P (sym (from-at stages i stage h read)) (next, Some why, subst R lends runs, (refl, refl)))
