-- Groups of a stage that was planned are free of one another.
use Rattle.std.proofs.Common.{◌≡◌, ℕ, ◌<◌, ◌+◌, zero, suc, Bool, true, false, ◌||◌, ◌&&◌, List, [], ◌∷◌, ◌++◌, length, get_or, refl, ap, sym, ◌∙◌, subst, arith}
use Rattle.std.specs.Prelude.{◌==◌}
use Rattle.std.specs.List.{All, AllByRecursion, AllPairs, list_any, fold, IsDistinct}
use Rattle.std.proofs.Math.Path.{fun_ext}
use Rattle.std.proofs.lemmas.Bool.{false≢true, eqb-true, eqb-false, eq-eqb, or_from, or_parts}
use Rattle.std.proofs.lemmas.List.Folds.{list_any-append}
use Rattle.std.proofs.lemmas.List.Sorted.{IsPermutation-sym}
use Rattle.std.proofs.lemmas.Map.Keys.{IsDistinct-IsPermutation}
use Rattle.shred_world.specs.declared.resource_id.ResourceId.{ResourceId}
use Rattle.shred_world.specs.ResourceIds.{same_id, id_of}
use Rattle.shred_world.specs.Bundles.{is_listed}
use Rattle.shred_world.proofs.CallerLemmas.{same_id-is, same_id-itself}
use Rattle.shred_plan.specs.Plan.{Placing, Group, Stage, Planning, Added, fence, placing, added, plan, share, touches, conflict, hits, systems_of, plan_order}
use Rattle.shred_plan.specs.Laws.{groups_conflict, systems_added}
use Rattle.shred_plan.proofs.CallerLemmas.{groups-apart, stands-once}
use Rattle.shred_stages.specs.Apart.{group_reads, group_writes}
use Rattle.shred_stages.specs.Free.{IsNone, AreDistinct, ShareNone, IsFreeOfAll, AreFree}
use Rattle.shred_stages.specs.Seats.{AreNumbered, IsPlanned}

-- ids of lists that share none
pub unshared : (ids others : List ResourceId) (q : ResourceId) → share same_id ids others ≡ false → is_listed ids q ≡ true → is_listed others q ≡ false
unshared [] others q none listed = absurd (false≢true listed)
unshared (i ∷ ids) others q none listed =
    let parts = or_parts (list_any (same_id i) others) (share same_id ids others) none in
    by (same_id q i) refl parts.0 (unshared ids others q parts.1) listed
  where
    by : (b : Bool) → same_id q i ≡ b → is_listed others i ≡ false → (is_listed ids q ≡ true → is_listed others q ≡ false) → (b || is_listed ids q) ≡ true → is_listed others q ≡ false
    by true is here later e = ap (is_listed others) (same_id-is q i is) ∙ here
    by false is here later e = later e

not-listed : (ids others : List ResourceId) (q : ResourceId) → share same_id ids others ≡ false → is_listed others q ≡ true → is_listed ids q ≡ false
not-listed ids others q none listed = by (is_listed ids q) refl
  where
    by : (b : Bool) → is_listed ids q ≡ b → is_listed ids q ≡ false
    by true is = absurd (false≢true (sym (unshared ids others q none is) ∙ listed))
    by false is = is

both-none : (ids others : List ResourceId) (q : ResourceId) → is_listed ids q ≡ false → is_listed others q ≡ false → is_listed (ids ++ others) q ≡ false
both-none ids others q e f = list_any-append (same_id q) ids others ∙ or_from (is_listed ids q) (is_listed others q) e f

one-writes : (one : Placing ResourceId) (other : Group ResourceId) (q : ResourceId) → hits same_id one other ≡ false → is_listed one.writes q ≡ true → (is_listed (group_reads other) q ≡ false) × (is_listed (group_writes other) q ≡ false)
one-writes one [] q miss listed = (refl, refl)
one-writes one (x ∷ other) q miss listed =
    let parts = or_parts (conflict same_id one x) (hits same_id one other) miss in
    let touch = or_parts (touches same_id one x) (touches same_id x one) parts.0 in
    let none = or_parts (share same_id one.writes x.reads) (share same_id one.writes x.writes) touch.0 in
    let later = one-writes one other q parts.1 listed in (
      both-none x.reads (group_reads other) q (unshared one.writes x.reads q none.0 listed) later.0,
      both-none x.writes (group_writes other) q (unshared one.writes x.writes q none.1 listed) later.1,
    )

one-reads : (one : Placing ResourceId) (other : Group ResourceId) (q : ResourceId) → hits same_id one other ≡ false → is_listed one.reads q ≡ true → is_listed (group_writes other) q ≡ false
one-reads one [] q miss listed = refl
one-reads one (x ∷ other) q miss listed =
    let parts = or_parts (conflict same_id one x) (hits same_id one other) miss in
    let touch = or_parts (touches same_id one x) (touches same_id x one) parts.0 in
    let none = or_parts (share same_id x.writes one.reads) (share same_id x.writes one.writes) touch.1 in
    both-none x.writes (group_writes other) q (not-listed x.writes one.reads q none.0 listed) (one-reads one other q parts.1 listed)

either-listed : (ids others : List ResourceId) (q : ResourceId) {A : Type 0} → (is_listed ids q ≡ true → A) → (is_listed others q ≡ true → A) → is_listed (ids ++ others) q ≡ true → A
either-listed ids others q {A} f g e = by (is_listed ids q) refl (sym (list_any-append (same_id q) ids others) ∙ e)
  where
    by : (b : Bool) → is_listed ids q ≡ b → (b || is_listed others q) ≡ true → A
    by true is h = f is
    by false is h = g h

group-ids : (group other : Group ResourceId) (q : ResourceId) → groups_conflict same_id group other ≡ false → is_listed (group_writes group) q ≡ true → (is_listed (group_reads other) q ≡ false) × (is_listed (group_writes other) q ≡ false)
group-ids [] other q miss listed = absurd (false≢true listed)
group-ids (one ∷ group) other q miss listed =
    let parts = or_parts (hits same_id one other) (groups_conflict same_id group other) miss in
    either-listed one.writes (group_writes group) q (one-writes one other q parts.0) (group-ids group other q parts.1) listed

group-unwritten : (group other : Group ResourceId) (q : ResourceId) → groups_conflict same_id group other ≡ false → is_listed (group_reads group) q ≡ true → is_listed (group_writes other) q ≡ false
group-unwritten [] other q miss listed = absurd (false≢true listed)
group-unwritten (one ∷ group) other q miss listed =
    let parts = or_parts (hits same_id one other) (groups_conflict same_id group other) miss in
    either-listed one.reads (group_reads group) q (one-reads one other q parts.0) (group-unwritten group other q parts.1) listed

-- numbers that differ

abbrev pub same_number : Placing ResourceId → Placing ResourceId → Bool
same_number one other = one.number == other.number

pub flips : (one other : Placing ResourceId) → same_number one other ≡ same_number other one
flips one other = by (one.number == other.number) (other.number == one.number) refl refl
  where
    by : (a b : Bool) → (one.number == other.number) ≡ a → (other.number == one.number) ≡ b → (one.number == other.number) ≡ (other.number == one.number)
    by true b e f = e ∙ sym (eq-eqb other.number one.number (sym (eqb-true one.number other.number e)))
    by false true e f = absurd (eqb-false one.number other.number e (sym (eqb-true other.number one.number f)))
    by false false e f = e ∙ sym f

later-differ : (lo from : ℕ) (one : Placing ResourceId) (xs : List (Placing ResourceId)) → one.number ≡ lo → lo < from → AreNumbered from xs → AllByRecursion (λ y. same_number one y ≡ false) xs
later-differ lo from one [] is h numbered = tt
later-differ lo from one (x ∷ xs) is h numbered = (by (one.number == x.number) refl, later-differ lo (suc from) one xs is (omega (arith, h)) numbered.1)
  where
    by : (b : Bool) → (one.number == x.number) ≡ b → (one.number == x.number) ≡ false
    by true e = let same = eqb-true one.number x.number e in absurd (omega (arith, same, is, h, numbered.0))
    by false e = e

pub numbered-distinct : (from : ℕ) (xs : List (Placing ResourceId)) → AreNumbered from xs → IsDistinct same_number xs
unfolding IsDistinct
numbered-distinct from [] numbered = tt
numbered-distinct from (x ∷ xs) numbered = (later-differ from (suc from) x xs numbered.0 (omega arith) numbered.1, numbered-distinct (suc from) xs numbered.1)

none-of : (one : Placing ResourceId) (group : Group ResourceId) (rest : List (Placing ResourceId)) → AllByRecursion (λ y. same_number one y ≡ false) (group ++ rest) → IsNone one.number group × AllByRecursion (λ y. same_number one y ≡ false) rest
none-of one [] rest all = (tt, all)
none-of one (x ∷ group) rest all = let later = none-of one group rest all.1 in ((eqb-false one.number x.number all.0, later.0), later.1)

-- a list of which no two numbers are one
distinct-parts : (group : Group ResourceId) (rest : List (Placing ResourceId)) → IsDistinct same_number (group ++ rest) → AreDistinct group × IsDistinct same_number rest
unfolding IsDistinct
distinct-parts [] rest distinct = (tt, distinct)
distinct-parts (one ∷ group) rest distinct = let later = distinct-parts group rest distinct.1 in (((none-of one group rest distinct.0).0, later.0), later.1)

distinct-first : (xs rest : List (Placing ResourceId)) → IsDistinct same_number (xs ++ rest) → IsDistinct same_number xs
unfolding IsDistinct
distinct-first [] rest distinct = tt
distinct-first (one ∷ xs) rest distinct = (first xs distinct.0, distinct-first xs rest distinct.1)
  where
    first : (xs : List (Placing ResourceId)) → AllByRecursion (λ y. same_number one y ≡ false) (xs ++ rest) → AllByRecursion (λ y. same_number one y ≡ false) xs
    first [] all = tt
    first (x ∷ xs) all = (all.0, first xs all.1)

-- a group shares no number with those behind it
abbrev SharesNone : Group ResourceId → Stage ResourceId → Type 0
SharesNone group [] = Unit {0}
SharesNone group (other ∷ stage) = ShareNone group other × SharesNone group stage

misses-stage : (one : Placing ResourceId) (group : Group ResourceId) (stage : Stage ResourceId) → AllByRecursion (λ y. same_number one y ≡ false) (systems_of stage) → SharesNone group stage → SharesNone (one ∷ group) stage
misses-stage one group [] all share = tt
misses-stage one group (other ∷ stage) all share = let parts = none-of one other (systems_of stage) all in ((parts.0, share.0), misses-stage one group stage parts.1 share.1)

shares-start : (stage : Stage ResourceId) → SharesNone [] stage
shares-start [] = tt
shares-start (other ∷ stage) = (tt, shares-start stage)

shares-none : (group : Group ResourceId) (stage : Stage ResourceId) → IsDistinct same_number (group ++ systems_of stage) → SharesNone group stage
unfolding IsDistinct
shares-none [] stage distinct = shares-start stage
shares-none (one ∷ group) stage distinct = misses-stage one group stage ((none-of one group (systems_of stage) distinct.0).1) (shares-none group stage distinct.1)

free-of-all : (group : Group ResourceId) (stage : Stage ResourceId) → SharesNone group stage → ((j : ℕ) (d : Group ResourceId) → j < length stage → groups_conflict same_id group (get_or stage j d) ≡ false) → IsFreeOfAll group stage
free-of-all group [] share miss = tt
free-of-all group (other ∷ stage) share miss = (
  record { numbers = share.0; ids = λ q. group-ids group other q (miss 0 other (omega arith)); unwritten = λ q. group-unwritten group other q (miss 0 other (omega arith)) },
  free-of-all group stage share.1 (λ j d h. miss (suc j) d (omega (arith, h))),
)

free-stage : (stage : Stage ResourceId) → IsDistinct same_number (systems_of stage) → AllPairs (λ group other. groups_conflict same_id group other ≡ false) stage → AreFree stage
free-stage [] distinct apart = tt
free-stage (group ∷ stage) distinct apart =
    let parts = distinct-parts group (systems_of stage) distinct in (
      parts.0,
      free-of-all group stage (shares-none group stage distinct) (λ j d h. apart 0 (suc j) d (omega arith) (omega (arith, h))),
      free-stage stage parts.1 (λ i j d before h. apart (suc i) (suc j) d (omega (arith, before)) (omega (arith, h))),
    )

distinct-later : (xs rest : List (Placing ResourceId)) → IsDistinct same_number (xs ++ rest) → IsDistinct same_number rest
unfolding IsDistinct
distinct-later [] rest distinct = distinct
distinct-later (x ∷ xs) rest distinct = distinct-later xs rest distinct.1

free-at : (stages : List (Stage ResourceId)) (k : ℕ) (d : Stage ResourceId) → k < length stages → IsDistinct same_number (plan_order stages) → AllPairs (λ group other. groups_conflict same_id group other ≡ false) (get_or stages k d) → AreFree (get_or stages k d)
free-at [] k d h distinct apart = absurd (omega (arith, h))
free-at (stage ∷ stages) zero d h distinct apart = free-stage stage (distinct-first (systems_of stage) (plan_order stages) distinct) apart
free-at (stage ∷ stages) (suc k) d h distinct apart = free-at stages k d (omega (arith, h)) (distinct-later (systems_of stage) (plan_order stages) distinct) apart

-- ids are compared part by part
eq-id : (x y : ResourceId) → ((x.kind == y.kind) && (x.dynamic == y.dynamic)) ≡ same_id x y
eq-id x y = by (same_id x y) refl
  where
    parts : (a b : Bool) → (x.kind == y.kind) ≡ a → (x.dynamic == y.dynamic) ≡ b → same_id x y ≡ false → (a && b) ≡ false
    parts true true e f is =
        let same : x ≡ y = ap (λ k. id_of k x.dynamic) (eqb-true x.kind y.kind e) ∙ ap (id_of y.kind) (eqb-true x.dynamic y.dynamic f) in
        let P : ResourceId → Type 0 = λ r. same_id x r ≡ true in
        absurd (false≢true (sym is ∙ subst P same (same_id-itself x)))
    parts true false e f is = refl
    parts false b e f is = refl

    by : (s : Bool) → same_id x y ≡ s → ((x.kind == y.kind) && (x.dynamic == y.dynamic)) ≡ same_id x y
    by true is =
        let P : ResourceId → Type 0 = λ r. ((x.kind == r.kind) && (x.dynamic == r.dynamic)) ≡ true in
        subst P (same_id-is x y is) (ap (λ a. a && (x.dynamic == x.dynamic)) (eq-eqb x.kind x.kind refl) ∙ eq-eqb x.dynamic x.dynamic refl) ∙ sym is
    by false is = parts (x.kind == y.kind) (x.dynamic == y.dynamic) refl refl is ∙ sym is

free-planned : (planning : Planning ResourceId) (count : ℕ) → IsPlanned same_id planning count → All AreFree planning.stages
free-planned planning count made =
    let is : planning.stages ≡ plan same_id made.list = ap (λ p. p.stages) made.planned in
    let distinct : IsDistinct same_number (plan_order (plan same_id made.list)) =
    IsDistinct-IsPermutation same_number flips (systems_added made.list) (plan_order (plan same_id made.list)) (IsPermutation-sym _ _ (stands-once same_id made.list)) (numbered-distinct 0 (systems_added made.list) made.numbered) in
    let P : List (Stage ResourceId) → Type 0 = λ stages. All AreFree stages in
    subst P (sym is) (λ k d h. free-at (plan same_id made.list) k d h distinct (groups-apart same_id made.list k d h))

-- each stage of a plan
pub planned-free : (planning : Planning ResourceId) (count : ℕ) → IsPlanned (λ x y. (x.kind == y.kind) && (x.dynamic == y.dynamic)) planning count → All AreFree planning.stages
planned-free planning count made =
    let P : (ResourceId → ResourceId → Bool) → Type 0 = λ same. IsPlanned same planning count in
    free-planned planning count (subst P (fun_ext (λ x. fun_ext (λ y. eq-id x y))) made)

-- plans that grow

fold-more : {A B : Type 0} (f : B → A → B) (b : B) (xs : List A) (x : A) → fold f b (xs ++ x ∷ []) ≡ f (fold f b xs) x
fold-more f b [] x = refl
fold-more f b (y ∷ xs) x = fold-more f (f b y) xs x

added-more : (list : List (Added ResourceId)) (one : Placing ResourceId) → systems_added (list ++ placing one ∷ []) ≡ systems_added list ++ one ∷ []
added-more [] one = refl
added-more (fence ∷ list) one = added-more list one
added-more (placing x ∷ list) one = ap (λ others. x ∷ others) (added-more list one)

added-fence : (list : List (Added ResourceId)) → systems_added (list ++ fence ∷ []) ≡ systems_added list
added-fence [] = refl
added-fence (fence ∷ list) = added-fence list
added-fence (placing x ∷ list) = ap (λ others. x ∷ others) (added-fence list)

numbered-more : (from : ℕ) (xs : List (Placing ResourceId)) (one : Placing ResourceId) → AreNumbered from xs → one.number ≡ from + length xs → AreNumbered from (xs ++ one ∷ [])
numbered-more from [] one numbered is = (let e = is in omega (arith, e), tt)
numbered-more from (x ∷ xs) one numbered is = (numbered.0, numbered-more (suc from) xs one numbered.1 (omega (arith, is)))

longer : (xs : List (Placing ResourceId)) (one : Placing ResourceId) → length (xs ++ one ∷ []) ≡ length xs + 1
longer [] one = refl
longer (x ∷ xs) one = let later = longer xs one in omega (arith, later)

module _ (same : ResourceId → ResourceId → Bool) where
  pub planned-start : IsPlanned same (record { first = 0; stages = [] }) 0
  planned-start = record { list = []; planned = refl; numbered = tt; counted = refl }

  pub planned-more : (planning after : Planning ResourceId) (count count2 : ℕ) (one : Placing ResourceId) → IsPlanned same planning count → after ≡ added same planning (placing one) → one.number ≡ count → count2 ≡ count + 1 → IsPlanned same after count2
  planned-more planning after count count2 one made is number more = record {
    list = made.list ++ placing one ∷ [];
    planned = is ∙ ap (λ p. added same p (placing one)) made.planned ∙ sym (fold-more (added same) (record { first = 0; stages = [] }) made.list (placing one));
    numbered = let P : List (Placing ResourceId) → Type 0 = λ list. AreNumbered 0 list in subst P (sym (added-more made.list one)) (numbered-more 0 (systems_added made.list) one made.numbered (omega (arith, number, made.counted)));
    counted = ap length (added-more made.list one) ∙ longer (systems_added made.list) one ∙ ap (λ n. n + 1) made.counted ∙ sym more;
  }

  pub planned-fence : (planning after : Planning ResourceId) (count : ℕ) → IsPlanned same planning count → after ≡ added same planning fence → IsPlanned same after count
  planned-fence planning after count made is = record {
    list = made.list ++ fence ∷ [];
    planned = is ∙ ap (λ p. added same p fence) made.planned ∙ sym (fold-more (added same) (record { first = 0; stages = [] }) made.list fence);
    numbered = let P : List (Placing ResourceId) → Type 0 = λ list. AreNumbered 0 list in subst P (sym (added-fence made.list)) made.numbered;
    counted = ap length (added-fence made.list) ∙ made.counted;
  }
