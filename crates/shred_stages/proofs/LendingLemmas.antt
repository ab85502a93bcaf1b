-- The steps of the loops that lend groups their systems and values, and take them back.
use Rattle.std.proofs.Common.{◌≡◌, ℕ, ◌<◌, ◌≤◌, ◌+◌, Bool, true, false, List, [], ◌∷◌, ◌++◌, length, map, get_or, take, drop, refl, ap, sym, ◌∙◌, subst, Option, Some, None, take_all, is_some, suc, zero, true≢false, arith, length-append}
use Rattle.std.specs.Prelude.{if◌then◌else◌}
use Rattle.std.specs.Option.{option_or}
use Rattle.std.specs.List.{AllZip}
use Rattle.std.specs.FinMap.{get}
use Rattle.std.proofs.lemmas.List.{append_assoc, append-nil, take_more}
use Rattle.shred_world.specs.declared.resource_id.ResourceId.{ResourceId}
use Rattle.shred_world.specs.Worlds.{Slots}
use Rattle.shred_world.specs.Bundles.{absent, out, Holding, holding_of, slot_of, is_listed}
use Rattle.shred_plan.specs.Plan.{Group, Stage}
use Rattle.shred_plan.specs.Laws.{numbers_of}
use Rattle.shred_stages.specs.declared.stop.Stop.{Stop}
use Rattle.shred_stages.specs.declared.turn.Staged.{Staged}
use Rattle.shred_stages.specs.Views.{FitsSeat}
use Rattle.shred_stages.specs.Moves.{emptied, filled, moved_to, left_of, IsSeat}
use Rattle.shred_stages.specs.Seats.{AreSeated, StageIsSeated}
use Rattle.shred_stages.specs.Apart.{StandAt}
use Rattle.shred_stages.specs.Packs.{Packed, ArePlaced}
use Rattle.shred_stages.specs.Lending.{IsPack, AreLent, first_told}
use Rattle.shred_stages.specs.Free.{AreFree}
use Rattle.shred_stages.specs.Away.{vacated, standing, systems_in, AreIn, IsLoaded}
use Rattle.shred_stages.specs.Loading.{stage_numbers, AreAway, AreLoaded}
use Rattle.shred_stages.proofs.RunLemmas.{from-at}
use Rattle.shred_stages.proofs.AwayLemmas.{StageMisses, stage-misses-none, stage-misses-more, away-group, in-away, standing-group}
use Rattle.shred_stages.proofs.LoadLemmas.{fit, lent-more}

module _ {V : Type 0} (ids writes : List ResourceId) (same : ids ≡ writes) (w w2 : Holding V) (seat seat2 : Slots V) (seated : IsSeat ids seat) (to : (id : ResourceId) → holding_of seat2 id ≡ moved_to ids w (holding_of seat) id) where
  seat-lent-ids : (id : ResourceId) → holding_of seat2 id ≡ (if is_listed ids id then filled (w id) out else absent)
  seat-lent-ids id = to id ∙ by (is_listed ids id) (get seat id) (seated id)
    where
      by : (L : Bool) (o : Option (Option V)) → o ≡ (if L then Some None else None) → (if L then filled (w id) (slot_of o) else slot_of o) ≡ (if L then filled (w id) out else absent)
      by true o e = ap (λ x. filled (w id) (slot_of x)) e
      by false o e = ap slot_of e

  -- a seat to which values were moved
  pub seat-lent : (id : ResourceId) → holding_of seat2 id ≡ (if is_listed writes id then filled (w id) out else absent)
  seat-lent id = seat-lent-ids id ∙ ap (λ list. if is_listed list id then filled (w id) out else absent) same

  pub seat-fits : FitsSeat writes seat2
  seat-fits id = fit (is_listed writes id) (get seat2 id) (w id) (seat-lent id)

  pub seat-left : ((id : ResourceId) → w2 id ≡ left_of ids w id) → (id : ResourceId) → w2 id ≡ left_of writes w id
  seat-left from id = from id ∙ ap (λ list. left_of list w id) same

is-out : {V : Type 0} (o : Option (Option V)) → slot_of o ≡ out → o ≡ Some None
is-out None e = cc
is-out (Some None) e = refl
is-out (Some (Some v)) e = cc

is-absent : {V : Type 0} (o : Option (Option V)) → slot_of o ≡ absent → o ≡ None
is-absent None e = refl
is-absent (Some None) e = cc
is-absent (Some (Some v)) e = cc

-- a seat from which values were moved
pub seat-emptied : {V : Type 0} (writes ids : List ResourceId) (seat seat2 : Slots V) → ids ≡ writes → FitsSeat writes seat → ((id : ResourceId) → holding_of seat2 id ≡ left_of ids (holding_of seat) id) → IsSeat writes seat2
seat-emptied writes ids seat seat2 same fits from id = by (is_listed writes id) (get seat id) (get seat2 id) (fits id) (from id ∙ ap (λ list. left_of list (holding_of seat) id) same)
  where
    by : {V : Type 0} (L : Bool) (o o2 : Option (Option V)) → is_some o ≡ L → slot_of o2 ≡ (if L then emptied (slot_of o) else slot_of o) → o2 ≡ (if L then Some None else None)
    by true None o2 e f = absurd (true≢false (sym e))
    by true (Some None) o2 e f = is-out o2 f
    by true (Some (Some v)) o2 e f = is-out o2 f
    by false None o2 e f = is-absent o2 f
    by false (Some x) o2 e f = absurd (true≢false e)

zip-more : {A B : Type 0} (R : A → B → Type 0) (xs : List A) (ys : List B) (x : A) (y : B) → AllZip R xs ys → R x y → AllZip R (xs ++ x ∷ []) (ys ++ y ∷ [])
zip-more R [] [] x y are one = (one, tt)
zip-more R [] (b ∷ ys) x y are one = absurd are
zip-more R (a ∷ xs) [] x y are one = absurd are
zip-more R (a ∷ xs) (b ∷ ys) x y are one = (are.0, zip-more R xs ys x y are.1 one)

numbers-more : (stage : Stage ResourceId) (group : Group ResourceId) → stage_numbers (stage ++ group ∷ []) ≡ stage_numbers stage ++ numbers_of group
numbers-more [] group = append-nil (numbers_of group)
numbers-more (g ∷ stage) group = ap (λ list. numbers_of g ++ list) (numbers-more stage group) ∙ sym (append_assoc (numbers_of g) (stage_numbers stage) (numbers_of group))

-- the first groups of a stage were lent theirs, and the others may be
pub record IsLoading {V S : Type 0} (all : List (Staged V S)) (stage : Stage ResourceId) (k : ℕ) (lent_packs : List (Packed V S)) (slots : List (Option (Staged V S))) (w w_after : Holding V) : Type 0 where
  pub free : AreFree (drop k stage)
  pub misses : StageMisses (drop k stage) (stage_numbers (take k stage))
  pub loaded : AreLoaded all (take k stage) lent_packs slots w w_after

option_or-assoc : {A : Type 0} (a b c : Option A) → option_or (option_or a b) c ≡ option_or a (option_or b c)
option_or-assoc None b c = refl
option_or-assoc (Some x) b c = refl

module _ {V S : Type 0} where
  pub loading-start : (stage : Stage ResourceId) (packs : List (Packed V S)) (slots : List (Option (Staged V S))) (w : Holding V) → packs ≡ [] → AreIn slots → AreFree stage → IsLoading (systems_in slots) stage 0 packs slots w w
  loading-start stage packs slots w none are free =
      let P : List (Packed V S) → Type 0 = λ list. IsLoading (systems_in slots) stage 0 list slots w w in
      subst P (sym none) (record { free = free; misses = stage-misses-none stage; loaded = record { lent = λ id. refl; packs = tt; away = in-away slots are } })

  module _ (all : List (Staged V S)) (stage : Stage ResourceId) (k : ℕ) (packs : List (Packed V S)) (slots : List (Option (Staged V S))) (w now : Holding V) (group : Group ResourceId)
      (under : k < length stage) (read : group ≡ get_or stage k group) (loading : IsLoading all stage k packs slots w now) (seated : StageIsSeated stage all) where
    rest : drop k stage ≡ group ∷ drop (k + 1) stage
    rest = from-at stage k group under read

    free : AreFree (group ∷ drop (k + 1) stage)
    free = let P : Stage ResourceId → Type 0 = λ list. AreFree list in subst P rest loading.free

    misses : StageMisses (group ∷ drop (k + 1) stage) (stage_numbers (take k stage))
    misses = let P : Stage ResourceId → Type 0 = λ list. StageMisses list (stage_numbers (take k stage)) in subst P rest loading.misses

    here : AreSeated group all
    here = let P : Group ResourceId → Type 0 = λ g. AreSeated g all in subst P (sym read) (seated k group under)

    pub loading-stand : ArePlaced group (standing group slots) × StandAt (map (λ one. one.system) all) group (map (λ one. one.system) (standing group slots))
    loading-stand = standing-group group slots all (stage_numbers (take k stage)) loading.loaded.away misses.0 free.0 here

    pub loading-next : (pack : Packed V S) (packs2 : List (Packed V S)) (slots2 : List (Option (Staged V S))) (next : Holding V) → packs2 ≡ packs ++ pack ∷ [] → IsLoaded group pack slots slots2 now next → IsLoading all stage (k + 1) packs2 slots2 w next
    loading-next pack packs2 slots2 next more one =
        let longer : take k stage ++ group ∷ [] ≡ take (k + 1) stage = ap (λ g. take k stage ++ g ∷ []) read ∙ sym (take_more stage k group under) in
        let numbers : stage_numbers (take (k + 1) stage) ≡ stage_numbers (take k stage) ++ numbers_of group = ap stage_numbers (sym longer) ∙ numbers-more (take k stage) group in
        let P : List ℕ → Type 0 = λ list. StageMisses (drop (k + 1) stage) list in
        let Q : List ℕ → Type 0 = λ list. AreAway (vacated group slots) all list in
        let R : List (Option (Staged V S)) → Type 0 = λ list. AreAway list all (stage_numbers (take (k + 1) stage)) in
        let T : List S → Type 0 = λ list. StandAt (map (λ s. s.system) all) group list in
        let is : IsPack (map (λ s. s.system) all) group pack = record { group = one.group; reads = one.reads; writes = one.writes; stand = subst T (sym one.systems) loading-stand.1 } in
        let away : AreAway slots2 all (stage_numbers (take (k + 1) stage)) = subst R (sym one.slots) (subst Q (sym numbers) (away-group group slots all (stage_numbers (take k stage)) loading.loaded.away)) in
        let Z : Stage ResourceId → Type 0 = λ st. AllZip (IsPack (map (λ s. s.system) all)) st (packs ++ pack ∷ []) in
        let A : Stage ResourceId → Type 0 = λ st. AreLent st (packs ++ pack ∷ []) w next in
        let W : List (Packed V S) → Type 0 = λ list. IsLoading all stage (k + 1) list slots2 w next in
        subst W (sym more)
        (record {
          free = free.2;
          misses = subst P (sym numbers) (stage-misses-more group (drop (k + 1) stage) (stage_numbers (take k stage)) free.1 misses.1);
          loaded = record {
            lent = subst A longer (lent-more (take k stage) packs w now next group pack loading.loaded.lent one.lent);
            packs = subst Z longer (zip-more (IsPack (map (λ s. s.system) all)) (take k stage) packs group pack loading.loaded.packs is);
            away = away;
          };
        })

  pub loading-done : (all : List (Staged V S)) (stage : Stage ResourceId) (k : ℕ) (packs : List (Packed V S)) (slots : List (Option (Staged V S))) (w now : Holding V) → length stage ≤ k → IsLoading all stage k packs slots w now → AreLoaded all stage packs slots w now
  loading-done all stage k packs slots w now h loading = let P : Stage ResourceId → Type 0 = λ st. AreLoaded all st packs slots w now in subst P (take_all k stage h) loading.loaded

  -- one more pack is given back
  pub told-next : (now rest2 all : List (Packed V S)) (pack : Packed V S) (outcome one next : Option (ℕ × Stop)) → now ≡ pack ∷ rest2 → one ≡ pack.refused → next ≡ option_or outcome one
      → option_or outcome (first_told now) ≡ first_told all → option_or next (first_told rest2) ≡ first_told all
  told-next now rest2 all pack outcome one next items is told was =
      ap (λ o. option_or o (first_told rest2)) (told ∙ ap (option_or outcome) is) ∙ option_or-assoc outcome pack.refused (first_told rest2) ∙ ap (λ list. option_or outcome (first_told list)) (sym items) ∙ was

-- a group has as many systems as placings
pub placed-length : {V S : Type 0} (group : Group ResourceId) (staged : List (Staged V S)) → ArePlaced group staged → length group ≡ length staged
placed-length [] [] placed = refl
placed-length [] (one ∷ staged) placed = absurd placed
placed-length (one ∷ group) [] placed = absurd placed
placed-length (one ∷ group) (there ∷ staged) placed = ap suc (placed-length group staged placed.1)

-- the groups of some packs
abbrev pub groups_of : {V S : Type 0} → List (Packed V S) → Stage ResourceId
groups_of packs = map (λ pack. pack.group) packs

-- one more pack becomes what a group is run with
pub kits-next : {V S : Type 0} (kits kits2 : Stage ResourceId) (now rest2 all : List (Packed V S)) (pack : Packed V S) (kit : Group ResourceId) → now ≡ pack ∷ rest2 → kits2 ≡ kits ++ kit ∷ [] → kit ≡ pack.group
    → kits ++ groups_of now ≡ groups_of all → kits2 ++ groups_of rest2 ≡ groups_of all
kits-next kits kits2 now rest2 all pack kit items more is was =
    ap (λ list. list ++ groups_of rest2) more ∙ append_assoc kits (kit ∷ []) (groups_of rest2) ∙ ap (λ k. kits ++ k ∷ groups_of rest2) is ∙ ap (λ list. kits ++ groups_of list) (sym items) ∙ was

pub few-next : {A B : Type 0} (kits kits2 : List A) (rest rest2 : List B) (pack : B) (kit : A) (room : ℕ) → rest ≡ pack ∷ rest2 → kits2 ≡ kits ++ kit ∷ [] → length kits + length rest ≤ room → length kits2 + length rest2 ≤ room
few-next kits kits2 rest rest2 pack kit room items more was =
    let a : length kits2 ≡ length kits + 1 = ap length more ∙ length-append kits (kit ∷ []) in
    let b : length rest ≡ suc (length rest2) = ap length items in
    omega (arith, was, a, b)

-- what stands first among what is left of a list
pub drop-at : {A : Type 0} (k : ℕ) (list : List A) (a : A) (later : List A) → drop k list ≡ a ∷ later → (k < length list) × (a ≡ get_or list k a) × (later ≡ drop (k + 1) list)
drop-at zero [] a later e = absurd (omega (arith, ap length e))
drop-at (suc k) [] a later e = absurd (omega (arith, ap length e))
drop-at zero (x ∷ list) a later e = (omega arith, sym (ap (λ l. get_or l 0 a) e), sym (ap (drop 1) e))
drop-at (suc k) (x ∷ list) a later e =
    let at = drop-at k list a later e in
    let next : suc (k + 1) ≡ suc k + 1 = omega arith in
    (omega (arith, at.0), at.1, at.2 ∙ ap (λ n. drop n (x ∷ list)) next)

pub drop-none : {A : Type 0} (k : ℕ) (list : List A) → drop k list ≡ [] → length list ≤ k
drop-none k [] e = omega arith
drop-none zero (x ∷ list) e = absurd (omega (arith, ap length e))
drop-none (suc k) (x ∷ list) e = let few = drop-none k list e in omega (arith, few)
