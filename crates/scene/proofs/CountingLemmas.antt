-- How many entries leave and enter, and at which indices.
use Rattle.std.proofs.Common.{◌≡◌, ◌≢◌, ◌<◌, ◌≤◌, ◌+◌, ◌-◌, ◌*◌, ◌⊎◌, inl, inr, ℕ, zero, suc, min, Bool, true, false, cond, eqb, ◌||◌, List, [], ◌∷◌, length, map, take, get_or, Option, Some, None, is_some, option_map, refl, ap, sym, subst, ◌∙◌, arith}
use Rattle.std.specs.List.{AllPairs, count_by, cons_option, filter, range_with_len}
use Rattle.std.proofs.Math.Path.{fun_ext}
use Rattle.std.proofs.lemmas.Bool.{false≢true, eqb-true, or_cases}
use Rattle.std.proofs.lemmas.List.FromFn.{get_or-range_with_len, length-range_with_len}
use Rattle.std.proofs.lemmas.List.Kept.{AllPairs-filter}
use Rattle.std.proofs.lemmas.List.Sums.{sum_by-cons, count_by_more_yes, count_by_more_no, count_by-le-length}
use Rattle.hibitset_sets.specs.Walk.{walk}
use Rattle.scene_model.specs.Parts.{Name, name_at}
use Rattle.scene_world.specs.Standing.{Sight, Kinds}
use Rattle.scene_commands.specs.Watching.{reader_at, watcher_at}
use Rattle.scene_commands.specs.declared.watching.ReaderTurn.{ReaderTurn}
use Rattle.scene_commands.specs.declared.watching.Watcher.{Watcher}
use Rattle.scene_commands.specs.declared.watching.Watchers.{Watchers}
use Rattle.scene_commands.specs.declared.watching.ReaderTurn.TheVariants.{Frame}
use Rattle.scene.specs.Rows.{seat_at}
use Rattle.scene.specs.declared.snapshot.kept.KeptScene.{KeptScene}
use Rattle.scene.specs.Keeping.{CountsMore, bearing, changes_at, mark_told, part_told, parts_told, is_touched}
use Rattle.scene.specs.Changes.{AreTouched, OnlyTouched}
use Rattle.scene.specs.Taken.{is_one_of, behind_themselves, marks_at}
use Rattle.scene.proofs.KeepLemmas.{walk-few}
use Rattle.scene.proofs.LoopLemmas.{one-more}

-- ---- counts

-- no change, a change more, and as many more again
pub counted-none : (changes : ℕ) → CountsMore changes 0 changes
counted-none changes few = omega arith

pub counted-next : (before more now after : ℕ) → CountsMore before more now → after ≡ min (now + 1) 18446744073709551615 → CountsMore before (more + 1) after
counted-next before more now after so_far then few = let is = so_far (omega (arith, few)) in omega (arith, is, then, few)

pub counted-twice : (before one now other after : ℕ) → CountsMore before one now → CountsMore now other after → CountsMore before (one + other) after
counted-twice before one now other after first second few =
    let is = first (omega (arith, few)) in let then = second (omega (arith, is, few)) in omega (arith, is, then)

-- so few that they fit
pub few-fit : (changes more frames asked : ℕ) → changes ≤ 33554432 * (frames + 1) → more ≤ 33554432 → 0 < asked - frames → asked ≤ 4294967295 → changes + more ≤ 18446744073709551615
few-fit changes more frames asked few small left fits = omega (arith, few, small, left, fits)

-- and stay few
pub few-more : (changes more after frames : ℕ) → changes ≤ 33554432 * (frames + 1) → more ≤ 33554432 → after ≡ changes + more → after ≤ 33554432 * ((frames + 1) + 1)
few-more changes more after frames few small is = omega (arith, few, small, is)

-- ---- indices that ascend

-- the members of a set ascend
passing-ascend : (members : ℕ → Bool) (n : ℕ) → AllPairs (λ (one other : ℕ). one < other) (filter members (range_with_len 0 n))
passing-ascend members n = AllPairs-filter (λ (one other : ℕ). one < other) members (range_with_len 0 n) rises
  where
    rises : AllPairs (λ (one other : ℕ). one < other) (range_with_len 0 n)
    rises i j d before below =
        let within : j < n = omega (arith, below, length-range_with_len 0 n) in
        omega (arith, before, get_or-range_with_len 0 n i d (omega (arith, before, within)), get_or-range_with_len 0 n j d within)

walk-ascends : (members : ℕ → Bool) → AllPairs (λ (one other : ℕ). one < other) (walk members)
unfolding walk
walk-ascends members = passing-ascend members 16777216

-- so they do behind themselves
behind-at : (numbers : List ℕ) (i : ℕ) (d : ℕ × ℕ) → (get_or (behind_themselves numbers) i d).1 ≡ get_or numbers i d.1
behind-at [] i d = refl
behind-at (number ∷ numbers) zero d = refl
behind-at (number ∷ numbers) (suc i) d = behind-at numbers i d

behind-long : (numbers : List ℕ) → length (behind_themselves numbers) ≡ length numbers
behind-long [] = refl
behind-long (number ∷ numbers) = ap suc (behind-long numbers)

pub behind-ascend : (members : ℕ → Bool) → AllPairs (λ (one other : ℕ × ℕ). one.1 < other.1) (behind_themselves (walk members))
behind-ascend members i j d before below =
    let far : j < length (walk members) = omega (arith, below, behind-long (walk members)) in
    subst (λ n. n < (get_or (behind_themselves (walk members)) j d).1) (sym (behind-at (walk members) i d))
    (subst (λ n. get_or (walk members) i d.1 < n) (sym (behind-at (walk members) j d)) (walk-ascends members i j d.1 before far))

-- what is counted of numbers behind themselves is counted of the numbers
pub count-behind : (passes : ℕ → Bool) (numbers : List ℕ) → count_by (λ (pair : ℕ × ℕ). passes pair.1) (behind_themselves numbers) ≡ count_by passes numbers
count-behind passes [] = refl
count-behind passes (number ∷ numbers) =
    sum_by-cons (λ (pair : ℕ × ℕ). cond (passes pair.1) 1 0) (number, number) (behind_themselves numbers) ∙ ap (λ n. cond (passes number) 1 0 + n) (count-behind passes numbers)
    ∙ sym (sum_by-cons (λ (one : ℕ). cond (passes one) 1 0) number numbers)

module _ (pairs : List (ℕ × ℕ)) (k : ℕ) (d : ℕ × ℕ) (below : k < length pairs) (ascend : AllPairs (λ (one other : ℕ × ℕ). one.1 < other.1) pairs) where
  -- the index at a place stands at none before
  not-before : (m : ℕ) → m ≤ k → is_one_of (map (λ (pair : ℕ × ℕ). pair.1) (take m pairs)) (get_or pairs k d).1 ≡ false
  not-before zero within = refl
  not-before (suc m) within =
      let next : m + 1 ≡ suc m = omega arith in
      let under : (get_or pairs m d).1 < (get_or pairs k d).1 = ascend m k d (omega (arith, within)) below in
      let apart : eqb (get_or pairs k d).1 (get_or pairs m d).1 ≡ false = unlike (get_or pairs k d).1 (get_or pairs m d).1 under (eqb (get_or pairs k d).1 (get_or pairs m d).1) refl in
      subst (λ n. is_one_of (map (λ (pair : ℕ × ℕ). pair.1) (take n pairs)) (get_or pairs k d).1 ≡ false) next
      (one-more pairs m d (omega (arith, within, below)) (get_or pairs k d).1
      ∙ ap (λ b. b || eqb (get_or pairs k d).1 (get_or pairs m d).1) (not-before m (omega (arith, within))) ∙ apart)
    where
      unlike : (one other : ℕ) → other < one → (b : Bool) → eqb one other ≡ b → b ≡ false
      unlike one other under true same = let is : one ≡ other = eqb-true one other same in absurd (omega (arith, is, under))
      unlike one other under false apart = refl

  -- so an entry that was there leaves, and is counted
  pub leaving-more : (before now : ℕ → Option ℕ) → ((index : ℕ) → now index ≡ cond (is_one_of (map (λ (pair : ℕ × ℕ). pair.1) (take k pairs)) index) None (before index))
      → (old count after : ℕ) → CountsMore old (count_by (λ (pair : ℕ × ℕ). is_some (before pair.1)) (take k pairs)) count
      → after ≡ cond (is_some (now (get_or pairs k d).1)) (min (count + 1) 18446744073709551615) count
      → CountsMore old (count_by (λ (pair : ℕ × ℕ). is_some (before pair.1)) (take (k + 1) pairs)) after
  leaving-more before now seats old count after was then = by (is_some (before (get_or pairs k d).1)) refl (then ∙ ap (λ o. cond (is_some o) (min (count + 1) 18446744073709551615) count) there)
    where
      there : now (get_or pairs k d).1 ≡ before (get_or pairs k d).1
      there = seats (get_or pairs k d).1 ∙ ap (λ b. cond b None (before (get_or pairs k d).1)) (not-before k (omega arith))

      passes : ℕ × ℕ → Bool
      passes pair = is_some (before pair.1)

      by : (b : Bool) → is_some (before (get_or pairs k d).1) ≡ b → after ≡ cond b (min (count + 1) 18446744073709551615) count
          → CountsMore old (count_by (λ (pair : ℕ × ℕ). is_some (before pair.1)) (take (k + 1) pairs)) after
      by true some is =
          subst (λ n. CountsMore old n after) (sym (count_by_more_yes passes pairs k d below some))
          (counted-next old (count_by (λ (pair : ℕ × ℕ). is_some (before pair.1)) (take k pairs)) count after was is)
      by false none is = subst (λ n. CountsMore old n after) (sym (count_by_more_no passes pairs k d below none)) (subst (λ n. CountsMore old (count_by passes (take k pairs)) n) (sym is) was)

-- as many are marked as bear an entry
pub marks-many : (marker : ℕ → Option ℕ) (pairs : List (ℕ × ℕ)) → length (marks_at marker pairs) ≡ count_by (λ (pair : ℕ × ℕ). is_some (marker pair.1)) pairs
marks-many marker [] = refl
marks-many marker (pair ∷ pairs) = one (marker pair.1) ∙ ap (λ n. cond (is_some (marker pair.1)) 1 0 + n) (marks-many marker pairs) ∙ sym (sum_by-cons (λ (pair : ℕ × ℕ). cond (is_some (marker pair.1)) 1 0) pair pairs)
  where
    one : (o : Option ℕ) → length (cons_option (option_map (λ id. (id, pair.1)) o) (marks_at marker pairs)) ≡ cond (is_some o) 1 0 + length (marks_at marker pairs)
    one None = omega arith
    one (Some id) = omega arith

-- ---- indices that are told

module _ {V : Type 0} (kinds : Kinds V) (turn : ReaderTurn) (w : Sight V) (index : ℕ) where
  -- of an index that is told at a place some reader is told
  pub told-there : (names : List Name) (watchers : List Watcher) → length watchers ≡ length names → (place : ℕ) → place < length names
      → part_told kinds w (name_at names place) (reader_at turn (watcher_at watchers place)) index ≡ true → parts_told kinds turn w names watchers index ≡ true
  told-there [] watchers many place below told = absurd (none place below)
    where
      none : (place : ℕ) → place < 0 → ⊥
      none place below = omega (arith, below)
  told-there (name ∷ names) [] many place below told = absurd (omega (arith, many))
  told-there (name ∷ names) (one ∷ watchers) many zero below told = ap (λ b. b || parts_told kinds turn w names watchers index) told
  told-there (name ∷ names) (one ∷ watchers) many (suc place) below told =
      ap (λ b. part_told kinds w name (reader_at turn one) index || b) (told-there names watchers (omega (arith, many)) place (omega (arith, below)) told) ∙ or-true (part_told kinds w name (reader_at turn one) index)
    where
      or-true : (b : Bool) → (b || true) ≡ true
      or-true true = refl
      or-true false = refl

  -- and at some place it is told where a reader is
  pub told-some : (names : List Name) (watchers : List Watcher) → parts_told kinds turn w names watchers index ≡ true
      → (place : ℕ) × (place < length names) × (part_told kinds w (name_at names place) (reader_at turn (watcher_at watchers place)) index ≡ true)
  told-some [] watchers told = absurd (false≢true told)
  told-some (name ∷ names) [] told = absurd (false≢true told)
  told-some (name ∷ names) (one ∷ watchers) told = by (told-some names watchers) (part_told kinds w name (reader_at turn one) index) refl told
    where
      by : (parts_told kinds turn w names watchers index ≡ true → (place : ℕ) × (place < length names) × (part_told kinds w (name_at names place) (reader_at turn (watcher_at watchers place)) index ≡ true))
          → (b : Bool) → part_told kinds w name (reader_at turn one) index ≡ b → (b || parts_told kinds turn w names watchers index) ≡ true
          → (place : ℕ) × (place < length (name ∷ names)) × (part_told kinds w (name_at (name ∷ names) place) (reader_at turn (watcher_at (one ∷ watchers) place)) index ≡ true)
      by others true here _ = (zero, omega arith, here)
      by others false away told = let later = others told in let below = later.1 in (suc later.0, omega (arith, below), later.2)

-- readers of whom each is told the same are told of the same indices
pub told-same : {V : Type 0} (kinds : Kinds V) (one other : ReaderTurn) (w later : Sight V) (index : ℕ) (names : List Name) (watchers : List Watcher)
    → ((place : ℕ) → place < length names → part_told kinds later (name_at names place) (reader_at other (watcher_at watchers place)) index ≡ part_told kinds w (name_at names place) (reader_at one (watcher_at watchers place)) index)
    → parts_told kinds other later names watchers index ≡ parts_told kinds one w names watchers index
told-same kinds one other w later index [] watchers same = refl
told-same kinds one other w later index (name ∷ names) [] same = refl
told-same kinds one other w later index (name ∷ names) (first ∷ watchers) same =
    ap (λ b. b || parts_told kinds other later names watchers index) (same zero (omega arith))
    ∙ ap (λ b. part_told kinds w name (reader_at one first) index || b) (told-same kinds one other w later index names watchers (λ place below. same (suc place) (omega (arith, below))))

-- what is true of the one where it is true of the other is the same
pub both-ways : (one other : Bool) → (one ≡ true → other ≡ true) → (other ≡ true → one ≡ true) → one ≡ other
both-ways true other forth back = sym (forth refl)
both-ways false true forth back = back refl
both-ways false false forth back = refl

-- one of two is true
pub either-one : (one other : Bool) → (one ≡ true) ⊎ (other ≡ true) → (one || other) ≡ true
either-one one other (inl is) = ap (λ b. b || other) is
either-one one other (inr is) = ap (λ b. one || b) is ∙ by one
  where
    by : (b : Bool) → (b || true) ≡ true
    by true = refl
    by false = refl

-- a set that has what the readers of a frame's end are told, and nothing else, has what is touched
pub touched-is : {V : Type 0} (kinds : Kinds V) (w : Sight V) (names : List Name) (watchers : Watchers) → length watchers.parts.items ≡ length names → (marked after : ℕ → Bool)
    → ((index : ℕ) → marked index ≡ mark_told kinds w watchers.markers.frame index) → ((index : ℕ) → marked index ≡ true → after index ≡ true)
    → AreTouched kinds w names watchers.parts.items (length names) after → OnlyTouched kinds w names watchers.parts.items (length names) marked after
    → after ≡ is_touched kinds Frame names watchers w
touched-is kinds w names watchers many marked after marks kept told only = fun_ext (λ index.
    both-ways (after index) (is_touched kinds Frame names watchers w index)
    (λ member.
    either-one (mark_told kinds w watchers.markers.frame index) (parts_told kinds Frame w names watchers.parts.items index) (elim (only index member) [
      | inl was ↦ inl (sym (marks index) ∙ was)
      | inr found ↦ inr (told-there kinds Frame w index names watchers.parts.items many found.0 found.1 found.2)
    ]))
    (λ one. elim (or_cases (mark_told kinds w watchers.markers.frame index) (parts_told kinds Frame w names watchers.parts.items index) one) [
      | inl mark ↦ kept index (marks index ∙ mark)
      | inr part ↦ let found = told-some kinds Frame w index names watchers.parts.items part in told found.0 found.1 index found.2
    ]))

-- of the members of a set at most two for each can be counted
pub changes-few : {D G : Type 0} (members : ℕ → Bool) (before after : KeptScene D G) → changes_at (walk members) before after ≤ 33554432
changes-few members before after =
    let small = walk-few members in
    let one = count_by-le-length (λ index. is_some (seat_at before index)) (walk members) in
    let other = count_by-le-length (λ index. is_some (seat_at after index)) (walk members) in
    omega (arith, small, one, other)

-- so in a frame the count is exact, and stays few
module _ {D G : Type 0} (members : ℕ → Bool) (before after : KeptScene D G) (frames asked : ℕ) (few : before.changes ≤ 33554432 * (frames + 1)) (left : 0 < asked - frames) (fits : asked ≤ 4294967295)
    (more : CountsMore before.changes (changes_at (walk members) before after) after.changes) where
  pub counts-exact : after.changes ≡ before.changes + changes_at (walk members) before after
  counts-exact = more (few-fit before.changes (changes_at (walk members) before after) frames asked few (changes-few members before after) left fits)

  pub few-still : after.changes ≤ 33554432 * ((frames + 1) + 1)
  few-still = few-more before.changes (changes_at (walk members) before after) after.changes frames few (changes-few members before after) counts-exact

-- entries that were there leave and those that are there enter
pub counted-changes : {D G : Type 0} (touched : List ℕ) (before after : KeptScene D G) (pairs entries : List (ℕ × ℕ)) (made : ℕ → Option ℕ) (marker : ℕ → Option ℕ) (middle : ℕ) → pairs ≡ behind_themselves touched
    → ((index : ℕ) → made index ≡ seat_at before index) → entries ≡ marks_at marker (behind_themselves touched) → ((index : ℕ) → seat_at after index ≡ marker index)
    → CountsMore before.changes (count_by (λ (pair : ℕ × ℕ). is_some (made pair.1)) pairs) middle → CountsMore middle (length entries) after.changes
    → CountsMore before.changes (changes_at touched before after) after.changes
counted-changes touched before after pairs entries made marker middle pairs_are made_is entries_are seats middle_is changes =
    let left : count_by (λ (pair : ℕ × ℕ). is_some (made pair.1)) pairs ≡ bearing before touched =
    ap (count_by (λ (pair : ℕ × ℕ). is_some (made pair.1))) pairs_are ∙ ap (λ (seat : ℕ → Option ℕ). count_by (λ (pair : ℕ × ℕ). is_some (seat pair.1)) (behind_themselves touched)) (fun_ext made_is)
    ∙ count-behind (λ index. is_some (seat_at before index)) touched in
    let entered : length entries ≡ bearing after touched =
    ap (λ (list : List (ℕ × ℕ)). length list) entries_are ∙ marks-many marker (behind_themselves touched) ∙ count-behind (λ index. is_some (marker index)) touched
    ∙ ap (λ (seat : ℕ → Option ℕ). count_by (λ index. is_some (seat index)) touched) (sym (fun_ext seats)) in
    counted-twice before.changes (bearing before touched) middle (bearing after touched) after.changes
    (subst (λ n. CountsMore before.changes n middle) left middle_is) (subst (λ n. CountsMore middle n after.changes) entered changes)
