-- What becomes of seats and rows that are changed where a world's readers tell of changes.
use Rattle.std.proofs.Common.{◌≡◌, ◌<◌, inr, ℕ, zero, suc, Bool, true, false, cond, eqb, ◌||◌, List, [], ◌∷◌, map, length, get_or, All, Option, Some, None, is_some, option_map, refl, ap, sym, subst, ◌∙◌, arith}
use Rattle.std.specs.Prelude.{slice_get}
use Rattle.std.specs.List.{cons_option}
use Rattle.std.proofs.lemmas.Option.{slice_get-get_or}
use Rattle.std.proofs.lemmas.Bool.{false≢true, true≢false, eqb-true, eq-eqb}
use Rattle.std.proofs.lemmas.List.Elements.{All-nil, All-cons, All-head, All-tail}
use Rattle.hibitset_sets.specs.Walk.{walk}
use Rattle.hibitset_sets.proofs.CallerLemmas.{any-walk, members-walked}
use Rattle.scene_model.specs.Parts.{Name, Part, is_among, name_at}
use Rattle.scene_model.specs.Rulebook.{Book}
use Rattle.scene_world.specs.Rolls.{id_at}
use Rattle.scene_world.specs.Standing.{Sight, Kinds, roll_of, events_in, marker_events_in, IsSceneWorld}
use Rattle.scene_world.specs.Putting.{each_there}
use Rattle.scene_commands.specs.declared.watching.Watcher.{Watcher}
use Rattle.scene_commands.specs.declared.watching.Watchers.{Watchers}
use Rattle.scene.specs.Rows.{seat_at, datum_at}
use Rattle.scene.specs.declared.snapshot.kept.KeptScene.{KeptScene}
use Rattle.scene_commands.specs.Watching.{watcher_at}
use Rattle.scene.specs.Keeping.{IsBelow, mark_told, part_told, AreToldSince, IsFullByIndex}
use Rattle.scene.specs.Changes.{IsChange, AreChanges, AreTouched, IsSound, AreFree, row_after}
use Rattle.scene.specs.Taken.{IsAmong, is_one_of, behind_themselves, turned, marks_at, with_last, part_at, IsRowOf}
use Rattle.scene.specs.declared.changes.RowChange.{RowChange}
use Rattle.scene.proofs.KeepLemmas.{last-none, last-some, row-read}
use Rattle.scene.proofs.EntryLemmas.{found-within}
use Rattle.scene.proofs.StepLemmas.{id-marked, id-stays, part-stays, told-below}

-- ---- numbers that stand behind themselves

pub same-numbers : (numbers : List ℕ) → map (λ (pair : ℕ × ℕ). pair.1) (behind_themselves numbers) ≡ numbers
same-numbers [] = refl
same-numbers (number ∷ numbers) = ap (λ rest. number ∷ rest) (same-numbers numbers)

each-itself : (numbers : List ℕ) → All (λ (pair : ℕ × ℕ). pair.0 ≡ pair.1) (behind_themselves numbers)
each-itself [] = All-nil (λ (pair : ℕ × ℕ). pair.0 ≡ pair.1)
each-itself (number ∷ numbers) = All-cons (λ (pair : ℕ × ℕ). pair.0 ≡ pair.1) (number, number) (behind_themselves numbers) refl (each-itself numbers)

-- what holds of each of some numbers holds of one of them
pub among-all : (holds : ℕ → Type 0) (numbers : List ℕ) → All holds numbers → (number : ℕ) → is_one_of numbers number ≡ true → holds number
among-all holds [] all number among = absurd (false≢true among)
among-all holds (one ∷ numbers) all number among = by (eqb number one) refl among (among-all holds numbers (All-tail holds one numbers all) number)
  where
    by : (b : Bool) → eqb number one ≡ b → (b || is_one_of numbers number) ≡ true → (is_one_of numbers number ≡ true → holds number) → holds number
    by true same _ rest = subst holds (sym (eqb-true number one same)) (All-head holds one numbers all)
    by false apart among rest = rest among

-- what holds behind each of some pairs
pub all-seconds : (holds : ℕ → Type 0) (pairs : List (ℕ × ℕ)) → All (λ (pair : ℕ × ℕ). holds pair.1) pairs → All holds (map (λ (pair : ℕ × ℕ). pair.1) pairs)
all-seconds holds [] all = All-nil holds
all-seconds holds (pair ∷ pairs) all =
    All-cons holds pair.1 (map (λ (pair : ℕ × ℕ). pair.1) pairs) (All-head (λ (pair : ℕ × ℕ). holds pair.1) pair pairs all) (all-seconds holds pairs (All-tail (λ (pair : ℕ × ℕ). holds pair.1) pair pairs all))

-- what holds of each member of a set holds behind each that stands behind itself
pub all-walked : (holds : ℕ → Type 0) (p : ℕ → Bool) → ((index : ℕ) → p index ≡ true → holds index) → All (λ (pair : ℕ × ℕ). holds pair.1) (behind_themselves (walk p))
all-walked holds p each = by (walk p) (members-walked p)
  where
    by : (numbers : List ℕ) → All (λ index. p index ≡ true) numbers → All (λ (pair : ℕ × ℕ). holds pair.1) (behind_themselves numbers)
    by [] all = All-nil (λ (pair : ℕ × ℕ). holds pair.1)
    by (number ∷ numbers) all =
        All-cons (λ (pair : ℕ × ℕ). holds pair.1) (number, number) (behind_themselves numbers) (each number (All-head (λ index. p index ≡ true) number numbers all)) (by numbers (All-tail (λ index. p index ≡ true) number numbers all))

-- an index is among the members of a set where it is a member
pub walked-is : (p : ℕ → Bool) → ((index : ℕ) → p index ≡ true → index < 16777216) → (index : ℕ) → is_one_of (map (λ (pair : ℕ × ℕ). pair.1) (behind_themselves (walk p))) index ≡ p index
walked-is p low index = ap (λ numbers. is_one_of numbers index) (same-numbers (walk p)) ∙ by (p index) refl
  where
    by : (b : Bool) → p index ≡ b → is_one_of (walk p) index ≡ b
    by true member = any-walk p index (low index member) member
    by false out = away (is_one_of (walk p) index) refl
      where
        away : (b : Bool) → is_one_of (walk p) index ≡ b → b ≡ false
        away true among = absurd (false≢true (sym out ∙ among-all (λ i. p i ≡ true) (walk p) (members-walked p) index among))
        away false _ = refl

-- ---- what stands behind numbers

-- nothing is found behind a number that is not among them
last-away : {X : Type 0} (list : List (ℕ × X)) (before : ℕ → Option X) (number : ℕ) → is_one_of (map (λ (one : ℕ × X). one.0) list) number ≡ false → with_last list before number ≡ before number
last-away [] before number away = refl
last-away {X} (one ∷ others) before number away = by (last-away others (λ other. cond (eqb other one.0) (Some one.1) (before other)) number) (eqb number one.0) refl away
  where
    by : (is_one_of (map (λ (one : ℕ × X). one.0) others) number ≡ false → with_last others (λ other. cond (eqb other one.0) (Some one.1) (before other)) number ≡ cond (eqb number one.0) (Some one.1) (before number))
        → (b : Bool) → eqb number one.0 ≡ b → (b || is_one_of (map (λ (one : ℕ × X). one.0) others) number) ≡ false → with_last others (λ other. cond (eqb other one.0) (Some one.1) (before other)) number ≡ before number
    by later true same out = absurd (true≢false out)
    by later false apart out = later out ∙ ap (λ b. cond b (Some one.1) (before number)) apart

-- it is not among them where each of them has what it lacks
not-among : (p : ℕ → Bool) (numbers : List ℕ) → All (λ one. p one ≡ true) numbers → (number : ℕ) → p number ≡ false → is_one_of numbers number ≡ false
not-among p numbers all number lacks = by (is_one_of numbers number) refl
  where
    by : (b : Bool) → is_one_of numbers number ≡ b → b ≡ false
    by true among = absurd (true≢false (sym (among-all (λ one. p one ≡ true) numbers all number among) ∙ lacks))
    by false _ = refl

all-firsts : {D : Type 0} (holds : ℕ → Type 0) (list : List (ℕ × D)) → All (λ (one : ℕ × D). holds one.0) list → All holds (map (λ (one : ℕ × D). one.0) list)
all-firsts holds [] all = All-nil holds
all-firsts {D} holds (one ∷ list) all =
    All-cons holds one.0 (map (λ (one : ℕ × D). one.0) list) (All-head (λ (one : ℕ × D). holds one.0) one list all) (all-firsts holds list (All-tail (λ (one : ℕ × D). holds one.0) one list all))

-- ---- one change

module _ {V D : Type 0} (kinds : Kinds V) (part_of : D → Part) (w : Sight V) (kind : Name) (told : ℕ → Bool) (low : (index : ℕ) → told index ≡ true → index < 16777216) (change : RowChange D) (is : IsChange kinds part_of w kind told change) where
  abbrev of_indices : List ℕ
  of_indices = map (λ (pair : ℕ × ℕ). pair.1) change.indices.items

  -- its indices are those that are told
  pub change-indices : (index : ℕ) → is_one_of of_indices index ≡ told index
  change-indices index = ap (λ (pairs : List (ℕ × ℕ)). is_one_of (map (λ (pair : ℕ × ℕ). pair.1) pairs) index) is.indices ∙ walked-is told low index

  behind : All (λ (pair : ℕ × ℕ). pair.0 ≡ pair.1) change.indices.items
  behind = subst (All (λ (pair : ℕ × ℕ). pair.0 ≡ pair.1)) (sym is.indices) (each-itself (walk told))

  all-told : (holds : ℕ → Type 0) → ((index : ℕ) → told index ≡ true → holds index) → All (λ (pair : ℕ × ℕ). holds pair.1) change.indices.items
  all-told holds each = subst (All (λ (pair : ℕ × ℕ). holds pair.1)) (sym is.indices) (all-walked holds told each)

  -- so are those of its data
  firsts-told : All (λ (one : ℕ × D). told one.0 ≡ true) (each_there (λ (one : Option D). one) change.found.items)
  firsts-told = found-within kinds part_of w kind change.indices.items change.found.items is.found behind (λ index. told index ≡ true) (all-told (λ index. told index ≡ true) (λ index one. one))

  -- where they are below a number, it can be made
  pub change-sound : (count : ℕ) → ((index : ℕ) → told index ≡ true → index < count) → IsSound count change
  change-sound count under = record {
    below = all-told (λ index. index < count) under;
    within = weaker (each_there (λ (one : Option D). one) change.found.items) firsts-told;
  }
    where
      weaker : (list : List (ℕ × D)) → All (λ (one : ℕ × D). told one.0 ≡ true) list → All (λ (one : ℕ × D). IsAmong of_indices one.0) list
      weaker [] all = All-nil (λ (one : ℕ × D). IsAmong of_indices one.0)
      weaker (one ∷ list) all =
          All-cons (λ (one : ℕ × D). IsAmong of_indices one.0) one list (change-indices one.0 ∙ All-head (λ (one : ℕ × D). told one.0 ≡ true) one list all) (weaker list (All-tail (λ (one : ℕ × D). told one.0 ≡ true) one list all))

  pub change-free : {G : Type 0} (kept : KeptScene D G) → ((index : ℕ) → told index ≡ true → seat_at kept index ≡ None) → AreFree kept change
  change-free kept free = all-told (λ index. seat_at kept index ≡ None) free

  -- at an index that is told the row has the part that is there, and elsewhere what it had
  pub change-told : (before : ℕ → Option D) (index : ℕ) → told index ≡ true → option_map part_of (row_after (Some change) before index) ≡ part_at kinds w index kind
  change-told before index one =
      row-read (λ at. part_at kinds w at kind) part_of change.found.items change.indices.items (λ at. cond (is_one_of of_indices at) None (before at)) is.found behind index
      (ap (λ b. cond b None (before index)) (change-indices index ∙ one)) (λ some. change-indices index ∙ one)

  pub change-untold : (before : ℕ → Option D) (index : ℕ) → told index ≡ false → row_after (Some change) before index ≡ before index
  change-untold before index none =
      last-away (each_there (λ (one : Option D). one) change.found.items) (λ at. cond (is_one_of of_indices at) None (before at)) index
      (not-among told (map (λ (one : ℕ × D). one.0) (each_there (λ (one : Option D). one) change.found.items)) (all-firsts (λ one. told one ≡ true) (each_there (λ (one : Option D). one) change.found.items) firsts-told) index none)
      ∙ ap (λ b. cond b None (before index)) (change-indices index ∙ none)

-- what holds of each change holds of all
pub all-changes : {D : Type 0} (changes : List (RowChange D)) (holds : RowChange D → Type 0) → ((place : ℕ) (change : RowChange D) → slice_get changes place ≡ Some change → holds change) → All holds changes
all-changes changes holds each = λ k d below. each k (get_or changes k d) (slice_get-get_or changes k d below)

-- each of which an index is told is below a number and bears nothing, where each that is touched is and does
module _ {V D : Type 0} (kinds : Kinds V) (part_of : D → Part) (w : Sight V) (names : List Name) (watchers : List Watcher) (count : ℕ) (changes : List (RowChange D)) (are : AreChanges kinds part_of w names watchers (length names) changes)
    (touched : ℕ → Bool) (told : AreTouched kinds w names watchers (length names) touched) where
  within : (place : ℕ) (change : RowChange D) → slice_get changes place ≡ Some change → place < length names
  within place change there = subst (λ n. place < n) are.many (by changes place there)
    where
      by : (list : List (RowChange D)) (at : ℕ) {one : RowChange D} → slice_get list at ≡ Some one → at < length list
      by [] zero there = absurd (false≢true (ap is_some there))
      by [] (suc at) there = absurd (false≢true (ap is_some there))
      by (first ∷ list) zero there = omega arith
      by (first ∷ list) (suc at) there = let below = by list at there in omega (arith, below)

  pub changes-sound : ((index : ℕ) → touched index ≡ true → index < count) → All (IsSound count) changes
  changes-sound below = all-changes changes (IsSound count) (λ place change there.
      let kind = name_at names place in
      let reader = (watcher_at watchers place).frame in
      change-sound kinds part_of w kind (part_told kinds w kind reader) (told-below (events_in kinds kind (w (kinds.part_id kind))) reader) change (are.each place change there) count
      (λ index one. below index (told place (within place change there) index one)))

  pub changes-free : {G : Type 0} (kept : KeptScene D G) → ((index : ℕ) → touched index ≡ true → seat_at kept index ≡ None) → All (AreFree kept) changes
  changes-free kept free = all-changes changes (AreFree kept) (λ place change there.
      let kind = name_at names place in
      let reader = (watcher_at watchers place).frame in
      change-free kinds part_of w kind (part_told kinds w kind reader) (told-below (events_in kinds kind (w (kinds.part_id kind))) reader) change (are.each place change there) kept
      (λ index one. free index (told place (within place change there) index one)))

-- ---- entries

module _ (marker : ℕ → Option ℕ) where
  -- the ids at indices stand behind one of them, and are those with which they are marked
  marks-each : (pairs : List (ℕ × ℕ)) → All (λ (one : ℕ × ℕ). marker one.0 ≡ Some one.1) (turned (marks_at marker pairs))
  marks-each [] = All-nil (λ (one : ℕ × ℕ). marker one.0 ≡ Some one.1)
  marks-each (pair ∷ pairs) = by (marker pair.1) refl (marks-each pairs)
    where
      by : (o : Option ℕ) → marker pair.1 ≡ o → All (λ (one : ℕ × ℕ). marker one.0 ≡ Some one.1) (turned (marks_at marker pairs))
          → All (λ (one : ℕ × ℕ). marker one.0 ≡ Some one.1) (turned (cons_option (option_map (λ id. (id, pair.1)) o) (marks_at marker pairs)))
      by None none rest = rest
      by (Some id) there rest = All-cons (λ (one : ℕ × ℕ). marker one.0 ≡ Some one.1) (pair.1, id) (turned (marks_at marker pairs)) there rest

  pub marks-among : (holds : ℕ → Type 0) (pairs : List (ℕ × ℕ)) → All (λ (pair : ℕ × ℕ). holds pair.1) pairs → All (λ (pair : ℕ × ℕ). holds pair.1) (marks_at marker pairs)
  marks-among holds [] all = All-nil (λ (pair : ℕ × ℕ). holds pair.1)
  marks-among holds (pair ∷ pairs) all = by (marker pair.1) (marks-among holds pairs (All-tail (λ (pair : ℕ × ℕ). holds pair.1) pair pairs all))
    where
      by : (o : Option ℕ) → All (λ (pair : ℕ × ℕ). holds pair.1) (marks_at marker pairs) → All (λ (pair : ℕ × ℕ). holds pair.1) (cons_option (option_map (λ id. (id, pair.1)) o) (marks_at marker pairs))
      by None rest = rest
      by (Some id) rest = All-cons (λ (pair : ℕ × ℕ). holds pair.1) (id, pair.1) (marks_at marker pairs) (All-head (λ (pair : ℕ × ℕ). holds pair.1) pair pairs all) rest

  marks-there : (index id : ℕ) → marker index ≡ Some id → (pairs : List (ℕ × ℕ)) → is_one_of (map (λ (pair : ℕ × ℕ). pair.1) pairs) index ≡ true → IsAmong (map (λ (one : ℕ × ℕ). one.0) (turned (marks_at marker pairs))) index
  marks-there index id there [] among = absurd (false≢true among)
  marks-there index id there (pair ∷ pairs) among = by (eqb index pair.1) refl among (marks-there index id there pairs)
    where
      or-true : (b : Bool) → (b || true) ≡ true
      or-true true = refl
      or-true false = refl

      more : (o : Option ℕ) → IsAmong (map (λ (one : ℕ × ℕ). one.0) (turned (marks_at marker pairs))) index
          → IsAmong (map (λ (one : ℕ × ℕ). one.0) (turned (cons_option (option_map (λ id. (id, pair.1)) o) (marks_at marker pairs)))) index
      more None is = is
      more (Some other) is = ap (λ b. eqb index pair.1 || b) is ∙ or-true (eqb index pair.1)

      by : (b : Bool) → eqb index pair.1 ≡ b → (b || is_one_of (map (λ (pair : ℕ × ℕ). pair.1) pairs) index) ≡ true
          → (is_one_of (map (λ (pair : ℕ × ℕ). pair.1) pairs) index ≡ true → IsAmong (map (λ (one : ℕ × ℕ). one.0) (turned (marks_at marker pairs))) index)
          → IsAmong (map (λ (one : ℕ × ℕ). one.0) (turned (cons_option (option_map (λ id. (id, pair.1)) (marker pair.1)) (marks_at marker pairs)))) index
      by true same _ rest =
          let here : marker pair.1 ≡ Some id = ap marker (sym (eqb-true index pair.1 same)) ∙ there in
          ap (λ (o : Option ℕ). is_one_of (map (λ (one : ℕ × ℕ). one.0) (turned (cons_option (option_map (λ id. (id, pair.1)) o) (marks_at marker pairs)))) index) here
          ∙ ap (λ b. b || is_one_of (map (λ (one : ℕ × ℕ). one.0) (turned (marks_at marker pairs))) index) same
      by false apart among rest = more (marker pair.1) (rest among)

  -- what an index bears after those that are touched have left and those that are marked there have entered
  pub entered-at : (pairs : List (ℕ × ℕ)) (before : ℕ → Option ℕ) (index : ℕ) → (b : Bool) → is_one_of (map (λ (pair : ℕ × ℕ). pair.1) pairs) index ≡ b
      → with_last (turned (marks_at marker pairs)) (λ at. cond (is_one_of (map (λ (pair : ℕ × ℕ). pair.1) pairs) at) None (before at)) index ≡ cond b (marker index) (before index)
  entered-at pairs before index true among = by (marker index) refl
    where
      bare : cond (is_one_of (map (λ (pair : ℕ × ℕ). pair.1) pairs) index) None (before index) ≡ None
      bare = ap (λ b. cond b None (before index)) among

      by : (o : Option ℕ) → marker index ≡ o → with_last (turned (marks_at marker pairs)) (λ at. cond (is_one_of (map (λ (pair : ℕ × ℕ). pair.1) pairs) at) None (before at)) index ≡ o
      by None none = last-none marker index (turned (marks_at marker pairs)) (λ at. cond (is_one_of (map (λ (pair : ℕ × ℕ). pair.1) pairs) at) None (before at)) (marks-each pairs) none bare
      by (Some id) there = last-some marker index id there (turned (marks_at marker pairs)) (λ at. cond (is_one_of (map (λ (pair : ℕ × ℕ). pair.1) pairs) at) None (before at)) (marks-each pairs) (inr (marks-there index id there pairs among))
  entered-at pairs before index false away =
      last-away (turned (marks_at marker pairs)) (λ at. cond (is_one_of (map (λ (pair : ℕ × ℕ). pair.1) pairs) at) None (before at)) index
      (not-among (is_one_of (map (λ (pair : ℕ × ℕ). pair.1) pairs)) (map (λ (one : ℕ × ℕ). one.0) (turned (marks_at marker pairs))) (firsts (marks_at marker pairs) (marks-among (IsAmong (map (λ (pair : ℕ × ℕ). pair.1) pairs)) pairs (itself pairs))) index away)
      ∙ ap (λ b. cond b None (before index)) away
    where
      firsts : (list : List (ℕ × ℕ)) → All (λ (pair : ℕ × ℕ). IsAmong (map (λ (pair : ℕ × ℕ). pair.1) pairs) pair.1) list → All (IsAmong (map (λ (pair : ℕ × ℕ). pair.1) pairs)) (map (λ (one : ℕ × ℕ). one.0) (turned list))
      firsts [] all = All-nil (IsAmong (map (λ (pair : ℕ × ℕ). pair.1) pairs))
      firsts (one ∷ list) all =
          All-cons (IsAmong (map (λ (pair : ℕ × ℕ). pair.1) pairs)) one.1 (map (λ (one : ℕ × ℕ). one.0) (turned list)) (All-head (λ (pair : ℕ × ℕ). IsAmong (map (λ (pair : ℕ × ℕ). pair.1) pairs) pair.1) one list all)
          (firsts list (All-tail (λ (pair : ℕ × ℕ). IsAmong (map (λ (pair : ℕ × ℕ). pair.1) pairs) pair.1) one list all))

      itself : (list : List (ℕ × ℕ)) → All (λ (pair : ℕ × ℕ). IsAmong (map (λ (pair : ℕ × ℕ). pair.1) list) pair.1) list
      itself [] = All-nil (λ (pair : ℕ × ℕ). IsAmong [] pair.1)
      itself (one ∷ list) =
          All-cons (λ (pair : ℕ × ℕ). IsAmong (map (λ (pair : ℕ × ℕ). pair.1) (one ∷ list)) pair.1) one list (ap (λ b. b || is_one_of (map (λ (pair : ℕ × ℕ). pair.1) list) one.1) (eq-eqb one.1 one.1 refl))
          (further list (itself list))
        where
          or-true : (b : Bool) → (b || true) ≡ true
          or-true true = refl
          or-true false = refl

          further : (some : List (ℕ × ℕ)) → All (λ (pair : ℕ × ℕ). IsAmong (map (λ (pair : ℕ × ℕ). pair.1) list) pair.1) some → All (λ (pair : ℕ × ℕ). IsAmong (map (λ (pair : ℕ × ℕ). pair.1) (one ∷ list)) pair.1) some
          further [] all = All-nil (λ (pair : ℕ × ℕ). IsAmong (map (λ (pair : ℕ × ℕ). pair.1) (one ∷ list)) pair.1)
          further (pair ∷ some) all =
              All-cons (λ (pair : ℕ × ℕ). IsAmong (map (λ (pair : ℕ × ℕ). pair.1) (one ∷ list)) pair.1) pair some
              (ap (λ b. eqb pair.1 one.1 || b) (All-head (λ (pair : ℕ × ℕ). IsAmong (map (λ (pair : ℕ × ℕ). pair.1) list) pair.1) pair some all) ∙ or-true (eqb pair.1 one.1))
              (further some (All-tail (λ (pair : ℕ × ℕ). IsAmong (map (λ (pair : ℕ × ℕ). pair.1) list) pair.1) pair some all))

-- ---- what is kept is the full save again

module _ {V D G : Type 0} (kinds : Kinds V) (part_of : D → Part) (book : Book) (names : List Name) (watchers : Watchers) (w later : Sight V) (stands : IsSceneWorld kinds book w) (still : IsSceneWorld kinds book later)
    (below : IsBelow kinds w) (beneath : IsBelow kinds later) (told : AreToldSince kinds names watchers w later) (known : (place : ℕ) → place < length names → is_among (name_at names place) kinds.part_names ≡ true)
    (before after : KeptScene D G) (full : IsFullByIndex kinds part_of names before w) (touched : ℕ → Bool) (low : (index : ℕ) → touched index ≡ true → index < 16777216) where
  -- of the seats, where the markers that are told are touched
  pub seats-again : ((index : ℕ) → mark_told kinds later watchers.markers.frame index ≡ true → touched index ≡ true)
      → ((index : ℕ) → seat_at after index ≡ with_last (turned (marks_at (roll_of kinds later).marker (behind_themselves (walk touched)))) (λ at. cond (is_one_of (map (λ (pair : ℕ × ℕ). pair.1) (behind_themselves (walk touched))) at) None (seat_at before at)) index)
      → (index : ℕ) → seat_at after index ≡ id_at (roll_of kinds later) index
  seats-again marked seats index = seats index ∙ by (touched index) refl
    where
      untold : touched index ≡ false → mark_told kinds later watchers.markers.frame index ≡ false
      untold away = at (mark_told kinds later watchers.markers.frame index) refl
        where
          at : (b : Bool) → mark_told kinds later watchers.markers.frame index ≡ b → b ≡ false
          at true one = absurd (true≢false (sym (marked index one) ∙ away))
          at false _ = refl

      by : (b : Bool) → touched index ≡ b → with_last (turned (marks_at (roll_of kinds later).marker (behind_themselves (walk touched)))) (λ at. cond (is_one_of (map (λ (pair : ℕ × ℕ). pair.1) (behind_themselves (walk touched))) at) None (seat_at before at)) index ≡ id_at (roll_of kinds later) index
      by true is =
          entered-at (roll_of kinds later).marker (behind_themselves (walk touched)) (seat_at before) index true (walked-is touched low index ∙ is)
          ∙ sym (id-marked (roll_of kinds later) still.roll index)
      by false away =
          entered-at (roll_of kinds later).marker (behind_themselves (walk touched)) (seat_at before) index false (walked-is touched low index ∙ away)
          ∙ full.seats index
          ∙ sym (id-stays kinds book w later stands still below beneath (marker_events_in kinds (later kinds.markers_id)) watchers.markers.frame index (let tells = told.markers in tells.all index) (untold away))

  -- and of the rows, each by what its kind's reader is told
  pub rows-again : (changes : List (RowChange D)) → AreChanges kinds part_of later names watchers.parts.items (length names) changes
      → ((place index : ℕ) → datum_at after place index ≡ row_after (slice_get changes place) (datum_at before place) index)
      → (place : ℕ) → place < length names → (index : ℕ) → IsRowOf kinds part_of later (name_at names place) place after index
  rows-again changes are rows place within index =
      ap (option_map part_of) (rows place index) ∙ by (slice_get changes place) refl
    where
      kind : Name
      kind = name_at names place

      reader : ℕ
      reader = (watcher_at watchers.parts.items place).frame

      missing : (list : List (RowChange D)) (at : ℕ) → at < length list → slice_get list at ≡ None → ⊥
      missing [] at under none = omega (arith, under)
      missing (one ∷ list) zero under none = false≢true (ap is_some (sym none))
      missing (one ∷ list) (suc at) under none = missing list at (omega (arith, under)) none

      changed : (change : RowChange D) → IsChange kinds part_of later kind (part_told kinds later kind reader) change → (b : Bool) → part_told kinds later kind reader index ≡ b
          → option_map part_of (row_after (Some change) (datum_at before place) index) ≡ part_at kinds later index kind
      changed change is true one = change-told kinds part_of later kind (part_told kinds later kind reader) (told-below (events_in kinds kind (later (kinds.part_id kind))) reader) change is (datum_at before place) index one
      changed change is false none =
          ap (option_map part_of) (change-untold kinds part_of later kind (part_told kinds later kind reader) (told-below (events_in kinds kind (later (kinds.part_id kind))) reader) change is (datum_at before place) index none)
          ∙ full.rows place within index
          ∙ sym (part-stays kinds book w later stands still below beneath kind (known place within) told.ages (events_in kinds kind (later (kinds.part_id kind))) reader index (let tells = told.parts place within in tells.all index) none)

      by : (o : Option (RowChange D)) → slice_get changes place ≡ o → option_map part_of (row_after o (datum_at before place) index) ≡ part_at kinds later index kind
      by None none = absurd (missing changes place (subst (λ count. place < count) (sym are.many) within) none)
      by (Some change) there = changed change (are.each place change there) (part_told kinds later kind reader index) refl
