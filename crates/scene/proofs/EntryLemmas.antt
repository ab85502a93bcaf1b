-- What holds of pairs, of what is read at them, and of what is kept where the same entries are.
use Rattle.std.proofs.Common.{◌≡◌, ◌<◌, ℕ, zero, suc, List, [], ◌∷◌, map, length, All, Option, None, Some, option_map, refl, ap, sym, subst, ◌∙◌}
use Rattle.std.specs.Prelude.{option_and_then, slice_get}
use Rattle.std.specs.Global.{Vec}
use Rattle.std.specs.List.{cons_option}
use Rattle.std.specs.Ordering.{nat_cmp}
use Rattle.std.specs.FinMap as finite
use Rattle.std.specs.FinMap.{FinMap}
use Rattle.std.proofs.Math.Path.{fun_ext}
use Rattle.std.proofs.lemmas.List.Elements.{All-nil, All-cons, All-head, All-tail}
use Rattle.scene_model.specs.Parts.{Json, Name, Part, place_of}
use Rattle.scene_model.specs.Rulebook.{Book}
use Rattle.scene_model.specs.Slots.{filled}
use Rattle.scene_model.proofs.CallerLemmas.{same_scene}
use Rattle.scene_world.specs.Standing.{Sight, Kinds}
use Rattle.scene_world.specs.Putting.{each_there}
use Rattle.scene_world.proofs.CallerLemmas.{each-mapped}
use Rattle.scene.specs.Rows.{seats_kept, seat_at, datum_at, kinds_kept, IsSettled}
use Rattle.scene.specs.KeptScenes.{with_bearer, bearers_from, bearers, part_kept, kept_scene}
use Rattle.scene.specs.declared.snapshot.kept.KeptScene.{KeptScene}
use Rattle.scene.specs.Keeping.{SameEntries}
use Rattle.scene.specs.Taken.{part_at, AreOfPairs}

-- what holds of everything holds of all
pub All-of : {A : Type 0} (holds : A → Type 0) (list : List A) → ((one : A) → holds one) → All holds list
All-of holds [] each = All-nil holds
All-of holds (one ∷ list) each = All-cons holds one list (each one) (All-of holds list each)

-- indices that are below a number are so behind themselves
pub seconds-behind : (count : ℕ) (pairs : List (ℕ × ℕ)) → All (λ (pair : ℕ × ℕ). pair.1 < count) pairs → All (λ (pair : ℕ × ℕ). pair.1 < count) (map (λ (pair : ℕ × ℕ). (pair.1, pair.1)) pairs)
seconds-behind count [] all = All-nil (λ (pair : ℕ × ℕ). pair.1 < count)
seconds-behind count (pair ∷ pairs) all =
    All-cons (λ (pair : ℕ × ℕ). pair.1 < count) (pair.1, pair.1) (map (λ (pair : ℕ × ℕ). (pair.1, pair.1)) pairs) (All-head (λ (pair : ℕ × ℕ). pair.1 < count) pair pairs all)
    (seconds-behind count pairs (All-tail (λ (pair : ℕ × ℕ). pair.1 < count) pair pairs all))

-- what is read at pairs stands behind the number of one of them
pub read-firsts : {X : Type 0} (read : ℕ → Option X) (pairs : List (ℕ × ℕ)) (holds : ℕ → Type 0) → All (λ (pair : ℕ × ℕ). pair.0 ≡ pair.1) pairs → All (λ (pair : ℕ × ℕ). holds pair.1) pairs → All (λ (one : ℕ × X). holds one.0) (each_there read pairs)
read-firsts {X} read [] holds same all = All-nil (λ (one : ℕ × X). holds one.0)
read-firsts {X} read (pair ∷ pairs) holds same all =
    by (read pair.1) (read-firsts read pairs holds (All-tail (λ (pair : ℕ × ℕ). pair.0 ≡ pair.1) pair pairs same) (All-tail (λ (pair : ℕ × ℕ). holds pair.1) pair pairs all))
  where
    by : (o : Option X) → All (λ (one : ℕ × X). holds one.0) (each_there read pairs) → All (λ (one : ℕ × X). holds one.0) (cons_option (option_map (λ x. (pair.0, x)) o) (each_there read pairs))
    by None rest = rest
    by (Some x) rest = All-cons (λ (one : ℕ × X). holds one.0) (pair.0, x) (each_there read pairs)
        (subst holds (sym (All-head (λ (pair : ℕ × ℕ). pair.0 ≡ pair.1) pair pairs same)) (All-head (λ (pair : ℕ × ℕ). holds pair.1) pair pairs all)) rest

-- what holds of the numbers of what is made of a list holds of those of the list
pub made-firsts : {D X : Type 0} (f : D → X) (holds : ℕ → Type 0) (list : List (ℕ × D)) → All (λ (one : ℕ × X). holds one.0) (map (λ (one : ℕ × D). (one.0, f one.1)) list) → All (λ (one : ℕ × D). holds one.0) list
made-firsts {D} {X} f holds [] all = All-nil (λ (one : ℕ × D). holds one.0)
made-firsts {D} {X} f holds (one ∷ list) all =
    All-cons (λ (one : ℕ × D). holds one.0) one list (All-head (λ (one : ℕ × X). holds one.0) (one.0, f one.1) (map (λ (one : ℕ × D). (one.0, f one.1)) list) all)
    (made-firsts f holds list (All-tail (λ (one : ℕ × X). holds one.0) (one.0, f one.1) (map (λ (one : ℕ × D). (one.0, f one.1)) list) all))

-- so do the data of a kind that were found at pairs
pub found-within : {V D : Type 0} (kinds : Kinds V) (part_of : D → Part) (w : Sight V) (kind : Name) (pairs : List (ℕ × ℕ)) (found : List (ℕ × Option D)) → AreOfPairs kinds part_of w kind pairs found → All (λ (pair : ℕ × ℕ). pair.0 ≡ pair.1) pairs
    → (holds : ℕ → Type 0) → All (λ (pair : ℕ × ℕ). holds pair.1) pairs → All (λ (one : ℕ × D). holds one.0) (each_there (λ (one : Option D). one) found)
found-within {V} {D} kinds part_of w kind pairs found are same holds all =
    made-firsts part_of holds (each_there (λ (one : Option D). one) found)
    (subst (All (λ (one : ℕ × Part). holds one.0)) (sym are ∙ each-mapped part_of (λ (one : Option D). one) found) (read-firsts (λ index. part_at kinds w index kind) pairs holds same all))

-- ---- the same entries

-- seats that are alike at each index have the same bearers
same-bearers : (found : FinMap nat_cmp ℕ) (index : ℕ) (one other : List (Option ℕ)) → ((at : ℕ) → filled (slice_get one at) ≡ filled (slice_get other at)) → bearers_from found index one ≡ bearers_from found index other
same-bearers found index [] [] same = refl
same-bearers found index [] (seat ∷ other) same = ap (λ before. bearers_from before (suc index) []) (ap (with_bearer found index) (same zero)) ∙ same-bearers (with_bearer found index seat) (suc index) [] other (λ at. same (suc at))
same-bearers found index (seat ∷ one) [] same = ap (λ before. bearers_from before (suc index) one) (ap (with_bearer found index) (same zero)) ∙ same-bearers found (suc index) one [] (λ at. same (suc at))
same-bearers found index (seat ∷ one) (here ∷ other) same =
    ap (λ before. bearers_from before (suc index) one) (ap (with_bearer found index) (same zero)) ∙ same-bearers (with_bearer found index here) (suc index) one other (λ at. same (suc at))

-- and where the data are alike too, the same scene is kept
pub same-kept : {D G V : Type 0} (part_of : D → Part) (global_of : G → Json) (value_at : V → ℕ → Option G) (book : Book) (before after : KeptScene D V) → SameEntries before after
    → kept_scene part_of global_of value_at book after ≡ kept_scene part_of global_of value_at book before
same-kept part_of global_of value_at book before after same =
    let bearing : bearers (seats_kept after) ≡ bearers (seats_kept before) = same-bearers finite.empty 0 (seats_kept after) (seats_kept before) same.seats in
    let course = same.course in
    same_scene (kept_scene part_of global_of value_at book after) (kept_scene part_of global_of value_at book before) course.next (ap finite.keys bearing)
    (λ id kind.
    ap (λ (found : FinMap nat_cmp ℕ). option_and_then (λ index. part_kept part_of book after index kind) (finite.get found id)) bearing
    ∙ ap (λ (part : ℕ → Option Part). option_and_then part (finite.get (bearers (seats_kept before)) id))
    (fun_ext (λ index. ap (option_map part_of) (at (place_of kind book.part_names) index))))
    (λ name. ap (λ globals. option_map global_of (option_and_then (value_at globals) (place_of name book.global_names))) course.globals)
  where
    at : (place : Option ℕ) (index : ℕ) → option_and_then (λ place. datum_at after place index) place ≡ option_and_then (λ place. datum_at before place index) place
    at None index = refl
    at (Some place) index = same.rows place index

-- the entries and rows are those of before, where next id and globals became others
module _ {D G : Type 0} (before after : KeptScene D G) (next : ℕ) (globals : G) (is : IsSettled before next globals after) where
  pub settled-seats : (index : ℕ) → seat_at after index ≡ seat_at before index
  settled-seats index = ap (λ (seats : Vec (Option ℕ)). filled (slice_get seats.items index)) is.seats

  pub settled-rows : (place index : ℕ) → datum_at after place index ≡ datum_at before place index
  settled-rows place index = ap (λ (columns : Vec (Vec (Option D))). option_and_then (λ column. filled (slice_get column.items index)) (slice_get columns.items place)) is.columns

  pub settled-kinds : kinds_kept after ≡ kinds_kept before
  settled-kinds = ap (λ (columns : Vec (Vec (Option D))). length columns.items) is.columns
