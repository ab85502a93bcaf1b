-- What loops over indices and kinds have done so far.
use Rattle.std.proofs.Common.{◌≡◌, ◌≢◌, ◌<◌, ◌+◌, ◌⊎◌, inl, inr, ℕ, zero, suc, Bool, true, false, cond, eqb, ◌||◌, ◌&&◌, nat_lt, List, [], ◌∷◌, ◌++◌, append_assoc, append-nil, map, length, take, get_or, All, Option, None, Some, is_some, option_map, refl, ap, sym, subst, ◌∙◌, arith}
use Rattle.std.specs.Prelude.{slice_get}
use Rattle.std.specs.List.{filter_map}
use Rattle.std.proofs.Math.Path.{fun_ext}
use Rattle.std.proofs.lemmas.Bool.{false≢true, eqb-true, eq-eqb}
use Rattle.std.proofs.lemmas.List.{take_more, map-append}
use Rattle.std.proofs.lemmas.List.Elements.{filter_map-append, All-head, All-tail}
use Rattle.std.proofs.lemmas.List.Folds.{list_any-append}
use Rattle.hibitset_sets.specs.Walk.{walk}
use Rattle.specs_layouts.specs.Channels.{no_log}
use Rattle.scene_world.specs.Telling.{is_told}
use Rattle.scene_model.specs.Parts.{Name, Part, name_at}
use Rattle.scene_world.specs.Standing.{Sight, Kinds}
use Rattle.scene_commands.specs.declared.watching.Watcher.{Watcher}
use Rattle.scene_commands.specs.Watching.{watcher_at}
use Rattle.scene.specs.Keeping.{part_told}
use Rattle.scene.specs.Rows.{seat_at, datum_at, HasRoom, SameCourse}
use Rattle.scene.specs.declared.snapshot.kept.KeptScene.{KeptScene}
use Rattle.scene.specs.Changes.{IsChange, AreChanges, AreTouched, OnlyTouched, row_after}
use Rattle.scene.specs.Taken.{is_one_of, behind_themselves, marks_at}
use Rattle.scene.specs.declared.changes.RowChange.{RowChange}

-- ---- the members of a set, listed

-- the first of them stand behind themselves, with these left
pub record Listing (members : ℕ → Bool) (items : List (ℕ × ℕ)) (left : List ℕ) : Type 0 where
  pub done : List ℕ
  pub all : done ++ left ≡ walk members
  pub are : items ≡ behind_themselves done

module _ (members : ℕ → Bool) (items : List (ℕ × ℕ)) (left : List ℕ) where
  pub listing-first : left ≡ walk members → items ≡ [] → Listing members items left
  listing-first all none = record { done = []; all = all; are = none }

  module _ (listing : Listing members items left) where
    pub listing-next : (index number : ℕ) (rest : List ℕ) (after : List (ℕ × ℕ)) → left ≡ index ∷ rest → number ≡ index → after ≡ items ++ (number, index) ∷ [] → Listing members after rest
    listing-next index number rest after is same then = record {
      done = listing.done ++ index ∷ [];
      all = append_assoc listing.done (index ∷ []) rest ∙ ap (λ list. listing.done ++ list) (sym is) ∙ listing.all;
      are = then ∙ ap (λ one. items ++ (one, index) ∷ []) same ∙ ap (λ list. list ++ (index, index) ∷ []) listing.are ∙ sym (map-append (λ (one : ℕ). (one, one)) listing.done (index ∷ []));
    }

    pub listing-last : left ≡ [] → items ≡ behind_themselves (walk members)
    listing-last none = listing.are ∙ ap behind_themselves (sym (append-nil listing.done) ∙ ap (λ list. listing.done ++ list) (sym none) ∙ listing.all)

-- ---- sets of what is told

-- of what never writes an event nothing is told
pub none-told : (reader index : ℕ) → is_told no_log reader index ≡ false
none-told reader index = by (nat_lt index 16777216)
  where
    by : (b : Bool) → (b && false) ≡ false
    by true = refl
    by false = refl

-- what a set had, and what was put in
pub from-empty : (has told : Bool) → has ≡ false → (has || told) ≡ told
from-empty has told none = ap (λ b. b || told) none

-- a member of one of two sets that a set can have is one of both together
pub united-left : (low one other : Bool) → low ≡ true → one ≡ true → (low && (one || other)) ≡ true
united-left low one other is there = ap (λ b. b && (one || other)) is ∙ ap (λ b. b || other) there

pub united-right : (low one other : Bool) → low ≡ true → other ≡ true → (low && (one || other)) ≡ true
united-right low one other is there = ap (λ b. b && (one || other)) is ∙ ap (λ b. one || b) there ∙ by one
  where
    by : (b : Bool) → (b || true) ≡ true
    by true = refl
    by false = refl

pub united-low : (low one : Bool) → (low && one) ≡ true → (index : ℕ) → low ≡ nat_lt index 16777216 → index < 16777216
united-low true one both index is = grind (arith, is)
united-low false one both index is = absurd (false≢true both)

pub united-one : (low one : Bool) → (low && one) ≡ true → one ≡ true
united-one true one both = both
united-one false one both = absurd (false≢true both)

-- ---- indices so far

module _ (pairs : List (ℕ × ℕ)) (k : ℕ) (d : ℕ × ℕ) (below : k < length pairs) where
  front : take (k + 1) pairs ≡ take k pairs ++ get_or pairs k d ∷ []
  front = take_more pairs k d below

  -- one index more
  pub one-more : (index : ℕ) → is_one_of (map (λ (pair : ℕ × ℕ). pair.1) (take (k + 1) pairs)) index ≡ (is_one_of (map (λ (pair : ℕ × ℕ). pair.1) (take k pairs)) index || eqb index (get_or pairs k d).1)
  one-more index =
      ap (λ list. is_one_of (map (λ (pair : ℕ × ℕ). pair.1) list) index) front
      ∙ ap (λ list. is_one_of list index) (map-append (λ (pair : ℕ × ℕ). pair.1) (take k pairs) (get_or pairs k d ∷ []))
      ∙ list_any-append (eqb index) (map (λ (pair : ℕ × ℕ). pair.1) (take k pairs)) ((get_or pairs k d).1 ∷ [])
      ∙ ap (λ b. is_one_of (map (λ (pair : ℕ × ℕ). pair.1) (take k pairs)) index || b) (by (eqb index (get_or pairs k d).1))
    where
      by : (b : Bool) → (b || false) ≡ b
      by true = refl
      by false = refl

  -- so what was taken out at the indices so far is taken out at one more
  pub emptied-more : {X : Type 0} (before now after : ℕ → Option X) → ((index : ℕ) → now index ≡ cond (is_one_of (map (λ (pair : ℕ × ℕ). pair.1) (take k pairs)) index) None (before index))
      → ((index : ℕ) → after index ≡ cond (eqb index (get_or pairs k d).1) None (now index))
      → (index : ℕ) → after index ≡ cond (is_one_of (map (λ (pair : ℕ × ℕ). pair.1) (take (k + 1) pairs)) index) None (before index)
  emptied-more {X} before now after was out index =
      out index ∙ ap (cond (eqb index (get_or pairs k d).1) None) (was index)
      ∙ by (eqb index (get_or pairs k d).1) (is_one_of (map (λ (pair : ℕ × ℕ). pair.1) (take k pairs)) index)
      ∙ ap (λ b. cond b None (before index)) (sym (one-more index))
    where
      by : (here among : Bool) → cond here None (cond among None (before index)) ≡ cond (among || here) None (before index)
      by true true = refl
      by true false = refl
      by false true = refl
      by false false = refl

  module _ (marker : ℕ → Option ℕ) (entries : List (ℕ × ℕ)) (so_far : entries ≡ marks_at marker (take k pairs)) where
    marks-front : marks_at marker (take (k + 1) pairs) ≡ marks_at marker (take k pairs) ++ marks_at marker (get_or pairs k d ∷ [])
    marks-front = ap (marks_at marker) front ∙ filter_map-append (λ (pair : ℕ × ℕ). option_map (λ id. (id, pair.1)) (marker pair.1)) (take k pairs) (get_or pairs k d ∷ [])

    -- one id more,
    pub marks-more : (id : ℕ) (after : List (ℕ × ℕ)) → marker (get_or pairs k d).1 ≡ Some id → after ≡ entries ++ (id, (get_or pairs k d).1) ∷ [] → after ≡ marks_at marker (take (k + 1) pairs)
    marks-more id after there then =
        then ∙ ap (λ list. list ++ (id, (get_or pairs k d).1) ∷ []) so_far
        ∙ ap (λ (o : Option ℕ). marks_at marker (take k pairs) ++ filter_map (λ (p : Option (ℕ × ℕ)). p) (option_map (λ id. (id, (get_or pairs k d).1)) o ∷ [])) (sym there)
        ∙ sym marks-front

    -- or an index without one
    pub marks-passed : is_some (marker (get_or pairs k d).1) ≡ false → entries ≡ marks_at marker (take (k + 1) pairs)
    marks-passed none =
        so_far ∙ sym (append-nil (marks_at marker (take k pairs)))
        ∙ ap (λ (o : Option ℕ). marks_at marker (take k pairs) ++ filter_map (λ (p : Option (ℕ × ℕ)). p) (option_map (λ id. (id, (get_or pairs k d).1)) o ∷ [])) (sym (gone (marker (get_or pairs k d).1) none))
        ∙ sym marks-front
      where
        gone : (o : Option ℕ) → is_some o ≡ false → o ≡ None
        gone None is = refl
        gone (Some id) is = absurd (false≢true (sym is))

-- ---- changes so far

module _ {X : Type 0} where
  -- what stands at a place of a list with one more behind
  get-front : (list : List X) (one : X) (place : ℕ) → place < length list → slice_get (list ++ one ∷ []) place ≡ slice_get list place
  get-front [] one place below = absurd (none place below)
    where
      none : (place : ℕ) → place < 0 → ⊥
      none place below = omega (arith, below)
  get-front (first ∷ list) one zero below = refl
  get-front (first ∷ list) one (suc place) below = get-front list one place (omega (arith, below))

  get-last : (list more : List X) (one : X) → slice_get (list ++ one ∷ more) (length list) ≡ Some one
  get-last [] more one = refl
  get-last (first ∷ list) more one = get-last list more one

  get-past : (list : List X) (one : X) (place : ℕ) → length list < place → slice_get (list ++ one ∷ []) place ≡ None
  get-past [] one zero past = absurd (never past)
    where
      never : 0 < 0 → ⊥
      never past = omega (arith, past)
  get-past [] one (suc zero) past = refl
  get-past [] one (suc (suc place)) past = refl
  get-past (first ∷ list) one zero past = absurd (never (length list) past)
    where
      never : (n : ℕ) → suc n < 0 → ⊥
      never n past = omega (arith, past)
  get-past (first ∷ list) one (suc place) past = get-past list one place (omega (arith, past))

module _ {V D : Type 0} (kinds : Kinds V) (part_of : D → Part) (w : Sight V) (names : List Name) (watchers : List Watcher) where
  pub no-changes : (changes : List (RowChange D)) → changes ≡ [] → AreChanges kinds part_of w names watchers 0 changes
  no-changes changes none = subst (AreChanges kinds part_of w names watchers 0) (sym none) (record { many = refl; each = λ place change there. absurd (empty place there) })
    where
      empty : (place : ℕ) {change : RowChange D} → slice_get {X = RowChange D} [] place ≡ Some change → ⊥
      empty zero there = false≢true (ap is_some there)
      empty (suc place) there = false≢true (ap is_some there)

  -- a change more
  pub changes-more : (place : ℕ) (changes after : List (RowChange D)) (change : RowChange D) → AreChanges kinds part_of w names watchers place changes
      → IsChange kinds part_of w (name_at names place) (part_told kinds w (name_at names place) (watcher_at watchers place).frame) change → after ≡ changes ++ change ∷ []
      → AreChanges kinds part_of w names watchers (place + 1) after
  changes-more place changes after change are is then = subst (AreChanges kinds part_of w names watchers (place + 1)) (sym then) (record {
    many = long changes ∙ ap (λ n. n + 1) are.many;
    each = λ at one there. by at one there (eqb at place) refl (nat_lt at place) refl;
  })
    where
      long : (list : List (RowChange D)) → length (list ++ change ∷ []) ≡ length list + 1
      long [] = refl
      long (first ∷ list) = ap suc (long list) ∙ omega arith

      by : (at : ℕ) (one : RowChange D) → slice_get (changes ++ change ∷ []) at ≡ Some one → (b : Bool) → eqb at place ≡ b → (c : Bool) → nat_lt at place ≡ c
          → IsChange kinds part_of w (name_at names at) (part_told kinds w (name_at names at) (watcher_at watchers at).frame) one
      by at one there true same c _ =
          let here : at ≡ place = eqb-true at place same in
          let found : slice_get (changes ++ change ∷ []) at ≡ Some change = ap (slice_get (changes ++ change ∷ [])) (here ∙ sym are.many) ∙ get-last changes [] change in
          let equal : change ≡ one = cc in
          subst (λ n. IsChange kinds part_of w (name_at names n) (part_told kinds w (name_at names n) (watcher_at watchers n).frame) one) (sym here)
          (subst (IsChange kinds part_of w (name_at names place) (part_told kinds w (name_at names place) (watcher_at watchers place).frame)) equal is)
      by at one there false apart true low =
          let under : at < length changes = let many = are.many in grind (arith, low, many) in
          are.each at one (sym (get-front changes change at under) ∙ there)
      by at one there false apart false high =
          let past : length changes < at = let many = are.many in grind (arith, high, many, apart) in
          absurd (false≢true (ap is_some (sym (get-past changes change at past) ∙ there)))

-- the indices of one kind more are touched
pub touched-more : {V : Type 0} (kinds : Kinds V) (w : Sight V) (names : List Name) (watchers : List Watcher) (place : ℕ) (before after : ℕ → Bool) → AreTouched kinds w names watchers place before
    → ((index : ℕ) → before index ≡ true → after index ≡ true) → ((index : ℕ) → part_told kinds w (name_at names place) (watcher_at watchers place).frame index ≡ true → after index ≡ true)
    → AreTouched kinds w names watchers (place + 1) after
touched-more kinds w names watchers place before after were kept told at below index one = by (eqb at place) refl
  where
    by : (b : Bool) → eqb at place ≡ b → after index ≡ true
    by true same =
        let here : at ≡ place = eqb-true at place same in
        told index (subst (λ n. part_told kinds w (name_at names n) (watcher_at watchers n).frame index ≡ true) here one)
    by false apart = kept index (were at (grind (arith, below, apart)) index one)

-- and what is touched more is told at one of them
pub only-more : {V : Type 0} (kinds : Kinds V) (w : Sight V) (names : List Name) (watchers : List Watcher) (place : ℕ) (first before after : ℕ → Bool) → OnlyTouched kinds w names watchers place first before
    → ((index : ℕ) → after index ≡ true → (before index || part_told kinds w (name_at names place) (watcher_at watchers place).frame index) ≡ true)
    → OnlyTouched kinds w names watchers (place + 1) first after
only-more kinds w names watchers place first before after were told index member = by (before index) refl (told index member)
  where
    sooner : (first index ≡ true) ⊎ ((at : ℕ) × (at < place) × (part_told kinds w (name_at names at) (watcher_at watchers at).frame index ≡ true))
        → (first index ≡ true) ⊎ ((at : ℕ) × (at < place + 1) × (part_told kinds w (name_at names at) (watcher_at watchers at).frame index ≡ true))
    sooner (inl is) = inl is
    sooner (inr found) = let below = found.1 in inr (found.0, omega (arith, below), found.2)

    by : (b : Bool) → before index ≡ b → (b || part_told kinds w (name_at names place) (watcher_at watchers place).frame index) ≡ true
        → (first index ≡ true) ⊎ ((at : ℕ) × (at < place + 1) × (part_told kinds w (name_at names at) (watcher_at watchers at).frame index ≡ true))
    by true was _ = sooner (were index was)
    by false away here = inr (place, omega arith, here)

-- ---- changes that are made, from the last on

-- of all changes these are left, and the others are made
pub record Making {D G : Type 0} (all left : List (RowChange D)) (count : ℕ) (old now : KeptScene D G) : Type 0 where
  pub made : List (RowChange D)
  pub split : left ++ made ≡ all
  pub rows : (place index : ℕ) → datum_at now place index ≡ cond (nat_lt place (length left)) (datum_at old place index) (row_after (slice_get all place) (datum_at old place) index)
  pub seats : (index : ℕ) → seat_at now index ≡ seat_at old index
  pub room : HasRoom count now
  pub course : SameCourse old now
  pub changes : now.changes ≡ old.changes

module _ {D G : Type 0} (all left : List (RowChange D)) (count : ℕ) (old now : KeptScene D G) where
  pub making-begins : left ≡ all → now ≡ old → HasRoom count old → Making all left count old now
  making-begins whole same room = subst (Making all left count old) (sym same) (record {
    made = [];
    split = append-nil left ∙ whole;
    rows = λ place index. by place index (nat_lt place (length left)) refl;
    seats = λ index. refl;
    room = room;
    course = record { kinds = refl; next = refl; globals = refl };
    changes = refl;
  })
    where
      past : (list : List (RowChange D)) (place : ℕ) → nat_lt place (length list) ≡ false → slice_get list place ≡ None
      past [] zero high = refl
      past [] (suc place) high = refl
      past (one ∷ list) zero high = let never : zero < length (one ∷ list) = omega arith in absurd (false≢true (sym high ∙ grind (arith, never)))
      past (one ∷ list) (suc place) high = past list place (grind (arith, high))

      by : (place index : ℕ) (b : Bool) → nat_lt place (length left) ≡ b → datum_at old place index ≡ cond b (datum_at old place index) (row_after (slice_get all place) (datum_at old place) index)
      by place index true low = refl
      by place index false high = sym (ap (λ o. row_after o (datum_at old place) index) (ap (λ list. slice_get list place) (sym whole) ∙ past left place high))

  module _ (making : Making all left count old now) (rest : List (RowChange D)) (change : RowChange D) (popped : left ≡ rest ++ change ∷ []) where
    split-on : rest ++ change ∷ making.made ≡ all
    split-on = sym (append_assoc rest (change ∷ []) making.made) ∙ ap (λ list. list ++ making.made) (sym popped) ∙ making.split

    long : length left ≡ length rest + 1
    long = ap length popped ∙ by rest
      where
        by : (list : List (RowChange D)) → length (list ++ change ∷ []) ≡ length list + 1
        by [] = refl
        by (one ∷ list) = ap suc (by list) ∙ omega arith

    -- the change that is made next stands at the place behind those that are left
    at-rest : slice_get all (length rest) ≡ Some change
    at-rest = ap (λ list. slice_get list (length rest)) (sym split-on) ∙ get-last rest making.made change

    pub making-one : (holds : RowChange D → Type 0) → All holds all → holds change
    making-one holds each = by rest (subst (All holds) (sym split-on) each)
      where
        by : (list : List (RowChange D)) → All holds (list ++ change ∷ making.made) → holds change
        by [] each = All-head holds change making.made each
        by (one ∷ list) each = by list (All-tail holds one (list ++ change ∷ making.made) each)

    pub making-within : length rest < length all
    making-within = let total = ap length (sym split-on) in let more = by rest in omega (arith, total, more)
      where
        by : (list : List (RowChange D)) → length (list ++ change ∷ making.made) ≡ length list + suc (length making.made)
        by [] = omega arith
        by (one ∷ list) = let more = ap suc (by list) in omega (arith, more)

    pub making-goes : (after : KeptScene D G) → ((index : ℕ) → datum_at after (length rest) index ≡ row_after (Some change) (datum_at now (length rest)) index)
        → ((other index : ℕ) → other ≢ length rest → datum_at after other index ≡ datum_at now other index) → ((index : ℕ) → seat_at after index ≡ seat_at now index) → HasRoom count after → SameCourse now after → after.changes ≡ now.changes
        → Making all rest count old after
    making-goes after row others seats room course changes = record {
      made = change ∷ making.made;
      split = split-on;
      rows = λ place index. by place index (eqb place (length rest)) refl (nat_lt place (length rest)) refl;
      seats = λ index. seats index ∙ making.seats index;
      room = room;
      course = record { kinds = course.kinds ∙ making.course.kinds; next = course.next ∙ making.course.next; globals = course.globals ∙ making.course.globals };
      changes = changes ∙ making.changes;
    }
      where
        was : (place index : ℕ) (b : Bool) → nat_lt place (length left) ≡ b → datum_at now place index ≡ cond b (datum_at old place index) (row_after (slice_get all place) (datum_at old place) index)
        was place index b is = making.rows place index ∙ ap (λ b. cond b (datum_at old place index) (row_after (slice_get all place) (datum_at old place) index)) is

        by : (place index : ℕ) (b : Bool) → eqb place (length rest) ≡ b → (c : Bool) → nat_lt place (length rest) ≡ c → datum_at after place index ≡ cond c (datum_at old place index) (row_after (slice_get all place) (datum_at old place) index)
        by place index true same true low = let here : place ≡ length rest = eqb-true place (length rest) same in absurd (let under : place < length rest = grind (arith, low) in never place (length rest) here under)
          where
            never : (one other : ℕ) → one ≡ other → one < other → ⊥
            never one other same under = omega (arith, same, under)
        by place index true same false high =
            let here : place ≡ length rest = eqb-true place (length rest) same in
            let low : nat_lt (length rest) (length left) ≡ true = let more = long in grind (arith, more) in
            subst (λ n. datum_at after n index ≡ row_after (slice_get all n) (datum_at old n) index) (sym here)
            (row index ∙ ap (λ before. row_after (Some change) before index) (fun_ext (λ at. was (length rest) at true low)) ∙ ap (λ o. row_after o (datum_at old (length rest)) index) (sym at-rest))
        by place index false apart true low =
            let differ : place ≢ length rest = λ is. false≢true (sym apart ∙ eq-eqb place (length rest) is) in
            let under : nat_lt place (length left) ≡ true = let more = long in grind (arith, low, more) in
            others place index differ ∙ was place index true under
        by place index false apart false high =
            let differ : place ≢ length rest = λ is. false≢true (sym apart ∙ eq-eqb place (length rest) is) in
            let past : nat_lt place (length left) ≡ false = let more = long in grind (arith, high, apart, more) in
            others place index differ ∙ was place index false past

  -- all are made
  pub making-ends : Making all left count old now → left ≡ [] → (place index : ℕ) → datum_at now place index ≡ row_after (slice_get all place) (datum_at old place) index
  making-ends making none place index = making.rows place index ∙ ap (λ b. cond b (datum_at old place index) (row_after (slice_get all place) (datum_at old place) index)) (ap (λ list. nat_lt place (length list)) none ∙ by place)
    where
      by : (place : ℕ) → nat_lt place 0 ≡ false
      by place = grind arith
