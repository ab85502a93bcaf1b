-- Lemmas on what is kept of a world: of who lives, of the rows of kinds, and of the scene.
use Rattle.std.proofs.Common.{◌≡◌, ◌≢◌, ◌⊎◌, inl, inr, ◌<◌, ◌≤◌, ◌+◌, ℕ, take, get_or, Bool, true, false, cond, eqb, ◌||◌, List, [], ◌∷◌, ◌++◌, append_assoc, append-nil, map, length, All, Option, Some, None, IsSome, is_some, option_map, refl, ap, sym, subst, ◌∙◌, arith}
use Rattle.std.specs.Prelude.{option_and_then, slice_get}
use Rattle.std.specs.List.{list_any, cons_option, filter, range_with_len}
use Rattle.std.specs.Global.{Vec}
use Rattle.std.specs.FinMap as finite
use Rattle.std.proofs.lemmas.Bool.{false≢true, eqb-true, eq-eqb}
use Rattle.std.proofs.lemmas.List.Elements.{All-nil, All-cons, All-head, All-tail, All-push, All-weaker, All-map, filter_map-append}
use Rattle.std.proofs.lemmas.Option.{same_Some}
use Rattle.std.proofs.lemmas.List.{map-append, take_more, length-map, length-append}
use Rattle.std.proofs.lemmas.List.FromFn.{length-range_with_len}
use Rattle.std.proofs.lemmas.List.Sums.{length-filter, count_by-le-length}
use Rattle.hibitset_sets.specs.BitSet.{has_member}
use Rattle.hibitset_sets.specs.Walk.{walk}
use Rattle.hibitset_sets.proofs.CallerLemmas.{any-walk, members-walked}
use Rattle.specs_entity.specs.Births.{living}
use Rattle.specs_entity.specs.Life.{Life, LifeAt}
use Rattle.specs_layouts.specs.Flagged.{Flagged}
use Rattle.specs_layouts.specs.Masked.{Masked, Agrees}
use Rattle.specs_layouts.specs.declared.storages.vec.VecStorage.{VecStorage}
use Rattle.scene_world.specs.Markers.{marker_at}
use Rattle.scene_model.specs.Parts.{Json, Name, Part, is_among, place_of, name_at, living as reaching}
use Rattle.scene_model.specs.Rulebook.{Book}
use Rattle.scene_model.specs.Scenes.{RefLives}
use Rattle.scene_model.specs.Slots.{filled}
use Rattle.scene_model.proofs.CallerLemmas.{same-ids}
use Rattle.scene_model.proofs.NameLemmas.{place_of-bound, place_of-name}
use Rattle.scene_document.proofs.CallerLemmas.{is_some-place_of}
use Rattle.scene_world.specs.Stored.{Stored, part_under, part_with}
use Rattle.scene_world.specs.Rolls.{Roll, IsRoll, id_at, index_of, ids_in, ref_to, reference, part_in, is_life}
use Rattle.scene_world.specs.Standing.{Sight, Kinds, roll_of, column_of, value_of, plain_of, IsSceneWorld}
use Rattle.scene_world.proofs.CallerLemmas.{id-at-index, lives-index, ids-ascend, index-of-id}
use Rattle.scene_world.specs.Putting.{named_in, part_read, each_there, AreReadAt}
use Rattle.scene_world.proofs.CallerLemmas.{each-same, each-none, each-mapped}
use Rattle.scene.specs.Rows.{seats_kept, seat_at, datum_at, HasRoom, SameCourse}
use Rattle.scene.specs.KeptScenes.{bearers, part_kept, kept_scene}
use Rattle.scene.specs.declared.snapshot.kept.KeptScene.{KeptScene}
use Rattle.scene.proofs.CallerLemmas.{kept-scene-is, bearer-none, bearer-one}
use Rattle.scene.specs.Taken.{AreMarkedBy, AreMarkersOf, IsAmong, ArePairs, turned, with_last, part_at, AreOfPairs, IsRowOf, AreRowsOf}
use Rattle.scene.proofs.KeptPlaceLemmas.{by-name, keys-ascend, keys-there}

-- ---- references

reached : (alive there : Bool) (marker : Option ℕ) (id : ℕ) (ids : List ℕ) → marker ≡ Some id → RefLives ids (reference (cond alive (cond there marker None) None)) → reference (cond alive (cond there marker None) None) ≡ reaching id
reached true true marker id ids is living_it = ap reference is
reached true false marker id ids is living_it = absurd living_it
reached false there marker id ids is living_it = absurd living_it

pub some-of : {A : Type 0} (o : Option A) → IsSome o → (a : A) × (o ≡ Some a)
some-of None e = absurd (false≢true e)
some-of (Some a) e = (a, refl)

module _ (roll : Roll) where
  -- references that all live are to the ids with which the indices of their entities are marked
  all-reached : (named : List LifeAt) (ids : List ℕ) → AreMarkedBy roll named ids → All (RefLives (ids_in roll)) (map (ref_to roll) named) → map (ref_to roll) named ≡ map (λ id. reaching id) ids
  all-reached [] [] marked living_them = refl
  all-reached [] (id ∷ ids) marked living_them = absurd (cc)
  all-reached (entity ∷ named) [] marked living_them = absurd (cc)
  all-reached (entity ∷ named) (id ∷ ids) marked living_them =
      let at : roll.marker entity.id ≡ Some id = cc in
      let later : AreMarkedBy roll named ids = cc in
      let one : ref_to roll entity ≡ reaching id = reached (is_life entity.generation (living roll.births entity.id)) (is_some (living roll.births entity.id)) (roll.marker entity.id) id (ids_in roll) at (All-head (RefLives (ids_in roll)) (ref_to roll entity) (map (ref_to roll) named) living_them) in
      let others : map (ref_to roll) named ≡ map (λ id. reaching id) ids = all-reached named ids later (All-tail (RefLives (ids_in roll)) (ref_to roll entity) (map (ref_to roll) named) living_them) in
      ap (λ first. first ∷ map (ref_to roll) named) one ∙ ap (λ rest. reaching id ∷ rest) others

  -- so what is read with these ids is the part
  pub read-part : (stored : Option Stored) (ids : List ℕ) → AreMarkedBy roll (named_in stored) ids → ((one : Stored) → stored ≡ Some one → All (RefLives (ids_in roll)) (map (ref_to roll) one.named))
      → option_map (part_read ids) stored ≡ option_map (part_under (ref_to roll)) stored
  read-part None ids marked living_them = refl
  read-part (Some one) ids marked living_them = ap (λ refs. Some (part_with one.written refs)) (sym (all-reached one.named ids marked (living_them one refl)))

module _ {V : Type 0} (kinds : Kinds V) (book : Book) (w : Sight V) (stands : IsSceneWorld kinds book w) where
  -- what is stored in a column refers to those who live
  pub stored-live : (kind : Name) → is_among kind kinds.part_names ≡ true → (index : ℕ) (one : Stored) → column_of kinds w kind index ≡ Some one → All (RefLives (ids_in (roll_of kinds w))) (map (ref_to (roll_of kinds w)) one.named)
  stored-live kind known index one there =
      let roll : Roll = roll_of kinds w in
      let life = some-of (living roll.births index) (stands.within kind known index (ap is_some there)) in
      let marked = stands.roll.marked index life.0 life.1 in
      let at : id_at roll index ≡ Some marked.0 = ap (λ o. cond (is_some o) (roll.marker index) None) life.1 ∙ marked.1.marker in
      let known_at : index_of roll marked.0 ≡ Some index = index-of-id roll stands.roll marked.0 index at in
      stands.proper.living marked.0 kind (part_under (ref_to roll) one) (lives-index roll marked.0 ∙ ap is_some known_at)
      (ap (λ b. cond b (part_in roll (column_of kinds w kind) marked.0) None) known
      ∙ ap (option_and_then (λ at. option_map (part_under (ref_to roll)) (column_of kinds w kind at))) known_at ∙ ap (option_map (part_under (ref_to roll))) there)

-- ---- lists that loops make

-- the items before a place, and the one there
pub front-more : {B C : Type 0} (g : B → C) (items : List B) (k : ℕ) (d : B) → k < length items → map g (take (k + 1) items) ≡ map g (take k items) ++ g (get_or items k d) ∷ []
front-more g items k d below = ap (map g) (take_more items k d below) ∙ map-append g (take k items) (get_or items k d ∷ [])

-- ---- who lives

-- of some numbers no more pass than there are
passing-few : (members : ℕ → Bool) (n : ℕ) → length (filter members (range_with_len 0 n)) ≤ n
passing-few members n =
    let less = count_by-le-length members (range_with_len 0 n) in
    omega (arith, less, length-filter members (range_with_len 0 n), length-range_with_len 0 n)

-- so a set has no more members than indices below its end
pub walk-few : (members : ℕ → Bool) → length (walk members) ≤ 16777216
unfolding walk
walk-few members = passing-few members 16777216

-- markers of which each is that of somebody who lives are all that there are
module _ (roll : Roll) (is : IsRoll roll) (markers : Masked (Flagged (VecStorage ℕ))) (of : (index : ℕ) → roll.marker index ≡ marker_at markers index) where
  marked-lives : (index id : ℕ) → marker_at markers index ≡ Some id → id_at roll index ≡ Some id
  marked-lives index id there = by (living roll.births index) refl
    where
      by : (life : Option Life) → living roll.births index ≡ life → cond (is_some life) (roll.marker index) None ≡ Some id
      by None none = absurd (false≢true (sym (ap is_some (is.unmarked index none)) ∙ ap is_some (of index ∙ there)))
      by (Some life) some = of index ∙ there

  lives-marked : (index : ℕ) → IsSome (id_at roll index) → IsSome (marker_at markers index)
  lives-marked index some = by (living roll.births index) some
    where
      by : (life : Option Life) → IsSome (cond (is_some life) (roll.marker index) None) → IsSome (marker_at markers index)
      by None none = absurd (false≢true none)
      by (Some life) there = sym (ap is_some (of index)) ∙ there

  pub all-pairs : (pairs : List (ℕ × ℕ)) → AreMarkersOf markers pairs → ArePairs roll pairs
  all-pairs pairs are = record {
    each = All-weaker (λ pair. marker_at markers pair.1 ≡ Some pair.0) (λ pair. id_at roll pair.1 ≡ Some pair.0) (λ pair. marked-lives pair.1 pair.0) pairs are.each;
    below = are.below;
    all = λ index some. are.all index (lives-marked index some);
    few = are.few;
  }

module _ (markers : Masked (Flagged (VecStorage ℕ))) where
  -- the pairs so far are markers, with the indices that are to come they are all, and at each of these is one
  pub record Pairing (pairs : List (ℕ × ℕ)) (left : List ℕ) : Type 0 where
    pub each : All (λ pair. marker_at markers pair.1 ≡ Some pair.0) pairs
    pub all : map (λ pair. pair.1) pairs ++ left ≡ walk (has_member markers.mask)
    pub there : All (λ index. IsSome (marker_at markers index)) left

  pub pairing-first : (left : List ℕ) → left ≡ walk (has_member markers.mask) → Agrees markers.mask (marker_at markers) → (pairs : List (ℕ × ℕ)) → pairs ≡ [] → Pairing pairs left
  pairing-first left is agree pairs none = subst (λ list. Pairing list left) (sym none) (record {
    each = All-nil (λ pair. marker_at markers pair.1 ≡ Some pair.0);
    all = is;
    there = subst (All (λ index. IsSome (marker_at markers index))) (sym is)
        (All-weaker (λ index. has_member markers.mask index ≡ true) (λ index. IsSome (marker_at markers index)) (λ index member. sym (agree index) ∙ member) (walk (has_member markers.mask)) (members-walked (has_member markers.mask)));
  })

  module _ (pairs : List (ℕ × ℕ)) (left : List ℕ) (pairing : Pairing pairs left) where
    pub pairing-last : left ≡ [] → Agrees markers.mask (marker_at markers) → ((index : ℕ) → has_member markers.mask index ≡ true → index < 16777216) → AreMarkersOf markers pairs
    pairing-last none agree range = record {
      each = pairing.each;
      below = All-weaker (λ pair. marker_at markers pair.1 ≡ Some pair.0) (λ pair. pair.1 < 16777216) (λ pair there. range pair.1 (agree pair.1 ∙ ap is_some there)) pairs pairing.each;
      all = λ index some.
          let member : has_member markers.mask index ≡ true = agree index ∙ some in
          ap (list_any (eqb index)) (sym (append-nil (map (λ pair. pair.1) pairs)) ∙ sym (ap (λ rest. map (λ pair. pair.1) pairs ++ rest) none) ∙ pairing.all)
          ∙ any-walk (has_member markers.mask) index (range index member) member;
      few = let total : length pairs + length left ≡ length (walk (has_member markers.mask)) =
          sym (ap (λ n. n + length left) (length-map pairs (λ (pair : ℕ × ℕ). pair.1))) ∙ sym (length-append (map (λ pair. pair.1) pairs) left) ∙ ap length pairing.all in
          let small = walk-few (has_member markers.mask) in
          omega (arith, total, small);
    }

    module _ (index : ℕ) (rest : List ℕ) (is : left ≡ index ∷ rest) where
      there-now : All (λ one. IsSome (marker_at markers one)) (index ∷ rest)
      there-now = subst (All (λ one. IsSome (marker_at markers one))) is pairing.there

      pub pairing-there : IsSome (marker_at markers index)
      pairing-there = All-head (λ one. IsSome (marker_at markers one)) index rest there-now

      pub pairing-next : (id : ℕ) (after : List (ℕ × ℕ)) → marker_at markers index ≡ Some id → after ≡ pairs ++ (id, index) ∷ [] → Pairing after rest
      pairing-next id after there then = subst (λ list. Pairing list rest) (sym then) (record {
        each = All-push (λ pair. marker_at markers pair.1 ≡ Some pair.0) pairs (id, index) pairing.each there;
        all = ap (λ front. front ++ rest) (map-append (λ pair. pair.1) pairs ((id, index) ∷ [])) ∙ append_assoc (map (λ pair. pair.1) pairs) (index ∷ []) rest ∙ sym (ap (λ list. map (λ pair. pair.1) pairs ++ list) is) ∙ pairing.all;
        there = All-tail (λ one. IsSome (marker_at markers one)) index rest there-now;
      })

-- ---- what stands behind numbers

module _ {X : Type 0} where
  -- one more is the last
  pub last-more : (done : List (ℕ × X)) (one : ℕ × X) (before : ℕ → Option X) (number : ℕ) → with_last (done ++ one ∷ []) before number ≡ cond (eqb number one.0) (Some one.1) (with_last done before number)
  last-more [] one before number = refl
  last-more (first ∷ done) one before number = last-more done one (λ other. cond (eqb other first.0) (Some first.1) (before other)) number

  module _ (read : ℕ → Option X) (number : ℕ) where
    -- where each is what is read of its number, nothing is found of a number of which nothing is read,
    pub last-none : (list : List (ℕ × X)) (before : ℕ → Option X) → All (λ one. read one.0 ≡ Some one.1) list → read number ≡ None → before number ≡ None → with_last list before number ≡ None
    last-none [] before each none was = was
    last-none (one ∷ others) before each none was =
        last-none others (λ other. cond (eqb other one.0) (Some one.1) (before other)) (All-tail (λ one. read one.0 ≡ Some one.1) one others each) none (by (eqb number one.0) refl)
      where
        by : (b : Bool) → eqb number one.0 ≡ b → cond b (Some one.1) (before number) ≡ None
        by true same = absurd (false≢true (ap is_some (sym none ∙ ap read (eqb-true number one.0 same) ∙ All-head (λ one. read one.0 ≡ Some one.1) one others each)))
        by false apart = was

    -- and of one among them what is read
    pub last-some : (x : X) → read number ≡ Some x → (list : List (ℕ × X)) (before : ℕ → Option X) → All (λ one. read one.0 ≡ Some one.1) list
        → (before number ≡ Some x) ⊎ IsAmong (map (λ one. one.0) list) number → with_last list before number ≡ Some x
    last-some x some [] before each (inl was) = was
    last-some x some [] before each (inr among_them) = absurd (false≢true among_them)
    last-some x some (one ∷ others) before each either =
        last-some x some others (λ other. cond (eqb other one.0) (Some one.1) (before other)) (All-tail (λ one. read one.0 ≡ Some one.1) one others each) (by (eqb number one.0) refl either)
      where
        by : (b : Bool) → eqb number one.0 ≡ b → (before number ≡ Some x) ⊎ IsAmong (map (λ one. one.0) (one ∷ others)) number
            → (cond (eqb number one.0) (Some one.1) (before number) ≡ Some x) ⊎ IsAmong (map (λ one. one.0) others) number
        by true same rest =
            inl (ap (λ b. cond b (Some one.1) (before number)) same ∙ sym (All-head (λ one. read one.0 ≡ Some one.1) one others each) ∙ ap read (sym (eqb-true number one.0 same)) ∙ some)
        by false apart (inl was) = inl (ap (λ b. cond b (Some one.1) (before number)) apart ∙ was)
        by false apart (inr among_them) = inr (sym (ap (λ b. b || list_any (eqb number) (map (λ one. one.0) others)) apart) ∙ among_them)

    pub last-read : (list : List (ℕ × X)) (before : ℕ → Option X) → All (λ one. read one.0 ≡ Some one.1) list → before number ≡ None → (IsSome (read number) → IsAmong (map (λ one. one.0) list) number)
        → with_last list before number ≡ read number
    last-read list before each bare known = by (read number) refl
      where
        by : (o : Option X) → read number ≡ o → with_last list before number ≡ read number
        by None none = last-none list before each none bare ∙ sym none
        by (Some x) some = last-some x some list before each (inr (known (ap is_some some))) ∙ sym some

-- what is made of what stands behind a number stands behind it among what is made
last-mapped : {D X : Type 0} (f : D → X) (list : List (ℕ × D)) (before : ℕ → Option D) (number : ℕ) → option_map f (with_last list before number) ≡ with_last (map (λ one. (one.0, f one.1)) list) (λ other. option_map f (before other)) number
last-mapped f [] before number = refl
last-mapped {D} {X} f (one ∷ others) before number =
    last-mapped f others (λ other. cond (eqb other one.0) (Some one.1) (before other)) number
    ∙ ap (λ was. with_last (map (λ one. (one.0, f one.1)) others) was number) (λ i other. by (eqb other one.0) (before other) i)
  where
    by : (b : Bool) (o : Option D) → option_map f (cond b (Some one.1) o) ≡ cond b (Some (f one.1)) (option_map f o)
    by true o = refl
    by false o = refl

-- what is read at indices that stand behind themselves
module _ {X : Type 0} (read : ℕ → Option X) where
  read-each : (places : List (ℕ × ℕ)) → All (λ pair. pair.0 ≡ pair.1) places → All (λ one. read one.0 ≡ Some one.1) (each_there read places)
  read-each [] same = All-nil (λ one. read one.0 ≡ Some one.1)
  read-each (pair ∷ pairs) same = by (read-each pairs (All-tail (λ pair. pair.0 ≡ pair.1) pair pairs same)) (read pair.1) refl
    where
      by : All (λ one. read one.0 ≡ Some one.1) (each_there read pairs) → (o : Option X) → read pair.1 ≡ o → All (λ one. read one.0 ≡ Some one.1) (cons_option (option_map (λ x. (pair.0, x)) o) (each_there read pairs))
      by later None is = later
      by later (Some x) is = All-cons (λ one. read one.0 ≡ Some one.1) (pair.0, x) (each_there read pairs) (ap read (All-head (λ pair. pair.0 ≡ pair.1) pair pairs same) ∙ is) later

  read-among : (number : ℕ) (places : List (ℕ × ℕ)) → All (λ pair. pair.0 ≡ pair.1) places → IsSome (read number) → IsAmong (map (λ pair. pair.1) places) number → IsAmong (map (λ one. one.0) (each_there read places)) number
  read-among number [] same some among_them = absurd (false≢true among_them)
  read-among number (pair ∷ pairs) same some among_them = by (read-among number pairs (All-tail (λ pair. pair.0 ≡ pair.1) pair pairs same) some) (eqb number pair.1) refl (read pair.1) refl among_them
    where
      or-true : (b : Bool) → (b || true) ≡ true
      or-true true = refl
      or-true false = refl

      by : (IsAmong (map (λ pair. pair.1) pairs) number → IsAmong (map (λ one. one.0) (each_there read pairs)) number) → (b : Bool) → eqb number pair.1 ≡ b → (o : Option X) → read pair.1 ≡ o
          → (eqb number pair.1 || list_any (eqb number) (map (λ pair. pair.1) pairs)) ≡ true
          → IsAmong (map (λ one. one.0) (cons_option (option_map (λ x. (pair.0, x)) o) (each_there read pairs))) number
      by later true here None none rest = absurd (false≢true (sym (ap is_some (ap read (eqb-true number pair.1 here) ∙ none)) ∙ some))
      by later true here (Some x) is rest =
          ap (λ b. b || list_any (eqb number) (map (λ one. one.0) (each_there read pairs))) (eq-eqb number pair.0 (eqb-true number pair.1 here ∙ sym (All-head (λ pair. pair.0 ≡ pair.1) pair pairs same)))
      by later false apart None none rest = later (sym (ap (λ b. b || list_any (eqb number) (map (λ pair. pair.1) pairs)) apart) ∙ rest)
      by later false apart (Some x) is rest =
          ap (λ b. eqb number pair.0 || b) (later (sym (ap (λ b. b || list_any (eqb number) (map (λ pair. pair.1) pairs)) apart) ∙ rest)) ∙ or-true (eqb number pair.0)

  -- so they are found where nothing stood before
  pub row-read : {D : Type 0} (f : D → X) (found : List (ℕ × Option D)) (places : List (ℕ × ℕ)) (before : ℕ → Option D) → each_there (option_map f) found ≡ each_there read places → All (λ pair. pair.0 ≡ pair.1) places
      → (number : ℕ) → before number ≡ None → (IsSome (read number) → IsAmong (map (λ pair. pair.1) places) number) → option_map f (with_last (each_there (λ one. one) found) before number) ≡ read number
  row-read f found places before same behind number bare known =
      last-mapped f (each_there (λ one. one) found) before number ∙ ap (λ list. with_last list (λ other. option_map f (before other)) number) (sym (each-mapped f (λ one. one) found) ∙ same)
      ∙ last-read read number (each_there read places) (λ other. option_map f (before other)) (read-each places behind) (ap (option_map f) bare) (λ some. read-among number places behind some (known some))

pub no-items : {A : Type 0} (items : List A) → length items ≡ 0 → items ≡ []
no-items [] none = refl
no-items (item ∷ items) none = absurd (omega (arith, none))

-- ---- what is written into a row

each-append : {D : Type 0} (done more : List (ℕ × Option D)) → each_there (λ (one : Option D). one) (done ++ more) ≡ each_there (λ one. one) done ++ each_there (λ one. one) more
each-append done more = filter_map-append (λ item. option_map (λ datum. (item.0, datum)) item.1) done more

-- of what was found so much is written, with these left
pub record Writing {D G : Type 0} (found left : List (ℕ × Option D)) (place count : ℕ) (old now : KeptScene D G) : Type 0 where
  pub done : List (ℕ × Option D)
  pub split : done ++ left ≡ found
  pub row : (index : ℕ) → datum_at now place index ≡ with_last (each_there (λ one. one) done) (datum_at old place) index
  pub others : (other index : ℕ) → other ≢ place → datum_at now other index ≡ datum_at old other index
  pub seats : (index : ℕ) → seat_at now index ≡ seat_at old index
  pub room : HasRoom count now
  pub course : SameCourse old now
  pub changes : now.changes ≡ old.changes

module _ {D G : Type 0} (found left : List (ℕ × Option D)) (place count : ℕ) (old now : KeptScene D G) where
  pub writing-begins : left ≡ found → now ≡ old → HasRoom count old → Writing found left place count old now
  writing-begins all same room = subst (Writing found left place count old) (sym same) (record {
    done = [];
    split = all;
    row = λ index. refl;
    others = λ other index differ. refl;
    seats = λ index. refl;
    room = room;
    course = record { kinds = refl; next = refl; globals = refl };
    changes = refl;
  })

  module _ (writing : Writing found left place count old now) where
    -- all is written
    pub writing-ends : left ≡ [] → (index : ℕ) → datum_at now place index ≡ with_last (each_there (λ one. one) found) (datum_at old place) index
    writing-ends none index =
        writing.row index
        ∙ ap (λ done. with_last (each_there (λ one. one) done) (datum_at old place) index) (sym (append-nil writing.done) ∙ ap (λ rest. writing.done ++ rest) (sym none) ∙ writing.split)

    module _ (number : ℕ) (rest : List (ℕ × Option D)) where
      split-on : (one : ℕ × Option D) → left ≡ one ∷ rest → (writing.done ++ one ∷ []) ++ rest ≡ found
      split-on one is = append_assoc writing.done (one ∷ []) rest ∙ ap (λ list. writing.done ++ list) (sym is) ∙ writing.split

      -- an item without a datum is passed over,
      pub writing-passes : left ≡ (number, None) ∷ rest → Writing found rest place count old now
      writing-passes is = record {
        done = writing.done ++ (number, None) ∷ [];
        split = split-on (number, None) is;
        row = λ index.
            writing.row index ∙ ap (λ list. with_last list (datum_at old place) index) (sym (append-nil (each_there (λ one. one) writing.done)) ∙ sym (each-append writing.done ((number, None) ∷ [])));
        others = writing.others;
        seats = writing.seats;
        room = writing.room;
        course = writing.course;
        changes = writing.changes;
      }

      -- and one with a datum is written
      pub writing-goes : (datum : D) (after : KeptScene D G) → left ≡ (number, Some datum) ∷ rest
          → ((at other : ℕ) → datum_at after at other ≡ cond (eqb at place) (cond (eqb other number) (Some datum) (datum_at now at other)) (datum_at now at other))
          → ((other : ℕ) → seat_at after other ≡ seat_at now other) → SameCourse now after → ((count : ℕ) → HasRoom count now → HasRoom count after) → after.changes ≡ now.changes → Writing found rest place count old after
      writing-goes datum after is rows seats course room changes = record {
        done = writing.done ++ (number, Some datum) ∷ [];
        split = split-on (number, Some datum) is;
        row = λ index.
            rows place index ∙ ap (λ b. cond b (cond (eqb index number) (Some datum) (datum_at now place index)) (datum_at now place index)) (eq-eqb place place refl)
            ∙ ap (cond (eqb index number) (Some datum)) (writing.row index) ∙ sym (last-more (each_there (λ one. one) writing.done) (number, datum) (datum_at old place) index)
            ∙ ap (λ list. with_last list (datum_at old place) index) (sym (each-append writing.done ((number, Some datum) ∷ [])));
        others = λ other index differ.
            rows other index ∙ ap (λ b. cond b (cond (eqb index number) (Some datum) (datum_at now other index)) (datum_at now other index)) (unlike other differ (eqb other place) refl)
            ∙ writing.others other index differ;
        seats = λ index. seats index ∙ writing.seats index;
        room = room count writing.room;
        course = record { kinds = course.kinds ∙ writing.course.kinds; next = course.next ∙ writing.course.next; globals = course.globals ∙ writing.course.globals };
        changes = changes ∙ writing.changes;
      }
        where
          unlike : (other : ℕ) → other ≢ place → (b : Bool) → eqb other place ≡ b → eqb other place ≡ false
          unlike other differ true same = absurd (differ (eqb-true other place same))
          unlike other differ false apart = apart

-- what holds of each datum that was found holds of one of them
pub found-there : {D : Type 0} (holds : ℕ × D → Type 0) (done : List (ℕ × Option D)) (number : ℕ) (datum : D) (rest : List (ℕ × Option D)) → All holds (each_there (λ (one : Option D). one) (done ++ (number, Some datum) ∷ rest)) → holds (number, datum)
found-there holds [] number datum rest all = All-head holds (number, datum) (each_there (λ one. one) rest) all
found-there {D} holds (one ∷ done) number datum rest all = by (found-there holds done number datum rest) one.1 all
  where
    by : (All holds (each_there (λ (one : Option D). one) (done ++ (number, Some datum) ∷ rest)) → holds (number, datum)) → (o : Option D)
        → All holds (cons_option (option_map (λ x. (one.0, x)) o) (each_there (λ (one : Option D). one) (done ++ (number, Some datum) ∷ rest))) → holds (number, datum)
    by later None all = later all
    by later (Some x) all = later (All-tail holds (one.0, x) (each_there (λ one. one) (done ++ (number, Some datum) ∷ rest)) all)

-- ids that are entered at the indices of those who live are theirs
pub seats-kept : (roll : Roll) (pairs : List (ℕ × ℕ)) (before : ℕ → Option ℕ) → ArePairs roll pairs → ((index : ℕ) → before index ≡ None) → (index : ℕ) → with_last (turned pairs) before index ≡ id_at roll index
seats-kept roll pairs before are bare index =
    last-read (id_at roll) index (turned pairs) before (each-turned pairs are.each) (bare index) (λ some. ap (list_any (eqb index)) (firsts pairs) ∙ are.all index some)
  where
    each-turned : (pairs : List (ℕ × ℕ)) → All (λ pair. id_at roll pair.1 ≡ Some pair.0) pairs → All (λ (one : ℕ × ℕ). id_at roll one.0 ≡ Some one.1) (map (λ (pair : ℕ × ℕ). (pair.1, pair.0)) pairs)
    each-turned [] each = All-nil (λ (one : ℕ × ℕ). id_at roll one.0 ≡ Some one.1)
    each-turned (pair ∷ pairs) each =
        All-cons (λ (one : ℕ × ℕ). id_at roll one.0 ≡ Some one.1) (pair.1, pair.0) (map (λ (pair : ℕ × ℕ). (pair.1, pair.0)) pairs) (All-head (λ pair. id_at roll pair.1 ≡ Some pair.0) pair pairs each)
        (each-turned pairs (All-tail (λ pair. id_at roll pair.1 ≡ Some pair.0) pair pairs each))

    firsts : (pairs : List (ℕ × ℕ)) → map (λ (one : ℕ × ℕ). one.0) (map (λ (pair : ℕ × ℕ). (pair.1, pair.0)) pairs) ≡ map (λ pair. pair.1) pairs
    firsts [] = refl
    firsts (pair ∷ pairs) = ap (λ rest. pair.1 ∷ rest) (firsts pairs)

-- nobody lives past the indices of pairs that are all who live
pub below-pairs : (roll : Roll) (pairs : List (ℕ × ℕ)) → ArePairs roll pairs → (index : ℕ) → IsSome (id_at roll index) → index < 16777216
below-pairs roll pairs are index some = by pairs are.below (are.all index some)
  where
    by : (list : List (ℕ × ℕ)) → All (λ (pair : ℕ × ℕ). pair.1 < 16777216) list → IsAmong (map (λ (pair : ℕ × ℕ). pair.1) list) index → index < 16777216
    by [] all among = absurd (false≢true among)
    by (pair ∷ list) all among = at (eqb index pair.1) refl among (by list (All-tail (λ (pair : ℕ × ℕ). pair.1 < 16777216) pair list all))
      where
        at : (b : Bool) → eqb index pair.1 ≡ b → (b || list_any (eqb index) (map (λ (pair : ℕ × ℕ). pair.1) list)) ≡ true → (IsAmong (map (λ (pair : ℕ × ℕ). pair.1) list) index → index < 16777216) → index < 16777216
        at true same _ rest = subst (λ i. i < 16777216) (sym (eqb-true index pair.1 same)) (All-head (λ (pair : ℕ × ℕ). pair.1 < 16777216) pair list all)
        at false apart among rest = rest among

-- a part stands where somebody lives, and so at the index of one of these pairs
pub part-among : {V : Type 0} (kinds : Kinds V) (book : Book) (w : Sight V) → IsSceneWorld kinds book w → (pairs : List (ℕ × ℕ)) → ArePairs (roll_of kinds w) pairs → (kind : Name) → is_among kind kinds.part_names ≡ true
    → (index : ℕ) → IsSome (part_at kinds w index kind) → IsAmong (map (λ (pair : ℕ × ℕ). pair.1) pairs) index
part-among kinds book w stands pairs are kind known index some = by (column_of kinds w kind index) refl some
  where
    by : (o : Option Stored) → column_of kinds w kind index ≡ o → IsSome (option_map (part_under (ref_to (roll_of kinds w))) o) → IsAmong (map (λ (pair : ℕ × ℕ). pair.1) pairs) index
    by None none is = absurd (false≢true is)
    by (Some one) there is =
        let life = some-of (living (roll_of kinds w).births index) (stands.within kind known index (ap is_some there)) in
        let marked = stands.roll.marked index life.0 life.1 in
        are.all index (ap is_some (ap (λ o. cond (is_some o) ((roll_of kinds w).marker index) None) life.1 ∙ marked.1.marker))

-- the indices of pairs, each behind itself
pub behind-itself : (pairs : List (ℕ × ℕ)) → All (λ (pair : ℕ × ℕ). pair.0 ≡ pair.1) (map (λ (pair : ℕ × ℕ). (pair.1, pair.1)) pairs)
behind-itself pairs = All-map (λ (pair : ℕ × ℕ). pair.0 ≡ pair.1) (λ (pair : ℕ × ℕ). (pair.1, pair.1)) pairs (λ k d below. refl)

pub same-indices : (pairs : List (ℕ × ℕ)) → map (λ (pair : ℕ × ℕ). pair.1) (map (λ (pair : ℕ × ℕ). (pair.1, pair.1)) pairs) ≡ map (λ pair. pair.1) pairs
same-indices [] = refl
same-indices (pair ∷ pairs) = ap (λ rest. pair.1 ∷ rest) (same-indices pairs)

-- where each index bears the id of who lives there, the bearer of an id is the index of who is known under it
pub bearers-known : (roll : Roll) → IsRoll roll → (seats : List (Option ℕ)) → ((index : ℕ) → filled (slice_get seats index) ≡ id_at roll index) → (id : ℕ) → finite.get (bearers seats) id ≡ index_of roll id
bearers-known roll is seats same id = by (index_of roll id) refl
  where
    known : (index : ℕ) → filled (slice_get seats index) ≡ Some id → index_of roll id ≡ Some index
    known index there = index-of-id roll is id index (sym (same index) ∙ there)

    by : (o : Option ℕ) → index_of roll id ≡ o → finite.get (bearers seats) id ≡ index_of roll id
    by None none = bearer-none id seats (λ index there. false≢true (ap is_some (sym none ∙ known index there))) ∙ sym none
    by (Some only) some =
        bearer-one id only seats (λ index there. same_Some index only (sym (known index there) ∙ some)) (same only ∙ id-at-index roll id only some) ∙ sym some

-- ---- rows

module _ {V D : Type 0} (kinds : Kinds V) (part_of : D → Part) (w : Sight V) where
  -- data that were read at once, of parts that name nobody, are the parts
  pub read-at-once : (kind : Name) (value : V) → Some value ≡ w (kinds.part_id kind) → (pairs : List (ℕ × ℕ)) (found : List (ℕ × Option D)) → AreReadAt part_of (kinds.stored kind value) pairs found → AreOfPairs kinds part_of w kind pairs found
  read-at-once kind value there pairs found are = are.read ∙ each-same (λ index. option_map (part_read []) (kinds.stored kind value index)) (λ index. part_at kinds w index kind) one pairs
    where
      one : (index : ℕ) → option_map (part_read []) (kinds.stored kind value index) ≡ part_at kinds w index kind
      one index =
          read-part (roll_of kinds w) (kinds.stored kind value index) [] (ap (map (λ entity. (roll_of kinds w).marker entity.id)) (are.nobody index))
          (λ some is. subst (λ named. All (RefLives (ids_in (roll_of kinds w))) (map (ref_to (roll_of kinds w)) named)) (sym (are.nobody index) ∙ ap named_in is) (All-nil (RefLives (ids_in (roll_of kinds w)))))
          ∙ ap (λ held. option_map (part_under (ref_to (roll_of kinds w))) (option_and_then (λ v. kinds.stored kind v index) held)) there

  -- where nothing stands for a kind, no part of it is at any index
  pub none-of-pairs : (kind : Name) (pairs : List (ℕ × ℕ)) (found : List (ℕ × Option D)) → w (kinds.part_id kind) ≡ None → found ≡ [] → AreOfPairs kinds part_of w kind pairs found
  none-of-pairs kind pairs found none empty =
      ap (each_there (option_map part_of)) empty
      ∙ sym (each-none (λ index. part_at kinds w index kind) (λ index. ap (λ held. option_map (part_under (ref_to (roll_of kinds w))) (option_and_then (λ v. kinds.stored kind v index) held)) none) pairs)

  -- a row more
  pub more-rows : {G : Type 0} (names : List Name) (place : ℕ) (before after : KeptScene D G) → AreRowsOf kinds part_of w names place before
      → ((index : ℕ) → IsRowOf kinds part_of w (name_at names place) place after index)
      → ((other index : ℕ) → other ≢ place → datum_at after other index ≡ datum_at before other index) → AreRowsOf kinds part_of w names (place + 1) after
  more-rows names place before after are row others at below index = by (eqb at place) refl
    where
      by : (b : Bool) → eqb at place ≡ b → IsRowOf kinds part_of w (name_at names at) at after index
      by true same = subst (λ one. IsRowOf kinds part_of w (name_at names one) one after index) (sym (eqb-true at place same)) (row index)
      by false apart =
          let differ : at ≢ place = λ is. false≢true (sym apart ∙ eq-eqb at place is) in
          ap (option_map part_of) (others at index differ) ∙ are at (omega (arith, differ)) index

  -- rows that show the same are so too
  pub same-rows : {G : Type 0} (names : List Name) (count : ℕ) (before after : KeptScene D G) → ((place index : ℕ) → datum_at after place index ≡ datum_at before place index) → AreRowsOf kinds part_of w names count before
      → AreRowsOf kinds part_of w names count after
  same-rows names count before after same are place below index = ap (option_map part_of) (same place index) ∙ are place below index

  -- so the parts are those of the scene
  kept-parts : {G : Type 0} (book : Book) (kept : KeptScene D G) → AreRowsOf kinds part_of w book.part_names (length book.part_names) kept
      → (id : ℕ) (kind : Name) → option_and_then (λ index. part_kept part_of book kept index kind) (index_of (roll_of kinds w) id)
      ≡ cond (is_among kind book.part_names) (part_in (roll_of kinds w) (column_of kinds w kind) id) None
  kept-parts book kept are id kind = by (index_of (roll_of kinds w) id) refl
    where
      none-either : (b : Bool) → ◌≡◌ {A = Option Part} None (cond b None None)
      none-either true = refl
      none-either false = refl

      at : (index : ℕ) → index_of (roll_of kinds w) id ≡ Some index → (place : Option ℕ) → place_of kind book.part_names ≡ place
          → option_map part_of (option_and_then (λ place. datum_at kept place index) place) ≡ cond (is_among kind book.part_names) (part_at kinds w index kind) None
      at index known None is = ap (λ b. cond b (part_at kinds w index kind) None) (sym (ap is_some is) ∙ is_some-place_of kind book.part_names)
      at index known (Some place) is =
          are place (place_of-bound kind place book.part_names is) index
          ∙ ap (part_at kinds w index) (place_of-name kind place book.part_names is)
          ∙ ap (λ b. cond b (part_at kinds w index kind) None) (sym (ap is_some is) ∙ is_some-place_of kind book.part_names)

      by : (o : Option ℕ) → index_of (roll_of kinds w) id ≡ o
          → option_and_then (λ index. part_kept part_of book kept index kind) o ≡ cond (is_among kind book.part_names) (option_and_then (λ index. part_at kinds w index kind) o) None
      by None none = none-either (is_among kind book.part_names)
      by (Some index) known = at index known (place_of kind book.part_names) refl

-- what is kept is the scene that is seen, where its next id, its entities, its rows and its globals are
pub keeps-scene : {V D G : Type 0} (kinds : Kinds V) (part_of : D → Part) (global_of : G → Json) (book : Book) (w : Sight V) → kinds.part_names ≡ book.part_names → kinds.global_names ≡ book.global_names
    → IsRoll (roll_of kinds w) → (kept : KeptScene D (Vec (Option G))) → ((index : ℕ) → seat_at kept index ≡ id_at (roll_of kinds w) index)
    → AreRowsOf kinds part_of w book.part_names (length book.part_names) kept → kept.next ≡ (roll_of kinds w).noting.next
    → (globals : Vec (Option G)) (listed : List Name) → kept.globals ≡ globals → listed ≡ book.global_names → map (option_map global_of) globals.items ≡ map (value_of kinds w) listed
    → kept_scene part_of global_of (λ list place. filled (slice_get list.items place)) book kept ≡ plain_of kinds w
keeps-scene kinds part_of global_of book w parts_named globals_named is kept seats rows next globals listed held known read =
    let roll : Roll = roll_of kinds w in
    let bearing = bearers-known roll is (seats_kept kept) seats in
    kept-scene-is part_of global_of (λ list place. filled (slice_get list.items place)) book kept (plain_of kinds w) next
    (same-ids (finite.keys (bearers (seats_kept kept))) (ids_in roll) (keys-ascend (bearers (seats_kept kept))) (ids-ascend roll)
    (λ id. keys-there (bearers (seats_kept kept)) id ∙ ap is_some (bearing id) ∙ sym (lives-index roll id)))
    (λ id kind.
    ap (option_and_then (λ index. part_kept part_of book kept index kind)) (bearing id) ∙ kept-parts kinds part_of w book kept rows id kind
    ∙ ap (λ names. cond (is_among kind names) (part_in (roll_of kinds w) (column_of kinds w kind) id) None) (sym parts_named))
    (λ name.
    ap (λ list. option_map global_of (option_and_then (λ place. filled (slice_get list.items place)) (place_of name book.global_names))) held
    ∙ by-name global_of (value_of kinds w) book.global_names globals.items (read ∙ ap (map (value_of kinds w)) known) name
    ∙ ap (λ names. cond (is_among name names) (value_of kinds w name) None) (sym globals_named))
