-- A channel that is kept in blocks: what its readers' places say, and how it goes on as blocks come and go.
use Rattle.std.proofs.Common.{◌≡◌, inl, inr, ℕ, zero, suc, ◌+◌, ◌-◌, ◌/◌, ◌^◌, ◌<◌, ◌≤◌, min, Bool, true, not, List, [], ◌∷◌, ◌++◌, length, map, take, drop, set, get_or, slice_index_or, refl, ap, sym, subst, ◌∙◌, arith}
use Rattle.std.specs.Int.Count.{ones}
use Rattle.std.proofs.lemmas.Bool.{cases_lt, and_from, and_parts, false≢true, eqb-true, eq-eqb, lt-ltb, le-ltb}
use Rattle.std.proofs.lemmas.List.{append-nil, append_assoc, get_or-map, get_or_past, length-append, length-map, map-append, take_all, take-append-le}
use Rattle.std.proofs.lemmas.List.Elements.{All-from_get_or, All-get_or, All-map, All-set, All-weaker}
use Rattle.hibitset_sets.proofs.CallerLemmas.{word-count}
use Rattle.hibitset_sets.specs.Walk.{word_indices}
use Rattle.specs_layouts.specs.Blocks.{same_events, block_events, all_events, event_place, is_at, less, with_events, IsBlocked}
use Rattle.specs_layouts.specs.Channels.{Channel, IsChannel, Log, with_more, since, least_of, let_go, read_by, without_first}
use Rattle.specs_layouts.specs.declared.blocks.Block.{Block}
use Rattle.specs_layouts.specs.declared.blocks.Place.{Place}
use Rattle.specs_layouts.proofs.BlockLemmas.{all-append, all-cut}
use Rattle.specs_layouts.proofs.ShowsLemmas.{more-more}
use Rattle.specs_layouts.proofs.SinceLemmas.{least-below, let_go-none}

drop-seam : {A : Type 0} (one two : List A) → drop (length one) (one ++ two) ≡ two
drop-seam [] two = refl
drop-seam (x ∷ one) two = drop-seam one two

module _ {E : Type 0} (index_of : E → ℕ) (same_at : E → ℕ → E) where
  abbrev pub all : List (Block E) → List E
  all blocks = all_events index_of same_at blocks

  abbrev pub IsAt : List (Block E) → Place → Type 0
  IsAt blocks place = is_at index_of same_at blocks place ≡ true

  -- ---- what a place says

  pub at-within : (blocks : List (Block E)) (place : Place) → IsAt blocks place → place.block ≤ length blocks
  at-within blocks place is = elim (cases_lt (length blocks) place.block) [
    | inl past ↦ absurd (false≢true (ap not (sym (lt-ltb _ _ past)) ∙ (and_parts _ _ is).0))
    | inr within ↦ within
  ]

  pub at-event : (blocks : List (Block E)) (place : Place) → IsAt blocks place → place.event ≡ length (all (take place.block blocks))
  at-event blocks place is = eqb-true _ _ (and_parts _ _ is).1

  pub at-from : (blocks : List (Block E)) (place : Place) → place.block ≤ length blocks → place.event ≡ length (all (take place.block blocks)) → IsAt blocks place
  at-from blocks place within is = and_from _ _ (ap not (le-ltb _ _ within)) (eq-eqb _ _ is)

  -- the events behind a place are those of the blocks behind it
  pub at-rest : (blocks : List (Block E)) (place : Place) → IsAt blocks place → drop place.event (all blocks) ≡ all (drop place.block blocks)
  at-rest blocks place is =
      ap (λ n. drop n (all blocks)) (at-event blocks place is)
      ∙ ap (drop (length (all (take place.block blocks)))) (all-cut index_of same_at blocks place.block)
      ∙ drop-seam (all (take place.block blocks)) (all (drop place.block blocks))

  all-length : (blocks : List (Block E)) (k : ℕ) → length (all blocks) ≡ length (all (take k blocks)) + length (all (drop k blocks))
  all-length blocks k = ap length (all-cut index_of same_at blocks k) ∙ length-append (all (take k blocks)) (all (drop k blocks))

  pub at-most : (blocks : List (Block E)) (place : Place) → IsAt blocks place → place.event ≤ length (all blocks)
  at-most blocks place is = let event = at-event blocks place is in let sum = all-length blocks place.block in omega (arith, event, sum)

  -- a block has an event at least
  pub blocks-most : (blocks : List (Block E)) → length blocks ≤ length (all blocks)
  blocks-most [] = omega arith
  blocks-most (block ∷ blocks) =
      let rest = blocks-most blocks in
      let sum = length-append (block_events index_of same_at block) (all blocks) in
      omega (arith, rest, sum)

  -- ---- the end, and blocks that come behind it

  pub at-end : (blocks : List (Block E)) (place : Place) → place.block ≡ length blocks → place.event ≡ length (all blocks) → IsAt blocks place
  at-end blocks place block event =
      at-from blocks place (omega (arith, block)) (event ∙ ap (λ bs. length (all bs)) (sym (ap (λ n. take n blocks) block ∙ take_all (length blocks) blocks (omega arith))))

  pub at-more : (blocks more : List (Block E)) (place : Place) → IsAt blocks place → IsAt (blocks ++ more) place
  at-more blocks more place is =
      let within = at-within blocks place is in
      at-from (blocks ++ more) place (omega (arith, within, length-append blocks more))
      (at-event blocks place is ∙ ap (λ bs. length (all bs)) (sym (take-append-le place.block blocks more within)))

  -- ---- blocks that go

  length-drop-take : {A : Type 0} (xs : List A) (k : ℕ) → length (drop k xs) ≡ length xs - k
  length-drop-take [] zero = omega arith
  length-drop-take [] (suc k) = omega arith
  length-drop-take (x ∷ xs) zero = omega arith
  length-drop-take (x ∷ xs) (suc k) = let rest = length-drop-take xs k in omega (arith, rest)

  take-nothing : {A : Type 0} (m : ℕ) → take {A = A} m [] ≡ []
  take-nothing zero = refl
  take-nothing (suc m) = refl

  take-behind : {A : Type 0} (xs : List A) (k n : ℕ) → take (k + n) xs ≡ take k xs ++ take n (drop k xs)
  take-behind xs zero n = ap (λ m. take m xs) (let e : 0 + n ≡ n = omega arith in e)
  take-behind {A = A} [] (suc k) n = take-nothing {A = A} (suc k + n) ∙ sym (take-nothing {A = A} n)
  take-behind (x ∷ xs) (suc k) n = ap (λ m. take m (x ∷ xs)) (let e : suc k + n ≡ suc (k + n) = omega arith in e) ∙ ap (λ ys. x ∷ ys) (take-behind xs k n)

  taken-more : (blocks : List (Block E)) (k m : ℕ) → k ≤ m → length (all (take m blocks)) ≡ length (all (take k blocks)) + length (all (take (m - k) (drop k blocks)))
  taken-more blocks k m most =
      ap (λ n. length (all (take n blocks))) (let e : m ≡ k + (m - k) = omega (arith, most) in e)
      ∙ ap (λ bs. length (all bs)) (take-behind blocks k (m - k))
      ∙ ap length (all-append index_of same_at (take k blocks) (take (m - k) (drop k blocks)))
      ∙ length-append (all (take k blocks)) (all (take (m - k) (drop k blocks)))

  take-none : {A : Type 0} (xs : List A) → take 0 xs ≡ []
  take-none [] = refl
  take-none (x ∷ xs) = refl

  pub at-less : (blocks : List (Block E)) (by place : Place) → IsAt blocks by → by.event ≤ place.event → IsAt blocks place → IsAt (drop by.block blocks) (less by place)
  at-less blocks by place is_by lower is =
      let within = at-within blocks place is in
      let event = at-event blocks place is in
      let event_by = at-event blocks by is_by in
      at-from (drop by.block blocks) (less by place) (omega (arith, within, length-drop-take blocks by.block))
      (elim (cases_lt place.block by.block) [
        | inl before ↦
            let none : place.block - by.block ≡ 0 = omega (arith, before) in
            let more = taken-more blocks place.block by.block (omega (arith, before)) in
            let empty : length (all (take (place.block - by.block) (drop by.block blocks))) ≡ 0 = ap (λ n. length (all (take n (drop by.block blocks)))) none ∙ ap (λ bs. length (all bs)) (take-none (drop by.block blocks)) in
            omega (arith, event, event_by, lower, more, empty)
        | inr behind ↦
            let more = taken-more blocks by.block place.block behind in
            omega (arith, event, event_by, more)
      ])

  -- ---- the channel that is kept

  -- what is seen of it
  abbrev pub view : List (Block E) → ℕ → List Place → ℕ → Channel E
  view blocks capacity places count = record { held = all blocks; room = capacity - count; places = map event_place places }

  pub same-count : (event : E) (more : ℕ) → more < 2 ^ 64 → length (same_events index_of same_at event more) ≡ 1 + ones more
  same-count event more fits =
      let count = word-count (index_of event / 64) more fits in
      let mapped = length-map (word_indices (index_of event / 64) more) (same_at event) in
      omega (arith, count, mapped)

  module _ (blocks : List (Block E)) (capacity : ℕ) (places : List Place) (count : ℕ) (is : IsBlocked index_of same_at blocks capacity places count) where
    pub is-channel : IsChannel (view blocks capacity places count)
    is-channel reader = elim (cases_lt reader (length places)) [
      | inl within ↦
          let d : Place = record { block = 0; event = 0 } in
          let most = at-most blocks (get_or places reader d) (All-get_or (IsAt blocks) places reader d within is.placed) in
          let mapped = get_or-map event_place places reader d 0 within in
          omega (arith, most, mapped)
      | inr past ↦
          let none = get_or_past (map event_place places) reader 0 (let mapped = length-map places event_place in omega (arith, past, mapped)) in
          omega (arith, none)
    ]

    -- there is memory for more blocks where there is for more events
    pub blocks-fit : length blocks ≤ count
    blocks-fit = let most = blocks-most blocks in let counted = is.counted in omega (arith, most, counted)

    module _ (event : E) (more : ℕ) (fits : more < 2 ^ 64) (room : length (same_events index_of same_at event more) ≤ capacity - count) where
      abbrev behind : List (Block E)
      behind = blocks ++ record { event = event; more = more } ∷ []

      all-behind : all behind ≡ all blocks ++ same_events index_of same_at event more
      all-behind = all-append index_of same_at blocks (record { event = event; more = more } ∷ []) ∙ ap (λ events. all blocks ++ events) (append-nil (same_events index_of same_at event more))

      pub pushed-blocked : IsBlocked index_of same_at behind capacity places (count + (1 + ones more))
      pushed-blocked = record {
        counted =
            let sum = ap length all-behind in
            let parts = length-append (all blocks) (same_events index_of same_at event more) in
            let counted = is.counted in
            let events = same-count event more fits in
            omega (arith, sum, parts, counted, events);
        fits = let held = is.fits in let events = same-count event more fits in omega (arith, held, room, events);
        placed = All-weaker (IsAt blocks) (IsAt behind) (λ place at. at-more blocks (record { event = event; more = more } ∷ []) place at) places is.placed;
      }

      pub pushed-view : view behind capacity places (count + (1 + ones more)) ≡ with_events (view blocks capacity places count) (same_events index_of same_at event more)
      pushed-view =
          let left : capacity - (count + (1 + ones more)) ≡ capacity - count - length (same_events index_of same_at event more) = let events = same-count event more fits in omega (arith, events) in
          (λ j. record { held = all-behind j; room = left j; places = map event_place places })

    -- what a reader has yet to read are the events of the blocks behind its place
    module _ (reader : ℕ) (within : reader < length places) (place : Place) (here : place ≡ get_or places reader place) where
      pub reader-at : IsAt blocks place
      reader-at = subst (IsAt blocks) (sym here) (All-get_or (IsAt blocks) places reader place within is.placed)

      pub reader-rest : since (view blocks capacity places count) reader ≡ all (take (length blocks - place.block) (drop place.block blocks))
      reader-rest =
          ap (λ n. drop n (all blocks)) (get_or-map event_place places reader place (length (all blocks)) within ∙ ap event_place (sym here))
          ∙ at-rest blocks place reader-at
          ∙ ap all (sym (ap (λ n. take n (drop place.block blocks)) (sym (length-drop-take blocks place.block)) ∙ take_all (length (drop place.block blocks)) (drop place.block blocks) (omega arith)))

      pub reader-count : length (all (take (length blocks - place.block) (drop place.block blocks))) ≡ count - place.event
      reader-count =
          let sum = all-length blocks place.block in
          let event = at-event blocks place reader-at in
          let counted = is.counted in
          let whole : length (all (take (length blocks - place.block) (drop place.block blocks))) ≡ length (all (drop place.block blocks)) =
          ap (λ bs. length (all bs)) (ap (λ n. take n (drop place.block blocks)) (sym (length-drop-take blocks place.block)) ∙ take_all (length (drop place.block blocks)) (drop place.block blocks) (omega arith)) in
          omega (arith, sum, event, counted, whole)

      pub reader-most : place.event ≤ count
      reader-most = let most = at-most blocks place reader-at in let counted = is.counted in omega (arith, most, counted)

    map-put : (some : List Place) (k : ℕ) (place : Place) → map event_place (set some k place) ≡ set (map event_place some) k place.event
    map-put [] k place = refl
    map-put (one ∷ some) zero place = refl
    map-put (one ∷ some) (suc k) place = ap (λ rest. event_place one ∷ rest) (map-put some k place)

    pub moved-view : (reader : ℕ) (end : Place) → end.event ≡ count → view blocks capacity (set places reader end) count ≡ read_by (view blocks capacity places count) reader
    moved-view reader end event =
        (λ j. record { held = all blocks; room = capacity - count; places = map-put places reader end j })
        ∙ ap (λ n. record { held = all blocks; room = capacity - count; places = set (map event_place places) reader n }) (event ∙ is.counted)

    -- ---- what all have read goes

    -- what is found to be the least place is one
    pub found-at : (slice : List Place) → slice ≡ places → (end read : Place) → end.block ≡ length blocks → end.event ≡ count
        → ((test : Place → Bool) → test end ≡ true → ((k : ℕ) → k < length slice → test (slice_index_or slice k end) ≡ true) → test read ≡ true) → IsAt blocks read
    found-at slice same end read block event one =
        one (is_at index_of same_at blocks) (at-end blocks end block (event ∙ is.counted))
        (λ k within. subst (λ (some : List Place). k < length some → IsAt blocks (get_or some k end)) (sym same) (λ inside. All-get_or (IsAt blocks) places k end inside is.placed) within)

    module _ (read : Place) (at : IsAt blocks read) (least : read.event ≡ least_of count (map event_place places)) where
      abbrev lesser : List Place
      lesser = map (less read) places

      places-less : (some : List Place) → map event_place (map (less read) some) ≡ map (λ place. place - read.event) (map event_place some)
      places-less [] = refl
      places-less (place ∷ some) = ap (λ rest. (place.event - read.event) ∷ rest) (places-less some)

      pub gone-blocked : IsBlocked index_of same_at (drop read.block blocks) capacity lesser (count - read.event)
      gone-blocked = record {
        counted = let sum = all-length blocks read.block in let event = at-event blocks read at in let counted = is.counted in omega (arith, sum, event, counted);
        fits = let fits = is.fits in omega (arith, fits);
        placed =
            let d : Place = record { block = 0; event = 0 } in
            All-map (IsAt (drop read.block blocks)) (less read) places
            (All-from_get_or (λ place. IsAt (drop read.block blocks) (less read place)) places d
            (λ k within.
            let flat = get_or-map event_place places k d 0 within in
            let below = least-below count (map event_place places) k 0 (let mapped = length-map places event_place in omega (arith, within, mapped)) in
            at-less blocks read (get_or places k d) at (omega (arith, least, flat, below)) (All-get_or (IsAt blocks) places k d within is.placed)));
      }

      pub gone-view : view (drop read.block blocks) capacity lesser (count - read.event) ≡ let_go (view blocks capacity places count)
      gone-view =
          let held : ℕ = length (all blocks) in
          let first : least_of held (map event_place places) ≡ read.event = ap (λ n. least_of n (map event_place places)) (sym is.counted) ∙ sym least in
          let room : capacity - (count - read.event) ≡ capacity - count + min read.event held =
          let fits = is.fits in let counted = is.counted in let most = at-most blocks read at in omega (arith, fits, counted, most) in
          (λ j. record { held = sym (at-rest blocks read at) j; room = room j; places = places-less places j })
          ∙ ap (λ n. without_first (view blocks capacity places count) n) (sym first)

      pub gone-none : read.block ≡ 0 → view blocks capacity places count ≡ let_go (view blocks capacity places count)
      gone-none none =
          let event : read.event ≡ 0 = at-event blocks read at ∙ ap (λ n. length (all (take n blocks))) none ∙ ap (λ bs. length (all bs)) (take-none blocks) in
          let_go-none (view blocks capacity places count) (ap (λ n. least_of n (map event_place places)) (sym is.counted) ∙ sym least ∙ event)

-- ---- events written for the members of a set, one word after the other

-- those of some first indices are written, and the walk goes on behind them
pub record IsWriting {E : Type 0} (at : ℕ → E) (indices left : List ℕ) (before after : Log E) : Type 0 where
  pub done : List ℕ
  pub walk : done ++ left ≡ indices
  pub told : after ≡ with_more before (map at done)

module _ {E : Type 0} (at : ℕ → E) (indices : List ℕ) (before : Log E) where
  -- the events of one word more
  pub writing-next : (left word later : List ℕ) (now after : Log E) → left ≡ word ++ later → after ≡ with_more now (map at word) → IsWriting at indices left before now → IsWriting at indices later before after
  writing-next left word later now after parts more is = record {
    done = is.done ++ word;
    walk = append_assoc is.done word later ∙ ap (λ rest. is.done ++ rest) (sym parts) ∙ is.walk;
    told =
        more ∙ ap (λ log. with_more log (map at word)) is.told
        ∙ more-more before (map at is.done) (map at word)
        ∙ ap (with_more before) (sym (map-append at is.done word));
  }

  -- where it stops, those of some first indices are written
  pub writing-stopped : (left : List ℕ) (after : Log E) → IsWriting at indices left before after → (first : ℕ) × (after ≡ with_more before (map at (take first indices)))
  writing-stopped left after is = (
    length is.done,
    is.told ∙ ap (λ done. with_more before (map at done)) (sym (ap (take (length is.done)) (sym is.walk) ∙ take-append-le (length is.done) is.done left (omega arith) ∙ take_all (length is.done) is.done (omega arith))),
  )

-- the same events of a word's indices, from whichever of them
pub same-word : {E : Type 0} (index_of : E → ℕ) (same_at : E → ℕ → E) → ((event : E) (index : ℕ) → index_of (same_at event index) ≡ index) → ((event : E) (one other : ℕ) → same_at (same_at event one) other ≡ same_at event other)
    → (event : E) (index more : ℕ) → same_events index_of same_at (same_at event index) more ≡ map (same_at event) (index ∷ word_indices (index / 64) more)
same-word index_of same_at index_at again event index more =
    ap (λ n. same_at event index ∷ map (same_at (same_at event index)) (word_indices (n / 64) more)) (index_at event index)
    ∙ ap (λ rest. same_at event index ∷ rest) (maps (word_indices (index / 64) more))
  where
    maps : (indices : List ℕ) → map (same_at (same_at event index)) indices ≡ map (same_at event) indices
    maps [] = refl
    maps (one ∷ indices) = (λ j. again event index one j ∷ maps indices j)
