-- All parts that have an item, where they were changed by the words of the set of their indices.
use Rattle.std.proofs.Common.{◌≡◌, ◌⊎◌, ℕ, ◌+◌, ◌*◌, ◌/◌, ◌<◌, ◌≤◌, ltb, eqb, Bool, true, false, ◌&&◌, ◌||◌, cond, List, [], ◌∷◌, map, Option, Some, None, is_some, IsSome, Result, Ok, Err, OnOk, IfErr, inl, inr, refl, sym, ap, ◌∙◌, arith}
use Rattle.std.specs.List.{list_any}
use Rattle.std.proofs.lemmas.Bool.{cases_Bool, cases_eq, cases_lt, eq-eqb, ne_eqb, true≢false, false≢true, lt-ltb, and_parts}
use Rattle.std.proofs.lemmas.List.{append-nil}
use Rattle.hibitset_sets.specs.Walk.{walk}
use Rattle.hibitset_sets.proofs.CallerLemmas.{any-walk, walk-same}
use Rattle.specs_layouts.specs.Channels.{Log, with_more}
use Rattle.specs_layouts.specs.Shows.{index_of, Names}
use Rattle.specs_layouts.specs.declared.track.ComponentEvent.{ComponentEvent}
use Rattle.specs_layouts.specs.declared.track.ComponentEvent.TheVariants as event
use Rattle.specs_layouts.proofs.CallerLemmas.{more-more}
use Rattle.specs_join.specs.ChangeEach.{after, AreChanged, AreChangedBelow, IsRefused, told_each}
use Rattle.specs_join.specs.EachErrors.{OnMemory, OnRefused}
use Rattle.specs_join.specs.Tested.{tested, AreDone, AreThere, EndsSo, in_group, in_groups}
use Rattle.specs_join.specs.declared.join.change.EachError.{EachError}
use Rattle.specs_join.specs.declared.join.change.EachError.TheVariants as error
use Rattle.specs_join.proofs.WordsLemmas.{and_none}

-- a member has its place in the words, and below 2 ^ 24
pub in-range : (has : ℕ → Bool) (words room : ℕ) → ((i : ℕ) → has i ≡ true → i < room) → 64 * words ≡ room → room ≤ 16777216 → (i : ℕ) → has i ≡ true
    → (i < 4096 * ((words + 63) / 64)) × (i < 16777216)
in-range has words room within is limit i member = let less = within i member in (omega (arith, less, is), omega (arith, less, limit))

after-same : {T S : Type 0} (changed : T → S → Option T) (part : Option T) (one other : Option S) → (is_some part ≡ true → one ≡ other)
    → after changed part one ≡ after changed part other
after-same changed None one other same = refl
after-same changed (Some part) one other same = ap (after changed (Some part)) (same refl)

none-is : {S : Type 0} (item : Option S) → is_some item ≡ false → None ≡ item
none-is None is = refl
none-is (Some item) is = absurd (true≢false is)

eqb-turned : (a b : ℕ) → eqb a b ≡ eqb b a
eqb-turned a b = elim (cases_eq a b) [
  | inl same ↦ eq-eqb a b same ∙ sym (eq-eqb b a (sym same))
  | inr apart ↦ ne_eqb a b apart ∙ sym (ne_eqb b a (λ e. apart (sym e)))
]

module _ {L T S : Type 0} (part_at : L → ℕ → Option T) (events : L → Log ComponentEvent) (emits : L → Bool) (changed : T → S → Option T)
    (values joins : ℕ → Option S) (mask beside : ℕ → Bool) (tops : ℕ) (before : L)
    (agrees : (i : ℕ) → mask i ≡ is_some (part_at before i))
    (range : (i : ℕ) → mask i ≡ true → (i < 4096 * tops) × (i < 16777216))
    (opens : (i : ℕ) → i < 16777216 → beside i ≡ is_some (joins i))
    (looks : (i : ℕ) → i < 16777216 → IsSome (joins i) → values i ≡ joins i) where
  -- the indices of both sets
  abbrev whole : ℕ → Bool
  whole = in_groups (λ i. mask i && beside i) tops

  whole-is : (i : ℕ) → mask i ≡ true → whole i ≡ is_some (joins i)
  whole-is i has =
      (λ j. lt-ltb i (4096 * tops) (range i has).0 j && (has j && opens i (range i has).1 j))

  item-where : (i : ℕ) (there : Bool) → i < 16777216 → is_some (joins i) ≡ there → cond there (values i) None ≡ joins i
  item-where i true low is = looks i low is
  item-where i false low is = none-is (joins i) is

  -- where there is a part, what passes is what the join has
  whole-item : (i : ℕ) → is_some (part_at before i) ≡ true → tested whole values i ≡ joins i
  whole-item i part =
      let has = agrees i ∙ part in
      ap (λ b. cond b (values i) None) (whole-is i has) ∙ item-where i (is_some (joins i)) (range i has).1 refl

  whole-after : (i : ℕ) → after changed (part_at before i) (tested whole values i) ≡ after changed (part_at before i) (joins i)
  whole-after i = after-same changed (part_at before i) (tested whole values i) (joins i) (whole-item i)

  whole-indices : (i : ℕ) → whole i ≡ (mask i && is_some (joins i))
  whole-indices i = elim (cases_Bool (mask i)) [
    | inl has ↦ whole-is i has ∙ ap (λ b. b && is_some (joins i)) (sym has)
    | inr out ↦ ap (λ b. ltb i (4096 * tops) && (b && beside i)) out ∙ (and_none (ltb i (4096 * tops)) ∙ ap (λ b. b && is_some (joins i)) (sym out))
  ]

  below-whole : (index : ℕ) (now : L) → AreChangedBelow changed (part_at before) (tested whole values) index (part_at now)
      → AreChangedBelow changed (part_at before) joins index (part_at now)
  below-whole index now below = record { before = λ i less. below.before i less ∙ whole-after i; from = below.from; same = below.same }

  -- all are changed,
  pub whole-done : (now : L) → AreDone part_at events emits changed values whole before now → AreChanged changed (part_at before) joins (part_at now)
  whole-done now done = record { parts = λ i. done.parts.parts i ∙ whole-after i; same = done.parts.same }

  -- and the events tell of each
  pub whole-told : (now : L) → AreDone part_at events emits changed values whole before now
      → events now ≡ told_each (emits before) (events before) (walk (λ i. mask i && is_some (joins i)))
  whole-told now done = done.told ∙ ap (told_each (emits before) (events before)) (walk-same whole (λ i. mask i && is_some (joins i)) (λ i low. whole-indices i))

  -- or it stops,
  pub whole-memory : {R : Type 0} (now : L) (refusal : EachError R) → EndsSo part_at events emits changed values whole before (Err refusal) now
      → OnMemory ((index : ℕ) × AreChangedBelow changed (part_at before) joins index (part_at now)) refusal
  whole-memory now error.Memory wants = (wants.index, below-whole wants.index now wants.below)
  whole-memory now (error.Refused index refusal) stopped = tt

  pub whole-quiet : {R : Type 0} (now : L) (refusal : EachError R) → EndsSo part_at events emits changed values whole before (Err refusal) now
      → emits before ≡ false → OnMemory ⊥ refusal
  whole-quiet now error.Memory wants quiet = false≢true (sym quiet ∙ wants.emission)
  whole-quiet now (error.Refused index refusal) stopped quiet = tt

  pub whole-refused : {R : Type 0} (now : L) (refusal : EachError R) → EndsSo part_at events emits changed values whole before (Err refusal) now
      → OnRefused (IsRefused changed (part_at before) joins) refusal
  whole-refused now error.Memory wants = tt
  whole-refused now (error.Refused index refusal) stopped =
      record {
        part = stopped.refused.part;
        item = stopped.refused.item;
        has_part = stopped.refused.has_part;
        has_item = sym (whole-item index (ap is_some stopped.refused.has_part)) ∙ stopped.refused.has_item;
        refused = stopped.refused.refused;
      }

  pub whole-below : {R : Type 0} (now : L) (refusal : EachError R) → EndsSo part_at events emits changed values whole before (Err refusal) now
      → OnRefused (λ index. AreChangedBelow changed (part_at before) joins index (part_at now)) refusal
  whole-below now error.Memory wants = tt
  whole-below now (error.Refused index refusal) stopped = below-whole index now stopped.below

  pub whole-same : {R : Type 0} (now : L) (refusal : EachError R) → EndsSo part_at events emits changed values whole before (Err refusal) now → (i : ℕ)
      → is_some (part_at now i) ≡ is_some (part_at before i)
  whole-same now error.Memory wants i = wants.below.same i
  whole-same now (error.Refused index refusal) stopped i = stopped.below.same i

  pub groups-ready : AreThere (part_at before) values whole
  groups-ready i passes =
      let both = and_parts (mask i) (beside i) (and_parts (ltb i (4096 * tops)) (mask i && beside i) passes).1 in
      let low = (range i both.0).1 in
      let has : is_some (joins i) ≡ true = sym (opens i low) ∙ both.1 in
      (sym (agrees i) ∙ both.0, ap is_some (looks i low has) ∙ has)

  -- ---- however it ends

  pub ends-ok : {R : Type 0} (result : Result (Unit {0}) (EachError R)) (now : L) → EndsSo part_at events emits changed values whole before result now → OnOk result (AreChanged changed (part_at before) joins (part_at now))
  ends-ok (Ok nothing) now done = whole-done now done
  ends-ok (Err refusal) now stopped = tt

  pub ends-told : {R : Type 0} (result : Result (Unit {0}) (EachError R)) (now : L) → EndsSo part_at events emits changed values whole before result now
      → OnOk result (events now ≡ told_each (emits before) (events before) (walk (λ i. mask i && is_some (joins i))))
  ends-told (Ok nothing) now done = whole-told now done
  ends-told (Err refusal) now stopped = tt

  pub ends-same : {R : Type 0} (result : Result (Unit {0}) (EachError R)) (now : L) → EndsSo part_at events emits changed values whole before result now → (i : ℕ) → is_some (part_at now i) ≡ is_some (part_at before i)
  ends-same (Ok nothing) now done = done.parts.same
  ends-same (Err refusal) now stopped = whole-same now refusal stopped

  pub ends-memory : {R : Type 0} (result : Result (Unit {0}) (EachError R)) (now : L) → EndsSo part_at events emits changed values whole before result now
      → IfErr result (OnMemory ((index : ℕ) × AreChangedBelow changed (part_at before) joins index (part_at now)))
  ends-memory (Ok nothing) now done = tt
  ends-memory (Err refusal) now stopped = whole-memory now refusal stopped

  pub ends-quiet : {R : Type 0} (result : Result (Unit {0}) (EachError R)) (now : L) → EndsSo part_at events emits changed values whole before result now
      → emits before ≡ false → IfErr result (OnMemory ⊥)
  ends-quiet (Ok nothing) now done quiet = tt
  ends-quiet (Err refusal) now stopped quiet = whole-quiet now refusal stopped quiet

  pub ends-refused : {R : Type 0} (result : Result (Unit {0}) (EachError R)) (now : L) → EndsSo part_at events emits changed values whole before result now
      → IfErr result (OnRefused (IsRefused changed (part_at before) joins))
  ends-refused (Ok nothing) now done = tt
  ends-refused (Err refusal) now stopped = whole-refused now refusal stopped

  pub ends-below : {R : Type 0} (result : Result (Unit {0}) (EachError R)) (now : L) → EndsSo part_at events emits changed values whole before result now
      → IfErr result (OnRefused (λ index. AreChangedBelow changed (part_at before) joins index (part_at now)))
  ends-below (Ok nothing) now done = tt
  ends-below (Err refusal) now stopped = whole-below now refusal stopped

  -- ---- and what was told beside it

  unchanged : (part : Option T) → after changed part None ≡ part
  unchanged None = refl
  unchanged (Some part) = refl

  outside : (i : ℕ) → whole i ≡ false → after changed (part_at before i) (tested whole values i) ≡ part_at before i
  outside i out = ap (λ b. after changed (part_at before i) (cond b (values i) None)) out ∙ unchanged (part_at before i)

  below-outside : (index : ℕ) (now : L) → AreChangedBelow changed (part_at before) (tested whole values) index (part_at now) → (i : ℕ) → whole i ≡ false → part_at now i ≡ part_at before i
  below-outside index now below i out = elim (cases_lt i index) [
    | inl less ↦ below.before i less ∙ outside i out
    | inr more ↦ below.from i more
  ]

  ends-outside : {R : Type 0} (result : Result (Unit {0}) (EachError R)) (now : L) → EndsSo part_at events emits changed values whole before result now → (i : ℕ) → whole i ≡ false → part_at now i ≡ part_at before i
  ends-outside (Ok nothing) now done i out = done.parts.parts i ∙ outside i out
  ends-outside (Err error.Memory) now wants i out = below-outside wants.index now wants.below i out
  ends-outside (Err (error.Refused index refusal)) now stopped i out = below-outside index now stopped.below i out

  names-walked : (has : ℕ → Bool) (i : ℕ) → i < 16777216 → has i ≡ true → Names (map event.Modified (walk has)) i
  names-walked has i low is = named (walk has) ∙ any-walk has i low is
    where
      named : (indices : List ℕ) → list_any (λ one. eqb (index_of one) i) (map event.Modified indices) ≡ list_any (eqb i) indices
      named [] = refl
      named (index ∷ indices) = (λ j. eqb-turned index i j || named indices j)

  -- where the change of each was told before, the events name each index whose part is another
  pub ends-shown : {R : Type 0} (result : Result (Unit {0}) (EachError R)) (now : L) → EndsSo part_at events emits changed values whole before result now
      → (i : ℕ) → (part_at now i ≡ part_at before i) ⊎ Names (map event.Modified (walk (λ i. mask i && beside i))) i
  ends-shown result now ends i = elim (cases_Bool (whole i)) [
    | inl is_in ↦
        let both = and_parts (ltb i (4096 * tops)) (mask i && beside i) is_in in
        let low = (range i (and_parts (mask i) (beside i) both.1).0).1 in
        inr (names-walked (λ i. mask i && beside i) i low both.1)
    | inr out ↦ inl (ends-outside result now ends i out)
  ]

  -- the indices that are told are the shared ones
  pub told-shared : walk (λ i. mask i && beside i) ≡ walk (λ i. mask i && is_some (joins i))
  told-shared = walk-same (λ i. mask i && beside i) (λ i. mask i && is_some (joins i)) (λ i low. ap (λ b. mask i && b) (opens i low))

-- events told one after the other are those of the list
pub told-all : (log : Log ComponentEvent) (indices : List ℕ) → with_more log (map event.Modified indices) ≡ told_each true log indices
told-all log [] = ap (λ held. record { held = held; places = log.places }) (append-nil log.held)
told-all log (index ∷ indices) = sym (more-more log (event.Modified index ∷ []) (map event.Modified indices)) ∙ told-all (with_more log (event.Modified index ∷ [])) indices
