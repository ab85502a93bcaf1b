-- What the events show of a change, for no change, one change and one after another.
use Rattle.std.proofs.Common.{◌≡◌, ℕ, Bool, true, false, cond, eqb, List, [], ◌∷◌, ◌++◌, Option, None, Some, IsSome, is_some, refl, sym, ap, ◌∙◌, inl, inr, ◌⊎◌, arith}
use Rattle.std.specs.List.{list_any}
use Rattle.std.proofs.lemmas.Bool.{cases_eq, false≢true, or_left, or_right}
use Rattle.std.proofs.lemmas.List.{append-nil, append_assoc}
use Rattle.std.proofs.lemmas.List.Folds.{list_any-append}
use Rattle.specs_layouts.specs.Channels.{Log, with_more}
use Rattle.specs_layouts.specs.declared.track.ComponentEvent.{ComponentEvent}
use Rattle.specs_layouts.specs.declared.track.ComponentEvent.TheVariants.{Modified, Removed}
use Rattle.specs_layouts.specs.Parts.{Puts, SameParts, told}
use Rattle.specs_layouts.specs.Shows.{index_of, Names, Shows}

-- ---- events behind events

more-none : {E : Type 0} (log : Log E) → log ≡ with_more log []
more-none log = ap (λ held. record { held = held; places = log.places }) (sym (append-nil log.held))

-- events behind events are those of both lists
pub more-more : {E : Type 0} (log : Log E) (one two : List E) → with_more (with_more log one) two ≡ with_more log (one ++ two)
more-more log one two = ap (λ held. record { held = held; places = log.places }) (append_assoc log.held one two)

told-more : {E : Type 0} (on : Bool) (log : Log E) (event : E) → told on log event ≡ with_more log (cond on (event ∷ []) [])
told-more true log event = refl
told-more false log event = more-none log

-- ---- indices that are named

pub names-first : (one two : List ComponentEvent) (index : ℕ) → Names one index → Names (one ++ two) index
names-first one two index named =
    let has : ComponentEvent → Bool = λ event. eqb (index_of event) index in
    list_any-append has one two ∙ or_left (list_any has one) (list_any has two) named

pub names-later : (one two : List ComponentEvent) (index : ℕ) → Names two index → Names (one ++ two) index
names-later one two index named =
    let has : ComponentEvent → Bool = λ event. eqb (index_of event) index in
    list_any-append has one two ∙ or_right (list_any has one) (list_any has two) named

names-one : (event : ComponentEvent) (index : ℕ) → index ≡ index_of event → Names (event ∷ []) index
names-one event index is = grind (arith, is)

-- ---- what is shown

module _ {S T : Type 0} (part_at : S → ℕ → Option T) (events : S → Log ComponentEvent) (emits : S → Bool) where
  -- no part changed, and nothing was told
  pub shows-same : (before after : S) → SameParts (part_at before) (part_at after) → events after ≡ events before → emits after ≡ emits before → Shows part_at events emits before after
  shows-same before after same silent emission = record {
    more = [];
    told = silent ∙ more-none (events before);
    emission = emission;
    all = λ _ index. inl (same index);
  }

  pub shows-refl : (state : S) → Shows part_at events emits state state
  shows-refl state = shows-same state state (λ _. refl) refl refl

  pub shows-trans : (first second third : S) → Shows part_at events emits first second → Shows part_at events emits second third → Shows part_at events emits first third
  shows-trans first second third one two = record {
    more = one.more ++ two.more;
    told = two.told ∙ (ap (λ log. with_more log two.more) one.told ∙ more-more (events first) one.more two.more);
    emission = two.emission ∙ one.emission;
    all = λ on index. elim (two.all (one.emission ∙ on) index) [
      | inl same ↦ elim (one.all on index) [
        | inl before ↦ inl (same ∙ before)
        | inr named ↦ inr (names-first one.more two.more index named)
      ]
      | inr named ↦ inr (names-later one.more two.more index named)
    ];
  }

  one-shown : (before after : ℕ → Option T) (on : Bool) (event : ComponentEvent) (part : Option T) → Puts before (index_of event) part after → on ≡ true → (index : ℕ) → (after index ≡ before index) ⊎ Names (cond on (event ∷ []) []) index
  one-shown before after true event part puts _ index = elim (cases_eq index (index_of event)) [
    | inl here ↦ inr (names-one event index here)
    | inr apart ↦ inl (puts.others index apart)
  ]
  one-shown before after false event part puts on index = absurd (false≢true on)

  -- one index has something else, and an event of that index was told
  pub shows-put : (before after : S) (event : ComponentEvent) (part : Option T) → Puts (part_at before) (index_of event) part (part_at after) → events after ≡ told (emits before) (events before) event → emits after ≡ emits before → Shows part_at events emits before after
  shows-put before after event part puts tells emission = record {
    more = cond (emits before) (event ∷ []) [];
    told = tells ∙ told-more (emits before) (events before) event;
    emission = emission;
    all = one-shown (part_at before) (part_at after) (emits before) event part puts;
  }

  -- a part was written through what get_mut lent
  pub shows-written : (written : S → ℕ → T → S)
      → ((s : S) (index : ℕ) (part : T) → IsSome (part_at s index) → Puts (part_at s) index (Some part) (part_at (written s index part)))
      → ((s : S) (index : ℕ) (part : T) → events (written s index part) ≡ told (emits s) (events s) (Modified index))
      → ((s : S) (index : ℕ) (part : T) → emits (written s index part) ≡ emits s)
      → (s : S) (index : ℕ) (part : T) → IsSome (part_at s index) → Shows part_at events emits s (written s index part)
  shows-written written puts tells emission s index part there =
      shows-put s (written s index part) (Modified index) (Some part) (puts s index part there) (tells s index part) (emission s index part)

  lacking : (part : Option T) → is_some part ≡ false → part ≡ None
  lacking None _ = refl
  lacking (Some part) lacks = absurd (false≢true (sym lacks))

  -- a part was taken out, where there was one
  pub shows-taken : (before after : S) (index : ℕ) (was : Bool) → is_some (part_at before index) ≡ was → Puts (part_at before) index None (part_at after) → events after ≡ cond was (told (emits before) (events before) (Removed index)) (events before) → emits after ≡ emits before → Shows part_at events emits before after
  shows-taken before after index true _ puts tells emission = shows-put before after (Removed index) None puts tells emission
  shows-taken before after index false lacks puts silent emission =
      shows-same before after
      (λ other. elim (cases_eq other index) [
        | inl here ↦ ap (part_at after) here ∙ (puts.here ∙ sym (ap (part_at before) here ∙ lacking (part_at before index) lacks))
        | inr apart ↦ puts.others other apart
      ])
      silent emission
