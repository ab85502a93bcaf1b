-- Parts that are being changed, index after index.
use Rattle.std.proofs.Common.{◌≡◌, ◌≢◌, ℕ, ◌<◌, ◌≤◌, List, [], ◌∷◌, Bool, true, ◌&&◌, Option, Some, None, is_some, IsSome, ◌⊎◌, inl, inr, refl, sym, ap, subst, ◌∙◌, arith}
use Rattle.std.proofs.lemmas.Bool.{cases_eq}
use Rattle.hibitset_sets.specs.Walk.{walk}
use Rattle.specs_layouts.specs.Channels.{Log}
use Rattle.specs_layouts.specs.Parts.{Puts, SameParts, told}
use Rattle.specs_layouts.specs.Shows.{Shows}
use Rattle.specs_layouts.specs.declared.track.ComponentEvent.{ComponentEvent}
use Rattle.specs_layouts.specs.declared.track.ComponentEvent.TheVariants.{Modified}
use Rattle.specs_layouts.specs.ToCome.{IsToCome}
use Rattle.specs_join.specs.ChangeEach.{after, AreChanged, AreChangedBelow, IsRefused}
use Rattle.specs_layouts.proofs.CallerLemmas.{walk-come, shows-trans, shows-written}

-- an index with a part and an item
abbrev IsShared : {T S : Type 0} → (ℕ → Option T) → (ℕ → Option S) → ℕ → Type 0
IsShared old items index = (is_some (old index) ≡ true) × (is_some (items index) ≡ true)

-- those to come are as they were, the others are changed, and a shared index that isn't to come is less than those that are
pub record IsUnderWay {T S : Type 0} (changed : T → S → Option T) (old : ℕ → Option T) (items : ℕ → Option S) (now : ℕ → Option T) (left : List ℕ) : Type 0 where
  pub ahead : (index : ℕ) → IsToCome index left → now index ≡ old index
  pub behind : (index : ℕ) → ¬ (IsToCome index left) → now index ≡ after changed (old index) (items index)
  pub same : (index : ℕ) → is_some (now index) ≡ is_some (old index)
  pub passed : (index other : ℕ) → IsShared old items index → ¬ (IsToCome index left) → IsToCome other left → index < other

-- what was shown is shown with a part written, too
pub shows-next : {L T : Type 0} (part_at : L → ℕ → Option T) (events : L → Log ComponentEvent) (emits : L → Bool) (written : L → ℕ → T → L)
    → ((s : L) (index : ℕ) (part : T) → IsSome (part_at s index) → Puts (part_at s) index (Some part) (part_at (written s index part)))
    → ((s : L) (index : ℕ) (part : T) → events (written s index part) ≡ told (emits s) (events s) (Modified index))
    → ((s : L) (index : ℕ) (part : T) → emits (written s index part) ≡ emits s)
    → (old now : L) (index : ℕ) (part : T) → IsSome (part_at now index) → Shows part_at events emits old now → Shows part_at events emits old (written now index part)
shows-next part_at events emits written puts tells emission old now index part there shown =
    shows-trans part_at events emits old now (written now index part) shown (shows-written part_at events emits written puts tells emission now index part there)

-- to put what is there changes nothing
pub put-same : {T : Type 0} (before now : ℕ → Option T) (index : ℕ) (part part' : T) → before index ≡ Some part → Puts before index (Some part') now → part' ≡ part → SameParts before now
put-same before now index part part' there puts kept other = elim (cases_eq other index) [
  | inl here ↦ ap now here ∙ (puts.here ∙ (ap Some kept ∙ (sym there ∙ sym (ap before here))))
  | inr apart ↦ puts.others other apart
]

come-or-not : (index : ℕ) (list : List ℕ) → IsToCome index list ⊎ ¬ (IsToCome index list)
come-or-not index [] = inr (λ come. come)
come-or-not index (first ∷ rest) = elim (cases_eq first index) [
  | inl here ↦ inl (inl here)
  | inr apart ↦ elim (come-or-not index rest) [
    | inl there ↦ inl (inr there)
    | inr out ↦ inr (λ come. elim come [ inl here ↦ apart here | inr there ↦ out there ])
  ]
]

module _ {T S : Type 0} (changed : T → S → Option T) (old : ℕ → Option T) (items : ℕ → Option S) where
  stays-where : (part : Option T) (item : Option S) → ¬ ((is_some part ≡ true) × (is_some item ≡ true)) → part ≡ after changed part item
  stays-where None item out = refl
  stays-where (Some part) None out = refl
  stays-where (Some part) (Some item) out = absurd (out (refl, refl))

  module _ (members : ℕ → Bool) (left : List ℕ) (agrees : (index : ℕ) → members index ≡ is_some (old index)) (range : (index : ℕ) → members index ≡ true → index < 16777216) (begins : left ≡ walk (λ index. members index && is_some (items index))) where
    all-come : (index : ℕ) → IsShared old items index → IsToCome index left
    all-come index both = subst (IsToCome index) (sym begins) (walk-come (λ i. members i && is_some (items i)) index (range index (agrees index ∙ both.0)) (ap (λ b. b && is_some (items index)) (agrees index ∙ both.0) ∙ both.1))

    -- before the first index nothing is changed
    pub starts : IsUnderWay changed old items old left
    starts =
        record {
          ahead = λ index come. refl;
          behind = λ index out. stays-where (old index) (items index) (λ both. out (all-come index both));
          same = λ index. refl;
          passed = λ index other both out come. absurd (out (all-come index both));
        }

  module _ (before now : ℕ → Option T) (index : ℕ) (left rest : List ℕ) (is : left ≡ index ∷ rest) (later : (other : ℕ) → IsToCome other rest → index < other) (under : IsUnderWay changed old items before left) where
    come-next : IsToCome index left
    come-next = subst (IsToCome index) (sym is) (inl refl)

    was : before index ≡ old index
    was = under.ahead index come-next

    once : ¬ (IsToCome index rest)
    once come = let more = later index come in absurd (omega (arith, more))

    out-of : (other : ℕ) → other ≢ index → ¬ (IsToCome other rest) → ¬ (IsToCome other left)
    out-of other apart out come = elim (subst (IsToCome other) is come) [ inl e ↦ apart (sym e) | inr r ↦ out r ]

    -- the part at the next index is changed
    pub steps : (part part' : T) (item : S) → before index ≡ Some part → items index ≡ Some item → changed part item ≡ Some part' → Puts before index (Some part') now → IsUnderWay changed old items now rest
    steps part part' item there has done puts =
        record {
          ahead = λ other come. puts.others other (λ here. once (subst (λ i. IsToCome i rest) here come)) ∙ under.ahead other (subst (IsToCome other) (sym is) (inr come));
          behind = λ other out. elim (cases_eq other index) [
            | inl here ↦ ap now here ∙ (puts.here ∙ (sym done ∙ (ap (λ p. after changed p (Some item)) (sym (sym was ∙ there)) ∙ (ap (after changed (old index)) (sym has) ∙ ap (λ i. after changed (old i) (items i)) (sym here)))))
            | inr apart ↦ puts.others other apart ∙ under.behind other (out-of other apart out)
          ];
          same = λ other. elim (cases_eq other index) [
            | inl here ↦ ap (λ i. is_some (now i)) here ∙ (ap is_some puts.here ∙ (sym (ap is_some there) ∙ (ap is_some was ∙ ap (λ i. is_some (old i)) (sym here))))
            | inr apart ↦ ap is_some (puts.others other apart) ∙ under.same other
          ];
          passed = λ one other both out come. elim (cases_eq one index) [
            | inl here ↦ subst (λ i. i < other) (sym here) (later other come)
            | inr apart ↦ under.passed one other both (out-of one apart out) (subst (IsToCome other) (sym is) (inr come))
          ];
        }

    before-next : (other : ℕ) → other < index → ¬ (IsToCome other left)
    before-next other less come = elim (subst (IsToCome other) is come) [
      | inl e ↦ absurd (omega (arith, less, e))
      | inr r ↦ let more = later other r in absurd (omega (arith, less, more))
    ]

    from-next : (other : ℕ) → index ≤ other → IsShared old items other → ¬ (IsToCome other left) → ⊥
    from-next other least both out = let less = under.passed other index both out come-next in absurd (omega (arith, least, less))

    kept : (other : ℕ) → index ≤ other → before other ≡ old other
    kept other least = elim (come-or-not other left) [
      | inl come ↦ under.ahead other come
      | inr out ↦ under.behind other out ∙ sym (stays-where (old other) (items other) (λ both. from-next other least both out))
    ]

    -- where the walk stops at the next index, those before it are changed and the others are as they were
    pub stops : SameParts before now → AreChangedBelow changed old items index now
    stops stays =
        record {
          before = λ other less. stays other ∙ under.behind other (before-next other less);
          from = λ other least. stays other ∙ kept other least;
          same = λ other. ap is_some (stays other) ∙ under.same other;
        }

    -- the part at the next index can't be changed
    pub refuses : (part : T) (item : S) → before index ≡ Some part → items index ≡ Some item → changed part item ≡ None → IsRefused changed old items index
    refuses part item there has refused = record { part = part; item = item; has_part = sym was ∙ there; has_item = has; refused = refused }

  -- past the last index all are changed
  pub ends : (now : ℕ → Option T) (left : List ℕ) → left ≡ [] → IsUnderWay changed old items now left → AreChanged changed old items now
  ends now left none under =
      record {
        parts = λ index. under.behind index (λ come. subst (IsToCome index) none come);
        same = under.same;
      }
