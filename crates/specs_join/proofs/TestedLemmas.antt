-- Parts that are changed at the indices of one test, and then at those of another.
use Rattle.std.proofs.Common.{◌≡◌, ℕ, zero, suc, ◌+◌, ◌<◌, ◌≤◌, List, [], ◌∷◌, ◌++◌, Bool, true, false, cond, eqb, filter, ◌||◌, Option, Some, None, is_some, Err, inl, inr, refl, sym, ap, subst, ◌∙◌, arith}
use Rattle.std.proofs.lemmas.Bool.{cases_Bool, cases_eq, false_from_ne_true, eq-eqb, ne_eqb}
use Rattle.std.specs.List.{range_with_len}
use Rattle.hibitset_sets.specs.Walk.{walk}
use Rattle.hibitset_sets.proofs.CallerLemmas.{filter-same, filter-none}
use Rattle.specs_layouts.specs.Channels.{Log}
use Rattle.specs_layouts.specs.Parts.{Puts, told}
use Rattle.specs_layouts.specs.Shows.{Shows}
use Rattle.specs_layouts.specs.declared.track.ComponentEvent.{ComponentEvent}
use Rattle.specs_layouts.specs.declared.track.ComponentEvent.TheVariants.{Modified}
use Rattle.specs_layouts.proofs.CallerLemmas.{shows-trans}
use Rattle.specs_join.specs.ChangeEach.{after, AreChangedBelow, IsRefused, told_each}
use Rattle.specs_join.specs.Tested.{tested, AreDone, EndsSo}
use Rattle.specs_join.specs.declared.join.change.EachError.{EachError}
use Rattle.specs_join.specs.declared.join.change.EachError.TheVariants as error
use Rattle.specs_join.proofs.NewLemmas.{walk-is}

-- ---- walks

-- what passes the one test comes before what passes the other
abbrev pub Precedes : (ℕ → Bool) → (ℕ → Bool) → Type 0
Precedes one other = (i j : ℕ) → one i ≡ true → other j ≡ true → i < j

module _ (p q r : ℕ → Bool) (apart : Precedes p q) where
  none-left : (a i : ℕ) → q a ≡ true → a ≤ i → p i ≡ false
  none-left a i there least = false_from_ne_true (p i) (λ here. let less = apart i a here there in absurd (omega (arith, least, less)))

  either : (a : ℕ) (pa qa : Bool) → r a ≡ (p a || q a) → p a ≡ pa → q a ≡ qa → r a ≡ (pa || qa)
  either a pa qa is pe qe = is ∙ (λ j. pe j || qe j)

  filter-two : (n a : ℕ) → ((i : ℕ) → a ≤ i → i < a + n → r i ≡ (p i || q i)) → filter r (range_with_len a n) ≡ filter p (range_with_len a n) ++ filter q (range_with_len a n)
  filter-two zero a is = refl
  filter-two (suc n) a is =
      let rest = filter-two n (a + 1) (λ i low high. is i (omega (arith, low)) (omega (arith, high))) in
      let here : r a ≡ (p a || q a) = is a (omega arith) (omega arith) in
      let list = range_with_len (a + 1) n in
      elim (cases_Bool (q a)) [
        | inl there ↦
            filter-same (suc n) a r q (λ i low high. is i low high ∙ ap (λ b. b || q i) (none-left a i there low))
            ∙ ap (λ xs. xs ++ filter q (range_with_len a (suc n))) (sym (filter-none (suc n) a p (λ i low high. none-left a i there low)))
        | inr out ↦
            elim (cases_Bool (p a)) [
              | inl first ↦
                  ap (λ b. cond b (a ∷ filter r list) (filter r list)) (either a true false here first out)
                  ∙ (ap (λ xs. a ∷ xs) rest
                  ∙ (λ j. cond (sym first j) (a ∷ filter p list) (filter p list) ++ cond (sym out j) (a ∷ filter q list) (filter q list)))
              | inr none ↦
                  ap (λ b. cond b (a ∷ filter r list) (filter r list)) (either a false false here none out)
                  ∙ (rest
                  ∙ (λ j. cond (sym none j) (a ∷ filter p list) (filter p list) ++ cond (sym out j) (a ∷ filter q list) (filter q list)))
            ]
      ]

  -- the walk of both is the one behind the other
  walk-two : ((i : ℕ) → i < 16777216 → r i ≡ (p i || q i)) → walk r ≡ walk p ++ walk q
  walk-two is = walk-is r ∙ (filter-two 16777216 0 (λ i low high. is i (omega (arith, high))) ∙ (λ j. sym (walk-is p) j ++ sym (walk-is q) j))

filter-one : (n a index : ℕ) → a ≤ index → index < a + n → filter (λ i. eqb i index) (range_with_len a n) ≡ index ∷ []
filter-one zero a index low high = absurd (omega (arith, low, high))
filter-one (suc n) a index low high =
    let list = filter (λ i. eqb i index) (range_with_len (a + 1) n) in
    elim (cases_eq a index) [
      | inl here ↦
          ap (λ b. cond b (a ∷ list) list) (eq-eqb a index here)
          ∙ ((λ j. here j ∷ filter-none n (a + 1) (λ i. eqb i index) (λ i least most. ne_eqb i index (λ e. omega (arith, e, here, least))) j))
      | inr apart ↦ ap (λ b. cond b (a ∷ list) list) (ne_eqb a index apart) ∙ filter-one n (a + 1) index (omega (arith, low, apart)) (omega (arith, high))
    ]

-- the walk of one index
pub walk-one : (index : ℕ) → index < 16777216 → walk (λ i. eqb i index) ≡ index ∷ []
walk-one index within = walk-is (λ i. eqb i index) ∙ filter-one 16777216 0 index (omega arith) (omega (arith, within))

-- the events of two lists
told-two : (emits : Bool) (events : Log ComponentEvent) (one other : List ℕ) → told_each emits events (one ++ other) ≡ told_each emits (told_each emits events one) other
told-two emits events [] other = refl
told-two emits events (index ∷ one) other = told-two emits (told emits events (Modified index)) one other

-- ---- parts

module _ {T S : Type 0} (changed : T → S → Option T) where
  after-none : (part : Option T) → after changed part None ≡ part
  after-none None = refl
  after-none (Some part) = refl

  -- a part that the one or the other changes
  two-at : (p q r : Bool) (part between : Option T) (item : Option S) → r ≡ (p || q) → ((p ≡ true) → (q ≡ true) → ⊥)
      → between ≡ after changed part (cond p item None) → after changed between (cond q item None) ≡ after changed part (cond r item None)
  two-at true true r part between item is apart was = absurd (apart refl refl)
  two-at true false r part between item is apart was = after-none between ∙ (was ∙ ap (λ b. after changed part (cond b item None)) (sym is))
  two-at false true r part between item is apart was = ap (λ x. after changed x item) (was ∙ after-none part) ∙ ap (λ b. after changed part (cond b item None)) (sym is)
  two-at false false r part between item is apart was = after-none between ∙ (was ∙ ap (λ b. after changed part (cond b item None)) (sym is))

  -- one that is still as it was
  kept-at : (p : Bool) (part between : Option T) (item : Option S) → p ≡ false → between ≡ after changed part (cond p item None) → between ≡ part
  kept-at p part between item is was = was ∙ (ap (λ b. after changed part (cond b item None)) is ∙ after-none part)

module _ {L T S : Type 0} (part_at : L → ℕ → Option T) (events : L → Log ComponentEvent) (emits : L → Bool) (changed : T → S → Option T) (items : ℕ → Option S) where
  -- where no index passes, nothing is changed
  pub done-none : (test : ℕ → Bool) (now : L) → ((i : ℕ) → test i ≡ false) → AreDone part_at events emits changed items test now now
  done-none test now none =
      record {
        parts = record {
          parts = λ i. sym (after-none changed (part_at now i)) ∙ ap (λ b. after changed (part_at now i) (cond b (items i) None)) (sym (none i));
          same = λ i. refl;
        };
        told = ap (told_each (emits now) (events now)) (sym (walk-is test ∙ filter-none 16777216 0 test (λ i low high. none i)));
      }

  -- tests that pass the same indices
  pub done-same : (p q : ℕ → Bool) (before now : L) → ((i : ℕ) → p i ≡ q i) → AreDone part_at events emits changed items p before now
      → AreDone part_at events emits changed items q before now
  done-same p q before now same done = subst (λ test. AreDone part_at events emits changed items test before now) (λ j i. same i j) done

  module _ (p q : ℕ → Bool) (before between now : L) (apart : Precedes p q) (shown : Shows part_at events emits before between)
      (done : AreDone part_at events emits changed items p before between) where
    never : (i : ℕ) → p i ≡ true → q i ≡ true → ⊥
    never i one other = let less = apart i i one other in absurd (omega (arith, less))

    -- those of the one test are changed, and then those of the other
    pub done-next : (r : ℕ → Bool) → ((i : ℕ) → r i ≡ (p i || q i)) → AreDone part_at events emits changed items q between now
        → AreDone part_at events emits changed items r before now
    done-next r is next =
        record {
          parts = record {
            parts = λ i. next.parts.parts i ∙ two-at changed (p i) (q i) (r i) (part_at before i) (part_at between i) (items i) (is i) (never i) (done.parts.parts i);
            same = λ i. next.parts.same i ∙ done.parts.same i;
          };
          told =
              next.told
              ∙ ((λ j. told_each (shown.emission j) (done.told j) (walk q))
              ∙ (sym (told-two (emits before) (events before) (walk p) (walk q))
              ∙ ap (told_each (emits before) (events before)) (sym (walk-two p q r apart (λ i low. is i)))));
        }

    -- where the change of those of the other stops, it stops for both
    below-next : (r : ℕ → Bool) (index : ℕ) → q index ≡ true → ((i : ℕ) → i < index → r i ≡ (p i || q i))
        → AreChangedBelow changed (part_at between) (tested q items) index (part_at now) → AreChangedBelow changed (part_at before) (tested r items) index (part_at now)
    below-next r index there is below =
        record {
          before = λ i less. below.before i less ∙ two-at changed (p i) (q i) (r i) (part_at before i) (part_at between i) (items i) (is i less) (never i) (done.parts.parts i);
          from = λ i least. below.from i least ∙ kept-at changed (p i) (part_at before i) (part_at between i) (items i)
              (none-left p q p apart index i there least) (done.parts.parts i);
          same = λ i. below.same i ∙ done.parts.same i;
        }

    item-passes : (test : Bool) (item : Option S) (found : S) → cond test item None ≡ Some found → (test ≡ true) × (item ≡ Some found)
    item-passes true item found is = (refl, is)
    item-passes false None found is = absurd (cc (is))
    item-passes false (Some item) found is = absurd (cc (is))

    pub stops-next : {R : Type 0} (r : ℕ → Bool) (refusal : EachError R) → ((i j : ℕ) → i < j → q j ≡ true → r i ≡ (p i || q i))
        → ((j : ℕ) → q j ≡ true → r j ≡ true) → EndsSo part_at events emits changed items q between (Err refusal) now
        → EndsSo part_at events emits changed items r before (Err refusal) now
    stops-next r error.Memory is holds wants =
        record {
          emission = sym shown.emission ∙ wants.emission;
          index = wants.index;
          passes = holds wants.index wants.passes;
          below = below-next r wants.index wants.passes (λ i less. is i wants.index less wants.passes) wants.below;
        }
    stops-next r (error.Refused index refusal) is holds stopped =
        let passed = item-passes (q index) (items index) stopped.refused.item stopped.refused.has_item in
        record {
          refused = record {
            part = stopped.refused.part;
            item = stopped.refused.item;
            has_part = sym (kept-at changed (p index) (part_at before index) (part_at between index) (items index)
                (none-left p q p apart index index passed.0 (omega arith)) (done.parts.parts index)) ∙ stopped.refused.has_part;
            has_item = ap (λ b. cond b (items index) None) (holds index passed.0) ∙ passed.1;
            refused = stopped.refused.refused;
          };
          below = below-next r index passed.0 (λ i less. is i index less passed.0) stopped.below;
        }

    -- and the events show both
    pub shows-both : Shows part_at events emits between now → Shows part_at events emits before now
    shows-both next = shows-trans part_at events emits before between now shown next

  -- ---- one index

  module _ (index : ℕ) (before now : L) where
    at-other : (i : ℕ) → ¬ (i ≡ index) → part_at before i ≡ after changed (part_at before i) (tested (λ k. eqb k index) items i)
    at-other i apart = sym (after-none changed (part_at before i)) ∙ ap (λ b. after changed (part_at before i) (cond b (items i) None)) (sym (ne_eqb i index apart))

    -- the part there is changed
    pub done-one : index < 16777216 → (part part' : T) (item : S) → part_at before index ≡ Some part → items index ≡ Some item → changed part item ≡ Some part'
        → Puts (part_at before) index (Some part') (part_at now) → events now ≡ told (emits before) (events before) (Modified index)
        → AreDone part_at events emits changed items (λ i. eqb i index) before now
    done-one within part part' item there has makes puts tells =
        record {
          parts = record {
            parts = λ i. elim (cases_eq i index) [
              | inl here ↦
                  ap (part_at now) here ∙ (puts.here ∙ (sym makes ∙ ((λ j. after changed (sym there j) (sym has j))
                  ∙ ((λ j. after changed (part_at before (sym here j)) (items (sym here j)))
                  ∙ ap (λ b. after changed (part_at before i) (cond b (items i) None)) (sym (eq-eqb i index here))))))
              | inr apart ↦ puts.others i apart ∙ at-other i apart
            ];
            same = λ i. elim (cases_eq i index) [
              | inl here ↦ ap (λ k. is_some (part_at now k)) here ∙ (ap is_some puts.here ∙ (sym (ap is_some there) ∙ ap (λ k. is_some (part_at before k)) (sym here)))
              | inr apart ↦ ap is_some (puts.others i apart)
            ];
          };
          told = tells ∙ ap (told_each (emits before) (events before)) (sym (walk-one index within));
        }

    -- the part there stays as it was
    pub below-one : ((i : ℕ) → part_at now i ≡ part_at before i) → AreChangedBelow changed (part_at before) (tested (λ i. eqb i index) items) index (part_at now)
    below-one stays =
        record {
          before = λ i less. stays i ∙ at-other i (λ e. omega (arith, e, less));
          from = λ i least. stays i;
          same = λ i. ap is_some (stays i);
        }

    -- its change is refused
    pub refused-one : (part : T) (item : S) → part_at before index ≡ Some part → items index ≡ Some item → changed part item ≡ None
        → IsRefused changed (part_at before) (tested (λ i. eqb i index) items) index
    refused-one part item there has none =
        record {
          part = part;
          item = item;
          has_part = there;
          has_item = ap (λ b. cond b (items index) None) (eq-eqb index index refl) ∙ has;
          refused = none;
        }
