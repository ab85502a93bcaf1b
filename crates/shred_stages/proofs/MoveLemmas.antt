-- Facts on moving values between the slots of two holders.
use Rattle.std.proofs.Common.{◌≡◌, ℕ, ◌<◌, Bool, true, false, ◌||◌, List, [], ◌∷◌, ◌++◌, length, get_or, take, ◌+◌, refl, ap, sym, ◌∙◌, subst, Option, Some, None}
use Rattle.std.specs.Prelude.{if◌then◌else◌}
use Rattle.std.specs.Option.{MatchOption}
use Rattle.std.proofs.lemmas.Bool.{false≢true}
use Rattle.std.proofs.lemmas.List.{take_more}
use Rattle.std.proofs.lemmas.List.Folds.{list_any-append}
use Rattle.shred_world.specs.declared.resource_id.ResourceId.{ResourceId}
use Rattle.shred_world.specs.ResourceIds.{same_id}
use Rattle.shred_world.specs.Bundles.{Slot, absent, out, shared, owned, Holding, takable, with_slot, is_listed}
use Rattle.shred_world.proofs.CallerLemmas.{same_id-is, same_id-itself}
use Rattle.shred_stages.specs.Moves.{emptied, filled, left_of, moved_to}

-- one more id of the list
pub listed-more : (done : List ResourceId) (id q : ResourceId) → is_listed (done ++ id ∷ []) q ≡ (is_listed done q || (same_id q id || false))
listed-more done id q = list_any-append (same_id q) done (id ∷ [])

pub choose : {A : Type 0} (l s : Bool) (x y : A) → s ≡ true → y ≡ (if (l || (s || false)) then y else x)
choose true true x y e = refl
choose false true x y e = refl
choose l false x y e = absurd (false≢true e)

pub keep : {A : Type 0} (l s : Bool) (x y : A) → s ≡ false → (if l then y else x) ≡ (if (l || (s || false)) then y else x)
keep true false x y e = refl
keep false false x y e = refl
keep l true x y e = absurd (false≢true (sym e))

module _ {V : Type 0} where
  -- an edit of one slot, where a value may be taken
  abbrev Edits : Option V → (V → Slot V) → Holding V → Holding V → ResourceId → Type 0
  Edits value f w after id = MatchOption value (after ≡ w) (λ v. after ≡ with_slot w id (f v))

  edits-here : (value : Option V) (f : V → Slot V) (w after : Holding V) (id : ResourceId) → Edits value f w after id
      → MatchOption value (after id ≡ w id) (λ v. after id ≡ f v)
  edits-here None f w after id e = ap (λ (m : Holding V). m id) e
  edits-here (Some v) f w after id e = ap (λ (m : Holding V). m id) e ∙ ap (λ b. if b then f v else w id) (same_id-itself id)

  edits-other : (value : Option V) (f : V → Slot V) (w after : Holding V) (id q : ResourceId) → same_id q id ≡ false → Edits value f w after id → after q ≡ w q
  edits-other None f w after id q other e = ap (λ (m : Holding V). m q) e
  edits-other (Some v) f w after id q other e = ap (λ (m : Holding V). m q) e ∙ ap (λ b. if b then f v else w q) other

  -- the slot itself: what is kept of it, and what the other holder has there
  left-here : (l : Bool) (start now after : Slot V) → now ≡ (if l then emptied start else start)
      → MatchOption (takable now) (after ≡ now) (λ _. after ≡ out) → after ≡ emptied start
  left-here l start now after e m = by l start (let P : Slot V → Type 0 = λ x. MatchOption (takable x) (after ≡ x) (λ _. after ≡ out) in subst P e m)
    where
      by : (l : Bool) (start : Slot V) → MatchOption (takable (if l then emptied start else start)) (after ≡ (if l then emptied start else start)) (λ _. after ≡ out) → after ≡ emptied start
      by true absent m = m
      by true out m = m
      by true (shared v) m = m
      by true (owned v) m = m
      by false absent m = m
      by false out m = m
      by false (shared v) m = m
      by false (owned v) m = m

  moved-here : (l : Bool) (start now to_start to_now to_after : Slot V) → now ≡ (if l then emptied start else start) → to_now ≡ (if l then filled start to_start else to_start)
      → MatchOption (takable now) (to_after ≡ to_now) (λ v. to_after ≡ owned v) → to_after ≡ filled start to_start
  moved-here l start now to_start to_now to_after e f m =
      by l start f (let P : Slot V → Type 0 = λ x. MatchOption (takable x) (to_after ≡ to_now) (λ v. to_after ≡ owned v) in subst P e m)
    where
      by : (l : Bool) (start : Slot V) → to_now ≡ (if l then filled start to_start else to_start)
          → MatchOption (takable (if l then emptied start else start)) (to_after ≡ to_now) (λ v. to_after ≡ owned v) → to_after ≡ filled start to_start
      by true absent f m = m ∙ f
      by true out f m = m ∙ f
      by true (shared v) f m = m ∙ f
      by true (owned v) f m = m ∙ f
      by false absent f m = m ∙ f
      by false out f m = m ∙ f
      by false (shared v) f m = m ∙ f
      by false (owned v) f m = m

  step-from : (done : List ResourceId) (id : ResourceId) (start now after : Holding V) → ((q : ResourceId) → now q ≡ left_of done start q)
      → Edits (takable (now id)) (λ _. out) now after id
      → (q : ResourceId) → after q ≡ left_of (done ++ id ∷ []) start q
  step-from done id start now after known edits q = by (same_id q id) refl
    where
      here : after id ≡ emptied (start id)
      here = left-here (is_listed done id) (start id) (now id) (after id) (known id) (edits-here (takable (now id)) (λ _. out) now after id edits)

      by : (s : Bool) → same_id q id ≡ s → after q ≡ left_of (done ++ id ∷ []) start q
      by true is =
          let P : ResourceId → Type 0 = λ r. after r ≡ emptied (start r) in
          subst P (sym (same_id-is q id is)) here
          ∙ choose (is_listed done q) (same_id q id) (start q) (emptied (start q)) is
          ∙ ap (λ b. if b then emptied (start q) else start q) (sym (listed-more done id q))
      by false is =
          edits-other (takable (now id)) (λ _. out) now after id q is edits ∙ known q
          ∙ keep (is_listed done q) (same_id q id) (start q) (emptied (start q)) is
          ∙ ap (λ b. if b then emptied (start q) else start q) (sym (listed-more done id q))

  step-to : (done : List ResourceId) (id : ResourceId) (start now to_start to_now to_after : Holding V) → ((q : ResourceId) → now q ≡ left_of done start q)
      → ((q : ResourceId) → to_now q ≡ moved_to done start to_start q)
      → Edits (takable (now id)) owned to_now to_after id
      → (q : ResourceId) → to_after q ≡ moved_to (done ++ id ∷ []) start to_start q
  step-to done id start now to_start to_now to_after known to_known edits q = by (same_id q id) refl
    where
      here : to_after id ≡ filled (start id) (to_start id)
      here = moved-here (is_listed done id) (start id) (now id) (to_start id) (to_now id) (to_after id) (known id) (to_known id) (edits-here (takable (now id)) owned to_now to_after id edits)

      by : (s : Bool) → same_id q id ≡ s → to_after q ≡ moved_to (done ++ id ∷ []) start to_start q
      by true is =
          let P : ResourceId → Type 0 = λ r. to_after r ≡ filled (start r) (to_start r) in
          subst P (sym (same_id-is q id is)) here
          ∙ choose (is_listed done q) (same_id q id) (to_start q) (filled (start q) (to_start q)) is
          ∙ ap (λ b. if b then filled (start q) (to_start q) else to_start q) (sym (listed-more done id q))
      by false is =
          edits-other (takable (now id)) owned to_now to_after id q is edits ∙ to_known q
          ∙ keep (is_listed done q) (same_id q id) (to_start q) (filled (start q) (to_start q)) is
          ∙ ap (λ b. if b then filled (start q) (to_start q) else to_start q) (sym (listed-more done id q))

  -- the step of a loop over the ids
  pub loop-from : (ids : List ResourceId) (k : ℕ) (id : ResourceId) (start now after : Holding V) → k < length ids → id ≡ get_or ids k id
      → ((q : ResourceId) → now q ≡ left_of (take k ids) start q) → Edits (takable (now id)) (λ _. out) now after id
      → (q : ResourceId) → after q ≡ left_of (take (k + 1) ids) start q
  loop-from ids k id start now after h read known edits q =
      let more : take k ids ++ id ∷ [] ≡ take (k + 1) ids = ap (λ r. take k ids ++ r ∷ []) read ∙ sym (take_more ids k id h) in
      step-from (take k ids) id start now after known edits q ∙ ap (λ list. left_of list start q) more

  pub loop-to : (ids : List ResourceId) (k : ℕ) (id : ResourceId) (start now to_start to_now to_after : Holding V) → k < length ids → id ≡ get_or ids k id
      → ((q : ResourceId) → now q ≡ left_of (take k ids) start q) → ((q : ResourceId) → to_now q ≡ moved_to (take k ids) start to_start q)
      → Edits (takable (now id)) owned to_now to_after id
      → (q : ResourceId) → to_after q ≡ moved_to (take (k + 1) ids) start to_start q
  loop-to ids k id start now to_start to_now to_after h read known to_known edits q =
      let more : take k ids ++ id ∷ [] ≡ take (k + 1) ids = ap (λ r. take k ids ++ r ∷ []) read ∙ sym (take_more ids k id h) in
      step-to (take k ids) id start now to_start to_now to_after known to_known edits q ∙ ap (λ list. moved_to list start to_start q) more
