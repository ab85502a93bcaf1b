-- Jobs that wait in the queues of a world.
use Rattle.std.proofs.Common.{◌≡◌, ◌≢◌, ◌<◌, ◌≤◌, ◌+◌, ℕ, Bool, true, false, IsSome, Option, Some, None, List, [], ◌∷◌, ◌⊎◌, inl, inr, MutBor, OnSome, IfNone, IfSome, MatchOption, refl, sym, ap, subst, ◌∙◌, arith}
use Rattle.std.proofs.lemmas.Bool.{false≢true, cases_lt}
use Rattle.std.specs.Prelude.{unwrap_or}
use Rattle.std.specs.Option.{option_copied_mut, option_and_then}
use Rattle.std.specs.FinMap as map
use Rattle.shred_world.specs.declared.resource_id.ResourceId.{ResourceId}
use Rattle.shred_world.specs.ResourceIds.{id_of}
use Rattle.shred_world.specs.Worlds.{Slots, value_at, resource_at, IsLeastFrom}
use Rattle.shred_world.proofs.WorldLemmas.{on_some}
use Rattle.specs_world.specs.Resources.{Place}
use Rattle.specs_world.proofs.ResourceLemmas.{lent-same}
use Rattle.specs_world.specs.Queues.{waiting, NoneWaits, NoneBelow, TakesUnder}

module _ {V J : Type 0} (at : Place V (List J)) (w : Slots V) where
  -- no job waits where no value stands
  pub none-there : (number : ℕ) → value_at w (id_of at.id.kind number) ≡ None → waiting at w number ≡ []
  none-there number none = ap (λ value. unwrap_or (option_and_then at.part value) []) none

  -- a queue that was lent lost its oldest job, if it had one
  pub lent-takes : (w' : Slots V) (number : ℕ) (id : ResourceId) (lent : Option (MutBor (List J))) (queue : MutBor (List J)) (left : List J) (result : Option J) → id ≡ id_of at.id.kind number → lent ≡ Some queue
      → option_copied_mut lent ≡ resource_at at.part w id → OnSome lent (w' ≡ map.insert w id (Some (at.wrapped left)))
      → MatchOption result ((queue.now ≡ []) × (left ≡ [])) (λ job. queue.now ≡ job ∷ left) → IfSome result (λ job. TakesUnder at number job w w')
  lent-takes w' number id lent queue left None same is stood leaves first = tt
  lent-takes w' number id lent queue left (Some job) same is stood leaves first =
      record {
        rest = left;
        queued = ap (resource_at at.part w) (sym same) ∙ sym stood ∙ ap option_copied_mut is ∙ ap Some first;
        taken = on_some lent queue _ is leaves ∙ ap (λ id. map.insert w id (Some (at.wrapped left))) same;
      }

  -- a queue that was lent and gave no job left the world
  pub lent-keeps : (w' : Slots V) (id : ResourceId) (lent : Option (MutBor (List J))) (queue : MutBor (List J)) (left : List J) (result : Option J)
      → ((value : V) (jobs : List J) → at.part value ≡ Some jobs → value ≡ at.wrapped jobs) → lent ≡ Some queue
      → option_copied_mut lent ≡ resource_at at.part w id → OnSome lent (w' ≡ map.insert w id (Some (at.wrapped left)))
      → MatchOption result ((queue.now ≡ []) × (left ≡ [])) (λ job. queue.now ≡ job ∷ left) → IfNone result (w' ≡ w)
  lent-keeps w' id lent queue left (Some job) only is stood leaves first = tt
  lent-keeps w' id lent queue left None only is stood leaves first =
      lent-same at.part at.wrapped w w' id lent queue left is stood leaves only (first.1 ∙ sym first.0)

  -- below 1 is the number 0 alone
  pub none-below-one : waiting at w 0 ≡ [] → NoneBelow at w 1
  none-below-one none other lesser = let e : other ≡ 0 = omega arith in ap (waiting at w) e ∙ none

  -- a queue of which it isn't so that a job waits in it is empty
  pub none-waiting : {X : Type 0} (xs : List X) (found : Bool) → (xs ≢ [] → found ≡ true) → found ≡ false → xs ≡ []
  none-waiting [] found says none = refl
  none-waiting (x ∷ xs) found says none = absurd (false≢true (sym none ∙ says (λ e. cc)))

  module _ (kind from : ℕ) (found : Option ℕ) (number : ℕ) (same : kind ≡ at.id.kind) (least : IsLeastFrom w kind from found) (is : found ≡ Some number) (none : NoneBelow at w from) where
    -- under each number below the least one with a queue no job waits
    pub none-below : NoneBelow at w number
    none-below other lesser = at_other (cases_lt other from)
      where
        found_least : (from ≤ number) × IsSome (value_at w (id_of kind number)) × ((d : ℕ) → from ≤ d → d < number → value_at w (id_of kind d) ≡ None)
        found_least = subst (λ o. IsLeastFrom w kind from o) is least

        at_other : (other < from) ⊎ (from ≤ other) → waiting at w other ≡ []
        at_other (inl before) = none other before
        at_other (inr behind) = none-there other (ap (λ k. value_at w (id_of k other)) (sym same) ∙ found_least.2 other behind lesser)

    -- where its queue is empty too, none waits up to it
    pub none-up-to : waiting at w number ≡ [] → NoneBelow at w (number + 1)
    none-up-to here other lesser = at_other (cases_lt other number)
      where
        at_other : (other < number) ⊎ (number ≤ other) → waiting at w other ≡ []
        at_other (inl before) = none-below other before
        at_other (inr behind) = let e : other ≡ number = omega arith in ap (waiting at w) e ∙ here

-- each number of 64 bits is below the one behind the greatest
pub below-all : {V J : Type 0} (at : Place V (List J)) (w : Slots V) (number : ℕ) → number ≡ 18446744073709551615 → NoneBelow at w (number + 1) → NoneWaits at w
below-all at w number greatest none other small = none other (omega arith)
