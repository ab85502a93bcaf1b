-- Lists are the same up to order where they are reached by turning neighbours round whose order doesn't count.
use Rattle.std.proofs.Common.{◌≡◌, inl, inr, Bool, true, false, List, [], ◌∷◌, ◌++◌, sym, ◌∙◌, ap}
use Rattle.std.proofs.lemmas.Bool.{false≢true}
use Rattle.std.proofs.lemmas.List.Sorted.{IsPermutation-refl, IsPermutation-trans, IsPermutation-append_right, IsPermutation-middle}
use Rattle.shred_plan.specs.Plan.{Placing}
use Rattle.shred_stages.specs.Orders.{IsIn, StandsBefore, SameUpToOrder, are_bound}

module _ {Id : Type 0} (same : Id → Id → Bool) where
  pub same-itself : (order : List (Placing Id)) → SameUpToOrder same order order
  same-itself order = record { systems = IsPermutation-refl order; stand = λ one other bound stands. stands }

  pub same-again : (order list last : List (Placing Id)) → SameUpToOrder same order list → SameUpToOrder same list last → SameUpToOrder same order last
  same-again order list last first second = record {
    systems = IsPermutation-trans order list last first.systems second.systems;
    stand = λ one other bound stands. second.stand one other bound (first.stand one other bound stands);
  }

  module _ (one other : Placing Id) (late : List (Placing Id)) where
    in-turned : (early : List (Placing Id)) (x : Placing Id) → IsIn x (early ++ one ∷ other ∷ late) → IsIn x (early ++ other ∷ one ∷ late)
    in-turned [] x (inl is) = inr (inl is)
    in-turned [] x (inr (inl is)) = inl is
    in-turned [] x (inr (inr there)) = inr (inr there)
    in-turned (y ∷ early) x (inl is) = inl is
    in-turned (y ∷ early) x (inr there) = inr (in-turned early x there)

    before-turned : are_bound same one other ≡ false → (early : List (Placing Id)) (x y : Placing Id) → are_bound same x y ≡ true → StandsBefore x y (early ++ one ∷ other ∷ late) → StandsBefore x y (early ++ other ∷ one ∷ late)
    before-turned free [] x y bound (inl (is, inl is2)) =
        absurd (false≢true (sym free ∙ ap (λ z. are_bound same z other) is ∙ ap (are_bound same x) is2 ∙ bound))
    before-turned free [] x y bound (inl (is, inr there)) = inr (inl (is, there))
    before-turned free [] x y bound (inr (inl (is, there))) = inl (is, inr there)
    before-turned free [] x y bound (inr (inr stands)) = inr (inr stands)
    before-turned free (z ∷ early) x y bound (inl (is, there)) = inl (is, in-turned early y there)
    before-turned free (z ∷ early) x y bound (inr stands) = inr (before-turned free early x y bound stands)

    pub same-turned : are_bound same one other ≡ false → (early : List (Placing Id)) → SameUpToOrder same (early ++ one ∷ other ∷ late) (early ++ other ∷ one ∷ late)
    same-turned free early = record {
      systems = IsPermutation-append_right early (one ∷ other ∷ late) (other ∷ one ∷ late) (IsPermutation-middle (one ∷ []) other late);
      stand = before-turned free early;
    }
