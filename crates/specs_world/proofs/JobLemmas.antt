-- What jobs over lists of tries come to, and resources that were lent.
use Rattle.std.proofs.Common.{◌≡◌, ◌≢◌, Bool, false, not, Option, Some, None, List, ◌∷◌, inr, Bor, IsSome, refl, sym, ap, subst, ◌∙◌}
use Rattle.std.proofs.lemmas.Bool.{false≢true}
use Rattle.std.specs.Option.{option_copied, is_some}
use Rattle.shred_world.specs.Worlds.{Slots}
use Rattle.specs_entity.specs.declared.errors.Error.{Error}
use Rattle.specs_entity.specs.declared.errors.Error.TheVariants as variant
use Rattle.specs_world.specs.Jobs.{earlier, TriesEach}

-- what was lent is there
pub is-there : {A : Type 0} (lent : Option (Bor A)) (there : Option A) (none : Bool) → is_some lent ≡ not none → none ≡ false → option_copied lent ≡ there → IsSome there
is-there None there none some is value = absurd (false≢true (some ∙ ap not is))
is-there (Some a) there none some is value = subst IsSome value refl

module _ {V X : Type 0} (tries : X → Option Error → Slots V → Slots V → Type 0) (all : List X) (start : Slots V) where
  -- what these tries come to from here is what all come to from the start
  abbrev pub AreLeft : List X → (so_far : Option Error) → Slots V → Type 0
  AreLeft items so_far now = (refused : Option Error) (after : Slots V) → TriesEach tries items so_far refused now after → TriesEach tries all None refused start after

  -- at the start all are left
  pub left-first : (items : List X) → items ≡ all → AreLeft items None start
  left-first items same refused after tried = subst (λ xs. TriesEach tries xs None refused start after) same tried

  module _ (items : List X) (so_far : Option Error) (now : Slots V) (left : AreLeft items so_far now) where
    module _ (x : X) (xs : List X) (first : items ≡ x ∷ xs) (one : Option Error) (middle : Slots V) (tried : tries x one now middle) where
      -- else the others are left
      pub left-on : one ≢ Some variant.Memory → (kept : Option Error) → kept ≡ earlier so_far one → AreLeft xs kept middle
      left-on other kept is refused after rest =
          left refused after
          (subst (λ items. TriesEach tries items so_far refused now after) (sym first) (inr (one, middle, tried, other, subst (λ kept. TriesEach tries xs kept refused middle after) is rest)))
