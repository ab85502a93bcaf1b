-- How many items a join has.
use Rattle.std.proofs.Common.{◌≡◌, ℕ, suc, List, [], ◌∷◌, length, Bool, Option, Some, None, is_some, IsSome, inl, inr, refl, sym, ap, ◌∙◌}
use Rattle.std.proofs.lemmas.Bool.{false≢true}
use Rattle.std.specs.List.{cons_option}
use Rattle.hibitset_sets.specs.Walk.{walk}
use Rattle.hibitset_sets.proofs.CallerLemmas.{walk-same}
use Rattle.specs_layouts.specs.ToCome.{IsToCome}
use Rattle.specs_join.specs.Joins.{values_at, join_list}
use Rattle.specs_join.proofs.NewLemmas.{walk-members}

one-there : {T : Type 0} (value : Option T) (rest : List T) → IsSome value → length (cons_option value rest) ≡ suc (length rest)
one-there (Some value) rest there = refl
one-there None rest there = absurd (false≢true there)

all-there : {T : Type 0} (values : ℕ → Option T) (indices : List ℕ) → ((index : ℕ) → IsToCome index indices → IsSome (values index)) → length (values_at values indices) ≡ length indices
all-there values [] there = refl
all-there values (first ∷ rest) there = one-there (values first) (values_at values rest) (there first (inl refl)) ∙ ap suc (all-there values rest (λ index come. there index (inr come)))

-- where a mask has the indices with a value, a join has an item for each
pub items-counted : {T : Type 0} (members : ℕ → Bool) (values : ℕ → Option T) → ((index : ℕ) → members index ≡ is_some (values index)) → length (join_list values) ≡ length (walk members)
items-counted members values agrees =
    all-there values (walk (λ index. is_some (values index))) (λ index come. (walk-members (λ i. is_some (values i)) index come).0)
    ∙ ap length (walk-same (λ index. is_some (values index)) members (λ index _. sym (agrees index)))
