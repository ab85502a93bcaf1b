-- What is in a set with an index more, or one less.
use Rattle.std.proofs.Common.{◌≡◌, ◌≢◌, ℕ, true, false, ◌||◌, ◌&&◌, not, refl, ap, ◌∙◌}
use Rattle.std.specs.FinSet as set
use Rattle.std.specs.Ordering.{nat_cmp}
use Rattle.std.proofs.lemmas.Bool.{eq-eqb, ne_eqb}
use Rattle.hibitset_sets.proofs.CallerLemmas.{contains-with, contains-without}

pub with-here : (s : set.FinSet nat_cmp) (index : ℕ) → set.contains (set.insert s index) index ≡ true
with-here s index = contains-with s index index ∙ ap (λ b. b || set.contains s index) (eq-eqb index index refl)

pub with-other : (s : set.FinSet nat_cmp) (index other : ℕ) → other ≢ index → set.contains (set.insert s index) other ≡ set.contains s other
with-other s index other apart = contains-with s index other ∙ ap (λ b. b || set.contains s other) (ne_eqb other index apart)

pub without-here : (s : set.FinSet nat_cmp) (index : ℕ) → set.contains (set.remove s index) index ≡ false
without-here s index = contains-without s index index ∙ ap (λ b. not b && set.contains s index) (eq-eqb index index refl)

pub without-other : (s : set.FinSet nat_cmp) (index other : ℕ) → other ≢ index → set.contains (set.remove s index) other ≡ set.contains s other
without-other s index other apart = contains-without s index other ∙ ap (λ b. not b && set.contains s other) (ne_eqb other index apart)
