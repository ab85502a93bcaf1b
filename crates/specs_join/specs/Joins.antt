-- What a join is: the values at the indices that have one, ascending.
use Rattle.std.specs.Prelude.{ℕ, Bool, true, false, List, Option, Some, None, is_some, option_map, if◌then◌else◌}
use Rattle.std.specs.List.{filter_map}
use Rattle.hibitset_sets.specs.Walk.{walk}
use Rattle.specs_entity.specs.declared.ids.Entity.{Entity}
use Rattle.specs_entity.specs.Births.{Births, living}

-- the values at the indices of a list
abbrev pub values_at : {S : Type 0} → (ℕ → Option S) → List ℕ → List S
values_at values indices = filter_map values indices

-- the ascending list of the values at the indices below 2 ^ 24 that have one
abbrev pub join_list : {S : Type 0} → (ℕ → Option S) → List S
join_list joins = values_at joins (walk (λ index. is_some (joins index)))

-- both values, where both are there
abbrev pub both : {A B : Type 0} → Option A → Option B → Option (A × B)
both None other = None
both (Some one) None = None
both (Some one) (Some other) = Some (one, other)

-- the index itself, where it is a member
abbrev pub member : Bool → ℕ → Option ℕ
member is index = if is then Some index else None

-- all three values, where all are there
abbrev pub all_three : {A B C : Type 0} → Option A → Option B → Option C → Option (A × B × C)
all_three None second third = None
all_three (Some first) None third = None
all_three (Some first) (Some second) None = None
all_three (Some first) (Some second) (Some third) = Some (first, second, third)

-- all four values, where all are there
abbrev pub all_four : {A B C D : Type 0} → Option A → Option B → Option C → Option D → Option (A × B × C × D)
all_four None second third fourth = None
all_four (Some first) None third fourth = None
all_four (Some first) (Some second) None fourth = None
all_four (Some first) (Some second) (Some third) None = None
all_four (Some first) (Some second) (Some third) (Some fourth) = Some (first, second, third, fourth)

-- a value that is there only where a member is: none of the member's own is no value at all, no member an absent one
abbrev pub perhaps : {A : Type 0} → Bool → Option A → Option (Option A)
perhaps true None = None
perhaps true (Some value) = Some (Some value)
perhaps false value = Some None

-- what an item that may be absent shows
abbrev pub shown_of : {A B : Type 0} → (A → B) → Option A → Option B
shown_of show None = None
shown_of show (Some item) = Some (show item)

-- nothing, where there is no member
abbrev pub lacking : Bool → Option Unit
lacking true = None
lacking false = Some tt

-- the entity that lives at an index
abbrev pub living_entity : Births → ℕ → Option Entity
living_entity births index = option_map (λ life. record { id = index; generation = life }) (living births index)
