-- Pairs of indices, a holder and its target, chained by their targets. No public clause cites this file.
use Rattle.std.specs.Prelude.{◌≡◌, ◌≢◌, ◌<◌, ◌≤◌, ◌-◌, ◌==◌, ◌++◌, ℕ, Bool, true, List, length, slice_index_or, nat_eq, IsSome}
use Rattle.std.specs.Option.{unwrap_or}
use Rattle.std.specs.List.{list_any, IsDistinct}
use Rattle.std.specs.Ordering.{nat_cmp}
use Rattle.std.specs.FinSet as set
use Rattle.std.specs.HashMap.{HashMap, get_by}
use Rattle.hibitset_sets.specs.Walk.{walk}
use Rattle.specs_entity.specs.declared.holders.Link.{Link}
use Rattle.specs_entity.specs.Births.{Births, living}
use Rattle.specs_entity.specs.Closures.{IsLeast}

-- no link
abbrev pub no_link : Link
no_link = record { holder = 0; target = 0; before = 0 }

abbrev pub link_at : List Link → ℕ → Link
link_at links place = slice_index_or links place no_link

-- the place that a table keeps for a target, 0 where it keeps none
abbrev pub end_in : {S : Type 0} → HashMap ℕ ℕ S → ℕ → ℕ
end_in ends target = unwrap_or (get_by (nat_eq target) ends) 0

-- a link says that one holds on to another
abbrev pub Holds : List Link → ℕ → ℕ → Type 0
Holds links holder target = (place : ℕ) × (place < length links) × ((link_at links place).holder ≡ holder) × ((link_at links place).target ≡ target)

-- a place stands behind the last link before a bound that has a target, and is 0 where none has it
pub record IsEnd (links : List Link) (target bound end : ℕ) : Type 0 where
  pub within : end ≤ bound
  pub here : 0 < end → (link_at links (end - 1)).target ≡ target
  pub none : (place : ℕ) → end ≤ place → place < bound → (link_at links place).target ≢ target

-- the links of each target are chained from its end, the last first
pub record IsChained (ends : ℕ → ℕ) (links : List Link) : Type 0 where
  pub last : (target : ℕ) → IsEnd links target (length links) (ends target)
  pub before : (place : ℕ) → place < length links → IsEnd links (link_at links place).target place (link_at links place).before

-- each holder is below a bound
abbrev pub AreBelow : List Link → ℕ → Type 0
AreBelow links bound = (place : ℕ) → place < length links → (link_at links place).holder < bound

-- a list has the indices of a set, each once and in range
pub record Tells (members : List ℕ) (marked : set.FinSet nat_cmp) : Type 0 where
  pub same : (index : ℕ) → set.contains marked index ≡ list_any (λ other. index == other) members
  pub once : IsDistinct (λ one other. one == other) members
  pub below : (index : ℕ) → list_any (λ other. index == other) members ≡ true → index < 16777216

-- a list goes on another
abbrev pub GoesOn : List ℕ → List ℕ → Type 0
GoesOn old new = (more : List ℕ) × (new ≡ old ++ more)

-- each holder is the index of an entity that lives
abbrev pub AreLiving : Births → List Link → Type 0
AreLiving births links = (place : ℕ) → place < length links → IsSome (living births (link_at links place).holder)

-- the members of the least set that has the roots and, with each of its members, all that hold on to it, ascending
abbrev pub AreLeast : List ℕ → List Link → List ℕ → Type 0
AreLeast roots links indices =
    (members : set.FinSet nat_cmp) × IsLeast (λ index. list_any (λ root. index == root) roots) (Holds links) (set.contains members) × (indices ≡ walk (set.contains members))
