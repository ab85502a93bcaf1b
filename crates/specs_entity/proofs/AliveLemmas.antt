-- The set of the indices where an entity lives follows each step of births.
use Rattle.std.proofs.Common.{◌≡◌, ◌≢◌, ℕ, ◌<◌, ◌||◌, ◌&&◌, true, not, Some, None, is_some, inl, inr, sym, ap, ◌∙◌, arith, get_or-set_same}
use Rattle.std.specs.FinSet as fin
use Rattle.std.specs.Ordering.{nat_cmp}
use Rattle.std.proofs.lemmas.Bool.{cases_eq, eq-eqb}
use Rattle.hibitset_sets.proofs.CallerLemmas.{contains-with, contains-without}
use Rattle.specs_entity.specs.Births.{Births, none_born, persistent_at, living, MarksLiving, alive_of, living_of, next_life, with_life, buried, settled, created, next_index, with_next_taken, IndicesAreSpent}
use Rattle.specs_entity.specs.Layout.{AreBirths, IsFree}
use Rattle.specs_entity.proofs.BirthLemmas.{not-equal, living-fresh, living-lasting, living-with_life, living-freshened, living-buried, living-buried_other, living-settled, freshened, fresh-same, next-taken, dead-lasting, used-living}
use Rattle.specs_entity.proofs.NewLemmas.{taken-lives}

-- who lives at an index lives at one below the limit
pub living-range : (births : Births) → AreBirths births → (index : ℕ) → living births index ≢ None → index < 16777216
living-range births kept index lives =
    let used = used-living births kept index lives in
    let few = kept.used in
    let limit = kept.indices in
    omega arith

module _ (alive : fin.FinSet nat_cmp) (before after : Births) where
  -- nobody began to live, and nobody died
  pub marks-same : ((other : ℕ) → living after other ≡ living before other) → MarksLiving alive before → MarksLiving alive after
  marks-same same marks other = marks other ∙ sym (ap is_some (same other))

  module _ (index : ℕ) (others : (other : ℕ) → other ≢ index → living after other ≡ living before other) (marks : MarksLiving alive before) where
    -- somebody began to live at an index
    pub marks-born : is_some (living after index) ≡ true → MarksLiving (fin.insert alive index) after
    marks-born lives other = elim (cases_eq other index) [
      | inl here ↦
          contains-with alive index other
          ∙ (ap (λ b. b || fin.contains alive other) (eq-eqb other index here)
          ∙ sym (ap (λ i. is_some (living after i)) here ∙ lives))
      | inr apart ↦
          contains-with alive index other
          ∙ (ap (λ b. b || fin.contains alive other) (not-equal other index apart)
          ∙ (marks other ∙ sym (ap is_some (others other apart))))
    ]

    -- who lived at an index lives no more
    pub marks-dead : living after index ≡ None → MarksLiving (fin.remove alive index) after
    marks-dead dead other = elim (cases_eq other index) [
      | inl here ↦
          contains-without alive index other
          ∙ (ap (λ b. not b && fin.contains alive other) (eq-eqb other index here)
          ∙ sym (ap (λ i. is_some (living after i)) here ∙ ap is_some dead))
      | inr apart ↦
          contains-without alive index other
          ∙ (ap (λ b. not b && fin.contains alive other) (not-equal other index apart)
          ∙ (marks other ∙ sym (ap is_some (others other apart))))
    ]

pub marks-none : (alive : fin.FinSet nat_cmp) (births : Births) → alive ≡ fin.empty → ((index : ℕ) → living births index ≡ None) → MarksLiving alive births
marks-none alive births empty none index =
    ap (λ (s : fin.FinSet nat_cmp). fin.contains s index) empty ∙ (fin.contains-empty nat_cmp index ∙ sym (ap is_some (none index)))

pub living-none : (indices generations index : ℕ) → living (none_born indices generations) index ≡ None
living-none indices generations index = ap (λ b. living_of b None) (fin.contains-empty nat_cmp index)

module _ (alive : fin.FinSet nat_cmp) (births : Births) (index : ℕ) (marks : MarksLiving alive births) where
  -- a birth that is persistent at once
  pub marks-allocated : IsFree births index → MarksLiving (fin.insert alive index) (with_life births index (next_life (persistent_at births index)))
  marks-allocated free =
      let life = next_life (persistent_at births index) in
      let after = with_life births index life in
      let lasting = dead-lasting births index free.dead in
      marks-born alive births after index (λ other apart. living-with_life births index life other apart) marks
      (ap is_some (living-lasting after index lasting ∙ ap alive_of (get_or-set_same births.persistent index (Some life) None free.used)))

  -- a fresh birth
  pub marks-fresh : MarksLiving (fin.insert alive index) (freshened births index)
  marks-fresh =
      marks-born alive births (freshened births index) index (λ other apart. living-freshened births index other apart) marks
      (ap is_some (living-fresh (freshened births index) index (fresh-same births index)))

  -- a burial
  pub marks-buried : MarksLiving (fin.remove alive index) (buried births index)
  marks-buried = marks-dead alive births (buried births index) index (λ other apart. living-buried_other births index other apart) marks (living-buried births index)

  -- a fresh birth that becomes persistent
  pub marks-settled : AreBirths births → fin.contains births.fresh index ≡ true → MarksLiving alive (settled births index)
  marks-settled kept is = marks-same alive births (settled births index) (living-settled births index kept is) marks

-- an index that is taken
pub marks-taken : (alive : fin.FinSet nat_cmp) (births : Births) → AreBirths births → ¬ (IndicesAreSpent births) → MarksLiving alive births → MarksLiving alive (with_next_taken births)
marks-taken alive births kept left marks = marks-same alive births (with_next_taken births) (taken-lives births kept left) marks

-- a birth that is undone
pub marks-undone : (alive : fin.FinSet nat_cmp) (births : Births) → AreBirths births → ¬ (IndicesAreSpent births) → MarksLiving alive (created births) → MarksLiving (fin.remove alive (next_index births)) births
marks-undone alive births kept left marks =
    let index = next_index births in
    marks-dead alive (created births) births index
    (λ other apart. sym (living-freshened (with_next_taken births) index other apart ∙ taken-lives births kept left other))
    marks
    (sym (taken-lives births kept left index) ∙ (next-taken births kept left).free.dead)
