-- What insertion and removal do to flags.
use Rattle.std.proofs.Common.{◌≡◌, ℕ, cond, Some, None, IsSome, ap, ◌∙◌}
use Rattle.std.specs.FinSet as set
use Rattle.std.specs.Ordering.{nat_cmp}
use Rattle.hibitset_sets.specs.BitSet.{SetWithRoom}
use Rattle.specs_layouts.specs.Parts.{Puts}
use Rattle.specs_layouts.specs.Flags.{flag_part}
use Rattle.specs_layouts.proofs.Present.{with-here, with-other, without-here, without-other}
use Rattle.specs_layouts.specs.DenseLemmas.{told-or-not}

module _ {T : Type 0} (same : (x y : T) → x ≡ y) (value : T) (before after : SetWithRoom) (index : ℕ) where
  pub flag-put : (part : T) → after.members ≡ set.insert before.members index → Puts (flag_part (record { value = value; present = before })) index (Some part) (flag_part (record { value = value; present = after }))
  flag-put part put =
      let reads = λ (i : ℕ). ap (λ (m : set.FinSet nat_cmp). set.contains m i) put in
      record {
        here = ap (λ b. cond b (Some value) None) (reads index ∙ with-here before.members index) ∙ ap Some (same value part);
        others = λ other apart. ap (λ b. cond b (Some value) None) (reads other ∙ with-other before.members index other apart);
      }

  pub flag-taken : after.members ≡ set.remove before.members index → Puts (flag_part (record { value = value; present = before })) index None (flag_part (record { value = value; present = after }))
  flag-taken taken =
      let reads = λ (i : ℕ). ap (λ (m : set.FinSet nat_cmp). set.contains m i) taken in
      record {
        here = ap (λ b. cond b (Some value) None) (reads index ∙ without-here before.members index);
        others = λ other apart. ap (λ b. cond b (Some value) None) (reads other ∙ without-other before.members index other apart);
      }

  pub flag-value : (part : T) → IsSome (flag_part (record { value = value; present = before }) index) → flag_part (record { value = value; present = before }) index ≡ Some part
  flag-value part there = ap (λ b. cond b (Some value) None) (told-or-not (set.contains before.members index) (Some value) there) ∙ ap Some (same value part)
