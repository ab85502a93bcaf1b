-- How the mask of a masked storage follows its parts.
use Rattle.std.proofs.Common.{◌≡◌, ℕ, Option, Some, None, is_some, sym, ap, ◌∙◌, inl, inr}
use Rattle.std.specs.FinSet as set
use Rattle.std.specs.Ordering.{nat_cmp}
use Rattle.std.proofs.lemmas.Bool.{cases_eq}
use Rattle.hibitset_sets.specs.BitSet.{SetWithRoom}
use Rattle.specs_layouts.specs.Parts.{Puts, HasNone}
use Rattle.specs_layouts.specs.Masked.{Agrees}
use Rattle.specs_layouts.proofs.Present.{with-here, with-other, without-here, without-other}

-- a set without members, over no parts
pub agrees-none : {T : Type 0} (mask : SetWithRoom) (parts : ℕ → Option T) → mask.members ≡ set.empty → HasNone parts → Agrees mask parts
agrees-none mask parts empty none index =
    ap (λ (m : set.FinSet nat_cmp). set.contains m index) empty ∙ (set.contains-empty nat_cmp index ∙ sym (ap is_some (none index)))

module _ {T : Type 0} (mask mask' : SetWithRoom) (parts parts' : ℕ → Option T) (index : ℕ) (agrees : Agrees mask parts) where
  -- a part was put, and the index into the mask
  pub agrees-put : (part : T) → Puts parts index (Some part) parts' → mask'.members ≡ set.insert mask.members index → Agrees mask' parts'
  agrees-put part puts put other =
      ap (λ (m : set.FinSet nat_cmp). set.contains m other) put ∙ elim (cases_eq other index) [
        | inl here ↦
            ap (set.contains (set.insert mask.members index)) here ∙ (with-here mask.members index ∙ sym (ap (λ i. is_some (parts' i)) here ∙ ap is_some puts.here))
        | inr apart ↦ with-other mask.members index other apart ∙ (agrees other ∙ sym (ap is_some (puts.others other apart)))
      ]

  -- the part was taken out, and the index out of the mask
  pub agrees-taken : Puts parts index None parts' → mask'.members ≡ set.remove mask.members index → Agrees mask' parts'
  agrees-taken puts taken other =
      ap (λ (m : set.FinSet nat_cmp). set.contains m other) taken ∙ elim (cases_eq other index) [
        | inl here ↦
            ap (set.contains (set.remove mask.members index)) here ∙ (without-here mask.members index ∙ sym (ap (λ i. is_some (parts' i)) here ∙ ap is_some puts.here))
        | inr apart ↦ without-other mask.members index other apart ∙ (agrees other ∙ sym (ap is_some (puts.others other apart)))
      ]
