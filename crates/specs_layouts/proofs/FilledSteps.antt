-- What insertion and removal do to slots that always have a value.
use Rattle.std.proofs.Common.{◌≡◌, ◌≢◌, ℕ, ◌<◌, ◌≤◌, Bool, true, false, cond, List, length, set, Option, Some, None, IfSome, refl, sym, ap, subst, ◌∙◌, arith, inl, inr, length-set}
use Rattle.std.specs.FinSet as fin
use Rattle.std.specs.Ordering.{nat_cmp}
use Rattle.std.specs.List.{slice_get}
use Rattle.std.proofs.lemmas.Bool.{false≢true, cases_eq}
use Rattle.specs_layouts.specs.Parts.{Puts, SameParts}
use Rattle.specs_layouts.specs.Defaults.{filled_part, HasSlots}
use Rattle.specs_layouts.specs.DenseLemmas.{slice_get-set_same, slice_get-set_other}
use Rattle.specs_layouts.proofs.DenseSteps.{slice_get-within}
use Rattle.specs_layouts.proofs.Present.{with-here, with-other, without-here, without-other}

-- without slots and parts
pub empty-slots : {T : Type 0} (values : List T) (present : fin.FinSet nat_cmp) → present ≡ fin.empty → HasSlots values present
empty-slots values present no_parts index is =
    absurd (false≢true (sym (ap (λ (m : fin.FinSet nat_cmp). fin.contains m index) no_parts ∙ fin.contains-empty nat_cmp index) ∙ is))

-- the value at a place of a list that has it, or none
at-either : {T : Type 0} (b : Bool) (one other : Option T) → (b ≡ true → one ≡ other) → cond b one None ≡ cond b other None
at-either true one other same = same refl
at-either false one other same = refl

module _ {T : Type 0} (is_default : T → Type 0) (values : List T) (present after : fin.FinSet nat_cmp) (index : ℕ) (slots : HasSlots values present) where
  module _ (gone : after ≡ fin.remove present index) (is : fin.contains present index ≡ true) (value : T) (default : is_default value) where
    reads-without : (i : ℕ) → fin.contains after i ≡ fin.contains (fin.remove present index) i
    reads-without i = ap (λ (m : fin.FinSet nat_cmp). fin.contains m i) gone

    pub taken-slots : HasSlots (set values index value) after
    taken-slots other there = elim (cases_eq other index) [
      | inl here ↦ absurd (false≢true (sym (ap (fin.contains after) here ∙ (reads-without index ∙ without-here present index)) ∙ there))
      | inr apart ↦ omega (arith, slots other (sym (reads-without other ∙ without-other present index other apart) ∙ there), length-set values index value)
    ]

    pub taken-gap : IfSome (slice_get (set values index value) index) is_default
    taken-gap =
        subst (λ (o : Option T). IfSome o is_default) (sym (slice_get-set_same values index value (slice_get-within values index (slots index is)))) default

    pub taken-puts : Puts (filled_part (record { values = values; present = present })) index None (filled_part (record { values = set values index value; present = after }))
    taken-puts = record {
      here = ap (λ b. cond b (slice_get (set values index value) index) None) (reads-without index ∙ without-here present index);
      others = λ other apart.
          ap (λ b. cond b (slice_get (set values index value) other) None) (reads-without other ∙ without-other present index other apart)
          ∙ ap (λ o. cond (fin.contains present other) o None) (slice_get-set_other values index other value apart);
    }

  module _ (more : List T) (longer : length values ≤ length more) (kept : (i : ℕ) → i < length values → slice_get more i ≡ slice_get values i) (gaps : (i : ℕ) → length values ≤ i → IfSome (slice_get more i) is_default) where
    pub longer-slots : HasSlots more present
    longer-slots other there = omega (arith, slots other there, longer)

    pub longer-parts : SameParts (filled_part (record { values = values; present = present })) (filled_part (record { values = more; present = present }))
    longer-parts other =
        at-either (fin.contains present other) (slice_get more other) (slice_get values other) (λ there. kept other (slots other there))

    module _ (put : after ≡ fin.insert present index) (inside : index < length more) (part : T) where
      reads-with : (i : ℕ) → fin.contains after i ≡ fin.contains (fin.insert present index) i
      reads-with i = ap (λ (m : fin.FinSet nat_cmp). fin.contains m i) put

      pub inserted-slots : HasSlots (set more index part) after
      inserted-slots other there = elim (cases_eq other index) [
        | inl here ↦ omega (arith, here, inside, length-set more index part)
        | inr apart ↦ omega (arith, longer-slots other (sym (reads-with other ∙ with-other present index other apart) ∙ there), length-set more index part)
      ]

      pub inserted-part-puts : Puts (filled_part (record { values = values; present = present })) index (Some part) (filled_part (record { values = set more index part; present = after }))
      inserted-part-puts = record {
        here =
            ap (λ b. cond b (slice_get (set more index part) index) None) (reads-with index ∙ with-here present index)
            ∙ slice_get-set_same more index part (slice_get-within more index inside);
        others = λ other apart.
            ap (λ b. cond b (slice_get (set more index part) other) None) (reads-with other ∙ with-other present index other apart)
            ∙ (ap (λ o. cond (fin.contains present other) o None) (slice_get-set_other more index other part apart) ∙ longer-parts other);
      }

      pub inserted-gaps : (other : ℕ) → other ≢ index → length values ≤ other → IfSome (slice_get (set more index part) other) is_default
      inserted-gaps other apart past =
          subst (λ (o : Option T). IfSome o is_default) (sym (slice_get-set_other more index other part apart)) (gaps other past)

      pub inserted-kept : (other : ℕ) → other ≢ index → other < length values → slice_get (set more index part) other ≡ slice_get values other
      inserted-kept other apart within = slice_get-set_other more index other part apart ∙ kept other within
