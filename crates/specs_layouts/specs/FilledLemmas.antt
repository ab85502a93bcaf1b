-- What the parts are after a write into a slot.
use Rattle.std.proofs.Common.{◌≡◌, ℕ, Bool, true, false, cond, Option, Some, None, IsSome, refl, ap, ◌∙◌}
use Rattle.std.specs.FinSet as set
use Rattle.std.specs.Ordering.{nat_cmp}
use Rattle.std.specs.List.{slice_get}
use Rattle.std.proofs.lemmas.Bool.{false≢true}
use Rattle.specs_layouts.specs.Parts.{Puts, HasNone}
use Rattle.specs_layouts.specs.Defaults.{Slots, filled_part, with_filled_part}
use Rattle.specs_layouts.specs.DenseLemmas.{slice_get-set_same, slice_get-set_other}

present-or-not : {T : Type 0} (b : Bool) (part : Option T) → IsSome (cond b part None) → (b ≡ true) × IsSome part
present-or-not true part there = (refl, there)
present-or-not false part there = absurd (false≢true there)

-- an index with a part is present, and its slot is there
pub filled-there : {T : Type 0} (s : Slots T) (index : ℕ) → IsSome (filled_part s index) → (set.contains s.present index ≡ true) × IsSome (slice_get s.values index)
filled-there s index there = present-or-not (set.contains s.present index) (slice_get s.values index) there

pub with_filled_part-puts : {T : Type 0} (s : Slots T) (index : ℕ) (part : T) → IsSome (filled_part s index) → Puts (filled_part s) index (Some part) (filled_part (with_filled_part s index part))
with_filled_part-puts s index part there =
    let h = filled-there s index there in
    record {
      here = ap (λ b. cond b (slice_get (with_filled_part s index part).values index) None) h.0 ∙ slice_get-set_same s.values index part h.1;
      others = λ other apart. ap (λ o. cond (set.contains s.present other) o None) (slice_get-set_other s.values index other part apart);
    }

pub filled-starts : {T : Type 0} (s : Slots T) → s.present ≡ set.empty → HasNone (filled_part s)
filled-starts s none index =
    ap (λ b. cond b (slice_get s.values index) None) (ap (λ (m : set.FinSet nat_cmp). set.contains m index) none ∙ set.contains-empty nat_cmp index)
