-- What the flags are after a write.
use Rattle.std.proofs.Common.{◌≡◌, ℕ, cond, Some, None, IsSome, ap, ◌∙◌}
use Rattle.std.specs.FinSet as set
use Rattle.std.specs.Ordering.{nat_cmp}
use Rattle.specs_layouts.specs.Parts.{Puts, HasNone}
use Rattle.specs_layouts.specs.Flags.{flag_part, with_flag_part}
use Rattle.specs_layouts.specs.declared.storages.null.NullStorage.{NullStorage}
use Rattle.specs_layouts.specs.DenseLemmas.{told-or-not}

pub with_flag_part-puts : {T : Type 0} → ((x y : T) → x ≡ y) → (s : NullStorage T) (index : ℕ) (part : T) → IsSome (flag_part s index) → Puts (flag_part s) index (Some part) (flag_part (with_flag_part s index part))
with_flag_part-puts same s index part there =
    record {
      here = ap (λ b. cond b (Some part) None) (told-or-not (set.contains s.present.members index) (Some s.value) there);
      others = λ other apart. ap (λ v. cond (set.contains s.present.members other) (Some v) None) (same part s.value);
    }

pub flags-start : {T : Type 0} (s : NullStorage T) → s.present.members ≡ set.empty → HasNone (flag_part s)
flags-start s none index =
    ap (λ b. cond b (Some s.value) None) (ap (λ (m : set.FinSet nat_cmp). set.contains m index) none ∙ set.contains-empty nat_cmp index)
