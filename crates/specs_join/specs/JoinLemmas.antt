-- Which indices a join's values are at.
use Rattle.std.proofs.Common.{◌≡◌, ◌&&◌, Option, Some, None, is_some, refl}
use Rattle.specs_join.specs.Joins.{both}

pub some-both : {A B : Type 0} (one : Option A) (other : Option B) → is_some (both one other) ≡ (is_some one && is_some other)
some-both None other = refl
some-both (Some one) None = refl
some-both (Some one) (Some other) = refl
