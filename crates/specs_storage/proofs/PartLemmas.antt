-- Parts that are there or not.
use Rattle.std.proofs.Common.{◌≡◌, false, Option, Some, None, is_some, refl}
use Rattle.std.proofs.lemmas.Bool.{true≢false}

pub none-of : {T : Type 0} (part : Option T) → is_some part ≡ false → part ≡ None
none-of None lacks = refl
none-of (Some part) lacks = absurd (true≢false lacks)
