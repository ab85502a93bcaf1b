-- Facts on answers from which a shared world's are read.
use Rattle.std.proofs.Common.{◌≡◌, refl, sym, false, Option, Some, None, Result, Ok, Err, OnOk, IsOk, is_some, Bor}
use Rattle.std.specs.Option.{option_copied}
use Rattle.std.specs.Result.{is_err}
use Rattle.std.proofs.lemmas.Bool.{false≢true}

-- a value that is lent is there
pub copied-is-there : {X : Type 0} (o : Option (Bor X)) → is_some o ≡ is_some (option_copied o)
copied-is-there None = refl
copied-is-there (Some x) = refl

-- what holds where a call is accepted holds where it isn't refused
pub not-refused : {A E : Type 0} (r : Result A E) (P : Type 0) → is_err r ≡ false → OnOk r P → P
not-refused (Ok a) P e p = p
not-refused (Err x) P e p = absurd (false≢true (sym e))

-- what is accepted isn't refused
pub accepted-not-refused : {A E : Type 0} (r : Result A E) (x : E) → IsOk r → r ≡ Err x → ⊥
accepted-not-refused (Ok a) x ok e = cc
accepted-not-refused (Err y) x ok e = false≢true ok
