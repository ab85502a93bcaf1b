-- Why a tree doesn't join a `Par`.
use Rattle.std.specs.Prelude.{◌≡◌, Bool, true}
use Rattle.shred.specs.declared.trees.error.ParError.{ParError}
use Rattle.shred.specs.declared.trees.error.ParError.TheVariants.{Conflict, Memory}

-- a conflict is told where there is one; memory may want at any time
abbrev pub IsCause : ParError → (found : Bool) → Type 0
IsCause Conflict found = found ≡ true
IsCause Memory found = Unit {0}
