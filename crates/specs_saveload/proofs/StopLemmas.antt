-- What stays of parts where one of two kinds is refused.
use Rattle.std.proofs.Common.{IfErr, Result, Ok, Err, OnErr}

-- what follows of a refusal
pub on-refused : {T E P Q : Type 0} (result : Result T E) → (P → Q) → OnErr result P → OnErr result Q
on-refused (Ok value) by refused = tt
on-refused (Err error) by refused = by refused

-- what follows of what each refusal tells
pub refused-on : {T E : Type 0} (result : Result T E) (P : E → Type 0) (Q : Type 0) → ((error : E) → P error → Q) → IfErr result P → OnErr result Q
refused-on (Ok value) P Q by refused = tt
refused-on (Err error) P Q by refused = by error refused
