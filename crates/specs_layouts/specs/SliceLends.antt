-- What a storage ends as, where its layout was lent as a slice.
use Rattle.std.specs.Prelude.{List, ◌++◌, length, take, drop}
use Rattle.std.specs.Borrow.{Fml, RattleType, MutBor, Array, Lends}
use Rattle.specs_layouts.specs.Dense.{Dense}
use Rattle.specs_layouts.specs.contracts.storages.dense_vec.DenseVecStorage as dense_vec

-- the values that were written, as many as there were
abbrev pub refilled : {T : Type 0} → List T → List T → List T
refilled old values = take (length old) (values ++ drop (length values) old)

-- the places have the values that were written, under the owners that they had
abbrev pub lends_parts : (T : RattleType) → MutBor (Dense T.Denot) → MutBor (List T.Denot) → Fml
lends_parts T s r = Lends (dense_vec.the_row T) (Array T 0) s r (λ values. record s.now { parts = refilled s.now.parts values })
