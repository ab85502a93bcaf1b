-- What slots end as, where they were lent as a slice.
use Rattle.std.specs.Prelude.{List}
use Rattle.std.specs.Borrow.{Fml, RattleType, MutBor, Array, Lends}
use Rattle.std.specs.declared.default.Default as default
use Rattle.specs_layouts.specs.Defaults.{Slots}
use Rattle.specs_layouts.specs.SliceLends.{refilled}
use Rattle.specs_layouts.specs.contracts.storages.default_vec.DefaultVecStorage.{the_row}

-- the slots have the values that were written
abbrev pub lends_slots : (T : RattleType) → default.Ghosts T.Denot → MutBor (Slots T.Denot) → MutBor (List T.Denot) → Fml
lends_slots T d s r = Lends (the_row T d) (Array T 0) s r (λ values. record s.now { values = refilled s.now.values values })
