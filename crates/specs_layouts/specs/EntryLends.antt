-- What a map ends as, where the part of an entry was lent.
use Rattle.std.specs.Prelude.{◌≡◌, Result}
use Rattle.std.specs.Borrow.{Fml, RattleType, MutBor, LendsSoOk}
use Rattle.std.specs.declared.alloc.Allocator as alloc
use Rattle.std.specs.declared.hash.Hasher as hasher
use Rattle.std.specs.declared.hash.BuildHasher as builder
use Rattle.std.specs.BTreeMap as tree
use Rattle.std.specs.BTreeMap.Lent as tree_lent
use Rattle.std.specs.HashMap as table
use Rattle.std.specs.HashMap.Lent as table_lent

-- the tree has the last part that was written at a key, and at a refusal is as it was
abbrev pub lends_of_tree : (K V Z : RattleType) → tree_lent.OrdMembers K.Denot → alloc.Ghosts Z.Denot → MutBor (tree.BTreeMap K.Denot V.Denot) → K.Denot → {E : Type 0} → Result (MutBor V.Denot) E → Fml
lends_of_tree K V Z g a m key r =
    LendsSoOk (tree_lent.map_row K V Z g a) V m r (λ n part. tree.WritesThrough g.cmp (g.cmp key) m.now part n) (λ n. n ≡ m.now)

-- the same of a table
abbrev pub lends_of_table : (K V S Z H : RattleType) → table_lent.HashMembers K.Denot → builder.Ghosts S.Denot H.Denot → hasher.Ghosts H.Denot → alloc.Ghosts Z.Denot → MutBor (table.HashMap K.Denot V.Denot S.Denot) → K.Denot → {E : Type 0} → Result (MutBor V.Denot) E → Fml
lends_of_table K V S Z H g b h a m key r =
    LendsSoOk (table_lent.map_row K V S Z H g b h a) V m r (λ n part. table.WritesThrough g.eq (g.eq key) m.now part n) (λ n. n ≡ m.now)
