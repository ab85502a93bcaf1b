-- What a masked storage ends as, where a part of it was lent.
use Rattle.std.specs.Prelude.{ℕ, Bool, Option, Result}
use Rattle.std.specs.Borrow.{Fml, RattleType, MutBor, LendsIfOk}
use Rattle.specs_layouts.specs.Channels.{Log}
use Rattle.specs_layouts.specs.Masked.{Masked}
use Rattle.specs_layouts.specs.declared.track.ComponentEvent.{ComponentEvent}
use Rattle.specs_layouts.specs.declared.unprotected.UnprotectedStorage as unprotected
use Rattle.specs_layouts.specs.declared.unprotected.TryDefault as try_default
use Rattle.specs_layouts.specs.contracts.masked.MaskedStorage.{the_row}

-- what a clause has as T.Storage.UnprotectedStorage
abbrev pub StorageMembers : Type 0 → Type 0 → Type 1
StorageMembers S T =
    record {
      is_default : S → Type 0;
      always : Bool;
      part_at : S → ℕ → Option T;
      written : S → ℕ → T → S;
      events : S → Log ComponentEvent;
      emits : S → Bool;
      has_room : S → ℕ → Type 0;
    }

-- the members of a layout, and those of its default
abbrev pub layout_ghosts : {S T : Type 0} → StorageMembers S T → unprotected.Ghosts S T
layout_ghosts g = record { part_at = g.part_at; written = g.written; events = g.events; emits = g.emits; has_room = g.has_room }

abbrev pub default_ghosts : {S T : Type 0} → StorageMembers S T → try_default.Ghosts S
default_ghosts g = record { is_default = g.is_default; always = g.always }

-- the type of the parts with their mask
abbrev pub masked_row : (T S : RattleType) → StorageMembers S.Denot T.Denot → RattleType
masked_row T S g = the_row T S (layout_ghosts g) (default_ghosts g)

-- the layout has the last part that was written, and at a refusal nothing changed
abbrev pub lends_part : (T S : RattleType) → StorageMembers S.Denot T.Denot → MutBor (Masked S.Denot) → ℕ → {E : Type 0} → Result (MutBor T.Denot) E → Fml
lends_part T S g m index r =
    LendsIfOk (masked_row T S g) T m r (λ part. record m.now { inner = g.written m.now.inner index part }) m.now
