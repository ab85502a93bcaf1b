-- A storage that lends its parts to a question, whose answer lends them on.
use mathlib.Core.Path.{◌≡◌, ap, subst}
use mathlib.Core.Option as maybe
use mir.Syntax.{named}
use base.Logic.{ent, sep}
use denote.Follow.{follows_by, followed, follows_then}
use seplogic.Ra.Ura.{Ura}
use types.Logic.{Logic, sem}
use Rattle.std.specs.Prelude.{Result}
use Rattle.std.specs.Borrow.{RattleType, GName, MutBor, follows, follows_if, name_if_ok}
use Rattle.specs_layouts.specs.Masked.{Masked}
use Rattle.specs_layouts.specs.MaskedLends.{StorageMembers, layout_ghosts, default_ghosts, masked_row}
use Rattle.specs_storage.specs.declared.storage.Storage.{Storage}
use Rattle.specs_storage.specs.declared.entry.StorageEntry.{StorageEntry}
use Rattle.specs_storage.specs.StorageLends.{storage_row, with_store, lends_store}
use Rattle.specs_storage.specs.EntryLends.{lends_open, lends_entry, store_of}

module _ {M : Type 1} {𝓤 : Ura M} (𝓛 : Logic 𝓤) where
  -- what is lent out of a part is lent out of the whole
  part_of_part : (R U X : RattleType) (γ γ₁ : GName) (F : U.Denot → R.Denot) (m : maybe.Option GName) (G : X.Denot → U.Denot) (v : U.Denot)
      → ent 𝓤 (sep 𝓤 (sem 𝓛 (follows R U γ γ₁ F)) (sem 𝓛 (follows_if U X γ₁ m G v))) (sem 𝓛 (follows_if R X γ m (λ z. F (G z)) (F v)))
  unfolding follows_by
  part_of_part R U X γ γ₁ F maybe.none G v = followed 𝓛 R U F γ γ₁ v
  part_of_part R U X γ γ₁ F (maybe.some γ₂) G v = follows_then 𝓛 R U X F G γ γ₁ γ₂

  -- the storage lends what the answer has, and is as it was where that has none
  pub lent_on : (T S : RattleType) (g : StorageMembers S.Denot T.Denot) {E : Type 0} (m : MutBor (Storage T.Denot (MutBor (Masked S.Denot)))) (store : MutBor (Masked S.Denot))
      (r : Result (StorageEntry T.Denot S.Denot (layout_ghosts g) (default_ghosts g)) E) → store.now ≡ m.now.store.now
      → ent 𝓤 (sep 𝓤 (sem 𝓛 (lends_store T S g m store)) (sem 𝓛 (lends_open T S g store r))) (sem 𝓛 (lends_entry T S g m r))
  lent_on T S g m store r same =
      let names = name_if_ok (λ entry. (store_of entry).ghost_name) r in let R = storage_row T S g in let U = masked_row T S g in
      subst (λ w. ent 𝓤 (sep 𝓤 (sem 𝓛 (lends_store T S g m store)) (sem 𝓛 (lends_open T S g store r))) (sem 𝓛 (follows_if R U m.ghost_name names (with_store m.now) w)))
      (ap (with_store m.now) same) (part_of_part R U U m.ghost_name store.ghost_name (with_store m.now) names (λ left. left) store.now)
