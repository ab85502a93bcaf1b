-- What is left behind a place, and behind the spot that was made of it.
use mathlib.Core.List.{List, [], ◌∷◌}
use mathlib.Core.Path.{◌≡◌, refl, subst}
use mir.Val.{Val}
use Prim.Native.Nat.{ℕ}
use base.Fml.{ftrue, fsep, fres, fbor}
use base.Logic.{ent}
use denote.Exit.{yes, Last, left, see}
use denote.Memory.{mem}
use denote.RattleType.{RattleType}
use denote.Ref.{NamedLft, MutBor}
use denote.Steps.{nothing}
use denote.Struct.Members.{Lone}
use seplogic.Ra.Ura.{Ura}
use types.Kit.{‵, ◌$◌, ◌∵◌, !, qed, done, move, fjoin, rewrite}
use types.Logic.{Logic, sem}
use types.SemTy.{Body}
use Rattle.specs_layouts.specs.Masked.{Masked}
use Rattle.specs_layouts.specs.contracts.masked.MaskedStorage.{the_row as Parts}
use Rattle.specs_layouts.specs.declared.unprotected.TryDefault as try_default
use Rattle.specs_layouts.specs.declared.unprotected.UnprotectedStorage as unprotected
use Rattle.specs_storage.specs.EntryLends.{store_of}
use Rattle.specs_storage.specs.Left.{left_of}
use Rattle.specs_storage.specs.contracts.entry.Spot.{the_row as Spot}
use Rattle.specs_storage.specs.contracts.entry.StorageEntry.{the_row as Entry}
use Rattle.specs_storage.specs.declared.entry.Spot.{Spot as TheSpot}
use Rattle.specs_storage.specs.declared.entry.StorageEntry.{StorageEntry as TheEntry}
use Rattle.specs_storage.specs.declared.entry.StorageEntry.TheVariants.{Occupied, Vacant}

-- the one value of a list that has one
pub one_of : (vs : List Val) → Lone vs → (v : Val) × (vs ≡ (v ∷ []))
one_of [] none = elim none [ ]
one_of (v ∷ []) _ = (v, refl)
one_of (v ∷ (w ∷ vs)) none = elim none [ ]

module _ (loan : NamedLft) (T S : RattleType) (g : unprotected.Ghosts S.Denot T.Denot) (d : try_default.Ghosts S.Denot) where
  -- the storage that is left behind a place
  abbrev pub left_behind : (place : TheEntry T.Denot S.Denot g d) → Masked S.Denot → Last ((Entry loan T S g d).exit yes) place
  left_behind (Occupied there) store = ((store, tt), tt)
  left_behind (Vacant lacking) store = ((store, tt), tt)

  -- what was left behind the spot of a place is left behind the place
  pub comes_back : {M : Type 1} {𝓤 : Ura M} (𝓛 : Logic 𝓤) (place : TheEntry T.Denot S.Denot g d) (spot : TheSpot T.Denot S.Denot g d) (w : Last ((Spot loan T S g d).exit yes) spot)
      → spot.store ≡ store_of place → ent 𝓤 (sem 𝓛 (left ((Spot loan T S g d).exit yes) spot w)) (sem 𝓛 (left ((Entry loan T S g d).exit yes) place (left_behind place w.0)))
  comes_back 𝓛 (Occupied there) spot w same =
      qed 𝓛 (‵ (left ((Spot loan T S g d).exit yes) spot w) ∷ []) ∵
      rewrite ! 0 (λ (s : MutBor (Masked S.Denot)). ‵ (fsep (fsep (fres s.ghost_name ((Parts T S g d).coded.code w.0)) (fbor loan.lft (Body (mem (Parts T S g d)) s.ref_ptr.0 s.ref_ptr.1 s.ghost_name))) ftrue)) same refl $
      nothing ! $ move ! (1 ∷ 0 ∷ []) $ fjoin ! $ done !
  comes_back 𝓛 (Vacant lacking) spot w same =
      qed 𝓛 (‵ (left ((Spot loan T S g d).exit yes) spot w) ∷ []) ∵
      rewrite ! 0 (λ (s : MutBor (Masked S.Denot)). ‵ (fsep (fsep (fres s.ghost_name ((Parts T S g d).coded.code w.0)) (fbor loan.lft (Body (mem (Parts T S g d)) s.ref_ptr.0 s.ref_ptr.1 s.ghost_name))) ftrue)) same refl $
      nothing ! $ move ! (1 ∷ 0 ∷ []) $ fjoin ! $ done !

  -- and it is what the contract sees of the place then
  pub left_is : (place : TheEntry T.Denot S.Denot g d) (store : Masked S.Denot) → (left_of (see ((Entry loan T S g d).exit yes) place (left_behind place store))).now ≡ store
  left_is (Occupied there) store = refl
  left_is (Vacant lacking) store = refl

-- what is said of a storage and an index is said of their equals
pub at_place : (S : RattleType) (P : Masked S.Denot → ℕ → Type 0) {m m' : Masked S.Denot} {i i' : ℕ} → m ≡ m' → i ≡ i' → P m i → P m' i'
at_place S P {m} {m'} {i} same_store same_index said = subst (λ j. P m' j) same_index (subst (λ s. P s i) same_store said)
