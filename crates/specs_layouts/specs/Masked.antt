-- What contracts see of a masked storage: its mask, and its layout.
use Rattle.std.specs.Prelude.{◌≡◌, ℕ, Option, is_some, refl}
use Rattle.std.specs.FinSet as set
use Rattle.std.specs.Coded.{Coded, code_by, coded×}
use Rattle.hibitset_sets.specs.BitSet.{SetWithRoom, set_with_room_code}

-- the mask, and the layout that holds the parts
pub record Masked (S : Type 0) : Type 0 where
  pub mask : SetWithRoom
  pub inner : S

-- it is stored as the pair of its fields
abbrev pub masked_code : {S : Type 0} → Coded S → Coded (Masked S)
masked_code {S} code =
    code_by (SetWithRoom × S) (coded× set_with_room_code code) (λ m. (m.mask, m.inner)) (λ p. record { mask = p.0; inner = p.1 }) (λ _. refl)

-- the mask has the indices that have a part
abbrev pub Agrees : {T : Type 0} → SetWithRoom → (ℕ → Option T) → Type 0
Agrees mask parts = (index : ℕ) → set.contains mask.members index ≡ is_some (parts index)
