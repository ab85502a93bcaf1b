-- What contracts see of a `BitSet`: its members, and below which number it has room.
use Rattle.std.specs.Prelude.{ℕ, Bool, refl}
use Rattle.std.specs.Ordering.{nat_cmp}
use Rattle.std.specs.FinSet as set
use Rattle.std.specs.Coded.{Coded, code_by, coded×, coded_ℕ}

-- the members, and the number below which no `add` is refused
pub record SetWithRoom : Type 0 where
  pub members : set.FinSet nat_cmp
  pub room : ℕ

-- it is stored as the pair of its fields
abbrev pub set_with_room_code : Coded SetWithRoom
set_with_room_code =
    code_by (set.FinSet nat_cmp × ℕ) (coded× (set.code coded_ℕ) coded_ℕ) (λ s. (s.members, s.room)) (λ p. record { members = p.0; room = p.1 }) (λ _. refl)

-- whether an index is a member
abbrev pub has_member : SetWithRoom → ℕ → Bool
has_member s i = set.contains s.members i
