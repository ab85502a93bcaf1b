-- What a seat of a shared set holds, did and saw.
use Rattle.std.specs.Prelude.{◌≡◌, ◌⊎◌, ℕ, ◌+◌, ◌-◌, ◌*◌, ◌/◌, ◌%◌, ◌<◌, ◌==◌, Bool, true}
use Rattle.std.specs.Int.{bit_at}
use Rattle.std.specs.List.{All, Contains}
use Rattle.hibitset_sets.specs.BitSet.{SetWithRoom, has_member}
use Rattle.hibitset.specs.declared.atomic_core.Caller.{Caller}
use Rattle.hibitset.specs.declared.shared_rule.SeatView.{SeatView}
use Rattle.hibitset.specs.AtomicCore.{one_if, new_reports, newcomer, looked, merged}

-- the view of a caller: the set at `share`, its parts, and the parts that are about to be split off
abbrev pub view_with : Caller → SetWithRoom → ℕ → ℕ → SeatView
view_with caller old parts plan = record { caller = caller; old = old; parts = parts; plan = plan }

-- the first view: that of a newcomer with all parts
abbrev pub whole_view : SetWithRoom → SeatView
whole_view old = view_with newcomer old 65536 0

-- the view, with another caller
abbrev pub with_caller : SeatView → Caller → SeatView
with_caller view caller = view_with caller view.old view.parts view.plan

-- what is left of a view when so many parts are split off
abbrev pub kept_view : SeatView → ℕ → SeatView
kept_view view parts = view_with view.caller view.old (view.parts - parts) 0

-- the view of a newcomer with those parts
abbrev pub given_view : SeatView → ℕ → SeatView
given_view view parts = view_with newcomer view.old parts 0

-- two views as one
abbrev pub joined_view : SeatView → SeatView → SeatView
joined_view view other = view_with (merged view.caller other.caller) view.old (view.parts + other.parts) 0

-- a view lists a call on the index
abbrev pub Lists : SeatView → ℕ → Type 0
Lists view index = (call : ℕ × Bool) × Contains view.caller.calls call × (call.0 ≡ index)

-- a load of a view found the index set
abbrev pub HasSeen : SeatView → ℕ → Type 0
HasSeen view index = (look : ℕ × ℕ) × Contains view.caller.seen look × (look.0 ≡ index / 64) × (bit_at look.1 (index % 64) ≡ 1)

-- a view knows that the index is a member: it was one at `share`, or a call on it is listed, or it was seen
abbrev pub Knows : SeatView → ℕ → Type 0
Knows view index = (has_member view.old index ≡ true) ⊎ (Lists view index ⊎ HasSeen view index)

-- a look at the word of an index, which told whether the index is set; else the view stays
abbrev pub LooksAt : SeatView → ℕ → Bool → SeatView → Type 0
LooksAt before index found after = (word : ℕ) × (found ≡ (bit_at word (index % 64) == 1)) × (after ≡ with_caller before (looked before.caller (index / 64) word))

-- each index is a member exactly where it was an old one, which no call reports new, or one call reports it new; and each index that a call or a look of the view names is a member
pub record AreSettled (view : SeatView) (after : SetWithRoom) : Type 0 where
  pub counts : (index : ℕ) → index < 16777216 → new_reports index view.caller.calls + one_if (has_member view.old index) ≡ one_if (has_member after index)
  pub listed : All (λ call. has_member after call.0 ≡ true) view.caller.calls
  pub seen : All (λ look. (place : ℕ) → place < 64 → look.0 < 262144 → bit_at look.1 place ≡ 1 → has_member after (look.0 * 64 + place) ≡ true) view.caller.seen
