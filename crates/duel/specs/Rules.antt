-- What the systems of a duel do, as documents see it.
use Rattle.std.specs.Prelude.{◌≡◌, ◌+◌, ◌-◌, ◌==◌, ℕ, Bool, false, List, [], ◌∷◌, ◌++◌, codes, Option, Some, None, option_map, option_and_then, if◌then◌else◌}
use Rattle.std.specs.List.{filter_map}
use Rattle.std.specs.Option.{option_map_or}
use Rattle.std.specs.Str.{bytes_eq}
use Rattle.scene_model.specs.Parts.{Name}
use Rattle.scene_model.specs.Rulebook.{Fragment, Outcome, leaves, refuses, fills, Command, kill, take}
use Rattle.scene_world.specs.Numbers.{counted, number_in, counting, number_of, reference_of, taken_at}
use Rattle.duel.specs.Names.{attack_kind, hp_kind, target_kind, turn_name}

-- the blow of an id: whom it meets, and how much it takes
abbrev pub blow_of : Fragment → ℕ → Option (ℕ × ℕ)
blow_of seen id = option_and_then (λ attack. option_map (λ target. (target, attack)) (reference_of seen target_kind id)) (number_of seen attack_kind id)

-- each hp is less by what all blows take from its holder, down to 0; the turn is one more; and all else is as it was
pub record Struck (seen left : Fragment) : Type 0 where
  pub ids : left.ids ≡ seen.ids
  pub hps : (id : ℕ) → left.part id hp_kind ≡ option_map (λ hp. counting (hp - taken_at id (filter_map (blow_of seen) seen.ids))) (number_of seen hp_kind id)
  pub others : (id : ℕ) (kind : Name) → bytes_eq kind hp_kind ≡ false → left.part id kind ≡ seen.part id kind
  pub turn : left.global turn_name ≡ option_map (λ turn. counted (turn + 1)) (option_and_then number_in (seen.global turn_name))
  pub globals : (name : Name) → bytes_eq name turn_name ≡ false → left.global name ≡ seen.global name

-- `strike`: so it is, and nothing is asked for; or the turn is the last that 64 bits can count
abbrev pub DoesStrike : Fragment → Outcome → Type 0
DoesStrike seen (leaves left commands) = Struck seen left × (commands ≡ [])
DoesStrike seen (refuses text) = (text ≡ codes "this was the last turn") × (option_and_then number_in (seen.global turn_name) ≡ Some 18446744073709551615)
DoesStrike seen (fills commands) = ⊥

-- whether no hp is left to an id
abbrev pub is_down : Fragment → ℕ → Bool
is_down seen id = option_map_or (λ hp. hp == 0) (number_of seen hp_kind id) false

-- the death of an id that is down; and that one who is not loses a target that is
abbrev pub death_of : Fragment → ℕ → Option Command
death_of seen id = if is_down seen id then Some (kill id) else None

abbrev pub loss_of : Fragment → ℕ → Option Command
loss_of seen id = if is_down seen id then None else (if option_map_or (is_down seen) (reference_of seen target_kind id) false then Some (take id target_kind) else None)

-- all deaths and then all losses, each in the order of the ids
abbrev pub burials : Fragment → List Command
burials seen = filter_map (death_of seen) seen.ids ++ filter_map (loss_of seen) seen.ids

-- `bury`: all else stays, and these are asked for; or they are more than a queue holds
abbrev pub DoesBury : Fragment → Outcome → Type 0
DoesBury seen (leaves left commands) = (left ≡ seen) × (commands ≡ burials seen)
DoesBury seen (refuses text) = ⊥
DoesBury seen (fills commands) = (first : Command) × (rest : List Command) × (burials seen ≡ commands ++ first ∷ rest)
