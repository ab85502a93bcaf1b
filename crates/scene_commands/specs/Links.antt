-- Who may hold on to whom, by ids: links that are chained by their targets.
use Rattle.std.specs.Prelude.{◌≡◌, ◌≢◌, ◌<◌, ◌≤◌, ◌-◌, ℕ, true, false, List, length, slice_index_or, nat_eq}
use Rattle.std.specs.Option.{unwrap_or}
use Rattle.std.specs.HashMap.{HashMap, get_by}
use Rattle.shred_world.specs.Worlds.{Slots}
use Rattle.scene_model.specs.Parts.{Name}
use Rattle.scene_model.specs.Rulebook.{Command}
use Rattle.scene_model.specs.Scenes.{PlainScene}
use Rattle.scene_model.specs.Deaths.{holds_on}
use Rattle.scene_model.specs.Commands.{apply, changed}
use Rattle.scene_world.specs.Standing.{Kinds, owning_in, plain_of}
use Rattle.scene_commands.specs.declared.holders.Link.{Link}
use Rattle.scene_commands.specs.declared.holders.Holders.{Holders}
use Rattle.scene_commands.specs.Acts.{seen_of}

-- no link
abbrev pub no_link : Link
no_link = record { holder = 0; target = 0; before = 0 }

abbrev pub link_at : List Link → ℕ → Link
link_at links place = slice_index_or links place no_link

-- the place that a table keeps for a target, 0 where it keeps none
abbrev pub end_in : {S : Type 0} → HashMap ℕ ℕ S → ℕ → ℕ
end_in ends target = unwrap_or (get_by (nat_eq target) ends) 0

-- a link says that one may hold on to another
abbrev pub Holds : List Link → ℕ → ℕ → Type 0
Holds links holder target = (place : ℕ) × (place < length links) × ((link_at links place).holder ≡ holder) × ((link_at links place).target ≡ target)

-- a place stands behind the last link before a bound that has a target, and is 0 where none has it
pub record IsEnd (links : List Link) (target bound end : ℕ) : Type 0 where
  pub within : end ≤ bound
  pub here : 0 < end → (link_at links (end - 1)).target ≡ target
  pub none : (place : ℕ) → end ≤ place → place < bound → (link_at links place).target ≢ target

-- the links of each target are chained from its end, the last first
pub record IsChained (ends : ℕ → ℕ) (links : List Link) : Type 0 where
  pub last : (target : ℕ) → IsEnd links target (length links) (ends target)
  pub before : (place : ℕ) → place < length links → IsEnd links (link_at links place).target place (link_at links place).before

-- an index that nobody has needed yet
pub record IsNone (holders : Holders) : Type 0 where
  pub chained : IsChained (end_in holders.ends) holders.links.items
  pub unmade : holders.made ≡ false

-- an index has what it had, and may have more
pub record Grows (old new : Holders) : Type 0 where
  pub chained : IsChained (end_in new.ends) new.links.items
  pub kept : (holder target : ℕ) → Holds old.links.items holder target → Holds new.links.items holder target
  pub made : new.made ≡ old.made

-- whoever holds on to another in a scene is linked to it
abbrev pub AreLinked : List Name → PlainScene → Holders → Type 0
AreLinked owning scene holders = (holder target : ℕ) → holds_on owning scene holder target ≡ true → Holds holders.links.items holder target

module _ {V : Type 0} (kinds : Kinds V) where
  -- an index covers a world: once it is needed, it has each reference there that owns its holder
  pub record Covers (holders : Holders) (w : Slots V) : Type 0 where
    pub chained : IsChained (end_in holders.ends) holders.links.items
    pub linked : holders.made ≡ true → AreLinked (owning_in kinds) (plain_of kinds (seen_of w)) holders

  -- an index covers a world, and each that a command makes of it
  pub record Foresees (command : Command) (w : Slots V) (holders : Holders) : Type 0 where
    pub now : Covers holders w
    pub after : (later : Slots V) → apply (owning_in kinds) command (plain_of kinds (seen_of w)) ≡ changed (plain_of kinds (seen_of later)) → Covers holders later
