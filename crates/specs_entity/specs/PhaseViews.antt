-- What a seat of shared entities holds, did and saw, and what a phase begins with.
use Rattle.std.specs.Prelude.{◌≡◌, ◌⊎◌, ℕ, ◌+◌, ◌-◌, ◌*◌, ◌/◌, ◌%◌, ◌<◌, Bool, true, List, [], ◌∷◌, ◌++◌, length, min, slice_index_or, None}
use Rattle.std.specs.Int.{bit_at}
use Rattle.std.specs.List.{Contains}
use Rattle.std.specs.Option.{is_some}
use Rattle.std.specs.FinSet as set
use Rattle.hibitset.specs.declared.atomic_core.Caller.{Caller}
use Rattle.hibitset.specs.AtomicCore.{newcomer, merged, begun, risen, ended, looked}
use Rattle.hibitset.specs.Rows.{sizes_for}
use Rattle.specs_entity.specs.Life.{Life, first_life}
use Rattle.specs_entity.specs.Births.{Births, IsAlive, living, persistent_at, alive_of, next_life, newborns, indices_of, deleted}
use Rattle.specs_entity.specs.declared.ids.Entity.{Entity}
use Rattle.specs_entity.specs.declared.phase_core.Claimer.{Claimer}
use Rattle.specs_entity.specs.declared.phase_rule.PhaseKey.{PhaseKey}
use Rattle.specs_entity.specs.declared.phase_rule.EntityView.{EntityView}
use Rattle.specs_entity.specs.PhaseCore.{Setting, claimer_with, claimed, raising}

-- below which number each index of a phase lies
abbrev pub reach_of : PhaseKey → ℕ
reach_of key = min (length key.before.persistent + key.reserve + 1) 16777216

-- what the core begins with
abbrev pub setting_of : PhaseKey → Setting
setting_of key =
    record {
      sizes = sizes_for (reach_of key);
      reserve = indices_of (newborns key.reserve key.before);
      raised = set.contains key.before.fresh;
      killed = set.contains key.before.deletions;
      lives = λ index. is_some (living key.before index);
    }

-- the entity at a place of the reserve
abbrev pub reserved : PhaseKey → ℕ → Entity
reserved key place = slice_index_or (newborns key.reserve key.before) place (record { id = 0; generation = first_life })

abbrev pub view_with : Caller → Caller → Claimer → PhaseKey → ℕ → ℕ → ℕ → EntityView
view_with raise kill claimer key parts plan_parts plan_allowance =
    record { raise = raise; kill = kill; claimer = claimer; key = key; parts = parts; plan_parts = plan_parts; plan_allowance = plan_allowance }

-- the first view: a newcomer with all parts, and with all of the reserve as its allowance
abbrev pub whole_view : PhaseKey → EntityView
whole_view key = view_with newcomer newcomer (claimer_with [] [] key.reserve) key 65536 0 0

abbrev pub with_raise : EntityView → Caller → EntityView
with_raise view raise = view_with raise view.kill view.claimer view.key view.parts view.plan_parts view.plan_allowance

abbrev pub with_kill : EntityView → Caller → EntityView
with_kill view kill = view_with view.raise kill view.claimer view.key view.parts view.plan_parts view.plan_allowance

-- what is left of a view when so many parts and so much allowance are split off
abbrev pub kept_view : EntityView → ℕ → ℕ → EntityView
kept_view view parts allowance = view_with view.raise view.kill (claimer_with view.claimer.births view.claimer.pending (view.claimer.allowance - allowance)) view.key (view.parts - parts) 0 0

-- the view of a newcomer with those
abbrev pub given_view : EntityView → ℕ → ℕ → EntityView
given_view view parts allowance = view_with newcomer newcomer (claimer_with [] [] allowance) view.key parts 0 0

-- two views as one
abbrev pub joined_view : EntityView → EntityView → EntityView
joined_view view other =
    view_with (merged view.raise other.raise) (merged view.kill other.kill) (claimer_with (view.claimer.births ++ other.claimer.births) [] (view.claimer.allowance + other.claimer.allowance)) view.key (view.parts + other.parts) view.plan_parts 0

-- a place is claimed
abbrev pub claiming : EntityView → ℕ → EntityView
claiming view place = view_with view.raise view.kill (claimed view.claimer place) view.key view.parts view.plan_parts view.plan_allowance

-- the call on the raised set begins, and no claim waits any more
abbrev pub begin_raise : EntityView → ℕ → ℕ → EntityView
begin_raise view index word = view_with (begun view.raise index word) view.kill (raising view.claimer) view.key view.parts view.plan_parts view.plan_allowance

-- after a whole call of `create`, whose first word was this
abbrev pub after_create : EntityView → ℕ → ℕ → ℕ → EntityView
after_create view place index word = view_with (ended (risen (risen (begun view.raise index word)))) view.kill (raising (claimed view.claimer place)) view.key view.parts view.plan_parts view.plan_allowance

-- after the four steps of a deletion
abbrev pub after_delete : EntityView → ℕ → ℕ → EntityView
after_delete view index word = with_kill view (ended (risen (risen (begun view.kill index word))))

-- a look of a view found the index raised
abbrev pub HasSeen : EntityView → ℕ → Type 0
HasSeen view index = (look : ℕ × ℕ) × Contains view.raise.seen look × (look.0 ≡ index / 64) × (bit_at look.1 (index % 64) ≡ 1)

-- a view lists a birth at the index
abbrev pub HasRaised : EntityView → ℕ → Type 0
HasRaised view index = (call : ℕ × Bool) × Contains view.raise.calls call × (call.0 ≡ index)

-- the generation is alive, and the one after so many births
abbrev pub IsAfter : ℕ → Life → Type 0
IsAfter born generation = (generation.number ≡ born + 1) × (generation.lives ≡ true)

-- the entity is the one that is born at its index after its last persistent birth, which is dead
abbrev pub IsNext : Births → Entity → Type 0
IsNext before entity = (alive_of (persistent_at before entity.id) ≡ None) × (entity.generation ≡ next_life (persistent_at before entity.id))

-- the index is within the layers of a phase
abbrev pub IsWithin : EntityView → ℕ → Type 0
IsWithin view index = index < 64 * (setting_of view.key).sizes.first

-- a view knows that an entity lives: it was alive at `share`, or it is a birth of the view's or was seen raised
abbrev pub Knows : EntityView → Entity → Type 0
Knows view entity = IsAlive view.key.before entity ⊎ (IsNext view.key.before entity × IsWithin view entity.id × (HasRaised view entity.id ⊎ HasSeen view entity.id))

-- an entity was alive at `share`, or a view saw it raised; the view knows it
abbrev pub Finds : EntityView → Entity → Type 0
Finds view entity = IsAlive view.key.before entity ⊎ (IsNext view.key.before entity × IsWithin view entity.id × HasSeen view entity.id)

-- the entity is one of the first so many of the reserve
abbrev pub IsGiven : PhaseKey → ℕ → Entity → Type 0
IsGiven key count entity = (place : ℕ) × (place < count) × (reserved key place ≡ entity)

-- the entity was alive at `share` or is of the reserve
abbrev pub MayLive : PhaseKey → Entity → Type 0
MayLive key entity = IsAlive key.before entity ⊎ IsGiven key key.reserve entity

-- at most one look at the word of an index changes a view
abbrev pub LooksAt : EntityView → ℕ → EntityView → Type 0
LooksAt before index after = (after ≡ before) ⊎ ((word : ℕ) × (after ≡ with_raise before (looked before.raise (index / 64) word)))

-- the deletions of the entities at the indices of a list are accepted
abbrev pub all_accepted : Births → List ℕ → Births
all_accepted births [] = births
all_accepted births (index ∷ indices) = all_accepted (deleted births index) indices
