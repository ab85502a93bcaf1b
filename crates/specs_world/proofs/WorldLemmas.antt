-- What callers of worlds of entities need: which resource stands at a place after a call, and that each other id's slot is as it was.
use Rattle.std.proofs.Common.{◌≡◌, ◌≢◌, ℕ, zero, suc, Bool, true, false, cond, ◌&&◌, ◌||◌, eqb, List, [], ◌∷◌, Option, Some, None, MatchOption, is_some, inl, inr, Ok, refl, sym, ap}
use Rattle.std.proofs.Common.{subst, ◌∙◌}
use Rattle.std.proofs.lemmas.Bool.{cases_eq, eq-eqb, eqb-true, true≢false}
use Rattle.std.proofs.lemmas.Option.{same_Some}
use Rattle.std.specs.List.{list_any}
use Rattle.std.specs.Option.{option_and_then, option_flatten}
use Rattle.std.specs.Prelude.{unwrap_or}
use Rattle.std.specs.FinMap as map
use Rattle.shred_world.specs.declared.resource_id.ResourceId.{ResourceId}
use Rattle.shred_world.specs.ResourceIds.{id_cmp, id_of, same_id}
use Rattle.shred_world.specs.Worlds.{Slots, with_kind}
use Rattle.shred_world.proofs.WorldLemmas.{get-insert_here, flattened}
use Rattle.specs_entity.specs.Births.{Births, none_born}
use Rattle.specs_entity.specs.declared.ids.Entity.{Entity}
use Rattle.specs_entity.specs.declared.errors.Error.{Error}
use Rattle.specs_layouts.specs.Drops.{ids_of, without, without_all}
use Rattle.specs_layouts.specs.Parts.{Puts, SameParts}
use Rattle.specs_world.proofs.DroppingLemmas.{get-insert_other}
use Rattle.specs_world.proofs.ResourceLemmas.{resource-value}
use Rattle.specs_world.specs.Resources.{Place, place, held, Becomes, Registers}
use Rattle.specs_world.specs.Inserting.{PutsPart}
use Rattle.specs_layouts.specs.Channels.{Log}
use Rattle.specs_layouts.specs.Masked.{Masked}
use Rattle.specs_layouts.specs.declared.track.ComponentEvent.{ComponentEvent}
use Rattle.specs_world.specs.Dropping.{Deletes, SlotDrops}
use Rattle.specs_world.specs.Maintaining.{without_entities}
use Rattle.specs_world.specs.Queues.{waiting, JobsRun, TakesNext}
use Rattle.specs_world.specs.Variants.{DropsWithin}
use Rattle.specs_world.specs.declared.maintained.Maintained.{Maintained}

-- the resource stands at its place
abbrev pub Stands : {V R : Type 0} → Place V R → Slots V → R → Type 0
Stands at w resource = map.get w at.id ≡ Some (Some (at.wrapped resource))

module _ {V R : Type 0} (at : Place V R) (seen : (resource : R) → at.part (at.wrapped resource) ≡ Some resource) where
  -- what stands is held
  pub stands-held : (w : Slots V) (resource : R) → Stands at w resource → held at w ≡ Some resource
  stands-held w resource stands = ap (λ slot. option_and_then at.part (option_flatten slot)) stands ∙ seen resource

  -- and nothing else is
  pub stands-is : (w : Slots V) (resource other : R) → Stands at w resource → held at w ≡ Some other → other ≡ resource
  stands-is w resource other stands is = same_Some other resource (sym is ∙ stands-held w resource stands)

  -- what stands once the resource became another by a relation: an entity came to life, a part was put, a kind was entered
  pub became : (change : R → R → Type 0) (w w' : Slots V) (resource : R) → Stands at w resource → Becomes at change w w' → (now : R) × change resource now × Stands at w' now
  became change w w' resource stands (was, now, stood, changed, put) = (
    now,
    subst (λ r. change r now) (stands-is w resource was stands stood) changed,
    ap (λ m. map.get m at.id) put ∙ get-insert_here w at.id (Some (at.wrapped now)),
  )

-- what is held stands, where a value in which a resource is seen is that resource, wrapped
pub held-stands : {V R : Type 0} (at : Place V R) → ((value : V) (resource : R) → at.part value ≡ Some resource → value ≡ at.wrapped resource) → (w : Slots V) (resource : R)
    → held at w ≡ Some resource → Stands at w resource
held-stands at only w resource is = flattened (map.get w at.id) (at.wrapped resource) (resource-value at.part at.wrapped only w at.id resource is)

-- where one resource became another each other id's slot is as it was
pub became-apart : {V R : Type 0} (at : Place V R) (change : R → R → Type 0) (w w' : Slots V) → Becomes at change w w' → (other : ResourceId) → same_id other at.id ≡ false
    → map.get w' other ≡ map.get w other
became-apart at change w w' (was, now, stood, changed, put) other apart = ap (λ m. map.get m other) put ∙ get-insert_other w at.id (Some (at.wrapped now)) other apart

-- ---- parts

-- a part that was put at an entity of a world that a builder held was put at the entity that it built, in what the world is then
pub put-by-builder : {V S T : Type 0} {at : Place V (Masked S)} {part_at : S → ℕ → Option T} {events : S → Log ComponentEvent} {emits : S → Bool} {part : T} {had : Option T} {births : Option Births} {before : Slots V}
    (entity built : Entity) (middle after : Slots V) → built ≡ entity → after ≡ middle → PutsPart at part_at events emits entity part had births before middle
    → PutsPart at part_at events emits built part had births before after
put-by-builder {at = at} {part_at = part_at} {events = events} {emits = emits} {part = part} {had = had} {births = births} {before = before} entity built middle after same last put =
    subst (λ e. PutsPart at part_at events emits e part had births before after) (sym same)
    (subst (λ w. PutsPart at part_at events emits entity part had births before w) (sym last) put)

-- what each index has once a part was put at one
pub put-parts : {T : Type 0} (was now : ℕ → Option T) (index : ℕ) (part : T) → Puts was index (Some part) now → (other : ℕ) → now other ≡ cond (eqb other index) (Some part) (was other)
put-parts was now index part puts other = elim (cases_eq other index) [
  | inl here ↦ ap now here ∙ (puts.here ∙ sym (ap (λ b. cond b (Some part) (was other)) (eq-eqb other index here)))
  | inr apart ↦ puts.others other apart ∙ sym (ap (λ b. cond b (Some part) (was other)) (apart-eqb apart))
]
  where
    apart-eqb : other ≢ index → eqb other index ≡ false
    apart-eqb apart = by (eqb other index) refl
      where
        by : (b : Bool) → eqb other index ≡ b → b ≡ false
        by true is = absurd (apart (eqb-true other index is))
        by false is = refl

without-listed : {T : Type 0} (parts : ℕ → Option T) (indices : List ℕ) (index : ℕ) → without_all parts indices index ≡ cond (list_any (λ other. eqb index other) indices) None (parts index)
without-listed parts [] index = refl
without-listed parts (one ∷ indices) index = without-listed (without parts one) indices index ∙ by (eqb index one) (list_any (λ other. eqb index other) indices)
  where
    by : (here later : Bool) → cond later None (cond here None (parts index)) ≡ cond (here || later) None (parts index)
    by true true = refl
    by true false = refl
    by false later = refl

-- what each index has once the parts of a list of indices were dropped
pub dropped-each : {T : Type 0} (was now : ℕ → Option T) (indices : List ℕ) → SameParts (without_all was indices) now → (index : ℕ)
    → now index ≡ cond (list_any (λ other. eqb index other) indices) None (was index)
dropped-each was now indices same index = same index ∙ without-listed was indices index

-- ---- kinds

-- a storage of the kind stands, the table has it, and the slots of all other ids are as they were
pub record IsRegistered {V S : Type 0} (table : Place V (List ℕ)) (storage_at : Place V S) (is_new : S → Type 0) (kinds : List ℕ) (w w' : Slots V) : Type 0 where
  pub storage : S
  pub new : is_new storage
  pub stands : Stands storage_at w' storage
  pub listed : Stands table w' (with_kind kinds storage_at.id.kind)
  pub others : (other : ResourceId) → same_id other table.id ≡ false → same_id other storage_at.id ≡ false → map.get w' other ≡ map.get w other

module _ {V S : Type 0} (table : Place V (List ℕ)) (storage_at : Place V S) (is_new : S → Type 0) (table_seen : (kinds : List ℕ) → table.part (table.wrapped kinds) ≡ Some kinds)
    (table_apart : same_id table.id storage_at.id ≡ false) (storage_apart : same_id storage_at.id table.id ≡ false) (w w' : Slots V) (kinds : List ℕ) (has_table : Stands table w kinds) where
  -- what registering a kind makes of a world that has no storage of it
  pub registered-anew : map.get w storage_at.id ≡ None → Registers table storage_at is_new w w' → IsRegistered table storage_at is_new kinds w w'
  registered-anew none (middle, defaults, enters) =
      let made : (r : S) × is_new r × (middle ≡ map.insert w storage_at.id (Some (storage_at.wrapped r))) =
      subst (λ slot. MatchOption (option_flatten slot) ((r : S) × is_new r × (middle ≡ map.insert w storage_at.id (Some (storage_at.wrapped r)))) (λ _. middle ≡ w)) none defaults in
      let in_middle : (other : ResourceId) → same_id other storage_at.id ≡ false → map.get middle other ≡ map.get w other = λ other apart.
      ap (λ m. map.get m other) made.2 ∙ get-insert_other w storage_at.id (Some (storage_at.wrapped made.0)) other apart in
      let entered = became table table_seen (λ was now. now ≡ with_kind was storage_at.id.kind) middle w' kinds (in_middle table.id table_apart ∙ has_table) enters in
      let after = became-apart table (λ was now. now ≡ with_kind was storage_at.id.kind) middle w' enters in
      record {
        storage = made.0;
        new = made.1;
        stands = after storage_at.id storage_apart ∙ (ap (λ m. map.get m storage_at.id) made.2 ∙ get-insert_here w storage_at.id (Some (storage_at.wrapped made.0)));
        listed = entered.2 ∙ ap (λ k. Some (Some (table.wrapped k))) entered.1;
        others = λ other not_table not_storage. after other not_table ∙ in_middle other not_storage;
      }

  -- of one that has a storage of the kind nothing changes but the table
  pub registered-again : (storage : S) → Stands storage_at w storage → Registers table storage_at is_new w w' → IsRegistered table storage_at (λ s. s ≡ storage) kinds w w'
  registered-again storage there (middle, defaults, enters) =
      let same : middle ≡ w =
      subst (λ slot. MatchOption (option_flatten slot) ((r : S) × is_new r × (middle ≡ map.insert w storage_at.id (Some (storage_at.wrapped r)))) (λ _. middle ≡ w)) there defaults in
      let from = λ (other : ResourceId). ap (λ m. map.get m other) same in
      let entered = became table table_seen (λ was now. now ≡ with_kind was storage_at.id.kind) middle w' kinds (from table.id ∙ has_table) enters in
      let after = became-apart table (λ was now. now ≡ with_kind was storage_at.id.kind) middle w' enters in
      record {
        storage = storage;
        new = refl;
        stands = after storage_at.id storage_apart ∙ (from storage_at.id ∙ there);
        listed = entered.2 ∙ ap (λ k. Some (Some (table.wrapped k))) entered.1;
        others = λ other not_table _. after other not_table ∙ from other;
      }

-- ---- worlds that were made

module _ {V : Type 0} (births_at : Place V Births) (table_at : Place V (List ℕ)) where
  -- a world without entities has its births, and a table without kinds
  pub begun-births : same_id births_at.id table_at.id ≡ false → Stands births_at (without_entities births_at table_at) (none_born 16777216 2147483647)
  begun-births apart =
      let births = births_at.wrapped (none_born 16777216 2147483647) in
      get-insert_other (map.insert map.empty births_at.id (Some births)) table_at.id (Some (table_at.wrapped [])) births_at.id apart ∙ get-insert_here map.empty births_at.id (Some births)

  pub begun-table : Stands table_at (without_entities births_at table_at) []
  begun-table = get-insert_here (map.insert map.empty births_at.id (Some (births_at.wrapped (none_born 16777216 2147483647)))) table_at.id (Some (table_at.wrapped []))

  -- and nothing else
  pub begun-others : (other : ResourceId) → same_id other births_at.id ≡ false → same_id other table_at.id ≡ false → map.get (without_entities births_at table_at) other ≡ None
  begun-others other not_births not_table =
      let births = births_at.wrapped (none_born 16777216 2147483647) in
      get-insert_other (map.insert map.empty births_at.id (Some births)) table_at.id (Some (table_at.wrapped [])) other not_table
      ∙ (get-insert_other map.empty births_at.id (Some births) other not_births ∙ map.get-empty id_cmp other)

-- ---- deaths

-- the storage at a registered kind's place dropped the parts of the dead, and stands there still
pub deleted-parts : {V S : Type 0} (births_at : Place V Births) (table_id : ResourceId) (value_drops : V → List ℕ → V → Type 0)
    (births : Births) (kinds : List ℕ) (entities : List Entity) (w w' : Slots V)
    (part : V → Option S) (wrapped : S → V) (kind : ℕ) (drops : S → List ℕ → S → Type 0) →
    ((s : S) (indices : List ℕ) (after : V) → value_drops (wrapped s) indices after → DropsWithin wrapped drops s indices after)
    → Deletes births_at table_id value_drops births kinds entities w w' → list_any (λ k. eqb k kind) kinds ≡ true → same_id (id_of kind 0) births_at.id ≡ false
    → same_id (id_of kind 0) table_id ≡ false
    → (storage : S) → Stands (place part wrapped kind) w storage → (now : S) × drops storage (ids_of entities) now × Stands (place part wrapped kind) w' now
deleted-parts births_at table_id value_drops births kinds entities w w' part wrapped kind drops within deletes listed not_births not_table storage stands =
    let slot = subst (λ slot. SlotDrops value_drops (ids_of entities) slot (map.get w' (id_of kind 0))) stands (deletes.parts kind listed not_births not_table) in
    let gone = within storage (ids_of entities) slot.0 slot.2 in
    (gone.0, gone.2, slot.1 ∙ ap (λ v. Some (Some v)) gone.1)

-- the slots of ids that are of no registered kind are as they were
pub deleted-others : {V : Type 0} (births_at : Place V Births) (table_id : ResourceId) (value_drops : V → List ℕ → V → Type 0)
    (births : Births) (kinds : List ℕ) (entities : List Entity) (w w' : Slots V)
    → Deletes births_at table_id value_drops births kinds entities w w' → (other : ResourceId) → list_any (λ k. eqb other.kind k) kinds ≡ false → same_id other births_at.id ≡ false
    → map.get w' other ≡ map.get w other
deleted-others births_at table_id value_drops births kinds entities w w' deletes other unlisted not_births =
    deletes.others other (ap (λ b. eqb other.dynamic 0 && b) unlisted ∙ none (eqb other.dynamic 0)) not_births
  where
    none : (b : Bool) → (b && false) ≡ false
    none true = refl
    none false = refl

-- ---- queues

-- where no job waits under any number and there is no shared queue, a maintained world is as the merge left it
pub none-to-run : {V J S : Type 0} (runs : J → Option Error → Slots V → Slots V → Type 0) (at : Place V (List J))
    (shared : Place V S) (limit : ℕ) (merged after : Slots V) (so_far counts : Maintained)
    → ((number : ℕ) → waiting at merged number ≡ []) → held shared merged ≡ None → JobsRun runs at shared limit so_far merged (Ok counts) after → after ≡ merged
none-to-run runs at shared zero merged after so_far counts none unshared ran = ran.0
none-to-run runs at shared (suc limit) merged after so_far counts none unshared (inl over) = over.2
none-to-run runs at shared (suc limit) merged after so_far counts none unshared (inr (inl memory)) = let e = memory.0 in cc
none-to-run runs at shared (suc limit) merged after so_far counts none unshared (inr (inr (refused, ran, other, next, more))) = by next.takes
  where
    by : TakesNext at shared next.job merged next.taken → after ≡ merged
    by (inl first) = absurd (not-empty next.job first.takes.rest (sym (ap (λ o. unwrap_or o []) first.takes.queued) ∙ none first.number))
      where
        not-empty : {J : Type 0} (job : J) (rest : List J) → job ∷ rest ≡ [] → ⊥
        not-empty job rest e = cc
    by (inr shared_gives) = absurd (true≢false (sym shared_gives.1 ∙ ap is_some unshared))
