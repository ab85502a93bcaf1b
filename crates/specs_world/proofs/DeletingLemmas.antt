-- Facts on worlds whose storages drop parts while some of their resources are out.
use Rattle.std.proofs.Common.{◌≡◌, ℕ, inl, inr, Result, Ok, Err, OnOk, IfOk, OnErr, Bool, true, false, List, [], ◌++◌, Option, Some, None, refl, sym, ap, subst, ◌∙◌}
use Rattle.std.proofs.lemmas.Bool.{false≢true}
use Rattle.std.specs.Option.{option_flatten, option_and_then}
use Rattle.std.specs.FinMap.{get, insert}
use Rattle.std.specs.FinSet as fin
use Rattle.std.proofs.lemmas.Option.{none-some}
use Rattle.shred_world.specs.declared.resource_id.ResourceId.{ResourceId}
use Rattle.shred_world.specs.ResourceIds.{id_of, same_id}
use Rattle.shred_world.specs.Worlds.{Slots, value_at, resource_at, is_of_kinds}
use Rattle.shred_world.proofs.IdLemmas.{same_id-is, same_id-itself}
use Rattle.shred_world.proofs.WorldLemmas.{get-insert_here}
use Rattle.specs_entity.proofs.ListLemmas.{fault-not-killable}
use Rattle.std.specs.List.{All}
use Rattle.specs_entity.specs.Births.{Births, CanKill, Continues, IsAlive, LivesBut, is_named, living, all_buried, all_deleted, merged, indices_of}
use Rattle.specs_entity.specs.Closures.{RefusesClosure}
use Rattle.specs_entity.specs.declared.ids.Entity.{Entity}
use Rattle.specs_entity.specs.declared.errors.Error.{Error}
use Rattle.specs_entity.specs.declared.errors.Error.TheVariants as variant
use Rattle.specs_layouts.specs.Drops.{ids_of}
use Rattle.specs_world.specs.Resources.{Place, held}
use Rattle.specs_world.specs.Dropping.{SlotDrops, Rests, StayOut, DropsIn, DropsComponents, Kills, Deletes, DeletesIn, MergesIn, RefusesDeath, RefusesIn}
use Rattle.specs_world.proofs.DroppingLemmas.{get-insert_other, slot-rests, slot-append, listed-of-kinds}
use Rattle.specs_world.proofs.ResourceLemmas.{resource-value}
use Rattle.shred_world.proofs.CallerLemmas.{flattened}

-- what is true at one id and at each other is true of all
by-id : {P : ResourceId → Type 0} (id : ResourceId) → P id → ((other : ResourceId) → same_id other id ≡ false → P other) → (other : ResourceId) → P other
by-id {P} id here others other = at (same_id other id) refl
  where
    at : (b : Bool) → same_id other id ≡ b → P other
    at true same = subst P (sym (same_id-is other id same)) here
    at false apart = others other apart

same_id-sym : (a b : ResourceId) → same_id a b ≡ same_id b a
same_id-sym a b = at (same_id a b) (same_id b a) refl refl
  where
    at : (x y : Bool) → same_id a b ≡ x → same_id b a ≡ y → same_id a b ≡ same_id b a
    at true true e f = e ∙ sym f
    at false false e f = e ∙ sym f
    at true false e f = absurd (false≢true (sym f ∙ ap (λ q. same_id b q) (same_id-is a b e) ∙ same_id-itself b))
    at false true e f = absurd (false≢true (sym e ∙ ap (λ q. same_id a q) (same_id-is b a f) ∙ same_id-itself a))

module _ {V : Type 0} (drops : V → List ℕ → V → Type 0) where
  -- so it is where storages dropped parts
  pub drops-out : (kinds indices : List ℕ) (w w' : Slots V) → DropsIn drops kinds indices w w' → StayOut w w'
  drops-out kinds indices w w' dropped id out = at (is_of_kinds kinds id) refl
    where
      at : (b : Bool) → is_of_kinds kinds id ≡ b → get w' id ≡ Some None
      at false unlisted = dropped.others id unlisted ∙ out
      at true listed =
          let of = listed-of-kinds kinds id listed in
          subst (λ q. get w' q ≡ Some None) (sym of.0)
          (subst (λ slot. SlotDrops drops indices slot (get w' (id_of id.kind 0))) (subst (λ q. get w q ≡ Some None) of.0 out) (dropped.parts id.kind of.1))

  -- drops after room was made are drops
  pub rests-then-drops : ((first second third : V) (indices others : List ℕ) → drops first indices second → drops second others third → drops first (indices ++ others) third)
      → (kinds indices : List ℕ) (w w1 w2 : Slots V) → Rests drops w w1 → ((id : ResourceId) → is_of_kinds kinds id ≡ false → get w1 id ≡ get w id) → DropsIn drops kinds indices w1 w2 → DropsIn drops kinds indices w w2
  rests-then-drops append kinds indices w w1 w2 rests same dropped = record {
    parts = λ kind listed. slot-append drops append (get w (id_of kind 0)) (get w1 (id_of kind 0)) (get w2 (id_of kind 0)) [] indices (rests (id_of kind 0)) (dropped.parts kind listed);
    others = λ id unlisted. dropped.others id unlisted ∙ same id unlisted;
  }

-- a resource was taken out, and another value is put in its place
module _ {V : Type 0} (drops : V → List ℕ → V → Type 0) (w w1 w2 w3 : Slots V) (id : ResourceId) (v : V) (taken : w1 ≡ insert w id None) (put : w3 ≡ insert w2 id (Some v)) where
  get-taken : (other : ResourceId) → same_id other id ≡ false → get w1 other ≡ get w other
  get-taken other apart = ap (λ m. get m other) taken ∙ get-insert_other w id None other apart

  get-put : (other : ResourceId) → same_id other id ≡ false → get w3 other ≡ get w2 other
  get-put other apart = ap (λ m. get m other) put ∙ get-insert_other w2 id (Some v) other apart

  pub stands-put : get w3 id ≡ Some (Some v)
  stands-put = ap (λ m. get m id) put ∙ get-insert_here w2 id (Some v)

  -- the slot stayed, so that the value can be put
  pub is-left-out : StayOut w1 w2 → get w2 id ≡ Some None
  is-left-out out = out id (ap (λ m. get m id) taken ∙ get-insert_here w id None)

  -- no part changed around it, nor here
  pub rests-around : ((value : V) → drops value [] value) → value_at w id ≡ Some v → Rests drops w1 w2 → Rests drops w w3
  rests-around none stood rests =
      by-id {P = λ q. SlotDrops drops [] (get w q) (get w3 q)} id
      (subst (λ slot. SlotDrops drops [] (get w id) slot) (flattened (get w id) v stood ∙ sym stands-put) (slot-rests drops none (get w id)))
      (λ other apart. subst (λ slot. SlotDrops drops [] slot (get w3 other)) (get-taken other apart) (subst (λ slot. SlotDrops drops [] (get w1 other) slot) (sym (get-put other apart)) (rests other)))

  -- what was out beside it stays out
  pub out-around : value_at w id ≡ Some v → StayOut w1 w2 → StayOut w w3
  out-around stood outs =
      by-id {P = λ q. get w q ≡ Some None → get w3 q ≡ Some None} id
      (λ out. stands-put ∙ sym (flattened (get w id) v stood) ∙ out)
      (λ other apart out. get-put other apart ∙ outs other (get-taken other apart ∙ out))

  -- drops of parts around the table of kinds
  pub drops-around : (part : V → Option (List ℕ)) (wrapped : List ℕ → V) → ((value : V) (kinds : List ℕ) → part value ≡ Some kinds → value ≡ wrapped kinds) → (entities : List Entity) (kinds : List ℕ)
      → resource_at part w id ≡ Some kinds → v ≡ wrapped kinds → DropsIn drops kinds (ids_of entities) w1 w2 → DropsComponents (record { part = part; wrapped = wrapped; id = id }) drops entities w w3
  drops-around part wrapped only entities kinds there is dropped =
      let table : get w3 id ≡ get w id = stands-put ∙ ap (λ value. Some (Some value)) is ∙ sym (flattened (get w id) (wrapped kinds) (resource-value part wrapped only w id kinds there)) in
      record {
        kinds = kinds;
        registered = there;
        table = table;
        parts = λ kind listed apart.
            subst (λ slot. SlotDrops drops (ids_of entities) slot (get w3 (id_of kind 0))) (get-taken (id_of kind 0) apart)
            (subst (λ slot. SlotDrops drops (ids_of entities) (get w1 (id_of kind 0)) slot) (sym (get-put (id_of kind 0) apart)) (dropped.parts kind listed));
        others =
            by-id {P = λ q. is_of_kinds kinds q ≡ false → get w3 q ≡ get w q} id (λ _. table)
            (λ other apart unlisted. get-put other apart ∙ dropped.others other unlisted ∙ get-taken other apart);
      }

  -- the table of kinds isn't where the entities are out
  table-apart : (table : Place V (List ℕ)) (kinds : List ℕ) → held table w1 ≡ Some kinds → same_id table.id id ≡ false
  table-apart table kinds registered = at (same_id table.id id) refl
    where
      at : (b : Bool) → same_id table.id id ≡ b → same_id table.id id ≡ false
      at false apart = apart
      at true same =
          absurd (none-some kinds
          (sym (ap (λ q. resource_at table.part w1 q) (same_id-is table.id id same) ∙ ap (λ slot. option_and_then table.part (option_flatten slot)) (ap (λ m. get m id) taken ∙ get-insert_here w id None)) ∙ registered))

  table-there : (table : Place V (List ℕ)) (kinds : List ℕ) → held table w1 ≡ Some kinds → held table w ≡ Some kinds
  table-there table kinds registered = ap (λ slot. option_and_then table.part (option_flatten slot)) (sym (get-taken table.id (table-apart table kinds registered))) ∙ registered

  -- the same around the entities
  pub entities-around : (births_part : V → Option Births) (wrapped : Births → V) (table : Place V (List ℕ)) (entities : List Entity) (after : Births)
      → v ≡ wrapped after → (dropped : DropsComponents table drops entities w1 w2)
      → Deletes (record { part = births_part; wrapped = wrapped; id = id }) table.id drops after dropped.kinds entities w w3
  entities-around births_part wrapped table entities after is dropped =
      let apart = table-apart table dropped.kinds dropped.registered in
      record {
        births = stands-put ∙ ap (λ value. Some (Some value)) is;
        table = get-put table.id apart ∙ dropped.table ∙ get-taken table.id apart;
        parts = λ kind listed not_births not_table.
            subst (λ slot. SlotDrops drops (ids_of entities) slot (get w3 (id_of kind 0))) (get-taken (id_of kind 0) not_births)
            (subst (λ slot. SlotDrops drops (ids_of entities) (get w1 (id_of kind 0)) slot) (sym (get-put (id_of kind 0) not_births)) (dropped.parts kind listed not_table));
        others = λ other unlisted not_births. get-put other not_births ∙ dropped.others other unlisted ∙ get-taken other not_births;
      }

  pub deletes-around : (births_part : V → Option Births) (wrapped : Births → V) (table : Place V (List ℕ)) (entities : List Entity) (births after : Births)
      → resource_at births_part w id ≡ Some births → v ≡ wrapped after → Kills table drops entities births after w1 w2
      → DeletesIn (record { part = births_part; wrapped = wrapped; id = id }) table drops entities w w3
  deletes-around births_part wrapped table entities births after there is kills = record {
    births = births;
    kinds = kills.dropped.kinds;
    alive_in = there;
    registered = table-there table kills.dropped.kinds kills.dropped.registered;
    killable = kills.killable;
    lives = subst (LivesBut (is_named entities) births) kills.buried kills.lives;
    continues = subst (Continues births) kills.buried kills.continues;
    deletes = entities-around births_part wrapped table entities (all_buried births (indices_of entities)) (is ∙ ap wrapped kills.buried) kills.dropped;
  }

  pub merges-around : (births_part : V → Option Births) (wrapped : Births → V) (table : Place V (List ℕ)) (entities : List Entity) (births after : Births)
      → resource_at births_part w id ≡ Some births → v ≡ wrapped after → after ≡ merged births → entities ≡ all_deleted births
      → ((index : ℕ) → is_named entities index ≡ fin.contains births.deletions index) → LivesBut (fin.contains births.deletions) births after → after.deletions ≡ fin.empty → Continues births after → DropsComponents table drops entities w1 w2
      → MergesIn (record { part = births_part; wrapped = wrapped; id = id }) table drops entities w w3
  merges-around births_part wrapped table entities births after there is merges dead named lives done continues dropped = record {
    births = births;
    kinds = dropped.kinds;
    alive_in = there;
    registered = table-there table dropped.kinds dropped.registered;
    dead = dead;
    named = named;
    lives = subst (LivesBut (fin.contains births.deletions) births) merges lives;
    done = sym (ap (λ (b : Births). b.deletions) merges) ∙ done;
    continues = subst (Continues births) merges continues;
    deletes = entities-around births_part wrapped table entities (merged births) (is ∙ ap wrapped merges) dropped;
  }

  -- a refusal around the entities
  pub refused-around : (births_part : V → Option Births) (table_part : V → Option (List ℕ)) (table_id : ResourceId) (refuses : Births → Error → Type 0) (births : Births) (error : Error)
      → resource_at births_part w id ≡ Some births → RefusesIn (Some births) (resource_at table_part w1 table_id) false refuses error
      → RefusesIn (resource_at births_part w id) (resource_at table_part w table_id) (same_id id table_id) refuses error
  refused-around births_part table_part table_id refuses births error there refused =
      subst (λ one. RefusesIn one (resource_at table_part w table_id) (same_id id table_id) refuses error) (sym there) (at (same_id table_id id) refl)
    where
      unregistered : (table : Option (List ℕ)) (same : Bool) → same ≡ true → error ≡ variant.NotRegistered → RefusesIn (Some births) table same refuses error
      unregistered None same is e = e
      unregistered (Some kinds) same is e = inl (is, e)

      at-same : (table : Option (List ℕ)) (one two : Bool) → one ≡ false → two ≡ false → RefusesIn (Some births) table one refuses error → RefusesIn (Some births) table two refuses error
      at-same table one two e f = subst (λ b. RefusesIn (Some births) table b refuses error) (e ∙ sym f)

      at : (b : Bool) → same_id table_id id ≡ b → RefusesIn (Some births) (resource_at table_part w table_id) (same_id id table_id) refuses error
      at true same =
          let one : table_id ≡ id = same_id-is table_id id same in
          let gone : resource_at table_part w1 table_id ≡ None =
          ap (λ q. resource_at table_part w1 q) one ∙ ap (λ slot. option_and_then table_part (option_flatten slot)) (ap (λ m. get m id) taken ∙ get-insert_here w id None) in
          unregistered (resource_at table_part w table_id) (same_id id table_id) (ap (same_id id) one ∙ same_id-itself id) (subst (λ table. RefusesIn (Some births) table false refuses error) gone refused)
      at false apart =
          at-same (resource_at table_part w table_id) false (same_id id table_id) refl (same_id-sym id table_id ∙ apart)
          (subst (λ table. RefusesIn (Some births) table false refuses error) (ap (λ slot. option_and_then table_part (option_flatten slot)) (get-taken table_id apart)) refused)

-- entities that can die at once are refused their death for want of memory alone
pub killable-refused : (births : Births) (entities : List Entity) (error : Error) → CanKill (living births) entities → RefusesDeath births entities error → error ≡ variant.Memory
killable-refused births entities error can refused =
    elim refused [ inl kill ↦ absurd (fault-not-killable (living births) entities kill.0 kill.1 can) | inr memory ↦ memory.0 ]

-- so it is of all that live
pub whole-refused : (births : Births) (kinds : Option (List ℕ)) (one_id : Bool) (entities : List Entity) (error : Error) → CanKill (living births) entities
    → RefusesIn (Some births) kinds one_id (λ b. RefusesDeath b entities) error → RefusesIn (Some births) kinds one_id (λ _ e. e ≡ variant.Memory) error
whole-refused births None one_id entities error can refused = refused
whole-refused births (Some kinds) one_id entities error can refused =
    elim refused [ inl same ↦ inl same | inr death ↦ inr (killable-refused births entities error can death) ]

-- so is the deletion of those that fall with roots that are alive, where the list left the births as they were
pub fall-refused : (births listed : Births) (kinds : Option (List ℕ)) (one_id : Bool) (roots entities : List Entity) (error : Error) → listed ≡ births → CanKill (living births) entities → All (IsAlive births) roots
    → RefusesIn (Some listed) kinds one_id (λ b. RefusesDeath b entities) error → RefusesIn (Some births) kinds one_id (λ b. RefusesClosure b roots) error
fall-refused births listed None one_id roots entities error same can alive refused = refused
fall-refused births listed (Some kinds) one_id roots entities error same can alive refused =
    elim refused [ inl one ↦ inl one | inr death ↦ inr (inr (killable-refused births entities error can (subst (λ (b : Births). RefusesDeath b entities error) same death), alive)) ]

-- facts of an `Ok`, and of an `Err`, taken together
pub if_ok_both : {T E : Type 0} {P Q R : T → Type 0} (r : Result T E) → ((t : T) → P t → Q t → R t) → IfOk r P → IfOk r Q → IfOk r R
if_ok_both (Ok t) f p q = f t p q
if_ok_both (Err e) f p q = tt

pub on_ok_all : {T E P Q L C R S : Type 0} (r : Result T E) → (P → Q → L → C → R → S) → OnOk r P → OnOk r Q → OnOk r L → OnOk r C → OnOk r R → OnOk r S
on_ok_all (Ok t) f p q l c s = f p q l c s
on_ok_all (Err e) f p q l c s = tt

pub on_err_both : {T E P Q R : Type 0} (r : Result T E) → (P → Q → R) → OnErr r P → OnErr r Q → OnErr r R
on_err_both (Ok t) f p q = tt
on_err_both (Err e) f p q = f p q

pub if_ok_all : {T E P L D C : Type 0} {Q N R S : T → Type 0} (r : Result T E) → ((t : T) → P → Q t → N t → L → D → C → R t → S t) → OnOk r P → IfOk r Q → IfOk r N → OnOk r L → OnOk r D → OnOk r C → IfOk r R → IfOk r S
if_ok_all (Ok t) f p q n l d c s = f t p q n l d c s
if_ok_all (Err e) f p q n l d c s = tt
