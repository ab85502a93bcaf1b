-- What worlds of known parts in which no job waits are after each call, by what the calls are for callers of any world.
use Rattle.std.proofs.Common.{◌≡◌, ◌≤◌, ℕ, Bool, true, false, cond, not, ◌&&◌, ◌||◌, eqb, List, [], ◌∷◌, Option, Some, None, inl, inr, Result, Ok, OnOk, refl, sym, ap, subst, ◌∙◌}
use Rattle.std.proofs.Math.Path.{fun_ext}
use Rattle.std.proofs.lemmas.Bool.{and_parts, eq-eqb, ne_eqb}
use Rattle.std.proofs.lemmas.Bool.Decides.{eqb_tells}
use Rattle.std.proofs.lemmas.Cmp.{nat_cmp_total}
use Rattle.std.specs.List.{list_any}
use Rattle.std.specs.Option.{option_and_then, option_flatten}
use Rattle.std.specs.Ordering.{nat_cmp, eq_by_cmp}
use Rattle.std.specs.Prelude.{unwrap_or}
use Rattle.std.specs.FinMap as map
use Rattle.std.specs.FinSet as set
use Rattle.shred_world.proofs.IdLemmas.{same_id-fields}
use Rattle.shred_world.specs.declared.resource_id.ResourceId.{ResourceId}
use Rattle.shred_world.specs.ResourceIds.{id_of, same_id}
use Rattle.shred_world.specs.Worlds.{Slots, resource_at, is_of_kinds, with_kind}
use Rattle.specs_entity.specs.Births.{Births, all_buried, allocated, merged, newborn, none_born, is_named}
use Rattle.specs_entity.specs.declared.ids.Entity.{Entity}
use Rattle.specs_entity.specs.declared.errors.Error.{Error}
use Rattle.specs_layouts.specs.Channels.{Log}
use Rattle.specs_layouts.specs.declared.track.ComponentEvent.{ComponentEvent}
use Rattle.specs_layouts.specs.Drops.{ids_of, without_all}
use Rattle.specs_layouts.specs.Masked.{Masked}
use Rattle.specs_layouts.specs.Parts.{SameParts}
use Rattle.specs_world.proofs.DroppingLemmas.{listed-of-kinds}
use Rattle.specs_world.proofs.WorldLemmas.{Stands, stands-is, became, became-apart, put-parts, dropped-each, registered-anew}
use Rattle.specs_world.proofs.WorldLemmas.{begun-births, begun-table, begun-others, deleted-parts, deleted-others, none-to-run}
use Rattle.specs_world.specs.Dropping.{Deletes, DeletesIn, MergesIn, SlotDrops}
use Rattle.specs_world.specs.Inserting.{IsPut, PutsPart}
use Rattle.specs_world.specs.Maintaining.{Maintains, without_entities}
use Rattle.specs_world.specs.Queues.{JobsRun, none_ran}
use Rattle.specs_world.specs.Resources.{Place, place, Becomes, IsBirth, IsNew, Registers}
use Rattle.specs_world.specs.Stocked.{Basis, Kind, AreApart, IsStocked, HasParts, Builds, Kills, Settles, is_none_of, are_distinct, numbers_of, with_at, without_members}
use Rattle.specs_world.specs.Variants.{DropsWithin}
use Rattle.specs_world.specs.declared.maintained.Maintained.{Maintained}

-- ---- kinds that are apart

-- of two kinds no ids are one
abbrev Differ : ℕ → ℕ → Type 0
Differ one other = (m n : ℕ) → (same_id (id_of one m) (id_of other n) ≡ false) × (same_id (id_of other n) (id_of one m) ≡ false)

eqb-sym : (a b : ℕ) → eqb a b ≡ eqb b a
eqb-sym a b = elim (eqb_tells a b) [
  | inl same ↦ same.0 ∙ sym (eq-eqb b a (sym same.1))
  | inr apart ↦ apart.0 ∙ sym (ne_eqb b a (λ e. apart.1 (sym e)))
]

differ : (one other : ℕ) → eqb one other ≡ false → Differ one other
differ one other apart m n = (
  same_id-fields (id_of one m) (id_of other n) ∙ ap (λ b. b && eqb m n) apart,
  same_id-fields (id_of other n) (id_of one m) ∙ ap (λ b. b && eqb n m) (eqb-sym other one ∙ apart),
)

-- a number that is none of a list is not its first, and none of the others
none-first : (number other : ℕ) (others : List ℕ) → is_none_of number (other ∷ others) ≡ true → (eqb number other ≡ false) × (is_none_of number others ≡ true)
none-first number other others none = let parts = and_parts (not (eqb number other)) (is_none_of number others) none in (by (eqb number other) parts.0, parts.1)
  where
    by : (b : Bool) → not b ≡ true → b ≡ false
    by true is = sym is
    by false is = refl

-- the first kinds of a list are apart from each that comes later
record Firsts (one two three four : ℕ) : Type 0 where
  one_two : Differ one two
  one_three : Differ one three
  one_four : Differ one four
  two_three : Differ two three
  two_four : Differ two four

firsts : (one two three four : ℕ) → are_distinct (one ∷ two ∷ three ∷ four ∷ []) ≡ true → Firsts one two three four
firsts one two three four distinct =
    let at_one = and_parts (is_none_of one (two ∷ three ∷ four ∷ [])) (are_distinct (two ∷ three ∷ four ∷ [])) distinct in
    let not_two = none-first one two (three ∷ four ∷ []) at_one.0 in
    let not_three = none-first one three (four ∷ []) not_two.1 in
    let not_four = none-first one four [] not_three.1 in
    let at_two = and_parts (is_none_of two (three ∷ four ∷ [])) (are_distinct (three ∷ four ∷ [])) at_one.1 in
    let then_three = none-first two three (four ∷ []) at_two.0 in
    let then_four = none-first two four [] then_three.1 in
    record {
      one_two = differ one two not_two.0;
      one_three = differ one three not_three.0;
      one_four = differ one four not_four.0;
      two_three = differ two three then_three.0;
      two_four = differ two four then_four.0;
    }

-- a kind that is none of four is apart from each
record Aside (kind one two three four : ℕ) : Type 0 where
  of_one : Differ kind one
  of_two : Differ kind two
  of_three : Differ kind three
  of_four : Differ kind four

aside : (kind one two three four : ℕ) → is_none_of kind (one ∷ two ∷ three ∷ four ∷ []) ≡ true → Aside kind one two three four
aside kind one two three four none =
    let not_one = none-first kind one (two ∷ three ∷ four ∷ []) none in
    let not_two = none-first kind two (three ∷ four ∷ []) not_one.1 in
    let not_three = none-first kind three (four ∷ []) not_two.1 in
    let not_four = none-first kind four [] not_three.1 in
    record { of_one = differ kind one not_one.0; of_two = differ kind two not_two.0; of_three = differ kind three not_three.0; of_four = differ kind four not_four.0 }

-- ---- what stays

-- where the slot of a kind is as it was its storage has the parts that it had
pub parts-rest : {V S T : Type 0} (kind : Kind V S T) (parts : ℕ → Option T) (w w' : Slots V) → HasParts kind parts w → map.get w' (id_of kind.number 0) ≡ map.get w (id_of kind.number 0) → HasParts kind parts w'
parts-rest kind parts w w' has same = record { storage = has.storage; stands = same ∙ has.stands; each = has.each }

-- the same parts, otherwise told
pub parts-told : {V S T : Type 0} (kind : Kind V S T) (parts parts' : ℕ → Option T) (w : Slots V) → HasParts kind parts w → ((index : ℕ) → parts index ≡ parts' index) → HasParts kind parts' w
parts-told kind parts parts' w has same = record { storage = has.storage; stands = has.stands; each = λ index. has.each index ∙ same index }

-- ---- worlds that were made

-- a world without entities is stocked with none, and with no kind
pub begun : {V : Type 0} {basis : Basis V} {w : Slots V} → are_distinct (numbers_of basis) ≡ true
    → w ≡ without_entities (place (λ _. None) basis.entities basis.entities_kind) (place (λ _. None) basis.table basis.table_kind) → IsStocked basis (none_born 16777216 2147483647) [] w
begun {V} {basis} {w} distinct is =
    let apart = firsts basis.entities_kind basis.table_kind basis.queue_kind basis.shared_kind distinct in
    let births_at : Place V Births = place (λ _. None) basis.entities basis.entities_kind in
    let table_at : Place V (List ℕ) = place (λ _. None) basis.table basis.table_kind in
    let from = λ (id : ResourceId). ap (λ m. map.get m id) is in
    record {
      entities = from births_at.id ∙ begun-births births_at table_at (apart.one_two 0 0).0;
      table = from table_at.id ∙ begun-table births_at table_at;
      unqueued = λ number. from (id_of basis.queue_kind number) ∙ begun-others births_at table_at (id_of basis.queue_kind number) (apart.one_three 0 number).1 (apart.two_three 0 number).1;
      unshared = from (id_of basis.shared_kind 0) ∙ begun-others births_at table_at (id_of basis.shared_kind 0) (apart.one_four 0 0).1 (apart.two_four 0 0).1;
    }

module _ {V S T : Type 0} (basis : Basis V) (kind : Kind V S T) (apart : AreApart basis kind) where
  -- what each world has is apart
  between : are_distinct (numbers_of basis) ≡ true
  between = (and_parts (is_none_of kind.number (numbers_of basis)) (are_distinct (numbers_of basis)) apart).1

  -- and the kind from it
  off : Aside kind.number basis.entities_kind basis.table_kind basis.queue_kind basis.shared_kind
  off = aside kind.number basis.entities_kind basis.table_kind basis.queue_kind basis.shared_kind (and_parts (is_none_of kind.number (numbers_of basis)) (are_distinct (numbers_of basis)) apart).0

-- a kind has no storage in a world without entities
pub begun-without : {V S T : Type 0} (basis : Basis V) (kind : Kind V S T) {w : Slots V} → AreApart basis kind
    → w ≡ without_entities (place (λ _. None) basis.entities basis.entities_kind) (place (λ _. None) basis.table basis.table_kind) → map.get w (id_of kind.number 0) ≡ None
begun-without basis kind {w} apart is =
    let aside_of = off basis kind apart in
    ap (λ m. map.get m (id_of kind.number 0)) is
    ∙ begun-others (place (λ _. None) basis.entities basis.entities_kind) (place (λ _. None) basis.table basis.table_kind) (id_of kind.number 0) (aside_of.of_one 0 0).0 (aside_of.of_two 0 0).0

-- what a world is once a kind was registered: the table has it, its storage has no part, and the slot of each id but both is as it was
pub record IsKept {V S T : Type 0} (basis : Basis V) (kind : Kind V S T) (births : Births) (kinds : List ℕ) (w w' : Slots V) : Type 0 where
  pub stocked : IsStocked basis births (with_kind kinds kind.number) w'
  pub parts : HasParts kind (λ _. None) w'
  pub others : (other : ResourceId) → same_id other (id_of basis.table_kind 0) ≡ false → same_id other (id_of kind.number 0) ≡ false → map.get w' other ≡ map.get w other

-- a kind of which the world has no storage is registered
pub registered : {V S T : Type 0} {basis : Basis V} {kind : Kind V S T} {births : Births} {kinds : List ℕ} {w w' : Slots V} → AreApart basis kind
    → (is_default : S → Type 0) (table_part : V → Option (List ℕ)) (table_seen : (kinds : List ℕ) → table_part (basis.table kinds) ≡ Some kinds) → IsStocked basis births kinds w → map.get w (id_of kind.number 0) ≡ None
    → Registers (place table_part basis.table basis.table_kind) (place (λ _. None) kind.wrapped kind.number) (IsNew is_default kind.part_at) w w' → IsKept basis kind births kinds w w'
registered {V} {S} {T} {basis} {kind} {births} {kinds} {w} {w'} apart is_default table_part table_seen s none registers =
    let firsts_of = firsts basis.entities_kind basis.table_kind basis.queue_kind basis.shared_kind (between basis kind apart) in
    let aside_of = off basis kind apart in
    let r = registered-anew (place table_part basis.table basis.table_kind) (place (λ _. None) kind.wrapped kind.number) (IsNew is_default kind.part_at) table_seen (aside_of.of_two 0 0).1 (aside_of.of_two 0 0).0
    w w' kinds s.table none registers in
    record {
      stocked = record {
        entities = r.others (id_of basis.entities_kind 0) (firsts_of.one_two 0 0).0 (aside_of.of_one 0 0).1 ∙ s.entities;
        table = r.listed;
        unqueued = λ number. r.others (id_of basis.queue_kind number) (firsts_of.two_three 0 number).1 (aside_of.of_three 0 number).1 ∙ s.unqueued number;
        unshared = r.others (id_of basis.shared_kind 0) (firsts_of.two_four 0 0).1 (aside_of.of_four 0 0).1 ∙ s.unshared;
      };
      parts = record { storage = r.storage; stands = r.stands; each = r.new.parts };
      others = r.others;
    }

-- the first kind is registered in a world without entities
pub registered-first : {V S T : Type 0} {basis : Basis V} {kind : Kind V S T} {w w' : Slots V} → AreApart basis kind
    → (is_default : S → Type 0) (table_part : V → Option (List ℕ)) (table_seen : (kinds : List ℕ) → table_part (basis.table kinds) ≡ Some kinds)
    → w ≡ without_entities (place (λ _. None) basis.entities basis.entities_kind) (place (λ _. None) basis.table basis.table_kind)
    → Registers (place table_part basis.table basis.table_kind) (place (λ _. None) kind.wrapped kind.number) (IsNew is_default kind.part_at) w w'
    → IsStocked basis (none_born 16777216 2147483647) (kind.number ∷ []) w' × HasParts kind (λ _. None) w'
registered-first {V} {S} {T} {basis} {kind} {w} {w'} apart is_default table_part table_seen is registers =
    let kept = registered {basis = basis} {kind = kind} apart is_default table_part table_seen (begun (between basis kind apart) is) (begun-without basis kind apart is) registers in
    (kept.stocked, kept.parts)

-- ---- entities that are built

-- the next entity came to life
pub born : {V : Type 0} {basis : Basis V} {entity : Entity} {births : Births} {kinds : List ℕ} {w w' : Slots V} → are_distinct (numbers_of basis) ≡ true
    → (births_part : V → Option Births) → ((b : Births) → births_part (basis.entities b) ≡ Some b) → IsStocked basis births kinds w
    → Becomes (place births_part basis.entities basis.entities_kind) (IsBirth entity) w w' → (entity ≡ newborn births) × IsStocked basis (allocated births) kinds w'
born {V} {basis} {entity} {births} {kinds} {w} {w'} distinct births_part births_seen s becomes =
    let apart = firsts basis.entities_kind basis.table_kind basis.queue_kind basis.shared_kind distinct in
    let births_at = place births_part basis.entities basis.entities_kind in
    let birth = became births_at births_seen (IsBirth entity) w w' births s.entities becomes in
    let rests = became-apart births_at (IsBirth entity) w w' becomes in (
      birth.1.value,
      record {
        entities = birth.2 ∙ ap (λ b. Some (Some (basis.entities b))) birth.1.births;
        table = rests (id_of basis.table_kind 0) (apart.one_two 0 0).1 ∙ s.table;
        unqueued = λ number. rests (id_of basis.queue_kind number) (apart.one_three 0 number).1 ∙ s.unqueued number;
        unshared = rests (id_of basis.shared_kind 0) (apart.one_four 0 0).1 ∙ s.unshared;
      },
    )

-- that leaves the parts of each kind
pub born-rests : {V S T : Type 0} (basis : Basis V) {kind : Kind V S T} {entity : Entity} {parts : ℕ → Option T} {w w' : Slots V} → AreApart basis kind → (births_part : V → Option Births)
    → HasParts kind parts w → Becomes (place births_part basis.entities basis.entities_kind) (IsBirth entity) w w' → HasParts kind parts w'
born-rests basis {kind} {entity} {parts} {w} {w'} apart births_part has becomes =
    parts-rest kind parts w w' has (became-apart (place births_part basis.entities basis.entities_kind) (IsBirth entity) w w' becomes (id_of kind.number 0) ((off basis kind apart).of_one 0 0).0)

-- a part that was put at an entity stands at its index, and births and the table are as they were
pub put : {V S T : Type 0} {basis : Basis V} {kind : Kind V S T} {part : V → Option (Masked S)} {events : S → Log ComponentEvent} {emits : S → Bool} {entity : Entity} {value : T} {had : Option T}
    {held_births : Option Births} {births : Births} {kinds : List ℕ} {parts : ℕ → Option T} {w w' : Slots V} → AreApart basis kind → ((s : Masked S) → part (kind.wrapped s) ≡ Some s)
    → IsStocked basis births kinds w → HasParts kind parts w → PutsPart (place part kind.wrapped kind.number) kind.part_at events emits entity value had held_births w w'
    → IsStocked basis births kinds w' × HasParts kind (with_at parts entity.id (Some value)) w'
put {V} {S} {T} {basis} {kind} {part} {events} {emits} {entity} {value} {had} {held_births} {births} {kinds} {parts} {w} {w'} apart seen s has puts =
    let storage_at = place part kind.wrapped kind.number in
    let aside_of = off basis kind apart in
    let now = became storage_at seen (IsPut kind.part_at events emits entity.id value had) w w' has.storage has.stands puts.puts in
    let rests = became-apart storage_at (IsPut kind.part_at events emits entity.id value had) w w' puts.puts in (
      record {
        entities = rests (id_of basis.entities_kind 0) (aside_of.of_one 0 0).1 ∙ s.entities;
        table = rests (id_of basis.table_kind 0) (aside_of.of_two 0 0).1 ∙ s.table;
        unqueued = λ number. rests (id_of basis.queue_kind number) (aside_of.of_three 0 number).1 ∙ s.unqueued number;
        unshared = rests (id_of basis.shared_kind 0) (aside_of.of_four 0 0).1 ∙ s.unshared;
      },
      record {
        storage = now.0;
        stands = now.2;
        each = λ index.
            put-parts (kind.part_at has.storage.inner) (kind.part_at now.0.inner) entity.id value now.1.parts index ∙ ap (cond (eqb index entity.id) (Some value)) (has.each index);
      },
    )

-- and so are the parts of each other kind
pub put-rests : {V S T P U : Type 0} (kind : Kind V S T) {other : Kind V P U} {part : V → Option (Masked S)} {events : S → Log ComponentEvent} {emits : S → Bool} {entity : Entity} {value : T} {had : Option T}
    {held_births : Option Births} {parts : ℕ → Option U} {w w' : Slots V} → (eqb other.number kind.number) ≡ false → HasParts other parts w
    → PutsPart (place part kind.wrapped kind.number) kind.part_at events emits entity value had held_births w w' → HasParts other parts w'
put-rests kind {other = other} {part = part} {events = events} {emits = emits} {entity = entity} {value = value} {had = had} {parts = parts} {w = w} {w' = w'} apart has puts =
    parts-rest other parts w w' has
    (became-apart (place part kind.wrapped kind.number) (IsPut kind.part_at events emits entity.id value had) w w' puts.puts (id_of other.number 0) (differ other.number kind.number apart 0 0).0)

-- the next entity came to life, and a part was put at it
pub builds : {V S T : Type 0} {basis : Basis V} {kind : Kind V S T} {part : V → Option (Masked S)} {events : S → Log ComponentEvent} {emits : S → Bool} {entity built : Entity} {value : T} {had : Option T}
    {held_births : Option Births} {w middle put_in w' : Slots V} → AreApart basis kind → (births_part : V → Option Births) → ((b : Births) → births_part (basis.entities b) ≡ Some b) → ((s : Masked S) → part (kind.wrapped s) ≡ Some s)
    → built ≡ entity → w' ≡ put_in → Becomes (place births_part basis.entities basis.entities_kind) (IsBirth entity) w middle
    → PutsPart (place part kind.wrapped kind.number) kind.part_at events emits entity value had held_births middle put_in → Builds basis kind value built w w'
builds {V} {S} {T} {basis} {kind} {part} {events} {emits} {entity} {built} {value} {had} {held_births} {w} {middle} {put_in} {w'} apart births_part births_seen seen same last becomes puts births kinds parts s has =
    let birth = born {basis = basis} {w = w} (between basis kind apart) births_part births_seen s becomes in
    let stands = put {basis = basis} {kind = kind} apart seen birth.1 (born-rests basis apart births_part has becomes) puts in (
      same ∙ birth.0,
      subst (IsStocked basis (allocated births) kinds) (sym last) stands.0,
      subst (HasParts kind (with_at parts (newborn births).id (Some value))) (sym last) (subst (λ (e : Entity). HasParts kind (with_at parts e.id (Some value)) put_in) birth.0 stands.1),
    )

-- ---- entities that die

-- a slot that isn't there stays so
deleted-none : {V : Type 0} (births_at : Place V Births) (table_id : ResourceId) (value_drops : V → List ℕ → V → Type 0) (births : Births) (kinds : List ℕ) (entities : List Entity) (w w' : Slots V)
    → Deletes births_at table_id value_drops births kinds entities w w' → (id : ResourceId) → map.get w id ≡ None → same_id id births_at.id ≡ false → same_id id table_id ≡ false → map.get w' id ≡ None
deleted-none births_at table_id value_drops births kinds entities w w' deletes id none not_births not_table = by (is_of_kinds kinds id) refl
  where
    by : (b : Bool) → is_of_kinds kinds id ≡ b → map.get w' id ≡ None
    by false other = deletes.others id other not_births ∙ none
    by true listed =
        let of = listed-of-kinds kinds id listed in
        subst (λ q. map.get w' q ≡ None) (sym of.0)
        (subst (λ slot. SlotDrops value_drops (ids_of entities) slot (map.get w' (id_of id.kind 0))) (subst (λ q. map.get w q ≡ None) of.0 none)
        (deletes.parts id.kind of.1 (subst (λ q. same_id q births_at.id ≡ false) of.0 not_births) (subst (λ q. same_id q table_id ≡ false) of.0 not_table)))

-- values drop the parts of a kind's storage where one is in them
abbrev pub DropsKind : {V S T : Type 0} → Kind V S T → (V → List ℕ → V → Type 0) → Type 0
DropsKind {V} {S} kind value_drops =
    (s : Masked S) (indices : List ℕ) (after : V) → value_drops (kind.wrapped s) indices after
    → DropsWithin kind.wrapped (λ was indices now. SameParts (without_all (kind.part_at was.inner) indices) (kind.part_at now.inner)) s indices after

module _ {V S T : Type 0} (basis : Basis V) (kind : Kind V S T) (apart : AreApart basis kind) (value_drops : V → List ℕ → V → Type 0) (births_part : V → Option Births) (table_part : V → Option (List ℕ))
    (births_seen : (b : Births) → births_part (basis.entities b) ≡ Some b) (table_seen : (k : List ℕ) → table_part (basis.table k) ≡ Some k) (within : DropsKind kind value_drops) where
  died : (births' births : Births) (kinds' kinds : List ℕ) (entities : List Entity) (parts : ℕ → Option T) (w w' : Slots V)
      → Deletes (place births_part basis.entities basis.entities_kind) (id_of basis.table_kind 0) value_drops births' kinds' entities w w' → kinds' ≡ kinds → IsStocked basis births kinds w
      → list_any (λ k. eqb k kind.number) kinds ≡ true → HasParts kind parts w → IsStocked basis births' kinds w' × HasParts kind (λ index. cond (list_any (λ other. eqb index other) (ids_of entities)) None (parts index)) w'
  died births' births kinds' kinds entities parts w w' deletes same s listed has =
      let births_at = place births_part basis.entities basis.entities_kind in
      let firsts_of = firsts basis.entities_kind basis.table_kind basis.queue_kind basis.shared_kind (between basis kind apart) in
      let aside_of = off basis kind apart in
      let left = deleted-parts births_at (id_of basis.table_kind 0) value_drops births' kinds' entities w w' (λ _. None) kind.wrapped kind.number
      (λ was indices now. SameParts (without_all (kind.part_at was.inner) indices) (kind.part_at now.inner)) within deletes
      (ap (list_any (λ k. eqb k kind.number)) same ∙ listed) (aside_of.of_one 0 0).0 (aside_of.of_two 0 0).0 has.storage has.stands in
      let none = deleted-none births_at (id_of basis.table_kind 0) value_drops births' kinds' entities w w' deletes in (
        record {
          entities = deletes.births;
          table = deletes.table ∙ s.table;
          unqueued = λ number. none (id_of basis.queue_kind number) (s.unqueued number) (firsts_of.one_three 0 number).1 (firsts_of.two_three 0 number).1;
          unshared = none (id_of basis.shared_kind 0) s.unshared (firsts_of.one_four 0 0).1 (firsts_of.two_four 0 0).1;
        },
        record {
          storage = left.0;
          stands = left.2;
          each = λ index.
              dropped-each (kind.part_at has.storage.inner) (kind.part_at left.0.inner) (ids_of entities) left.1 index
              ∙ ap (cond (list_any (λ other. eqb index other) (ids_of entities)) None) (has.each index);
        },
      )

  killed-one : (entity : Entity) (w w' : Slots V) → DeletesIn (place births_part basis.entities basis.entities_kind) (place table_part basis.table basis.table_kind) value_drops (entity ∷ []) w w' → Kills basis kind entity w w'
  killed-one entity w w' d births kinds parts s listed has =
      let same = stands-is (place births_part basis.entities basis.entities_kind) births_seen w births d.births s.entities d.alive_in in
      let table = stands-is (place table_part basis.table basis.table_kind) table_seen w kinds d.kinds s.table d.registered in
      let left = died (all_buried d.births (entity.id ∷ [])) births d.kinds kinds (entity ∷ []) parts w w' d.deletes table s listed has in (
        subst (λ b. IsStocked basis (all_buried b (entity.id ∷ [])) kinds w') same left.0,
        parts-told kind _ (with_at parts entity.id None) w' left.1 (λ index. ap (λ b. cond b None (parts index)) (only (eqb index entity.id))),
      )
    where
      only : (b : Bool) → (b || false) ≡ b
      only true = refl
      only false = refl

  merged-all : (deleted : List Entity) (w w' : Slots V) → MergesIn (place births_part basis.entities basis.entities_kind) (place table_part basis.table basis.table_kind) value_drops deleted w w' → Settles basis kind w w'
  merged-all deleted w w' m births kinds parts s listed has =
      let same = stands-is (place births_part basis.entities basis.entities_kind) births_seen w births m.births s.entities m.alive_in in
      let table = stands-is (place table_part basis.table basis.table_kind) table_seen w kinds m.kinds s.table m.registered in
      let left = died (merged m.births) births m.kinds kinds deleted parts w w' m.deletes table s listed has in (
        subst (λ b. IsStocked basis (merged b) kinds w') same left.0,
        parts-told kind _ (without_members parts (set.contains births.deletions)) w' left.1
            (λ index. ap (λ b. cond b None (parts index)) (m.named index ∙ ap (λ (b : Births). set.contains b.deletions index) same)),
      )

-- an entity died at once
pub kills : {V S T : Type 0} {basis : Basis V} {kind : Kind V S T} {value_drops : V → List ℕ → V → Type 0} {births_part : V → Option Births} {table_part : V → Option (List ℕ)} {entity : Entity} {w w' : Slots V}
    → AreApart basis kind → ((b : Births) → births_part (basis.entities b) ≡ Some b) → ((k : List ℕ) → table_part (basis.table k) ≡ Some k) → DropsKind kind value_drops
    → DeletesIn (place births_part basis.entities basis.entities_kind) (place table_part basis.table basis.table_kind) value_drops (entity ∷ []) w w' → Kills basis kind entity w w'
kills {V} {S} {T} {basis} {kind} {value_drops} {births_part} {table_part} {entity} {w} {w'} apart births_seen table_seen within =
    killed-one basis kind apart value_drops births_part table_part births_seen table_seen within entity w w'

-- births were merged
pub merges : {V S T : Type 0} {basis : Basis V} {kind : Kind V S T} {value_drops : V → List ℕ → V → Type 0} {births_part : V → Option Births} {table_part : V → Option (List ℕ)} {deleted : List Entity} {w w' : Slots V}
    → AreApart basis kind → ((b : Births) → births_part (basis.entities b) ≡ Some b) → ((k : List ℕ) → table_part (basis.table k) ≡ Some k) → DropsKind kind value_drops
    → MergesIn (place births_part basis.entities basis.entities_kind) (place table_part basis.table basis.table_kind) value_drops deleted w w' → Settles basis kind w w'
merges {V} {S} {T} {basis} {kind} {value_drops} {births_part} {table_part} {deleted} {w} {w'} apart births_seen table_seen within =
    merged-all basis kind apart value_drops births_part table_part births_seen table_seen within deleted w w'

-- a world without queues was maintained
pub settles : {V S T J Q : Type 0} {basis : Basis V} {kind : Kind V S T} {value_drops : V → List ℕ → V → Type 0} {births_part : V → Option Births} {table_part : V → Option (List ℕ)} {w w' : Slots V} {r : Result Maintained Error}
    {counts : Maintained} → AreApart basis kind → ((b : Births) → births_part (basis.entities b) ≡ Some b) → ((k : List ℕ) → table_part (basis.table k) ≡ Some k) → DropsKind kind value_drops
    → (runs : J → Option Error → Slots V → Slots V → Type 0) (queue_part : V → Option (List J)) (queue : List J → V) (shared_part : V → Option Q) (shared : Q → V) (limit : ℕ)
    → Maintains (place births_part basis.entities basis.entities_kind) (place table_part basis.table basis.table_kind) value_drops runs (place queue_part queue basis.queue_kind) (place shared_part shared basis.shared_kind) limit w r w'
    → r ≡ Ok counts → Settles basis kind w w'
settles {V} {S} {T} {J} {Q} {basis} {kind} {value_drops} {births_part} {table_part} {w} {w'} {r} {counts} apart births_seen table_seen within runs queue_part queue shared_part shared limit
    (inl (deleted, settled, m, ran)) is births kinds parts s listed has =
    let left = merged-all basis kind apart value_drops births_part table_part births_seen table_seen within deleted w settled m births kinds parts s listed has in
    let queue_at = place queue_part queue basis.queue_kind in
    let shared_at = place shared_part shared basis.shared_kind in
    let last = none-to-run runs queue_at shared_at limit settled w' none_ran counts
    (λ number. ap (λ slot. unwrap_or (option_and_then queue_part (option_flatten slot)) []) (left.0.unqueued number))
    (ap (λ slot. option_and_then shared_part (option_flatten slot)) left.0.unshared)
    (subst (λ x. JobsRun runs queue_at shared_at limit none_ran settled x w') is ran) in (
      subst (IsStocked basis (merged births) kinds) (sym last) left.0,
      subst (HasParts kind (without_members parts (set.contains births.deletions))) (sym last) left.1,
    )
settles apart births_seen table_seen within runs queue_part queue shared_part shared limit (inr (error, told, refused, rest)) is births kinds parts s listed has = let e = sym told ∙ is in cc

-- an entity that died, otherwise told
pub killed : {V S T : Type 0} {basis : Basis V} {kind : Kind V S T} {entity other : Entity} {w w' : Slots V} → entity ≡ other → Kills basis kind entity w w' → Kills basis kind other w w'
killed {basis = basis} {kind = kind} {w = w} {w' = w'} same = subst (λ e. Kills basis kind e w w') same

-- where no deletion was accepted no part is gone
pub none-gone : {V S T : Type 0} {kind : Kind V S T} {parts : ℕ → Option T} {w : Slots V} (members : ℕ → Bool) → ((index : ℕ) → members index ≡ false) → HasParts kind (without_members parts members) w → HasParts kind parts w
none-gone {kind = kind} {parts = parts} {w = w} members none has = parts-told kind (without_members parts members) parts w has (λ index. ap (λ b. cond b None (parts index)) (none index))

-- no deletion is accepted after one was taken out of none
pub none-deleted : (id index : ℕ) → set.contains {R = nat_cmp} (set.remove set.empty id) index ≡ false
none-deleted id index =
    set.contains-remove nat_cmp_total set.empty id index
    ∙ (ap (λ b. not (eq_by_cmp nat_cmp index id) && b) (set.contains-empty nat_cmp index) ∙ none (not (eq_by_cmp nat_cmp index id)))
  where
    none : (b : Bool) → (b && false) ≡ false
    none true = refl
    none false = refl

-- the storage that is seen in a world has the kind's parts
pub seen-parts : {V S T : Type 0} {kind : Kind V S T} {parts : ℕ → Option T} {w : Slots V} {storage : Masked S} → (part : V → Option (Masked S)) → ((s : Masked S) → part (kind.wrapped s) ≡ Some s)
    → HasParts kind parts w → Some storage ≡ resource_at part w (id_of kind.number 0) → kind.part_at storage.inner ≡ parts
seen-parts {kind = kind} {w = w} {storage = storage} part seen has there =
    ap (λ (s : Masked _). kind.part_at s.inner) (stands-is (place part kind.wrapped kind.number) seen w has.storage storage has.stands (sym there)) ∙ fun_ext has.each
