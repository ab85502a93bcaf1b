-- Facts on slots whose values drop parts, and on what a world's slots are after such drops.
use Rattle.std.proofs.Common.{◌≡◌, ℕ, zero, suc, ◌+◌, ◌<◌, ◌≤◌, ◌⊎◌, inl, inr, Bool, true, false, cond, ◌&&◌, ◌||◌, eqb, List, [], ◌∷◌, ◌++◌, length, take, get_or, Option, Some, None, MutBor, refl, sym, ap, subst, ◌∙◌, arith}
use Rattle.std.proofs.lemmas.Bool.{false≢true, and_parts, eq-eqb, ne_eqb, eqb-true}
use Rattle.std.proofs.lemmas.Bool.Decides.{eqb_tells}
use Rattle.std.proofs.lemmas.List.Folds.{list_any_more, list_any_at}
use Rattle.std.specs.Option.{option_flatten, option_copied_mut}
use Rattle.std.specs.List.{list_any}
use Rattle.std.specs.FinMap as map
use Rattle.std.specs.FinMap.{get, insert, get-insert}
use Rattle.std.proofs.lemmas.Option.{same_Some}
use Rattle.shred_world.specs.declared.resource_id.ResourceId.{ResourceId}
use Rattle.shred_world.specs.ResourceIds.{id_cmp, id_of, same_id}
use Rattle.shred_world.specs.Worlds.{Slots, value_at, AreDistinct, is_of_kinds}
use Rattle.shred_world.proofs.IdLemmas.{ids_total, same_id-is, same_id-fields}
use Rattle.shred_world.proofs.WorldLemmas.{get-insert_here}
use Rattle.specs_world.specs.Dropping.{SlotDrops, HasRoomAt, HaveRoom, Rests, DropsIn}
use Rattle.shred_world.proofs.CallerLemmas.{flattened}

-- what is put at an id leaves each other
pub get-insert_other : {X : Type 0} (w : map.FinMap id_cmp X) (id : ResourceId) (x : X) (other : ResourceId) → same_id other id ≡ false → get (insert w id x) other ≡ get w other
get-insert_other w id x other apart = get-insert ids_total w id x other ∙ ap (λ b. cond b (Some x) (get w other)) apart

module _ {V : Type 0} (drops : V → List ℕ → V → Type 0) where
  -- a value dropped the parts
  pub slot-dropped : (indices : List ℕ) (w : Slots V) (id : ResourceId) (was now : V) → value_at w id ≡ Some was → drops was indices now
      → SlotDrops drops indices (get w id) (get (insert w id (Some now)) id)
  slot-dropped indices w id was now stands dropped =
      subst (λ slot. SlotDrops drops indices slot (get (insert w id (Some now)) id)) (sym (flattened (get w id) was stands)) (now, get-insert_here w id (Some now), dropped)

  module _ (none : (v : V) → drops v [] v) where
    pub slot-rests : (slot : Option (Option V)) → SlotDrops drops [] slot slot
    slot-rests None = refl
    slot-rests (Some None) = refl
    slot-rests (Some (Some v)) = (v, refl, none v)

  module _ (append : (first second third : V) (indices others : List ℕ) → drops first indices second → drops second others third → drops first (indices ++ others) third) where
    -- drops after others, of one slot
    pub slot-append : (first second third : Option (Option V)) (indices others : List ℕ) → SlotDrops drops indices first second → SlotDrops drops others second third → SlotDrops drops (indices ++ others) first third
    slot-append None second third indices others one other = subst (λ slot. SlotDrops drops others slot third) one other
    slot-append (Some None) second third indices others one other = subst (λ slot. SlotDrops drops others slot third) one other
    slot-append (Some (Some v)) second third indices others one other =
        let after = subst (λ slot. SlotDrops drops others slot third) one.1 other in
        (after.0, after.1, append v one.0 after.0 indices others one.2 after.2)

-- whether two numbers are one doesn't hang on their order
eqb-sym : (a b : ℕ) → eqb a b ≡ eqb b a
eqb-sym a b = elim (eqb_tells a b) [
  | inl same ↦ same.0 ∙ sym (eq-eqb b a (sym same.1))
  | inr apart ↦ apart.0 ∙ sym (ne_eqb b a (λ e. apart.1 (sym e)))
]

-- ids of two kinds are two
apart-kinds : (kind x : ℕ) → (b : Bool) → eqb x kind ≡ b → b ≡ false → same_id (id_of kind 0) (id_of x 0) ≡ false
apart-kinds kind x b e f = same_id-fields (id_of kind 0) (id_of x 0) ∙ ap (λ s. s && true) (eqb-sym kind x ∙ e ∙ f)

-- the id of a kind is of these kinds where the kind is listed
of-kinds : (kinds : List ℕ) (kind : ℕ) → is_of_kinds kinds (id_of kind 0) ≡ list_any (λ k. eqb k kind) kinds
of-kinds [] kind = refl
of-kinds (k ∷ kinds) kind = ap (λ b. b || list_any (λ k. eqb kind k) kinds) (eqb-sym kind k) ∙ ap (λ b. eqb k kind || b) (of-kinds kinds kind)

-- an id of these kinds is that of a kind that is listed
pub listed-of-kinds : (kinds : List ℕ) (id : ResourceId) → is_of_kinds kinds id ≡ true → (id ≡ id_of id.kind 0) × (list_any (λ k. eqb k id.kind) kinds ≡ true)
listed-of-kinds kinds id listed =
    let parts = and_parts (eqb id.dynamic 0) (list_any (λ k. eqb id.kind k) kinds) listed in
    let zero_is : id.dynamic ≡ 0 = eqb-true id.dynamic 0 parts.0 in
    (ap (id_of id.kind) zero_is, flipped kinds id.kind ∙ parts.1)
  where
    flipped : (kinds : List ℕ) (kind : ℕ) → list_any (λ k. eqb k kind) kinds ≡ list_any (λ k. eqb kind k) kinds
    flipped [] kind = refl
    flipped (k ∷ rest) kind = ap (λ b. b || list_any (λ k. eqb k kind) rest) (eqb-sym k kind) ∙ ap (λ b. eqb kind k || b) (flipped rest kind)

-- the kind at a place isn't among those before it
pub distinct-before : (kinds : List ℕ) → AreDistinct kinds → (place : ℕ) → place < length kinds → (n : ℕ) → n ≤ place → list_any (λ k. eqb k (get_or kinds place 0)) (take n kinds) ≡ false
distinct-before kinds apart place inside zero le = refl
distinct-before kinds apart place inside (suc n) le =
    let before : n < place = omega (arith, le) in
    let step = list_any_more (λ k. eqb k (get_or kinds place 0)) kinds n 0 (omega (arith, before, inside)) in
    let next : n + 1 ≡ suc n = omega arith in
    subst (λ m. list_any (λ k. eqb k (get_or kinds place 0)) (take m kinds) ≡ false) next
    (step ∙ ap (λ b. b || eqb (get_or kinds n 0) (get_or kinds place 0)) (distinct-before kinds apart place inside n (omega (arith, before)))
    ∙ ne_eqb (get_or kinds n 0) (get_or kinds place 0) (apart n place before inside))

-- of the kinds up to a place and the one there, a listed kind is one of those or this
pub listed-more : (kinds : List ℕ) (place : ℕ) → place < length kinds → (kind : ℕ) → list_any (λ k. eqb k kind) (take (place + 1) kinds) ≡ true
    → (list_any (λ k. eqb k kind) (take place kinds) ≡ true) ⊎ (get_or kinds place 0 ≡ kind)
listed-more kinds place inside kind listed = at (list_any (λ k. eqb k kind) (take place kinds)) refl (sym (list_any_more (λ k. eqb k kind) kinds place 0 inside) ∙ listed)
  where
    at : (b : Bool) → list_any (λ k. eqb k kind) (take place kinds) ≡ b → (b || eqb (get_or kinds place 0) kind) ≡ true → (list_any (λ k. eqb k kind) (take place kinds) ≡ true) ⊎ (get_or kinds place 0 ≡ kind)
    at true e t = inl e
    at false e t = inr (eqb-true (get_or kinds place 0) kind t)

-- an id that is of none of them is of none before, and isn't this kind's
pub unlisted-more : (kinds : List ℕ) (place : ℕ) → place < length kinds → (id : ResourceId) → is_of_kinds (take (place + 1) kinds) id ≡ false
    → (is_of_kinds (take place kinds) id ≡ false) × (same_id id (id_of (get_or kinds place 0) 0) ≡ false)
unlisted-more kinds place inside id unlisted =
    at (eqb id.dynamic 0) (list_any (λ k. eqb id.kind k) (take place kinds)) (eqb id.kind (get_or kinds place 0))
    (ap (λ b. eqb id.dynamic 0 && b) (sym (list_any_more (λ k. eqb id.kind k) kinds place 0 inside)) ∙ unlisted)
    (same_id-fields id (id_of (get_or kinds place 0) 0))
  where
    at : (dynamic listed here : Bool) → (dynamic && (listed || here)) ≡ false → {same : Bool} → same ≡ (here && dynamic) → ((dynamic && listed) ≡ false) × (same ≡ false)
    at true true here e same = cc
    at true false true e same = cc
    at true false false e same = (refl, same)
    at false listed true e same = (refl, same)
    at false listed false e same = (refl, same)

module _ {V : Type 0} (drops : V → List ℕ → V → Type 0) (start w w' : Slots V) (kinds : List ℕ) (place : ℕ) (inside : place < length kinds)
    (others : (other : ResourceId) → same_id other (id_of (get_or kinds place 0) 0) ≡ false → get w' other ≡ get w other) where
  -- no part changed before, and none in this step
  pub rests-step : ((first second third : V) (indices others : List ℕ) → drops first indices second → drops second others third → drops first (indices ++ others) third)
      → Rests drops start w → SlotDrops drops [] (get w (id_of (get_or kinds place 0) 0)) (get w' (id_of (get_or kinds place 0) 0)) → Rests drops start w'
  rests-step append rests here id = at (same_id id (id_of (get_or kinds place 0) 0)) refl
    where
      at : (b : Bool) → same_id id (id_of (get_or kinds place 0) 0) ≡ b → SlotDrops drops [] (get start id) (get w' id)
      at true same =
          slot-append drops append (get start id) (get w id) (get w' id) [] [] (rests id)
          (subst (λ q. SlotDrops drops [] (get w q) (get w' q)) (sym (same_id-is id (id_of (get_or kinds place 0) 0) same)) here)
      at false apart = subst (λ slot. SlotDrops drops [] (get start id) slot) (sym (others id apart)) (rests id)

  -- room for the storages before, and for the one of this step
  pub room-step : (has_room : V → ℕ → Type 0) (count : ℕ) → HaveRoom has_room w (take place kinds) count → HasRoomAt has_room w' (id_of (get_or kinds place 0) 0) count
      → HaveRoom has_room w' (take (place + 1) kinds) count
  room-step has_room count rooms here kind listed value stands = elim (listed-more kinds place inside kind listed) [
    | inl before ↦ at before (eqb (get_or kinds place 0) kind) refl
    | inr this ↦ here value (ap (λ k. value_at w' (id_of k 0)) this ∙ stands)
  ]
    where
      at : list_any (λ k. eqb k kind) (take place kinds) ≡ true → (b : Bool) → eqb (get_or kinds place 0) kind ≡ b → has_room value count
      at before true same = here value (ap (λ k. value_at w' (id_of k 0)) (eqb-true (get_or kinds place 0) kind same) ∙ stands)
      at before false apart =
          rooms kind before value (ap option_flatten (sym (others (id_of kind 0) (apart-kinds kind (get_or kinds place 0) false apart refl))) ∙ stands)

  -- no other slot changed before, and none in this step
  pub others-step : ((id : ResourceId) → is_of_kinds (take place kinds) id ≡ false → get w id ≡ get start id)
      → (id : ResourceId) → is_of_kinds (take (place + 1) kinds) id ≡ false → get w' id ≡ get start id
  others-step before id unlisted = let two = unlisted-more kinds place inside id unlisted in others id two.1 ∙ before id two.0

  -- the storages before dropped the parts, and the one of this step did
  pub drops-step : AreDistinct kinds → (indices : List ℕ) → DropsIn drops (take place kinds) indices start w
      → SlotDrops drops indices (get w (id_of (get_or kinds place 0) 0)) (get w' (id_of (get_or kinds place 0) 0)) → DropsIn drops (take (place + 1) kinds) indices start w'
  drops-step distinct indices dropped here = record {
    parts = λ kind listed. at kind listed (eqb (get_or kinds place 0) kind) refl;
    others = λ id unlisted. let two = unlisted-more kinds place inside id unlisted in others id two.1 ∙ dropped.others id two.0;
  }
    where
      unlisted : list_any (λ k. eqb k (get_or kinds place 0)) (take place kinds) ≡ false
      unlisted = distinct-before kinds distinct place inside place (omega arith)

      untouched : get w (id_of (get_or kinds place 0) 0) ≡ get start (id_of (get_or kinds place 0) 0)
      untouched = dropped.others (id_of (get_or kinds place 0) 0) (of-kinds (take place kinds) (get_or kinds place 0) ∙ unlisted)

      at : (kind : ℕ) → list_any (λ k. eqb k kind) (take (place + 1) kinds) ≡ true → (b : Bool) → eqb (get_or kinds place 0) kind ≡ b
          → SlotDrops drops indices (get start (id_of kind 0)) (get w' (id_of kind 0))
      at kind listed true same =
          subst (λ k. SlotDrops drops indices (get start (id_of k 0)) (get w' (id_of k 0))) (eqb-true (get_or kinds place 0) kind same)
          (subst (λ slot. SlotDrops drops indices slot (get w' (id_of (get_or kinds place 0) 0))) untouched here)
      at kind listed false apart = elim (listed-more kinds place inside kind listed) [
        | inl before ↦
            subst (λ slot. SlotDrops drops indices (get start (id_of kind 0)) slot) (sym (others (id_of kind 0) (apart-kinds kind (get_or kinds place 0) false apart refl)))
            (dropped.parts kind before)
        | inr this ↦ absurd (false≢true (sym apart ∙ eq-eqb (get_or kinds place 0) kind this))
      ]

-- a value that was lent for writing stood there, and what was left of it stands there
pub lent-there : {V : Type 0} (w : Slots V) (id : ResourceId) (lent : Option (MutBor V)) (value : MutBor V) → lent ≡ Some value → option_copied_mut lent ≡ value_at w id → value_at w id ≡ Some value.now
lent-there w id lent value is stood = sym stood ∙ ap option_copied_mut is

module _ {V : Type 0} (w w' : Slots V) (id : ResourceId) (was left : V) (stood : value_at w id ≡ Some was) (leaves : w' ≡ insert w id (Some left)) where
  pub lent-dropped : (drops : V → List ℕ → V → Type 0) (indices : List ℕ) → drops was indices left → SlotDrops drops indices (get w id) (get w' id)
  lent-dropped drops indices dropped =
      subst (λ m. SlotDrops drops indices (get w id) (get m id)) (sym leaves) (slot-dropped drops indices w id was left stood dropped)

  pub lent-others : (other : ResourceId) → same_id other id ≡ false → get w' other ≡ get w other
  lent-others other apart = ap (λ m. get m other) leaves ∙ get-insert_other w id (Some left) other apart

  pub lent-room : (has_room : V → ℕ → Type 0) (count : ℕ) → has_room left count → HasRoomAt has_room w' id count
  lent-room has_room count room value stands =
      subst (λ v. has_room v count) (same_Some left value (sym (ap option_flatten (ap (λ m. get m id) leaves ∙ get-insert_here w id (Some left))) ∙ stands)) room

-- the storage that comes next hasn't dropped yet, and has the room that it had
pub room-left : {V : Type 0} (drops : V → List ℕ → V → Type 0) (start w : Slots V) (kinds : List ℕ) (place : ℕ) → place < length kinds → AreDistinct kinds → (indices : List ℕ)
    → DropsIn drops (take place kinds) indices start w → (has_room : V → ℕ → Type 0) (count : ℕ) → HaveRoom has_room start kinds count → HasRoomAt has_room w (id_of (get_or kinds place 0) 0) count
room-left drops start w kinds place inside distinct indices dropped has_room count rooms value stands =
    rooms (get_or kinds place 0) (list_any_at (λ k. eqb k (get_or kinds place 0)) kinds place 0 inside (eq-eqb _ _ refl)) value
    (ap option_flatten (sym (dropped.others (id_of (get_or kinds place 0) 0) (of-kinds (take place kinds) (get_or kinds place 0) ∙ distinct-before kinds distinct place inside place (omega arith)))) ∙ stands)
