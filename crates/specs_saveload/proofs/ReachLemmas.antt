-- What is saved with all that it names: who is reached, and that such a list names its own markers alone.
use Rattle.std.proofs.Common.{◌≡◌, ◌≢◌, ◌⊎◌, ◌+◌, ◌<◌, ◌++◌, ◌||◌, ℕ, zero, suc, nat_eq, Bool, true, false, cond, IsSome, is_some, slice_get, List, [], ◌∷◌, length, map, Option, Some, None, option_and_then, option_map, inl, inr, refl, sym, ap, subst, ◌∙◌, arith}
use Rattle.std.specs.List.{AllByRecursion, IsDistinct, flat_map}
use Rattle.std.proofs.lemmas.Bool.{false≢true, or_cases}
use Rattle.std.proofs.lemmas.Bool.Decides.{eqb_tells}
use Rattle.std.proofs.lemmas.List.Concat.{flat_map-cons}
use Rattle.std.proofs.lemmas.Option.{same_Some}
use Rattle.specs_entity.specs.Births.{Births, IsAlive, living}
use Rattle.specs_entity.specs.Life.{Life, LifeAt}
use Rattle.specs_join.specs.Joins.{join_list}
use Rattle.specs_layouts.specs.MaskedLends.{StorageMembers}
use Rattle.specs_saveload.specs.declared.entity_data.EntityData.{EntityData}
use Rattle.specs_saveload.specs.Asked.{AsksEach, AsksFor, Marking, SavesReached}
use Rattle.specs_saveload.specs.Bearing.{IsAmong}
use Rattle.specs_saveload.specs.Images.{MarkersDiffer, NamesOwn}
use Rattle.specs_saveload.specs.Loading.{AreApart}
use Rattle.specs_saveload.specs.NamingLemmas.{among-left, among-right, among-either}
use Rattle.specs_saveload.specs.Orders.{IsSafe}
use Rattle.specs_saveload.specs.Reached.{IsReached, Order, begins, goes_on, marked_first, named_entry, with_all_asked, with_asked}
use Rattle.specs_saveload.specs.Saved.{marked_at, name_of}
use Rattle.specs_saveload.proofs.ImageLemmas.{AreOf, are-of, from-of, into-of, is-listed, named-is}
use Rattle.specs_saveload.proofs.OrderLemmas.{all-behind, safe-all, safe-first}

among-map : {X Y : Type 0} (f : X → Y) (x : X) (xs : List X) → IsAmong x xs → IsAmong (f x) (map f xs)
among-map f x (first ∷ rest) (inl is) = inl (ap f is)
among-map f x (first ∷ rest) (inr later) = inr (among-map f x rest later)
among-map f x [] none = absurd none

at-place : {X : Type 0} (xs : List X) (k : ℕ) (x : X) → slice_get xs k ≡ Some x → IsAmong x xs
at-place [] k x is = absurd (false≢true (ap is_some is))
at-place (first ∷ rest) zero x is = inl (same_Some first x is)
at-place (first ∷ rest) (suc k) x is = inr (at-place rest k x is)

among-flat : (names : LifeAt → List LifeAt) (list : List LifeAt) (entity named : LifeAt) → IsAmong entity list → IsAmong named (names entity) → IsAmong named (flat_map names list)
among-flat names [] entity named none among = absurd none
among-flat names (first ∷ rest) entity named (inl is) among = subst (IsAmong named) (sym (flat_map-cons names first rest)) (among-left named (names first) (flat_map names rest) (subst (λ e. IsAmong named (names e)) (sym is) among))
among-flat names (first ∷ rest) entity named (inr later) among = subst (IsAmong named) (sym (flat_map-cons names first rest)) (among-right named (names first) (flat_map names rest) (among-flat names rest entity named later among))

-- ---- each living entity whose index is marked is in an order

module _ (births : Births) where
  same-living : (one other : LifeAt) → IsAlive births one → IsAlive births other → one.id ≡ other.id → one ≡ other
  same-living one other alive lives same =
      let life : one.generation ≡ other.generation = same_Some one.generation other.generation (sym alive ∙ (ap (living births) same ∙ lives)) in
      λ i. record { id = same i; generation = life i }

  abbrev HasAll : Order → Type 0
  HasAll order = (entity : LifeAt) → IsAlive births entity → order.marked entity.id ≡ true → IsAmong entity order.entities

  one-asked : (order : Order) (entity : LifeAt) → IsAlive births entity → HasAll order → HasAll (with_asked order entity)
  one-asked order entity alive all = by (order.marked entity.id)
    where
      by : (b : Bool) → HasAll (cond b order (record { marked = λ index. order.marked index || nat_eq index entity.id; entities = order.entities ++ entity ∷ [] }))
      by true other lives marked = all other lives marked
      by false other lives marked = elim (or_cases (order.marked other.id) (nat_eq other.id entity.id) marked) [
        | inl was ↦ among-left other order.entities (entity ∷ []) (all other lives was)
        | inr new ↦ elim (eqb_tells other.id entity.id) [
          | inl same ↦ among-right other order.entities (entity ∷ []) (inl (same-living entity other alive lives (sym same.1)))
          | inr differ ↦ absurd (false≢true (sym differ.0 ∙ new))
        ]
      ]

  each-asked : (list : List LifeAt) (order : Order) → ((entity : LifeAt) → IsAmong entity list → IsAlive births entity) → HasAll order → HasAll (with_all_asked order list)
  each-asked [] order alive all = all
  each-asked (entity ∷ rest) order alive all = each-asked rest (with_asked order entity) (λ other among. alive other (inr among)) (one-asked order entity (alive entity (inl refl)) all)

  first-all : {M : Type 0} (markers : ℕ → Option M) → ((index : ℕ) → IsSome (living births index) → index < 16777216) → HasAll (marked_first births markers)
  first-all {M} markers low entity alive marked = by (markers entity.id) refl marked
    where
      by : (o : Option M) → markers entity.id ≡ o → is_some o ≡ true → IsAmong entity (map (λ item. item.0) (join_list (marked_at births markers)))
      by None is some = absurd (false≢true some)
      by (Some marker) is some = among-map (λ (item : LifeAt × M). item.0) (entity, marker) (join_list (marked_at births markers)) (is-listed births markers low entity marker alive is)

  module _ (names : LifeAt → List LifeAt) (first : Order) where
    -- those who are in an order that is reached are alive, each once, and all that are marked are in it
    reached-all : (order : Order) (place : ℕ) → IsReached names first order place → ((entity named : LifeAt) → IsAmong entity order.entities → IsAmong named (names entity) → IsAlive births named) → HasAll first × IsSafe births first → HasAll order × IsSafe births order
    reached-all order place begins alive start = start
    reached-all order place (goes_on before k entity reached here) alive start =
        let behind = all-behind (names entity) before in
        let still : (other : LifeAt) → IsAmong other before.entities → IsAmong other (with_all_asked before (names entity)).entities = λ other among. subst (IsAmong other) (sym behind.1) (among-left other before.entities behind.0 among) in
        let was = reached-all before k reached (λ other named among. alive other named (still other among)) start in
        let own : (named : LifeAt) → IsAmong named (names entity) → IsAlive births named = λ named. alive entity named (still entity (at-place before.entities k entity here)) in
        (each-asked (names entity) before own was.0, safe-all births (names entity) before own was.1)

-- ---- whoever is asked for is alive

module _ {A S M I : Type 0} (noted : A → I → Option LifeAt) (allocates : A → LifeAt → Option I → M → A → Type 0) (id_of : M → I) (s : StorageMembers S M) (births : Births) where
  asks-alive : (list : List LifeAt) (before after : Marking A S) → AsksEach noted allocates id_of s births list before after → (entity : LifeAt) → IsAmong entity list → IsAlive births entity
  asks-alive [] before after asks entity none = absurd none
  asks-alive (first ∷ rest) before after (between, inl keeps, later) entity (inl is) = subst (IsAlive births) is keeps.alive
  asks-alive (first ∷ rest) before after (between, inr makes, later) entity (inl is) = subst (IsAlive births) is makes.alive
  asks-alive (first ∷ rest) before after (between, asks, later) entity (inr among) = asks-alive rest between after later entity among

-- ---- what is saved of them

-- the entry of an entity has its marker, and the data of its parts
entry-has : {M D P : Type 0} (plain : (LifeAt → Option M) → P → Option D) (parts_at : ℕ → P) (births : Births) (markers : ℕ → Option M) (entity : LifeAt) (entry : EntityData M D) → named_entry plain parts_at births markers entity ≡ Some entry
    → (name_of births markers entity ≡ Some entry.marker) × (plain (name_of births markers) (parts_at entity.id) ≡ Some entry.components)
entry-has {M} {D} plain parts_at births markers entity entry is = by (name_of births markers entity) (plain (name_of births markers) (parts_at entity.id)) is
  where
    by : (name : Option M) (given : Option D) → option_and_then (λ marker. option_map (λ components. record { marker = marker; components = components }) given) name ≡ Some entry → (name ≡ Some entry.marker) × (given ≡ Some entry.components)
    by None given none = absurd (false≢true (ap is_some none))
    by (Some marker) None none = absurd (false≢true (ap is_some none))
    by (Some marker) (Some components) same =
        let one = same_Some (record { marker = marker; components = components }) entry same in
        (ap (λ (e : EntityData M D). Some e.marker) one, ap (λ (e : EntityData M D). Some e.components) one)

module _ {M D P : Type 0} (plain : (LifeAt → Option M) → P → Option D) (parts_at : ℕ → P) (births : Births) (markers : ℕ → Option M) where
  abbrev Entry : LifeAt → Option (EntityData M D)
  Entry = named_entry plain parts_at births markers

  none-later : (entity other : LifeAt) (rest : List LifeAt) → AllByRecursion (λ id. nat_eq entity.id id ≡ false) (map (λ (e : LifeAt). e.id) rest) → IsAmong other rest → nat_eq entity.id other.id ≡ false
  none-later entity other (first ∷ rest) (here, later) (inl is) = ap (λ (e : LifeAt). nat_eq entity.id e.id) (sym is) ∙ here
  none-later entity other (first ∷ rest) (here, later) (inr among) = none-later entity other rest later among
  none-later entity other [] all none = absurd none

  -- where no two living entities bear one marker, no two entries of distinct entities have one
  apart-of : MarkersDiffer births markers → (items : List LifeAt) (list : List (EntityData M D)) → AreOf Entry items list → IsDistinct nat_eq (map (λ (e : LifeAt). e.id) items) → AreApart list
  unfolding IsDistinct
  apart-of differ [] [] are distinct = tt
  apart-of differ [] (entry ∷ rest) are distinct = absurd are
  apart-of differ (item ∷ items) [] are distinct = absurd are
  apart-of differ (item ∷ items) (entry ∷ rest) are distinct = (
    λ other among same.
        let from = from-of Entry items rest are.1 other among in
        let here = named-is births markers item entry.marker (entry-has plain parts_at births markers item entry are.0).0 in
        let there = named-is births markers from.0 other.marker (entry-has plain parts_at births markers from.0 other from.2).0 in
        let one = differ item from.0 entry.marker here.0 there.0 here.1 (there.1 ∙ ap Some (sym same)) in
        let apart = none-later item from.0 items distinct.0 from.1 in
        elim (eqb_tells item.id from.0.id) [ inl is ↦ false≢true (sym apart ∙ is.0) | inr other_id ↦ other_id.1 (ap (λ (e : LifeAt). e.id) one) ],
    apart-of differ items rest are.1 distinct.1,
  )

module _ {A S M I D P : Type 0} (noted : A → I → Option LifeAt) (allocates : A → LifeAt → Option I → M → A → Type 0) (id_of : M → I) (s : StorageMembers S M) (births : Births) (plain : (LifeAt → Option M) → P → Option D) (refers_to : P → List LifeAt) (markers_of : D → List M)
    (stands : (names : LifeAt → Option M) (parts : P) (given : D) (marker : M) → plain names parts ≡ Some given → IsAmong marker (markers_of given) → (entity : LifeAt) × (names entity ≡ Some marker))
    (parts_at : ℕ → P) (low : (index : ℕ) → IsSome (living births index) → index < 16777216) (before after : Marking A S) (list : List (EntityData M D)) (saves : SavesReached noted allocates id_of s births plain refers_to parts_at before after list) where
  abbrev names : LifeAt → List LifeAt
  names = λ entity. refers_to (parts_at entity.id)

  abbrev markers : ℕ → Option M
  markers = s.part_at after.markers.inner

  whole : HasAll births saves.order × IsSafe births saves.order
  whole =
      reached-all births names (marked_first births (s.part_at before.markers.inner)) saves.order (length saves.order.entities) saves.reached
      (λ entity other among own. asks-alive noted allocates id_of s births (flat_map names saves.order.entities) before after saves.asks other (among-flat names saves.order.entities entity other among own))
      (first-all births (s.part_at before.markers.inner) low, safe-first births (s.part_at before.markers.inner))

  are : AreOf (Entry plain parts_at births markers) saves.order.entities list
  are = are-of (Entry plain parts_at births markers) saves.order.entities list saves.saved

  -- its markers differ
  pub reached-apart : MarkersDiffer births markers → AreApart list
  reached-apart differ = apart-of plain parts_at births markers differ saves.order.entities list are whole.1.apart

  -- its data names its own markers alone
  pub reached-own : NamesOwn markers_of list
  reached-own entry marker among own =
      let from = from-of (Entry plain parts_at births markers) saves.order.entities list are entry among in
      let given = (entry-has plain parts_at births markers from.0 entry from.2).1 in
      let holder = stands (name_of births markers) (parts_at from.0.id) entry.components marker given own in
      let lives = named-is births markers holder.0 marker holder.1 in
      let into = into-of (Entry plain parts_at births markers) saves.order.entities list are holder.0 (whole.0 holder.0 lives.0 (sym (saves.marks holder.0.id) ∙ ap is_some lives.1)) in
      (into.0, into.1, same_Some into.0.marker marker (sym (entry-has plain parts_at births markers holder.0 into.0 into.2).0 ∙ holder.1))
