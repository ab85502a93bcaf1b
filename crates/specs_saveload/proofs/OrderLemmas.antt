-- Who is in an order: each once, alive and marked, and no more than there are indices.
use Rattle.std.proofs.Common.{◌≡◌, ◌≢◌, ◌+◌, ◌<◌, ◌≤◌, ◌++◌, ◌||◌, ℕ, zero, suc, nat_eq, Bool, true, false, cond, IsSome, is_some, slice_get, List, [], ◌∷◌, length, length-append, map, Option, Some, inl, inr, refl, sym, ap, subst, ◌∙◌, arith}
use Rattle.std.proofs.lemmas.Bool.{cases_lt, false≢true, or_left}
use Rattle.std.proofs.lemmas.Bool.Decides.{eqb_tells}
use Rattle.std.proofs.lemmas.Cmp.{nat_eq_equiv}
use Rattle.std.proofs.lemmas.List.{append-nil, append_assoc, length-map, map-append}
use Rattle.std.proofs.lemmas.Map.Keys.{IsDistinct-cons, IsDistinct-push}
use Rattle.std.proofs.lemmas.Map.Steps.{length-le_from_distinct_below}
use Rattle.std.specs.List.{AllByRecursion, IsDistinct, list_any}
use Rattle.std.proofs.lemmas.Option.{same_Some}
use Rattle.specs_entity.specs.Births.{Births, IsAlive, living}
use Rattle.specs_entity.specs.Life.{LifeAt}
use Rattle.specs_saveload.specs.Bearing.{IsAmong}
use Rattle.specs_saveload.specs.NamingLemmas.{among-either}
use Rattle.specs_saveload.specs.Orders.{AreAsked, IsReady, IsSafe}
use Rattle.specs_saveload.specs.Reached.{Order, marked_first, with_all_asked, with_asked}
use Rattle.specs_saveload.specs.Saved.{marked_at}
use Rattle.specs_join.specs.Joins.{join_list}
use Rattle.specs_saveload.proofs.ImageLemmas.{Ascends, list-ascends, listed-is}

-- ---- lists of entities by their indices

abbrev indices : List LifeAt → List ℕ
indices xs = map (λ (entity : LifeAt). entity.id) xs

listed : (index : ℕ) (xs : List LifeAt) → list_any (nat_eq index) (indices xs) ≡ true → (entity : LifeAt) × IsAmong entity xs × (entity.id ≡ index)
listed index [] is = absurd (false≢true is)
listed index (x ∷ xs) is = elim (eqb_tells index x.id) [
  | inl same ↦ (x, inl refl, sym same.1)
  | inr other ↦
      let rest = listed index xs (sym (ap (λ b. b || list_any (nat_eq index) (indices xs)) other.0) ∙ is) in
      (rest.0, inr rest.1, rest.2)
]

unlisted : (index : ℕ) (xs : List LifeAt) → ((entity : LifeAt) → IsAmong entity xs → entity.id ≢ index) → list_any (nat_eq index) (indices xs) ≡ false
unlisted index [] differ = refl
unlisted index (x ∷ xs) differ = elim (eqb_tells index x.id) [
  | inl same ↦ absurd (differ x (inl refl) (sym same.1))
  | inr other ↦ ap (λ b. b || list_any (nat_eq index) (indices xs)) other.0 ∙ unlisted index xs (λ entity among. differ entity (inr among))
]

pub among-at : {X : Type 0} (item : X) (xs : List X) → IsAmong item xs → (k : ℕ) × (k < length xs) × (slice_get xs k ≡ Some item)
among-at item [] none = absurd none
among-at item (x ∷ xs) (inl is) = (0, omega arith, ap Some is)
among-at item (x ∷ xs) (inr later) = let rest = among-at item xs later in (suc rest.0, omega (arith, rest.1), rest.2)

in-front : {X : Type 0} (xs more : List X) (k : ℕ) → k < length xs → slice_get (xs ++ more) k ≡ slice_get xs k
in-front [] more k inside = absurd (omega (arith, inside))
in-front (x ∷ xs) more zero inside = refl
in-front (x ∷ xs) more (suc k) inside = in-front xs more k (omega (arith, inside))

-- ---- one more is asked for

or-true : (b : Bool) → (b || true) ≡ true
or-true true = refl
or-true false = refl

itself : (index : ℕ) → nat_eq index index ≡ true
itself index = elim (eqb_tells index index) [ inl same ↦ same.0 | inr other ↦ absurd (other.1 refl) ]

-- an order with this entity marked and behind the others
abbrev behind : Order → LifeAt → Order
behind order entity = record { marked = λ index. order.marked index || nat_eq index entity.id; entities = order.entities ++ entity ∷ [] }

module _ (births : Births) (order : Order) (entity : LifeAt) (alive : IsAlive births entity) (safe : IsSafe births order) where
  fresh : order.marked entity.id ≡ false → (other : LifeAt) → IsAmong other order.entities → other.id ≢ entity.id
  fresh unmarked other among same = false≢true (sym unmarked ∙ ap order.marked (sym same) ∙ (safe.ready other among).1)

  safe-behind : order.marked entity.id ≡ false → IsSafe births (behind order entity)
  safe-behind unmarked = record {
    apart = subst (IsDistinct nat_eq) (sym (map-append (λ (e : LifeAt). e.id) order.entities (entity ∷ []))) (IsDistinct-push nat_eq_equiv (indices order.entities) entity.id safe.apart (unlisted entity.id order.entities (fresh unmarked)));
    ready = λ other among. elim (among-either other order.entities (entity ∷ []) among) [
      | inl old ↦ ((safe.ready other old).0, or_left (order.marked other.id) (nat_eq other.id entity.id) (safe.ready other old).1)
      | inr new ↦ elim new [
        | inl is ↦ (subst (IsAlive births) is alive, subst (λ (e : LifeAt). (order.marked e.id || nat_eq e.id entity.id) ≡ true) is (ap (λ b. order.marked entity.id || b) (itself entity.id) ∙ or-true (order.marked entity.id)))
        | inr none ↦ absurd none
      ]
    ];
  }

  safe-asked : IsSafe births (with_asked order entity)
  safe-asked = by (order.marked entity.id) refl
    where
      by : (b : Bool) → order.marked entity.id ≡ b → IsSafe births (cond b order (behind order entity))
      by true is = safe
      by false is = safe-behind is

-- marks stay, and who was asked for has one
still-marked : (order : Order) (entity : LifeAt) (index : ℕ) → order.marked index ≡ true → (with_asked order entity).marked index ≡ true
still-marked order entity index marked = by (order.marked entity.id)
  where
    by : (b : Bool) → (let o : Order = cond b order (behind order entity) in o).marked index ≡ true
    by true = marked
    by false = or_left (order.marked index) (nat_eq index entity.id) marked

asked-marked : (order : Order) (entity : LifeAt) → (with_asked order entity).marked entity.id ≡ true
asked-marked order entity = by (order.marked entity.id) refl
  where
    by : (b : Bool) → order.marked entity.id ≡ b → (let o : Order = cond b order (behind order entity) in o).marked entity.id ≡ true
    by true is = is
    by false is = ap (λ b. order.marked entity.id || b) (itself entity.id) ∙ or-true (order.marked entity.id)

more-behind : (order : Order) (entity : LifeAt) → (more : List LifeAt) × ((with_asked order entity).entities ≡ order.entities ++ more)
more-behind order entity = by (order.marked entity.id)
  where
    by : (b : Bool) → (more : List LifeAt) × ((let o : Order = cond b order (behind order entity) in o).entities ≡ order.entities ++ more)
    by true = ([], sym (append-nil order.entities))
    by false = (entity ∷ [], refl)

-- ---- all of a list are asked for

-- those who were in an order stand before those who came to it
pub all-behind : (list : List LifeAt) (order : Order) → (more : List LifeAt) × ((with_all_asked order list).entities ≡ order.entities ++ more)
all-behind [] order = ([], sym (append-nil order.entities))
all-behind (entity ∷ rest) order =
    let one = more-behind order entity in
    let then = all-behind rest (with_asked order entity) in
    (one.0 ++ then.0, then.1 ∙ (ap (λ (l : List LifeAt). l ++ then.0) one.1 ∙ append_assoc order.entities one.0 then.0))

pub safe-all : (births : Births) (list : List LifeAt) (order : Order) → ((entity : LifeAt) → IsAmong entity list → IsAlive births entity) → IsSafe births order → IsSafe births (with_all_asked order list)
safe-all births [] order alive safe = safe
safe-all births (entity ∷ rest) order alive safe =
    safe-all births rest (with_asked order entity) (λ other among. alive other (inr among)) (safe-asked births order entity (alive entity (inl refl)) safe)

marked-still : (list : List LifeAt) (order : Order) (index : ℕ) → order.marked index ≡ true → (with_all_asked order list).marked index ≡ true
marked-still [] order index marked = marked
marked-still (entity ∷ rest) order index marked = marked-still rest (with_asked order entity) index (still-marked order entity index marked)

all-marked : (list : List LifeAt) (order : Order) (entity : LifeAt) → IsAmong entity list → (with_all_asked order list).marked entity.id ≡ true
all-marked [] order entity none = absurd none
all-marked (first ∷ rest) order entity (inl is) = marked-still rest (with_asked order first) entity.id (ap (λ (e : LifeAt). (with_asked order first).marked e.id) (sym is) ∙ asked-marked order first)
all-marked (first ∷ rest) order entity (inr later) = all-marked rest (with_asked order first) entity later

kept-place : (list : List LifeAt) (order : Order) (k : ℕ) → k < length order.entities → slice_get (with_all_asked order list).entities k ≡ slice_get order.entities k
kept-place [] order k inside = refl
kept-place (entity ∷ rest) order k inside =
    let more = more-behind order entity in
    kept-place rest (with_asked order entity) k (subst (λ l. k < length l) (sym more.1) (longer order.entities more.0 inside))
    ∙ (ap (λ (l : List LifeAt). slice_get l k) more.1 ∙ in-front order.entities more.0 k inside)
  where
    longer : (xs more : List LifeAt) → k < length xs → k < length (xs ++ more)
    longer xs more inside = let sum = length-append xs more in omega (arith, sum, inside)

module _ (names : LifeAt → List LifeAt) (births : Births) where
  pub none-asked : (order : Order) → AreAsked names births order 0
  none-asked order k entity named none = absurd (omega (arith, none))

  -- those that the one at a place names are asked for
  pub asked-on : (order : Order) (place : ℕ) (entity : LifeAt) → slice_get order.entities place ≡ Some entity → place < length order.entities → ((named : LifeAt) → IsAmong named (names entity) → IsAlive births named)
      → AreAsked names births order place → AreAsked names births (with_all_asked order (names entity)) (place + 1)
  asked-on order place entity here inside alive asked k other named below is among =
      let was = sym (kept-place (names entity) order k (omega (arith, below, inside))) ∙ is in
      elim (cases_lt k place) [
        | inl before ↦ let ready = asked k other named before was among in (ready.0, marked-still (names entity) order named.id ready.1)
        | inr from ↦
            let same : k ≡ place = omega (arith, below, from) in
            let one = same_Some entity other (sym here ∙ (ap (slice_get order.entities) (sym same) ∙ was)) in
            let own = subst (λ e. IsAmong named (names e)) (sym one) among in
            (alive named own, all-marked (names entity) order named own)
      ]

  -- so is whoever is named by one of an order that is at its end
  pub all-asked : (order : Order) → AreAsked names births order (length order.entities) → (entity named : LifeAt) → IsAmong entity order.entities → IsAmong named (names entity) → IsReady births order named
  all-asked order asked entity named among own = let at = among-at entity order.entities among in asked at.0 entity named at.1 at.2 own

-- there are no more than there are indices
pub few : (births : Births) (order : Order) → ((index : ℕ) → IsSome (living births index) → index < 16777216) → IsSafe births order → length order.entities ≤ 16777216
few births order low safe =
    subst (λ n. n ≤ 16777216) (length-map order.entities (λ (e : LifeAt). e.id)) (length-le_from_distinct_below (indices order.entities) 16777216 safe.apart (λ index is.
    let from = listed index order.entities is in
    low index (subst (λ i. IsSome (living births i)) from.2 (ap is_some (safe.ready from.0 from.1).0))))

-- ---- the marked ones, first

behind-all : {M : Type 0} (index : ℕ) (rest : List (LifeAt × M)) → ((other : LifeAt × M) → IsAmong other rest → index < other.0.id) → AllByRecursion (λ other. nat_eq index other ≡ false) (indices (map (λ item. item.0) rest))
behind-all index [] less = tt
behind-all index (item ∷ rest) less = (
  elim (eqb_tells index item.0.id) [ inl same ↦ (let below = less item (inl refl) in absurd (omega (arith, below, same.1))) | inr other ↦ other.0 ],
  behind-all index rest (λ other among. less other (inr among)),
)

ascend-apart : {M : Type 0} (items : List (LifeAt × M)) → Ascends items → IsDistinct nat_eq (indices (map (λ item. item.0) items))
unfolding IsDistinct
ascend-apart [] ascends = tt
ascend-apart (item ∷ rest) ascends = IsDistinct-cons nat_eq item.0.id (indices (map (λ one. one.0) rest)) (behind-all item.0.id rest ascends.0) (ascend-apart rest ascends.1)

from-item : {M : Type 0} (entity : LifeAt) (items : List (LifeAt × M)) → IsAmong entity (map (λ item. item.0) items) → (item : LifeAt × M) × IsAmong item items × (item.0 ≡ entity)
from-item entity [] none = absurd none
from-item entity (item ∷ rest) (inl is) = (item, inl refl, is)
from-item entity (item ∷ rest) (inr later) = let from = from-item entity rest later in (from.0, inr from.1, from.2)

pub safe-first : {M : Type 0} (births : Births) (markers : ℕ → Option M) → IsSafe births (marked_first births markers)
safe-first births markers = record {
  apart = ascend-apart (join_list (marked_at births markers)) (list-ascends births markers);
  ready = λ entity among.
      let from = from-item entity (join_list (marked_at births markers)) among in
      let is = listed-is births markers from.0 from.1 in
      (subst (IsAlive births) from.2 is.0, subst (λ (e : LifeAt). is_some (markers e.id) ≡ true) from.2 (ap is_some is.1));
}
