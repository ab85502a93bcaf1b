-- A list that is loaded into an empty world, and what is saved of that.
use Rattle.std.proofs.Common.{◌≡◌, ◌⊎◌, ◌↔◌, ◌<◌, ℕ, Bool, true, false, cond, List, [], ◌∷◌, map, Option, Some, None, is_some, IsSome, IfSome, option_and_then, option_map, unwrap_or, inl, inr, refl, sym, ap, subst, ◌∙◌, arith}
use Rattle.std.proofs.lemmas.Bool.{false≢true}
use Rattle.std.specs.List.{cons_option}
use Rattle.std.proofs.lemmas.Option.{same_Some}
use Rattle.hibitset_sets.specs.Walk.{walk}
use Rattle.specs_entity.specs.Births.{Births, IsAlive, living}
use Rattle.specs_entity.specs.Life.{Life, LifeAt}
use Rattle.specs_saveload.specs.declared.entity_data.EntityData.{EntityData}
use Rattle.specs_join.specs.Joins.{both, join_list, values_at}
use Rattle.specs_layouts.proofs.CallerLemmas.{walk-come}
use Rattle.specs_layouts.specs.ToCome.{IsToCome}
use Rattle.specs_saveload.specs.Bearing.{IsAmong}
use Rattle.specs_saveload.specs.Images.{IsImage, IsImageOf, MarkersDiffer, NamesOwn, NamesUnmarked}
use Rattle.specs_saveload.specs.Known.{IsSound, Known, bearer_at}
use Rattle.specs_saveload.specs.Loading.{AreApart, AreInOrder, Loads}
use Rattle.specs_saveload.specs.Saved.{IsEntryOf, all_some, entry_of, marked_at, name_of, same_birth, saved}
use Rattle.specs_saveload.proofs.KnownLemmas.{bearer-alive, bearer-known, life-itself, same-life}
use Rattle.specs_join.proofs.CallerLemmas.{walk-is}
use Rattle.specs_markers.proofs.CallerLemmas.{rises-of}

-- ---- an empty world, and a list that was loaded into it

module _ {A S M I : Type 0} (noted : A → I → Option LifeAt) (part_at : S → ℕ → Option M) (id_of : M → I) (by_id : (one other : M) → id_of one ≡ id_of other → one ≡ other) where
  nothing-known : (known : Known A S) → ((id : I) → noted known.allocator id ≡ None) → IsSound noted part_at id_of known
  nothing-known known unknown =
      record {
        named = λ marker entity is. absurd (false≢true (ap is_some (sym (unknown (id_of marker)) ∙ (bearer-known noted part_at id_of known marker entity is).under)));
        born = λ id entity is. absurd (false≢true (ap is_some (sym (unknown id) ∙ is)));
      }

  its-marker : (o : Option M) (marker : M) → option_map id_of o ≡ Some (id_of marker) → o ≡ Some marker
  its-marker None marker is = cc
  its-marker (Some other) marker is = ap Some (by_id other marker (same_Some (id_of other) (id_of marker) is))

  module _ {D P : Type 0} (markers_of : D → List M) (load : (M → Option LifeAt) → D → Option P) (list : List (EntityData M D)) (before after : Known A S) (had has : ℕ → P) (loads : Loads noted part_at id_of markers_of load list before after had has)
      (nobody : (entity : LifeAt) → ¬ (IsAlive before.births entity)) (unknown : (id : I) → noted before.allocator id ≡ None) (apart : AreApart list) (own : NamesOwn markers_of list) where
    sound : IsSound noted part_at id_of after
    sound = loads.sound (nothing-known before unknown)

    marks : (marker : M) (entity : LifeAt) → bearer_at noted part_at id_of after marker ≡ Some entity → IsAlive after.births entity × (part_at after.markers.inner entity.id ≡ Some marker)
    marks marker entity is = (bearer-alive noted part_at id_of after marker entity is, its-marker (part_at after.markers.inner entity.id) marker (sound.named marker entity is))

    image-of : (entry : EntityData M D) → IsAmong entry list → (entity : LifeAt) → bearer_at noted part_at id_of after entry.marker ≡ Some entity → IsImageOf load list after.births (part_at after.markers.inner) (bearer_at noted part_at id_of after) had has entry entity
    image-of entry among entity is =
        let there = loads.loaded (nothing-known before unknown) apart entry among in
        let same = same_Some there.entity entity (sym there.bears ∙ is) in
        let both = marks entry.marker entity is in
        record {
          alive = both.0;
          marked = both.1;
          bears = is;
          parts = there.has ∙ ap (λ (e : LifeAt). Some (has e.id)) same;
        }

    owner-of : (entry : EntityData M D) (marker : M) → IsAmong entry list → IsAmong marker (entry.marker ∷ markers_of entry.components) → (owner : EntityData M D) × IsAmong owner list × (owner.marker ≡ marker)
    owner-of entry marker among (inl is) = (entry, among, is)
    owner-of entry marker among (inr later) = own entry marker among later

    -- each who lives bears the marker of an entry
    borne : (entity : LifeAt) → IsAlive after.births entity → (entry : EntityData M D) × IsAmong entry list × (bearer_at noted part_at id_of after entry.marker ≡ Some entity)
    borne entity alive =
        elim (loads.only entity alive) [
          | inl lived ↦ absurd (nobody entity lived)
          | inr made ↦
              let owner = owner-of made.0 made.1 made.2 made.3 in
              (owner.0, owner.1, ap (bearer_at noted part_at id_of after) owner.2 ∙ made.4)
        ]

    pub loaded-image : IsImage load list after.births (part_at after.markers.inner) (bearer_at noted part_at id_of after) had has
    loaded-image =
        record {
          each = λ entry among.
              let there = loads.loaded (nothing-known before unknown) apart entry among in
              (there.entity, image-of entry among there.entity there.bears);
          no_other = λ entity alive. let owner = borne entity alive in (owner.0, owner.1, image-of owner.0 owner.1 entity owner.2);
          stands = marks;
          others = λ index elsewhere. loads.others index (λ entry entity among is. elsewhere entity (marks entry.marker entity is).0);
        }

-- ---- the living marked entities

at-first : {X : Type 0} (values : ℕ → Option X) (first : ℕ) (rest : List ℕ) (item : X) → (IsAmong item (values_at values rest) → (index : ℕ) × IsToCome index rest × (values index ≡ Some item)) → (o : Option X) → values first ≡ o → IsAmong item (cons_option o (values_at values rest)) → (index : ℕ) × IsToCome index (first ∷ rest) × (values index ≡ Some item)
at-first values first rest item later None is among = let found = later among in (found.0, inr found.1, found.2)
at-first values first rest item later (Some x) is (inl here) = (first, inl refl, is ∙ ap Some here)
at-first values first rest item later (Some x) is (inr among) = let found = later among in (found.0, inr found.1, found.2)

index-of : {X : Type 0} (values : ℕ → Option X) (indices : List ℕ) (item : X) → IsAmong item (values_at values indices) → (index : ℕ) × IsToCome index indices × (values index ≡ Some item)
index-of values [] item none = absurd none
index-of values (first ∷ rest) item among = at-first values first rest item (index-of values rest item) (values first) refl among

kept-behind : {X : Type 0} (o : Option X) (item : X) (rest : List X) → IsAmong item rest → IsAmong item (cons_option o rest)
kept-behind None item rest among = among
kept-behind (Some x) item rest among = inr among

item-of : {X : Type 0} (values : ℕ → Option X) (indices : List ℕ) (index : ℕ) (item : X) → IsToCome index indices → values index ≡ Some item → IsAmong item (values_at values indices)
item-of values (first ∷ rest) index item (inl here) is =
    subst (λ o. IsAmong item (cons_option o (values_at values rest))) (sym (ap values here ∙ is)) (inl refl)
item-of values (first ∷ rest) index item (inr later) is = kept-behind (values first) item (values_at values rest) (item-of values rest index item later is)
item-of values [] index item none is = absurd none

module _ {M : Type 0} (births : Births) (markers : ℕ → Option M) where
  both-of : (life : Option Life) (mark : Option M) (index : ℕ) (entity : LifeAt) (marker : M) → living births index ≡ life → both (option_map (λ l. record { id = index; generation = l }) life) mark ≡ Some (entity, marker) → (entity.id ≡ index) × IsAlive births entity × (mark ≡ Some marker)
  both-of None mark index entity marker lives is = cc
  both-of (Some life) None index entity marker lives is = cc
  both-of (Some life) (Some mark) index entity marker lives is =
      let pair = same_Some (record { id = index; generation = life }, mark) (entity, marker) is in
      let one = ap (λ (p : LifeAt × M). p.0) pair in
      (sym (ap (λ (e : LifeAt). e.id) one), subst (IsAlive births) one lives, ap (λ (p : LifeAt × M). Some p.1) pair)

  marked-is : (index : ℕ) (entity : LifeAt) (marker : M) → marked_at births markers index ≡ Some (entity, marker) → (entity.id ≡ index) × IsAlive births entity × (markers index ≡ Some marker)
  marked-is index entity marker is = both-of (living births index) (markers index) index entity marker refl is

  is-marked : (entity : LifeAt) (marker : M) → IsAlive births entity → markers entity.id ≡ Some marker → marked_at births markers entity.id ≡ Some (entity, marker)
  is-marked entity marker alive has =
      ap (λ (o : Option Life). both (option_map (λ l. record { id = entity.id; generation = l }) o) (markers entity.id)) alive ∙ ap (both (Some entity)) has

  -- those of the list are alive and bear their markers
  pub listed-is : (item : LifeAt × M) → IsAmong item (join_list (marked_at births markers)) → IsAlive births item.0 × (markers item.0.id ≡ Some item.1)
  listed-is item among =
      let from = index-of (marked_at births markers) (walk (λ index. is_some (marked_at births markers index))) item among in
      let is = marked-is from.0 item.0 item.1 from.2 in
      (is.1, ap markers is.0 ∙ is.2)

  -- and each that is so is of the list
  pub is-listed : ((index : ℕ) → IsSome (living births index) → index < 16777216) → (entity : LifeAt) (marker : M) → IsAlive births entity → markers entity.id ≡ Some marker → IsAmong (entity, marker) (join_list (marked_at births markers))
  is-listed low entity marker alive has =
      let is = is-marked entity marker alive has in
      item-of (marked_at births markers) (walk (λ index. is_some (marked_at births markers index))) entity.id (entity, marker)
      (walk-come (λ index. is_some (marked_at births markers index)) entity.id (low entity.id (ap is_some alive)) (ap is_some is))
      is

  -- a living one with a marker is named by it
  pub named-by : (entity : LifeAt) (marker : M) → IsAlive births entity → markers entity.id ≡ Some marker → name_of births markers entity ≡ Some marker
  named-by entity marker alive has =
      ap (option_and_then (λ (life : Life). cond (same_birth life entity.generation) (markers entity.id) None)) alive
      ∙ (ap (λ b. cond b (markers entity.id) None) (life-itself entity.generation) ∙ has)

-- ---- values that are all there

pub record IsGathered {X Y : Type 0} (f : X → Option Y) (xs : List X) : Type 0 where
  pub list : List Y
  pub is : all_some (map f xs) ≡ Some list
  pub from : (y : Y) → IsAmong y list → (x : X) × IsAmong x xs × (f x ≡ Some y)
  pub into : (x : X) (y : Y) → IsAmong x xs → f x ≡ Some y → IsAmong y list

pub gather : {X Y : Type 0} (f : X → Option Y) (xs : List X) → ((x : X) → IsAmong x xs → (y : Y) × (f x ≡ Some y)) → IsGathered f xs
gather f [] each = record { list = []; is = refl; from = λ y none. absurd none; into = λ x y none is. absurd none }
gather f (first ∷ rest) each =
    let here = each first (inl refl) in
    let more = gather f rest (λ x among. each x (inr among)) in
    record {
      list = here.0 ∷ more.list;
      is = ap (option_and_then (λ value. option_map (λ values. value ∷ values) (all_some (map f rest)))) here.1 ∙ ap (option_map (λ values. here.0 ∷ values)) more.is;
      from = λ y among. elim among [
        | inl is ↦ (first, inl refl, here.1 ∙ ap Some is)
        | inr later ↦ let found = more.from y later in (found.0, inr found.1, found.2)
      ];
      into = λ x y among is. elim among [
        | inl same ↦ inl (same_Some here.0 y (sym here.1 ∙ (ap f same ∙ is)))
        | inr later ↦ inr (more.into x y later is)
      ];
    }

-- ---- saved again

-- what is saved has the entries of a list, and no other
record SavesEntries {M D P : Type 0} (plain : (LifeAt → Option M) → P → Option D) (list : List (EntityData M D)) (parts_at : ℕ → P) (births : Births) (markers : ℕ → Option M) : Type 0 where
  pub again : List (EntityData M D)
  pub is : saved plain parts_at births markers ≡ Some again
  pub into : (entry : EntityData M D) → IsAmong entry list → IsAmong entry again
  pub from : (entry : EntityData M D) → IsAmong entry again → IsAmong entry list

module _ {M D P : Type 0} (load : (M → Option LifeAt) → D → Option P) (plain : (LifeAt → Option M) → P → Option D) (back : (bearers : M → Option LifeAt) (names : LifeAt → Option M) (given : D) (parts : P) → ((marker : M) (entity : LifeAt) → bearers marker ≡ Some entity → names entity ≡ Some marker) → load bearers given ≡ Some parts → plain names parts ≡ Some given)
    (list : List (EntityData M D)) (births : Births) (markers : ℕ → Option M) (bearers : M → Option LifeAt) (had has : ℕ → P) (image : IsImage load list births markers bearers had has) (low : (index : ℕ) → IsSome (living births index) → index < 16777216) where
  names-back : (marker : M) (entity : LifeAt) → bearers marker ≡ Some entity → name_of births markers entity ≡ Some marker
  names-back marker entity is = let stands = image.stands marker entity is in named-by births markers entity marker stands.0 stands.1

  entry-back : (entry : EntityData M D) (entity : LifeAt) (marker : M) → IsImageOf load list births markers bearers had has entry entity → markers entity.id ≡ Some marker → entry_of (plain (name_of births markers)) has (entity, marker) ≡ Some entry
  entry-back entry entity marker is marked =
      ap (option_map (λ components. record { marker = marker; components = components })) (back bearers (name_of births markers) entry.components (has entity.id) names-back is.parts)
      ∙ ap (λ m. Some (record { marker = m; components = entry.components })) (same_Some marker entry.marker (sym marked ∙ is.marked))

  saved-back : SavesEntries plain list has births markers
  saved-back =
      let items = gather (entry_of (plain (name_of births markers)) has) (join_list (marked_at births markers))
      (λ item among.
      let is = listed-is births markers item among in
      let found = image.no_other item.0 is.0 in
      (found.0, entry-back found.0 item.0 item.1 found.2 is.1)) in
      record {
        again = items.list;
        is = items.is;
        into = λ entry among.
            let there = image.each entry among in
            items.into (there.0, entry.marker) entry (is-listed births markers low there.0 entry.marker there.1.alive there.1.marked) (entry-back entry there.0 entry.marker there.1 there.1.marked);
        from = λ entry among.
            let from = items.from entry among in
            let is = listed-is births markers from.0 from.1 in
            let found = image.no_other from.0.0 is.0 in
            subst (λ (e : EntityData M D). IsAmong e list) (same_Some found.0 entry (sym (entry-back found.0 from.0.0 from.0.1 found.2 is.1) ∙ from.2)) found.1;
      }

-- ---- what is saved of a world whose markers differ

-- values by the place
abbrev pub AreOf : {X Y : Type 0} → (X → Option Y) → List X → List Y → Type 0
AreOf f [] [] = Unit {0}
AreOf f [] (y ∷ ys) = ⊥
AreOf f (x ∷ xs) [] = ⊥
AreOf f (x ∷ xs) (y ∷ ys) = (f x ≡ Some y) × AreOf f xs ys

of-first : {X Y : Type 0} (f : X → Option Y) (x : X) (xs : List X) (ys : List Y) → ((rest : List Y) → all_some (map f xs) ≡ Some rest → AreOf f xs rest) → (here : Option Y) (more : Option (List Y)) → f x ≡ here → all_some (map f xs) ≡ more → option_and_then (λ value. option_map (λ values. value ∷ values) more) here ≡ Some ys → AreOf f (x ∷ xs) ys
of-first f x xs ys later None more is are whole = cc
of-first f x xs ys later (Some y) None is are whole = cc
of-first f x xs ys later (Some y) (Some rest) is are whole = subst (AreOf f (x ∷ xs)) (same_Some (y ∷ rest) ys whole) (is, later rest are)

pub are-of : {X Y : Type 0} (f : X → Option Y) (xs : List X) (ys : List Y) → all_some (map f xs) ≡ Some ys → AreOf f xs ys
are-of f [] ys is = subst (AreOf f []) (same_Some [] ys is) tt
are-of f (x ∷ xs) ys is = of-first f x xs ys (are-of f xs) (f x) (all_some (map f xs)) refl refl is

pub from-of : {X Y : Type 0} (f : X → Option Y) (xs : List X) (ys : List Y) → AreOf f xs ys → (y : Y) → IsAmong y ys → (x : X) × IsAmong x xs × (f x ≡ Some y)
from-of f (x ∷ xs) (first ∷ ys) are y (inl is) = (x, inl refl, are.0 ∙ ap Some is)
from-of f (x ∷ xs) (first ∷ ys) are y (inr later) = let found = from-of f xs ys are.1 y later in (found.0, inr found.1, found.2)
from-of f [] [] are y none = absurd none
from-of f [] (first ∷ ys) are y among = absurd are
from-of f (x ∷ xs) [] are y among = absurd are

pub into-of : {X Y : Type 0} (f : X → Option Y) (xs : List X) (ys : List Y) → AreOf f xs ys → (x : X) → IsAmong x xs → (y : Y) × IsAmong y ys × (f x ≡ Some y)
into-of f (first ∷ xs) (y ∷ ys) are x (inl is) = (y, inl refl, ap f (sym is) ∙ are.0)
into-of f (first ∷ xs) (y ∷ ys) are x (inr later) = let found = into-of f xs ys are.1 x later in (found.0, inr found.1, found.2)
into-of f [] [] are x none = absurd none
into-of f [] (y ∷ ys) are x among = absurd are
into-of f (first ∷ xs) [] are x among = absurd are

-- where not all are there, one is none
none-first : {X Y : Type 0} (f : X → Option Y) (x : X) (xs : List X) → (all_some (map f xs) ≡ None → (y : X) × IsAmong y xs × (f y ≡ None)) → (here : Option Y) (more : Option (List Y)) → f x ≡ here → all_some (map f xs) ≡ more → option_and_then (λ value. option_map (λ values. value ∷ values) more) here ≡ None → (y : X) × IsAmong y (x ∷ xs) × (f y ≡ None)
none-first f x xs later None more is are none = (x, inl refl, is)
none-first f x xs later (Some y) None is are none = let found = later are in (found.0, inr found.1, found.2)
none-first f x xs later (Some y) (Some rest) is are none = cc

first-none : {X Y : Type 0} (f : X → Option Y) (xs : List X) → all_some (map f xs) ≡ None → (x : X) × IsAmong x xs × (f x ≡ None)
first-none f [] none = cc
first-none f (x ∷ xs) none = none-first f x xs (first-none f xs) (f x) (all_some (map f xs)) refl refl none

-- each index of a list is less than those after it
abbrev Rises : List ℕ → Type 0
Rises [] = Unit {0}
Rises (first ∷ rest) = ((other : ℕ) → IsToCome other rest → first < other) × Rises rest

walk-rises : (p : ℕ → Bool) → Rises (walk p)
walk-rises p = rises-of p 16777216 (walk p) (walk-is p)

-- each item of a list is at a lower index than those after it
abbrev pub Ascends : {M : Type 0} → List (LifeAt × M) → Type 0
Ascends [] = Unit {0}
Ascends {M} (first ∷ rest) = ((other : LifeAt × M) → IsAmong other rest → first.0.id < other.0.id) × Ascends rest

lower : (a b c d : ℕ) → a ≡ b → c ≡ d → b < d → a < c
lower a b c d one other less = omega arith

module _ {M : Type 0} (births : Births) (markers : ℕ → Option M) where
  ascends-first : (first : ℕ) (rest : List ℕ) → ((other : ℕ) → IsToCome other rest → first < other) → Ascends (values_at (marked_at births markers) rest) → (o : Option (LifeAt × M)) → marked_at births markers first ≡ o → Ascends (cons_option o (values_at (marked_at births markers) rest))
  ascends-first first rest less ascends None is = ascends
  ascends-first first rest less ascends (Some item) is = (
    λ other among.
        let from = index-of (marked_at births markers) rest other among in
        lower item.0.id first other.0.id from.0 (marked-is births markers first item.0 item.1 is).0 (marked-is births markers from.0 other.0 other.1 from.2).0 (less from.0 from.1),
    ascends,
  )

  values-ascend : (indices : List ℕ) → Rises indices → Ascends (values_at (marked_at births markers) indices)
  values-ascend [] rises = tt
  values-ascend (first ∷ rest) rises = ascends-first first rest rises.0 (values-ascend rest rises.1) (marked_at births markers first) refl

  -- those of the list ascend
  pub list-ascends : Ascends (join_list (marked_at births markers))
  list-ascends = values-ascend (walk (λ index. is_some (marked_at births markers index))) (walk-rises (λ index. is_some (marked_at births markers index)))

  chosen : (life : Option Life) (entity : LifeAt) (marker : M) (mark : Option M) → option_and_then (λ (l : Life). cond (same_birth l entity.generation) mark None) life ≡ Some marker → (life ≡ Some entity.generation) × (mark ≡ Some marker)
  chosen None entity marker mark is = cc
  chosen (Some life) entity marker mark is = by-test (same_birth life entity.generation) refl is
    where
      by-test : (b : Bool) → same_birth life entity.generation ≡ b → cond b mark None ≡ Some marker → (Some life ≡ Some entity.generation) × (mark ≡ Some marker)
      by-test true same has = (ap Some (same-life life entity.generation same), has)
      by-test false same has = cc

  -- who is named is alive and bears the marker
  pub named-is : (entity : LifeAt) (marker : M) → name_of births markers entity ≡ Some marker → IsAlive births entity × (markers entity.id ≡ Some marker)
  named-is entity marker is = chosen (living births entity.id) entity marker (markers entity.id) is

-- ---- a list that was loaded is saved in its order

-- each item of a list has a lower number than those after it
abbrev RisesBy : {X : Type 0} → (X → ℕ) → List X → Type 0
RisesBy number [] = Unit {0}
RisesBy {X} number (first ∷ rest) = ((other : X) → IsAmong other rest → number first < number other) × RisesBy number rest

no-two : (a b : ℕ) → a < b → b < a → ⊥
no-two a b less more = omega (arith, less, more)

same-head : {X : Type 0} (number : X → ℕ) (x y : X) (xs ys : List X) → ((other : X) → IsAmong other xs → number x < number other) → ((other : X) → IsAmong other ys → number y < number other) → IsAmong x (y ∷ ys) → IsAmong y (x ∷ xs) → x ≡ y
same-head number x y xs ys low low' (inl is) among = sym is
same-head number x y xs ys low low' (inr later) (inl is) = is
same-head number x y xs ys low low' (inr later) (inr later') = absurd (no-two (number x) (number y) (low y later') (low' x later))

-- one among a list, and no lower than its first, is among the others
behind-head : {X : Type 0} (number : X → ℕ) (x y z : X) (ys : List X) → x ≡ y → number x < number z → IsAmong z (y ∷ ys) → IsAmong z ys
behind-head number x y z ys same less (inl is) = absurd (let even = ap number (same ∙ is) in omega (arith, even, less))
behind-head number x y z ys same less (inr later) = later

-- two lists that rise and have the same items are one
same-list : {X : Type 0} (number : X → ℕ) (one other : List X) → RisesBy number one → RisesBy number other → ((x : X) → IsAmong x one → IsAmong x other) → ((x : X) → IsAmong x other → IsAmong x one) → one ≡ other
same-list number [] [] rises rises' into from = refl
same-list number [] (y ∷ ys) rises rises' into from = absurd (from y (inl refl))
same-list number (x ∷ xs) [] rises rises' into from = absurd (into x (inl refl))
same-list number (x ∷ xs) (y ∷ ys) rises rises' into from =
    let heads = same-head number x y xs ys rises.0 rises'.0 (into x (inl refl)) (from y (inl refl)) in
    let tails = same-list number xs ys rises.1 rises'.1
    (λ z among. behind-head number x y z ys heads (rises.0 z among) (into z (inr among)))
    (λ z among. behind-head number y x z xs (sym heads) (rises'.0 z among) (from z (inr among))) in
    ap (λ first. first ∷ xs) heads ∙ ap (λ rest. y ∷ rest) tails

-- the index of the entity that bears an entry's marker
abbrev index_by : {M D : Type 0} → (M → Option LifeAt) → EntityData M D → ℕ
index_by bearers entry = unwrap_or (option_map (λ (entity : LifeAt). entity.id) (bearers entry.marker)) 0

index-is : {M D : Type 0} (bearers : M → Option LifeAt) (entry : EntityData M D) (entity : LifeAt) → bearers entry.marker ≡ Some entity → index_by bearers entry ≡ entity.id
index-is bearers entry entity is = ap (λ (o : Option LifeAt). unwrap_or (option_map (λ (e : LifeAt). e.id) o) 0) is

-- entries whose entities were all made in their order rise by them
list-rises : {M D : Type 0} (bearers : M → Option LifeAt) (lived : LifeAt → Type 0) (nobody : (entity : LifeAt) → ¬ (lived entity)) (list : List (EntityData M D)) → ((entry : EntityData M D) → IsAmong entry list → (entity : LifeAt) × (bearers entry.marker ≡ Some entity)) → AreInOrder bearers lived list → RisesBy (index_by bearers) list
list-rises bearers lived nobody [] found order = tt
list-rises bearers lived nobody (first ∷ rest) found order = (
  λ other among.
      let one = found first (inl refl) in
      let two = found other (inr among) in
      lower (index_by bearers first) one.0.id (index_by bearers other) two.0.id (index-is bearers first one.0 one.1) (index-is bearers other two.0 two.1) (order.0 other among one.0 two.0 one.1 two.1 (nobody one.0) (nobody two.0)),
  list-rises bearers lived nobody rest (λ entry among. found entry (inr among)) order.1,
)

-- what is saved of items that ascend rises by their indices
saved-rises : {M D : Type 0} (number : EntityData M D → ℕ) (entry : LifeAt × M → Option (EntityData M D)) (items : List (LifeAt × M)) (list : List (EntityData M D)) → AreOf entry items list → Ascends items → ((item : LifeAt × M) (one : EntityData M D) → IsAmong item items → entry item ≡ Some one → number one ≡ item.0.id) → RisesBy number list
saved-rises number entry [] [] are ascends numbered = tt
saved-rises number entry [] (one ∷ rest) are ascends numbered = absurd are
saved-rises number entry (item ∷ items) [] are ascends numbered = absurd are
saved-rises number entry (item ∷ items) (one ∷ rest) are ascends numbered = (
  λ other among.
      let from = from-of entry items rest are.1 other among in
      lower (number one) item.0.id (number other) from.0.0.id (numbered item one (inl refl) are.0) (numbered from.0 other (inr from.1) from.2) (ascends.0 from.0 from.1),
  saved-rises number entry items rest are.1 ascends.1 (λ i o among. numbered i o (inr among)),
)

module _ {A S M I : Type 0} (noted : A → I → Option LifeAt) (part_at : S → ℕ → Option M) (id_of : M → I) (by_id : (one other : M) → id_of one ≡ id_of other → one ≡ other) {D P : Type 0} (markers_of : D → List M) (load : (M → Option LifeAt) → D → Option P) (list : List (EntityData M D)) (before after : Known A S) (had has : ℕ → P)
    (loads : Loads noted part_at id_of markers_of load list before after had has) (nobody : (entity : LifeAt) → ¬ (IsAlive before.births entity)) (unknown : (id : I) → noted before.allocator id ≡ None) (apart : AreApart list) (own : NamesOwn markers_of list)
    (plain : (LifeAt → Option M) → P → Option D) (back : (bearers : M → Option LifeAt) (names : LifeAt → Option M) (given : D) (parts : P) → ((marker : M) (entity : LifeAt) → bearers marker ≡ Some entity → names entity ≡ Some marker) → load bearers given ≡ Some parts → plain names parts ≡ Some given)
    (low : (index : ℕ) → IsSome (living after.births index) → index < 16777216) where
  image : IsImage load list after.births (part_at after.markers.inner) (bearer_at noted part_at id_of after) had has
  image = loaded-image noted part_at id_of by_id markers_of load list before after had has loads nobody unknown apart own

  abbrev Again : LifeAt × M → Option (EntityData M D)
  Again = entry_of (plain (name_of after.births (part_at after.markers.inner))) has

  -- what is saved of an entity is the entry whose marker it bears
  numbered : (item : LifeAt × M) (one : EntityData M D) → IsAmong item (join_list (marked_at after.births (part_at after.markers.inner))) → Again item ≡ Some one → index_by (bearer_at noted part_at id_of after) one ≡ item.0.id
  numbered item one among is =
      let there = listed-is after.births (part_at after.markers.inner) item among in
      let owner = borne noted part_at id_of by_id markers_of load list before after had has loads nobody unknown apart own item.0 there.0 in
      let its = image-of noted part_at id_of by_id markers_of load list before after had has loads nobody unknown apart own owner.0 owner.1 item.0 owner.2 in
      let entry = entry-back load plain back list after.births (part_at after.markers.inner) (bearer_at noted part_at id_of after) had has image low owner.0 item.0 item.1 its there.1 in
      let same = same_Some owner.0 one (sym entry ∙ is) in
      index-is (bearer_at noted part_at id_of after) one item.0 (ap (λ (e : EntityData M D). bearer_at noted part_at id_of after e.marker) (sym same) ∙ owner.2)

  -- where no index waited to be used again, what is saved is the list
  pub saved-again : before.births.cache ≡ [] → saved plain has after.births (part_at after.markers.inner) ≡ Some list
  saved-again none =
      let items = saved-back load plain back list after.births (part_at after.markers.inner) (bearer_at noted part_at id_of after) had has image low in
      let known = nothing-known noted part_at id_of by_id before unknown in
      let rises = saved-rises (index_by (bearer_at noted part_at id_of after)) Again (join_list (marked_at after.births (part_at after.markers.inner))) items.again
      (are-of Again (join_list (marked_at after.births (part_at after.markers.inner))) items.again items.is)
      (list-ascends after.births (part_at after.markers.inner))
      numbered in
      let rises' = list-rises (bearer_at noted part_at id_of after) (IsAlive before.births) nobody list (λ entry among. let there = loads.loaded known apart entry among in (there.entity, there.bears)) (loads.in_order known apart none) in
      items.is ∙ ap Some (same-list (index_by (bearer_at noted part_at id_of after)) items.again list rises rises' items.from items.into)

entry-is : {M D P : Type 0} (save : P → Option D) (parts_at : ℕ → P) (item : LifeAt × M) (entry : EntityData M D) → entry_of save parts_at item ≡ Some entry → (entry.marker ≡ item.1) × (save (parts_at item.0.id) ≡ Some entry.components)
entry-is {M} {D} save parts_at item entry is = of-data (save (parts_at item.0.id)) is
  where
    of-data : (o : Option D) → option_map (λ components. record { marker = item.1; components = components }) o ≡ Some entry → (entry.marker ≡ item.1) × (o ≡ Some entry.components)
    of-data None is = cc
    of-data (Some components) is =
        let same = same_Some (record { marker = item.1; components = components }) entry is in
        (sym (ap (λ (e : EntityData M D). e.marker) same), ap (λ (e : EntityData M D). Some e.components) same)

module _ {M D P : Type 0} (plain : (LifeAt → Option M) → P → Option D) (markers_of : D → List M) (stands : (names : LifeAt → Option M) (parts : P) (given : D) (marker : M) → plain names parts ≡ Some given → IsAmong marker (markers_of given) → (entity : LifeAt) × (names entity ≡ Some marker))
    (parts_at : ℕ → P) (births : Births) (markers : ℕ → Option M) (low : (index : ℕ) → IsSome (living births index) → index < 16777216) where
  abbrev Entry : LifeAt × M → Option (EntityData M D)
  Entry = entry_of (plain (name_of births markers)) parts_at

  not-less : (n : ℕ) → n < n → ⊥
  not-less n less = omega arith

  apart-of : MarkersDiffer births markers → (items : List (LifeAt × M)) (list : List (EntityData M D)) → AreOf Entry items list → Ascends items → ((item : LifeAt × M) → IsAmong item items → IsAlive births item.0 × (markers item.0.id ≡ Some item.1)) → AreApart list
  apart-of differ [] [] are ascends live = tt
  apart-of differ [] (entry ∷ rest) are ascends live = absurd are
  apart-of differ (item ∷ items) [] are ascends live = absurd are
  apart-of differ (item ∷ items) (entry ∷ rest) are ascends live = (
    λ other among same.
        let from = from-of Entry items rest are.1 other among in
        let here = live item (inl refl) in
        let there = live from.0 (inr from.1) in
        let mark = (entry-is (plain (name_of births markers)) parts_at item entry are.0).0 in
        let mark' = (entry-is (plain (name_of births markers)) parts_at from.0 other from.2).0 in
        let one = differ item.0 from.0.0 item.1 here.0 there.0 here.1 (there.1 ∙ ap Some (sym mark' ∙ (sym same ∙ mark))) in
        not-less item.0.id (subst (λ (e : LifeAt). item.0.id < e.id) (sym one) (ascends.0 from.0 from.1)),
    apart-of differ items rest are.1 ascends.1 (λ i among. live i (inr among)),
  )

  module _ (list : List (EntityData M D)) (is : saved plain parts_at births markers ≡ Some list) where
    are : AreOf Entry (join_list (marked_at births markers)) list
    are = are-of Entry (join_list (marked_at births markers)) list is

    -- its markers differ
    pub saved-apart : MarkersDiffer births markers → AreApart list
    saved-apart differ =
        apart-of differ (join_list (marked_at births markers)) list are
        (values-ascend births markers (walk (λ index. is_some (marked_at births markers index))) (walk-rises (λ index. is_some (marked_at births markers index))))
        (listed-is births markers)

    -- its data names its own markers alone
    pub saved-own : NamesOwn markers_of list
    saved-own entry marker among names =
        let from = from-of Entry (join_list (marked_at births markers)) list are entry among in
        let data_is = (entry-is (plain (name_of births markers)) parts_at from.0 entry from.2).1 in
        let named = stands (name_of births markers) (parts_at from.0.0.id) entry.components marker data_is names in
        let lives = named-is births markers named.0 marker named.1 in
        let own = into-of Entry (join_list (marked_at births markers)) list are (named.0, marker) (is-listed births markers low named.0 marker lives.0 lives.1) in
        (own.0, own.1, (entry-is (plain (name_of births markers)) parts_at (named.0, marker) own.0 own.2).0)

    -- a living marked entity has its entry
    pub saved-has : (entity : LifeAt) (marker : M) (components : D) → IsAlive births entity → markers entity.id ≡ Some marker → plain (name_of births markers) (parts_at entity.id) ≡ Some components → IsAmong (record { marker = marker; components = components }) list
    saved-has entity marker components alive has given =
        let own = into-of Entry (join_list (marked_at births markers)) list are (entity, marker) (is-listed births markers low entity marker alive has) in
        let entry = entry-is (plain (name_of births markers)) parts_at (entity, marker) own.0 own.2 in
        let same = same_Some own.0.components components (sym entry.1 ∙ given) in
        subst (λ (e : EntityData M D). IsAmong e list) (λ i. record { marker = entry.0 i; components = same i }) own.1

  -- what is saved of an entity is its entry
  pub entry-among : (entity : LifeAt) (found : Option (EntityData M D)) → IfSome found (IsEntryOf plain parts_at births markers entity) → IfSome found (λ entry. (list : List (EntityData M D)) → saved plain parts_at births markers ≡ Some list → IsAmong entry list)
  entry-among entity None some = tt
  entry-among entity (Some entry) some = λ list whole.
      let lives = named-is births markers entity entry.marker some.marked in
      saved-has list whole entity entry.marker entry.components lives.0 lives.1 some.parts

none-mapped : {X Y : Type 0} (f : X → Y) (o : Option X) → option_map f o ≡ None → o ≡ None
none-mapped f None is = refl
none-mapped f (Some x) is = cc

-- nothing is saved where the parts of a living marked entity name one that has no marker
saved-none : {M D P : Type 0} (plain : (LifeAt → Option M) → P → Option D) (parts_at : ℕ → P) (births : Births) (markers : ℕ → Option M) → saved plain parts_at births markers ≡ None → (item : LifeAt × M) × IsAlive births item.0 × (markers item.0.id ≡ Some item.1) × (plain (name_of births markers) (parts_at item.0.id) ≡ None)
saved-none plain parts_at births markers is =
    let found = first-none (entry_of (plain (name_of births markers)) parts_at) (join_list (marked_at births markers)) is in
    let lives = listed-is births markers found.0 found.1 in
    (found.0, lives.0, lives.1, none-mapped _ (plain (name_of births markers) (parts_at found.0.0.id)) found.2)

at-head : {M : Type 0} (names : LifeAt → Option M) (first : LifeAt) (rest : List LifeAt) → ((entity : LifeAt) → IsAmong entity rest → IsSome (names entity)) ⊎ ((entity : LifeAt) × IsAmong entity rest × (names entity ≡ None)) → (o : Option M) → names first ≡ o
    → ((entity : LifeAt) → IsAmong entity (first ∷ rest) → IsSome (names entity)) ⊎ ((entity : LifeAt) × IsAmong entity (first ∷ rest) × (names entity ≡ None))
at-head names first rest more None is = inr (first, inl refl, is)
at-head names first rest (inr one) (Some m) is = inr (one.0, inr one.1, one.2)
at-head names first rest (inl all) (Some m) is = inl (λ entity among. elim among [ inl same ↦ subst (λ e. IsSome (names e)) same (ap is_some is) | inr later ↦ all entity later ])

-- all of a list are named, or one isn't
any-unnamed : {M : Type 0} (names : LifeAt → Option M) (list : List LifeAt) → ((entity : LifeAt) → IsAmong entity list → IsSome (names entity)) ⊎ ((entity : LifeAt) × IsAmong entity list × (names entity ≡ None))
any-unnamed names [] = inl (λ entity none. absurd none)
any-unnamed names (first ∷ rest) = at-head names first rest (any-unnamed names rest) (names first) refl

pub unmarked-named : {M D P : Type 0} (plain : (LifeAt → Option M) → P → Option D) (refers_to : P → List LifeAt) → ((names : LifeAt → Option M) (parts : P) → IsSome (plain names parts) ↔ ((entity : LifeAt) → IsAmong entity (refers_to parts) → IsSome (names entity)))
    → (parts_at : ℕ → P) (births : Births) (markers : ℕ → Option M) → saved plain parts_at births markers ≡ None → NamesUnmarked refers_to parts_at births markers
unmarked-named plain refers_to named parts_at births markers is =
    let found = saved-none plain parts_at births markers is in
    elim (any-unnamed (name_of births markers) (refers_to (parts_at found.0.0.id))) [
      | inl all ↦ absurd (false≢true (sym (ap is_some found.3) ∙ (named (name_of births markers) (parts_at found.0.0.id)).1 all))
      | inr one ↦ record { entity = found.0.0; alive = found.1; marked = ap is_some found.2; named = one.0; refers = one.1; unmarked = one.2 }
    ]
