-- Who falls with an entity of a world, and who dies with its id in the scene, are the same.
use Rattle.std.proofs.Common.{◌≡◌, filter, ℕ, Bool, true, false, ◌&&◌, ◌||◌, ◌⊎◌, inl, inr, ⊎_elim, cond, eqb, List, [], ◌∷◌, ◌++◌, map, Option, Some, None, is_some, refl, ap, sym, ◌∙◌, subst, All}
use Rattle.std.specs.Prelude.{option_and_then, option_map}
use Rattle.std.specs.List.{list_any, flat_map}
use Rattle.std.specs.Str.{bytes_eq}
use Rattle.std.proofs.lemmas.Slice.Eq.{bytes_eq-Decides}
use Rattle.std.proofs.lemmas.Bool.{false≢true, eqb-true, eq-eqb, and_parts, and_from, or_cases, or_left, or_right}
use Rattle.std.proofs.lemmas.List.Folds.{list_any-append, Any-from_list_any, list_any-from_Any}
use Rattle.std.proofs.lemmas.List.Elements.{All-head, All-tail}
use Rattle.shred_world.specs.Worlds.{Slots}
use Rattle.scene_world.specs.Lent.{StandApart}
use Rattle.specs_entity.specs.Births.{Births, IsAlive, is_named, living}
use Rattle.specs_entity.specs.Closures.{IsPairAt, IsPaired, IsClosure, IsClosed as IsClosedAt}
use Rattle.specs_entity.specs.Life.{Life, LifeAt}
use Rattle.scene_model.specs.Parts.{Name, is_among}
use Rattle.scene_model.specs.Scenes.{lives}
use Rattle.scene_model.specs.Deaths.{IsClosed, IsLeast, is_to, refers_to, holds_on}
use Rattle.scene_world.specs.Stored.{Stored, part_under}
use Rattle.scene_world.specs.Rolls.{Roll, IsRoll, is_life, reference, id_at, index_of, ids_in, part_in, ref_to}
use Rattle.scene_world.specs.Standing.{Sight, Kinds, roll_of, column_of, owning_in, plain_of}
use Rattle.scene_world.specs.Putting.{named_in}
use Rattle.scene_world.proofs.CallerLemmas.{life-is, living-lives, lives-index, id-at-index, index-of-id, same-life, ids-differ, id-marks}
use Rattle.scene_commands.specs.Gone.{AreHolders, names_some, refers_among}
use Rattle.scene_commands.specs.Acts.{seen_of, MayAct}
use Rattle.scene_commands.specs.Reaching.{stands_at, refers_at, AreReached}
use Rattle.scene_commands.specs.Owning.{pairs_under, pairs_of, pairs_among, PairAlike, Falls, AreDying}
use Rattle.scene_commands.proofs.LookLemmas.{under-is}
use Rattle.scene_commands.proofs.KeepLemmas.{marker-kept}

-- ---- lists

-- two tests that pass alike are one
alike : (a b : Bool) → (a ≡ true → b ≡ true) → (b ≡ true → a ≡ true) → a ≡ b
alike true b there back = sym (there refl)
alike false true there back = back refl
alike false false there back = refl

-- two tests that pass alike on each pass alike on some
any-same : {X : Type 0} (one other : X → Bool) → ((x : X) → one x ≡ other x) → (xs : List X) → list_any one xs ≡ list_any other xs
any-same one other same [] = refl
any-same one other same (x ∷ xs) = ap (λ b. b || list_any one xs) (same x) ∙ ap (λ b. other x || b) (any-same one other same xs)

-- a test on what was made of items
pub any-map : {X Y : Type 0} (test : Y → Bool) (f : X → Y) (xs : List X) → list_any test (map f xs) ≡ list_any (λ x. test (f x)) xs
any-map test f [] = refl
any-map test f (x ∷ xs) = ap (λ b. test (f x) || b) (any-map test f xs)

any-flat : {X Y : Type 0} (test : Y → Bool) (f : X → List Y) (xs : List X) → list_any test (flat_map f xs) ≡ list_any (λ x. list_any test (f x)) xs
any-flat test f [] = refl
any-flat test f (x ∷ xs) = list_any-append test (f x) (flat_map f xs) ∙ ap (λ b. list_any test (f x) || b) (any-flat test f xs)

-- one of a list passes where some do
some-passes : {X : Type 0} (test : X → Bool) (xs : List X) → list_any test xs ≡ true → (x : X) × (test x ≡ true)
some-passes test [] is = absurd (false≢true is)
some-passes test (x ∷ xs) is = elim (or_cases (test x) (list_any test xs) is) [ inl here ↦ (x, here) | inr later ↦ some-passes test xs later ]

-- a list of names has one that passes
name-passes : (test : Name → Bool) (names : List Name) → list_any test names ≡ true → (name : Name) × (is_among name names ≡ true) × (test name ≡ true)
name-passes test [] is = absurd (false≢true is)
name-passes test (name ∷ names) is = elim (or_cases (test name) (list_any test names) is) [
  | inl here ↦ (name, or_left (bytes_eq name name) (is_among name names) ((bytes_eq-Decides name name).1 refl), here)
  | inr later ↦ let found = name-passes test names later in (found.0, or_right (bytes_eq found.0 name) (is_among found.0 names) found.1, found.2)
]

-- two tests that pass alike on each name of a list pass alike on some
names-same : (one other : Name → Bool) (names : List Name) → ((name : Name) → is_among name names ≡ true → one name ≡ other name) → list_any one names ≡ list_any other names
names-same one other [] same = refl
names-same one other (name ∷ names) same =
    ap (λ b. b || list_any one names) (same name (or_left (bytes_eq name name) (is_among name names) ((bytes_eq-Decides name name).1 refl)))
    ∙ ap (λ b. other name || b) (names-same one other names (λ some known. same some (or_right (bytes_eq some name) (is_among some names) known)))

-- what is there
pub there-is : {X : Type 0} (o : Option X) → is_some o ≡ true → (x : X) × (o ≡ Some x)
there-is None e = absurd (false≢true e)
there-is (Some x) e = (x, refl)

there-lives : {X Y : Type 0} (o : Option X) (m : Option Y) (y : Y) → cond (is_some o) m None ≡ Some y → is_some o ≡ true
there-lives None m y e = cc
there-lives (Some x) m y e = refl

-- two numbers are equal both ways round
eqb-turned : (one other : ℕ) → eqb one other ≡ eqb other one
eqb-turned one other = alike (eqb one other) (eqb other one) (λ e. eq-eqb other one (sym (eqb-true one other e))) (λ e. eq-eqb one other (sym (eqb-true other one e)))

-- a set of ids, of those that may be there
abbrev of_id : (ℕ → Bool) → Option ℕ → Bool
of_id others None = false
of_id others (Some one) = others one

-- ---- pairs

module _ (births : Births) where
  abbrev pub is_pair_at : ℕ → ℕ → LifeAt × LifeAt → Bool
  is_pair_at holder target pair = stands_at births holder pair.0 && stands_at births target pair.1

  pub stands-alive : (index : ℕ) (entity : LifeAt) → stands_at births index entity ≡ true → IsAlive births entity × (entity.id ≡ index)
  stands-alive index entity is = let both = and_parts (is_life entity.generation (living births entity.id)) (eqb entity.id index) is in (by (living births entity.id) refl both.0, eqb-true entity.id index both.1)
    where
      by : (o : Option Life) → living births entity.id ≡ o → is_life entity.generation o ≡ true → IsAlive births entity
      by None e is = absurd (false≢true is)
      by (Some life) e is = e ∙ ap Some (life-is entity.generation life (living-lives births entity.id life e) is)

  pub alive-stands : (entity : LifeAt) → IsAlive births entity → stands_at births entity.id entity ≡ true
  alive-stands entity alive = and_from (is_life entity.generation (living births entity.id)) (eqb entity.id entity.id)
      (ap (is_life entity.generation) alive ∙ same-life entity.generation (living-lives births entity.id entity.generation alive)) (eq-eqb entity.id entity.id refl)

  -- a pair is one at two indices where the test says so
  pair-told : (holder target : ℕ) (pair : LifeAt × LifeAt) → IsPairAt births holder target pair → is_pair_at holder target pair ≡ true
  pair-told holder target pair is = and_from (stands_at births holder pair.0) (stands_at births target pair.1)
      (subst (λ index. stands_at births index pair.0 ≡ true) is.2 (alive-stands pair.0 is.0)) (subst (λ index. stands_at births index pair.1 ≡ true) is.3 (alive-stands pair.1 is.1))

  pair-is : (holder target : ℕ) (pair : LifeAt × LifeAt) → is_pair_at holder target pair ≡ true → IsPairAt births holder target pair
  pair-is holder target pair is =
      let both = and_parts (stands_at births holder pair.0) (stands_at births target pair.1) is in
      let one = stands-alive holder pair.0 both.0 in
      let other = stands-alive target pair.1 both.1 in
      (one.0, other.0, one.1, other.1)

  paired-told : (holder target : ℕ) (pairs : List (LifeAt × LifeAt)) → IsPaired births pairs holder target → list_any (is_pair_at holder target) pairs ≡ true
  paired-told holder target pairs some = list_any-from_Any (is_pair_at holder target) pairs (some.0, some.1, some.2, some.3, pair-told holder target some.1 some.4)

  pub paired-is : (holder target : ℕ) (pairs : List (LifeAt × LifeAt)) → list_any (is_pair_at holder target) pairs ≡ true → IsPaired births pairs holder target
  paired-is holder target pairs is = let some = Any-from_list_any (is_pair_at holder target) pairs is in (some.0, some.1, some.2, some.3, pair-is holder target some.1 some.4)

module _ {V : Type 0} (kinds : Kinds V) (w : Sight V) (names : List Name) where
  abbrev roll : Roll
  roll = roll_of kinds w

  -- what a test on pairs says of those of one entity
  of-entity : (holder target : ℕ) (entity : LifeAt) → list_any (is_pair_at roll.births holder target) (pairs_of kinds w names entity)
      ≡ list_any (λ kind. list_any (λ one. stands_at roll.births holder entity && stands_at roll.births target one) (named_in (column_of kinds w kind entity.id))) names
  of-entity holder target entity =
      any-flat (is_pair_at roll.births holder target) (pairs_under kinds w entity) names
      ∙ any-same (λ kind. list_any (is_pair_at roll.births holder target) (pairs_under kinds w entity kind))
      (λ kind. list_any (λ one. stands_at roll.births holder entity && stands_at roll.births target one) (named_in (column_of kinds w kind entity.id)))
      (λ kind. any-map (is_pair_at roll.births holder target) (λ one. (entity, one)) (named_in (column_of kinds w kind entity.id))) names

  within : (b : Bool) (index : ℕ) (named : List LifeAt) → list_any (λ one. b && stands_at roll.births index one) named ≡ true → (b ≡ true) × (list_any (stands_at roll.births index) named ≡ true)
  within true index named is = (refl, is)
  within false index [] is = absurd (false≢true is)
  within false index (one ∷ named) is = absurd (false≢true (within false index named is).0)

  -- a pair is of one who lives and refers to the other
  pub pair-refers : (entities : List LifeAt) (holder target : ℕ) → IsPaired roll.births (pairs_among kinds w names entities) holder target → (is_some (living roll.births holder) ≡ true) × (refers_at kinds w names holder target ≡ true)
  pair-refers entities holder target paired =
      let told = sym (any-flat (is_pair_at roll.births holder target) (pairs_of kinds w names) entities) ∙ paired-told roll.births holder target (pairs_among kinds w names entities) paired in
      let one = some-passes (λ entity. list_any (is_pair_at roll.births holder target) (pairs_of kinds w names entity)) entities told in
      by one.0 (sym (of-entity holder target one.0) ∙ one.1)
    where
      by : (entity : LifeAt) → list_any (λ kind. list_any (λ one. stands_at roll.births holder entity && stands_at roll.births target one) (named_in (column_of kinds w kind entity.id))) names ≡ true
          → (is_some (living roll.births holder) ≡ true) × (refers_at kinds w names holder target ≡ true)
      by entity is =
          let some = name-passes (λ kind. list_any (λ one. stands_at roll.births holder entity && stands_at roll.births target one) (named_in (column_of kinds w kind entity.id))) names is in
          let both = within (stands_at roll.births holder entity) target (named_in (column_of kinds w some.0 entity.id)) some.2 in
          let stands = stands-alive roll.births holder entity both.0 in (
            ap (λ index. is_some (living roll.births index)) (sym stands.1) ∙ ap is_some stands.0,
            any-name (λ kind. list_any (stands_at roll.births target) (named_in (column_of kinds w kind holder))) names some.0 some.1
                (ap (λ index. list_any (stands_at roll.births target) (named_in (column_of kinds w some.0 index))) (sym stands.1) ∙ both.1),
          )
        where
          any-name : (test : Name → Bool) (some : List Name) (name : Name) → is_among name some ≡ true → test name ≡ true → list_any test some ≡ true
          any-name test [] name known passes = absurd (false≢true known)
          any-name test (first ∷ some) name known passes = elim (or_cases (bytes_eq name first) (is_among name some) known) [
            | inl same ↦ or_left (test first) (list_any test some) (ap test (sym ((bytes_eq-Decides name first).0 same)) ∙ passes)
            | inr later ↦ or_right (test first) (list_any test some) (any-name test some name later passes)
          ]

  -- and who is listed and alive is paired with whom it refers to
  pub named-pair : (entities : List LifeAt) → All (IsAlive roll.births) entities → (holder target : ℕ) → is_named entities holder ≡ true → refers_at kinds w names holder target ≡ true → IsPaired roll.births (pairs_among kinds w names entities) holder target
  named-pair entities all_alive holder target named refers =
      paired-is roll.births holder target (pairs_among kinds w names entities)
      (any-flat (is_pair_at roll.births holder target) (pairs_of kinds w names) entities ∙ listed entities all_alive named)
    where
      at : (entity : LifeAt) → IsAlive roll.births entity → entity.id ≡ holder → list_any (is_pair_at roll.births holder target) (pairs_of kinds w names entity) ≡ true
      at entity alive same =
          of-entity holder target entity
          ∙ ap (λ b. list_any (λ kind. list_any (λ one. b && stands_at roll.births target one) (named_in (column_of kinds w kind entity.id))) names) (subst (λ index. stands_at roll.births index entity ≡ true) same (alive-stands roll.births entity alive))
          ∙ ap (λ index. refers_at kinds w names index target) same ∙ refers

      listed : (some : List LifeAt) → All (IsAlive roll.births) some → is_named some holder ≡ true → list_any (λ entity. list_any (is_pair_at roll.births holder target) (pairs_of kinds w names entity)) some ≡ true
      listed [] alive is = absurd (false≢true is)
      listed (entity ∷ some) alive is = elim (or_cases (eqb holder entity.id) (is_named some holder) is) [
        | inl here ↦ or_left (list_any (is_pair_at roll.births holder target) (pairs_of kinds w names entity)) (list_any (λ one. list_any (is_pair_at roll.births holder target) (pairs_of kinds w names one)) some)
            (at entity (All-head (IsAlive roll.births) entity some alive) (sym (eqb-true holder entity.id here)))
        | inr later ↦ or_right (list_any (is_pair_at roll.births holder target) (pairs_of kinds w names entity)) (list_any (λ one. list_any (is_pair_at roll.births holder target) (pairs_of kinds w names one)) some)
            (listed some (All-tail (IsAlive roll.births) entity some alive) later)
      ]

  -- who refers to one refers to somebody
  refers-some : (holder target : ℕ) → refers_at kinds w names holder target ≡ true → refers_among kinds w names holder ≡ true
  refers-some holder target = by names
    where
      one : (named : List LifeAt) → list_any (stands_at roll.births target) named ≡ true → names_some named ≡ true
      one [] is = is
      one (entity ∷ more) is = refl

      by : (some : List Name) → list_any (λ kind. list_any (stands_at roll.births target) (named_in (column_of kinds w kind holder))) some ≡ true → list_any (λ kind. names_some (named_in (column_of kinds w kind holder))) some ≡ true
      by [] is = is
      by (kind ∷ more) is =
          ⊎_elim (λ here. ap (λ b. b || list_any (λ other. names_some (named_in (column_of kinds w other holder))) more) (one (named_in (column_of kinds w kind holder)) here))
          (λ later. or_right (names_some (named_in (column_of kinds w kind holder))) (list_any (λ other. names_some (named_in (column_of kinds w other holder))) more) (by more later))
          (or_cases (list_any (stands_at roll.births target) (named_in (column_of kinds w kind holder))) (list_any (λ other. list_any (stands_at roll.births target) (named_in (column_of kinds w other holder))) more) is)

  -- where all that live and refer to somebody are listed, each that does is
  pub refers-pair : (entities : List LifeAt) → AreHolders kinds w names entities → (holder target : ℕ) (life : Life) → living roll.births holder ≡ Some life → refers_at kinds w names holder target ≡ true → IsPaired roll.births (pairs_among kinds w names entities) holder target
  refers-pair entities all holder target life lives_it refers = named-pair entities all.alive holder target
      (any-map (eqb holder) (λ one. one.id) entities ∙ any-same (λ one. eqb holder one.id) (λ one. eqb one.id holder) (λ one. eqb-turned holder one.id) entities ∙ all.all (record { id = holder; generation = life }) lives_it (refers-some holder target refers)) refers

  -- what the pairs of one who is alive say
  pub pairs-refer : (entity : LifeAt) → IsAlive roll.births entity → (target : ℕ) → list_any (is_pair_at roll.births entity.id target) (pairs_of kinds w names entity) ≡ refers_at kinds w names entity.id target
  pairs-refer entity alive target =
      of-entity entity.id target entity
      ∙ ap (λ b. list_any (λ kind. list_any (λ one. b && stands_at roll.births target one) (named_in (column_of kinds w kind entity.id))) names) (alive-stands roll.births entity alive)

  module _ (is : IsRoll roll) (known : (kind : Name) → is_among kind names ≡ true → is_among kind kinds.part_names ≡ true) where
    -- a reference is to an id where it is to who lives at the id's index
    ref-told : (target index : ℕ) → id_at roll index ≡ Some target → (entity : LifeAt) → is_to (λ other. eqb other target) (ref_to roll entity) ≡ stands_at roll.births index entity
    ref-told target index there entity = by (is_life entity.generation (living roll.births entity.id))
      where
        of : (o : Option ℕ) → id_at roll entity.id ≡ o → is_to (λ other. eqb other target) (reference o) ≡ eqb entity.id index
        of None e = alike false (eqb entity.id index) (λ f. absurd (false≢true f)) (λ same. absurd (none (sym e ∙ ap (id_at roll) (eqb-true entity.id index same) ∙ there)))
          where
            none : ◌≡◌ {A = Option ℕ} None (Some target) → ⊥
            none f = cc
        of (Some id) e = alike (eqb id target) (eqb entity.id index)
            (λ same. eq-eqb entity.id index (ids-differ roll is entity.id index target (e ∙ ap Some (eqb-true id target same)) there))
            (λ same. let both : Some id ≡ Some target = sym e ∙ ap (id_at roll) (eqb-true entity.id index same) ∙ there in let equal : id ≡ target = cc in eq-eqb id target equal)

        by : (b : Bool) → is_to (λ other. eqb other target) (reference (cond b (id_at roll entity.id) None)) ≡ (b && eqb entity.id index)
        by true = of (id_at roll entity.id) refl
        by false = refl

    -- so the parts of an id refer to another where those at its index refer to who lives at the other's
    refers-told : (holder target one other : ℕ) → id_at roll one ≡ Some holder → id_at roll other ≡ Some target → list_any (λ kind. refers_to target ((plain_of kinds w).part holder kind)) names ≡ refers_at kinds w names one other
    refers-told holder target one other at_one at_other = names-same (λ kind. refers_to target ((plain_of kinds w).part holder kind)) (λ kind. list_any (stands_at roll.births other) (named_in (column_of kinds w kind one))) names
        (λ kind among.
        ap (λ b. refers_to target (cond b (part_in roll (column_of kinds w kind) holder) None)) (known kind among)
        ∙ ap (λ o. refers_to target (option_and_then (λ index. option_map (part_under (ref_to roll)) (column_of kinds w kind index)) o)) (index-of-id roll is holder one at_one)
        ∙ stored (column_of kinds w kind one))
      where
        stored : (held : Option Stored) → refers_to target (option_map (part_under (ref_to roll)) held) ≡ list_any (stands_at roll.births other) (named_in held)
        stored None = refl
        stored (Some part) = any-map (is_to (λ id. eqb id target)) (ref_to roll) part.named ∙ any-same (λ entity. is_to (λ id. eqb id target) (ref_to roll entity)) (stands_at roll.births other) (ref-told target other at_other) part.named

    id-there : (index id : ℕ) → id_at roll index ≡ Some id → lives id (ids_in roll) ≡ true
    id-there index id at = lives-index roll id ∙ ap is_some (index-of-id roll is id index at)

    pub holds-told : (holder target one other : ℕ) → id_at roll one ≡ Some holder → id_at roll other ≡ Some target → holds_on names (plain_of kinds w) holder target ≡ refers_at kinds w names one other
    holds-told holder target one other at_one at_other =
        ap (λ b. b && (lives target (ids_in roll) && list_any (λ kind. refers_to target ((plain_of kinds w).part holder kind)) names)) (id-there one holder at_one)
        ∙ ap (λ b. b && list_any (λ kind. refers_to target ((plain_of kinds w).part holder kind)) names) (id-there other target at_other)
        ∙ refers-told holder target one other at_one at_other

    -- who is alive is marked with its id
    pub alive-at : (index : ℕ) (life : Life) → living roll.births index ≡ Some life → (id : ℕ) × (id_at roll index ≡ Some id)
    alive-at index life lives_it = let mark = is.marked index life lives_it in (mark.0, ap (λ l. cond (is_some l) (roll.marker index) None) lives_it ∙ mark.1.marker)

    -- an id among those with which some entities are marked is that of one of them
    pub id-found : (some : List LifeAt) (ids : List ℕ) → map (λ entity. roll.marker entity.id) some ≡ map (λ id. Some id) ids → All (IsAlive roll.births) some → (one : ℕ) → lives one ids ≡ true
        → (entity : LifeAt) × IsAlive roll.births entity × (is_named some entity.id ≡ true) × (roll.marker entity.id ≡ Some one)
    id-found [] [] marked alive one is_in = absurd (false≢true is_in)
    id-found [] (id ∷ ids) marked alive one is_in = cc
    id-found (entity ∷ some) [] marked alive one is_in = cc
    id-found (entity ∷ some) (id ∷ ids) marked alive one is_in =
        let first : roll.marker entity.id ≡ Some id = cc in
        let rest : map (λ other. roll.marker other.id) some ≡ map (λ other. Some other) ids = cc in
        by first (id-found some ids rest (All-tail (IsAlive roll.births) entity some alive) one) (or_cases (eqb id one) (lives one ids) is_in)
      where
        by : roll.marker entity.id ≡ Some id
            → (lives one ids ≡ true → (other : LifeAt) × IsAlive roll.births other × (is_named some other.id ≡ true) × (roll.marker other.id ≡ Some one)) → (eqb id one ≡ true) ⊎ (lives one ids ≡ true)
            → (other : LifeAt) × IsAlive roll.births other × (is_named (entity ∷ some) other.id ≡ true) × (roll.marker other.id ≡ Some one)
        by first later (inl here) = (entity, All-head (IsAlive roll.births) entity some alive, or_left (eqb entity.id entity.id) (is_named some entity.id) (eq-eqb entity.id entity.id refl), first ∙ ap Some (eqb-true id one here))
        by first later (inr there) = let found = later there in (found.0, found.1, or_right (eqb found.0.id entity.id) (is_named some found.0.id) found.2, found.3)

    -- and the id of each is among them
    pub named-found : (some : List LifeAt) (ids : List ℕ) → map (λ entity. roll.marker entity.id) some ≡ map (λ id. Some id) ids → (index one : ℕ) → is_named some index ≡ true → roll.marker index ≡ Some one → lives one ids ≡ true
    named-found [] ids marked index one named mark = absurd (false≢true named)
    named-found (entity ∷ some) [] marked index one named mark = cc
    named-found (entity ∷ some) (id ∷ ids) marked index one named mark =
        let first : roll.marker entity.id ≡ Some id = cc in
        let rest : map (λ other. roll.marker other.id) some ≡ map (λ other. Some other) ids = cc in
        elim (or_cases (eqb index entity.id) (is_named some index) named) [
          | inl here ↦ let both : Some id ≡ Some one = sym first ∙ ap roll.marker (sym (eqb-true index entity.id here)) ∙ mark in let same : id ≡ one = cc in or_left (eqb id one) (lives one ids) (eq-eqb id one same)
          | inr there ↦ or_right (eqb id one) (lives one ids) (named-found some ids rest index one there mark)
        ]

    pub marks-at : (entity : LifeAt) (one : ℕ) → IsAlive roll.births entity → roll.marker entity.id ≡ Some one → id_at roll entity.id ≡ Some one
    marks-at entity one alive mark = ap (λ l. cond (is_some l) (roll.marker entity.id) None) alive ∙ mark

    module _ (all entities : List LifeAt) (root : LifeAt) (id : ℕ) (ids : List ℕ)
        (complete : (holder target : ℕ) (life : Life) → living roll.births holder ≡ Some life → refers_at kinds w names holder target ≡ true → is_named entities target ≡ true → IsPaired roll.births (pairs_among kinds w names all) holder target)
        (alive_root : IsAlive roll.births root) (mark_root : roll.marker root.id ≡ Some id)
        (closure : IsClosure roll.births (root ∷ []) (pairs_among kinds w names all) entities) (marked : map (λ entity. roll.marker entity.id) entities ≡ map (λ one. Some one) ids) where
      -- who holds on to one of them is one of them
      holder-in : (holder target : ℕ) → holds_on names (plain_of kinds w) holder target ≡ true → (entity : LifeAt) → IsAlive roll.births entity → is_named entities entity.id ≡ true → roll.marker entity.id ≡ Some target → lives holder ids ≡ true
      holder-in holder target holds entity alive named mark =
          let living_one = (and_parts (lives holder (ids_in roll)) (lives target (ids_in roll) && list_any (λ kind. refers_to target ((plain_of kinds w).part holder kind)) names) holds).0 in
          let index = there-is (index_of roll holder) (sym (lives-index roll holder) ∙ living_one) in
          let at_index = id-at-index roll holder index.0 index.1 in
          let life = there-is (living roll.births index.0) (there-lives (living roll.births index.0) (roll.marker index.0) holder at_index) in
          let refers = sym (holds-told holder target index.0 entity.id at_index (marks-at entity target alive mark)) ∙ holds in
          named-found entities ids marked index.0 holder
          (closure.least.closed.holders_in index.0 entity.id (complete index.0 entity.id life.0 life.1 refers named) named)
          (id-marks roll holder index.0 at_index)

      -- a set of ids that is closed is one of indices that is
      closed-at : (others : ℕ → Bool) → IsClosed id (holds_on names (plain_of kinds w)) others → IsClosedAt (is_named (root ∷ [])) (IsPaired roll.births (pairs_among kinds w names all)) (λ index. of_id others (id_at roll index))
      closed-at others closed = record {
        roots_in = λ index named. elim (or_cases (eqb index root.id) false named) [
          | inl same ↦ ap (of_id others) (ap (id_at roll) (eqb-true index root.id same) ∙ marks-at root id alive_root mark_root) ∙ closed.first
          | inr never ↦ absurd (false≢true never)
        ];
        holders_in = λ holder target paired is_in. by holder target (pair-refers all holder target paired) (id_at roll target) refl is_in;
      }
        where
          by : (holder target : ℕ) → (is_some (living roll.births holder) ≡ true) × (refers_at kinds w names holder target ≡ true) → (o : Option ℕ) → id_at roll target ≡ o → of_id others o ≡ true → of_id others (id_at roll holder) ≡ true
          by holder target refers None e is_in = absurd (false≢true is_in)
          by holder target refers (Some other) e is_in =
              let life = there-is (living roll.births holder) refers.0 in
              let one = alive-at holder life.0 life.1 in
              ap (of_id others) one.1 ∙ closed.holders one.0 other (holds-told one.0 other holder target one.1 e ∙ refers.1) is_in

      -- the ids of those that fall with an entity are those that die with its id
      pub fallen-least : IsLeast id (holds_on names (plain_of kinds w)) (λ one. lives one ids)
      fallen-least = record {
        closed = record {
          first = named-found entities ids marked root.id id (closure.least.closed.roots_in root.id (or_left (eqb root.id root.id) false (eq-eqb root.id root.id refl))) mark_root;
          holders = λ holder target holds is_in. let found = id-found entities ids marked closure.alive target is_in in holder-in holder target holds found.0 found.1 found.2 found.3;
        };
        inside = λ others closed one is_in.
            let found = id-found entities ids marked closure.alive one is_in in
            sym (ap (of_id others) (marks-at found.0 one found.1 found.3))
            ∙ closure.least.least (λ index. of_id others (id_at roll index)) (closed-at others closed) found.0.id found.2;
      }

-- two functions that give the same of each give the same list
map-alike : {X Y : Type 0} (f g : X → Y) → ((x : X) → f x ≡ g x) → (xs : List X) → map f xs ≡ map g xs
map-alike f g same [] = refl
map-alike f g same (x ∷ xs) = ap (λ y. y ∷ map f xs) (same x) ∙ ap (λ l. g x ∷ l) (map-alike f g same xs)

-- two functions that give the same lists of each
flat-same : {X Y : Type 0} (f g : X → List Y) → ((x : X) → f x ≡ g x) → (xs : List X) → flat_map f xs ≡ flat_map g xs
flat-same f g same [] = refl
flat-same f g same (x ∷ xs) = ap (λ l. l ++ flat_map f xs) (same x) ∙ ap (λ l. g x ++ l) (flat-same f g same xs)

-- kinds that pass a test are among those that were tested
pub among-kept : (test : Name → Bool) (kind : Name) (names : List Name) → is_among kind (filter test names) ≡ true → is_among kind names ≡ true
among-kept test kind [] among = among
among-kept test kind (name ∷ names) among = by (test name) (among-kept test kind names) among
  where
    by : (b : Bool) → (is_among kind (filter test names) ≡ true → is_among kind names ≡ true) → is_among kind (cond b (name ∷ filter test names) (filter test names)) ≡ true → (bytes_eq kind name || is_among kind names) ≡ true
    by true later is = elim (or_cases (bytes_eq kind name) (is_among kind (filter test names)) is) [
      | inl here ↦ or_left (bytes_eq kind name) (is_among kind names) here
      | inr there ↦ or_right (bytes_eq kind name) (is_among kind names) (later there)
    ]
    by false later is = or_right (bytes_eq kind name) (is_among kind names) (later is)

-- kinds that have the same pairs refer to the same, where one is alive
pub refers-alike : {V : Type 0} (kinds : Kinds V) (w : Sight V) (names others : List Name) → PairAlike kinds w names others → (entity : LifeAt) → IsAlive (roll_of kinds w).births entity → (target : ℕ)
    → refers_at kinds w names entity.id target ≡ refers_at kinds w others entity.id target
refers-alike kinds w names others like entity alive target =
    sym (pairs-refer kinds w names entity alive target) ∙ ap (list_any (is_pair_at (roll_of kinds w).births entity.id target)) (like entity)
    ∙ pairs-refer kinds w others entity alive target

-- those that fall with an entity are among those that were reached from it
fallen-reached : {V : Type 0} (kinds : Kinds V) (w : Sight V) (names : List Name) (root : LifeAt) (reached entities : List LifeAt) → AreReached kinds w names root reached
    → IsClosure (roll_of kinds w).births (root ∷ []) (pairs_among kinds w names reached) entities → (index : ℕ) → is_named entities index ≡ true → is_named reached index ≡ true
fallen-reached kinds w names root reached entities are closure = closure.least.least (is_named reached) (record {
  roots_in = λ index named. elim (or_cases (eqb index root.id) false named) [
    | inl same ↦ ap (is_named reached) (eqb-true index root.id same) ∙ are.first
    | inr never ↦ absurd (false≢true never)
  ];
  holders_in = λ holder target paired is_in. let refers = pair-refers kinds w names reached holder target paired in are.closed target is_in holder refers.0 refers.1;
})

-- the ids of those that fall with an entity, as they are read once the entities are back, are dying
pub fallen-dying : {V : Type 0} (kinds : Kinds V) → StandApart kinds → (w mid : Slots V) → MayAct kinds w → (names : List Name) → PairAlike kinds (seen_of w) names (owning_in kinds)
    → (root : LifeAt) (reached : List LifeAt) (pairs lent : List (LifeAt × LifeAt)) (entities read : List LifeAt) (ids : List ℕ)
    → AreReached kinds (seen_of w) names root reached → pairs ≡ pairs_among kinds (seen_of w) names reached → lent ≡ pairs → Falls kinds root lent (seen_of w) (seen_of mid) entities → read ≡ entities
    → map (λ entity. (roll_of kinds (seen_of mid)).marker entity.id) read ≡ map (λ id. Some id) ids
    → AreDying kinds root (seen_of w) (seen_of mid) ids
fallen-dying kinds apart w mid may names like root reached pairs lent entities read ids are paired lent_are falls read_are marked = record {
  least = λ id under.
      fallen-least kinds (seen_of w) (owning_in kinds) may.roll (λ kind among. among-kept kinds.owning kind kinds.part_names among) reached entities root id ids complete
      (All-head (IsAlive (roll_of kinds (seen_of w)).births) root [] falls.closure.rooted)
      (under-is (roll_of kinds (seen_of w)) id root under).marked
      (subst (λ some. IsClosure (roll_of kinds (seen_of w)).births (root ∷ []) some entities) (flat-same (pairs_of kinds (seen_of w) names) (pairs_of kinds (seen_of w) (owning_in kinds)) like reached) closure)
      (map-alike (λ entity. (roll_of kinds (seen_of w)).marker entity.id) (λ entity. (roll_of kinds (seen_of mid)).marker entity.id) (λ entity. sym (marker-kept kinds apart w mid falls.keeps entity.id)) entities
      ∙ ap (map (λ entity. (roll_of kinds (seen_of mid)).marker entity.id)) (sym read_are) ∙ marked);
  keeps = falls.keeps;
}
  where
    closure : IsClosure (roll_of kinds (seen_of w)).births (root ∷ []) (pairs_among kinds (seen_of w) names reached) entities
    closure = subst (λ some. IsClosure (roll_of kinds (seen_of w)).births (root ∷ []) some entities) (lent_are ∙ paired) falls.closure

    complete : (holder target : ℕ) (life : Life) → living (roll_of kinds (seen_of w)).births holder ≡ Some life → refers_at kinds (seen_of w) (owning_in kinds) holder target ≡ true → is_named entities target ≡ true
        → IsPaired (roll_of kinds (seen_of w)).births (pairs_among kinds (seen_of w) (owning_in kinds) reached) holder target
    complete holder target life lives_it refers named =
        let one : LifeAt = record { id = holder; generation = life } in
        named-pair kinds (seen_of w) (owning_in kinds) reached are.alive holder target
        (are.closed target (fallen-reached kinds (seen_of w) names root reached entities are closure target named) holder (ap is_some lives_it)
        (refers-alike kinds (seen_of w) names (owning_in kinds) like one lives_it target ∙ refers))
        refers

-- who holds on to whom in the scene, at their indices in the world
pub record IsHeldAt {V : Type 0} (kinds : Kinds V) (w : Sight V) (holder target : ℕ) : Type 0 where
  pub one : ℕ
  pub other : ℕ
  pub life : Life
  pub at_one : id_at (roll_of kinds w) one ≡ Some holder
  pub at_other : id_at (roll_of kinds w) other ≡ Some target
  pub lives_it : living (roll_of kinds w).births one ≡ Some life
  pub refers : refers_at kinds w (owning_in kinds) one other ≡ true

pub held-at : {V : Type 0} (kinds : Kinds V) (w : Slots V) → MayAct kinds w → (holder target : ℕ) → holds_on (owning_in kinds) (plain_of kinds (seen_of w)) holder target ≡ true → IsHeldAt kinds (seen_of w) holder target
held-at kinds w may holder target holds =
    let roll : Roll = roll_of kinds (seen_of w) in
    let rest = lives target (ids_in roll) && list_any (λ kind. refers_to target ((plain_of kinds (seen_of w)).part holder kind)) (owning_in kinds) in
    let first = and_parts (lives holder (ids_in roll)) rest holds in
    let second = and_parts (lives target (ids_in roll)) (list_any (λ kind. refers_to target ((plain_of kinds (seen_of w)).part holder kind)) (owning_in kinds)) first.1 in
    let at = there-is (index_of roll holder) (sym (lives-index roll holder) ∙ first.0) in
    let at_target = there-is (index_of roll target) (sym (lives-index roll target) ∙ second.0) in
    let at_index = id-at-index roll holder at.0 at.1 in
    let at_other = id-at-index roll target at_target.0 at_target.1 in
    let life = there-is (living roll.births at.0) (there-lives (living roll.births at.0) (roll.marker at.0) holder at_index) in
    record {
      one = at.0;
      other = at_target.0;
      life = life.0;
      at_one = at_index;
      at_other = at_other;
      lives_it = life.1;
      refers = sym (holds-told kinds (seen_of w) (owning_in kinds) may.roll (λ kind among. among-kept kinds.owning kind kinds.part_names among) holder target at.0 at_target.0 at_index at_other) ∙ holds;
    }

-- where no entity has a pair, an id dies alone
pub nobody-dies : {V : Type 0} (kinds : Kinds V) (w : Slots V) → MayAct kinds w → ((entity : LifeAt) → pairs_of kinds (seen_of w) (owning_in kinds) entity ≡ []) → (id : ℕ) → IsLeast id (holds_on (owning_in kinds) (plain_of kinds (seen_of w))) (λ one. lives one (id ∷ []))
nobody-dies kinds w may none id = record {
  closed = record {
    first = or_left (eqb id id) false (eq-eqb id id refl);
    holders = λ holder target holds is_in. absurd (nobody holder target holds);
  };
  inside = λ others closed one is_in. elim (or_cases (eqb id one) false is_in) [
    | inl same ↦ subst (λ x. others x ≡ true) (eqb-true id one same) closed.first
    | inr never ↦ absurd (false≢true never)
  ];
}
  where
    nobody : (holder target : ℕ) → holds_on (owning_in kinds) (plain_of kinds (seen_of w)) holder target ≡ true → ⊥
    nobody holder target holds =
        let held = held-at kinds w may holder target holds in
        let entity : LifeAt = record { id = held.one; generation = held.life } in
        false≢true (ap (list_any (is_pair_at (roll_of kinds (seen_of w)).births held.one held.other)) (sym (none entity)) ∙ pairs-refer kinds (seen_of w) (owning_in kinds) entity held.lives_it held.other ∙ held.refers)
