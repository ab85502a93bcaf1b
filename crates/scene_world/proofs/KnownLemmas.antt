-- Who is known in what is held.
use Rattle.std.proofs.Common.{◌≡◌, ◌<◌, ℕ, Bool, true, false, cond, eqb, ◌||◌, ◌&&◌, List, [], ◌∷◌, Option, Some, None, is_some, refl, ap, sym, ◌∙◌}
use Rattle.std.specs.Prelude.{IsSome, option_and_then}
use Rattle.std.specs.List.{list_any, filter, filter_map, cons_option}
use Rattle.std.proofs.lemmas.List.Kept.{AllPairs-filter}
use Rattle.std.specs.FinMap as slots
use Rattle.std.specs.FinSet as set
use Rattle.std.specs.Ordering.{nat_cmp}
use Rattle.std.specs.Option.{option_copied, unwrap_or}
use Rattle.std.proofs.lemmas.Bool.{false≢true, eqb-true, eq-eqb, or_right}
use denote.Ref.{Bor}
use Rattle.shred_world.specs.declared.resource_id.ResourceId.{ResourceId}
use Rattle.shred_world.specs.Bundles.{Holding, readable}
use Rattle.scene_model.specs.Ids.{ascending}
use Rattle.scene_model.specs.Scenes.{lives, IdsAscend}
use Rattle.scene_model.proofs.CallerLemmas.{lives-ascending, in_order-ascends, same-ids, lives-kept}
use Rattle.specs_entity.specs.Births.{Births, living, living_of, none_born}
use Rattle.specs_entity.specs.Life.{Life, LifeAt}
use Rattle.specs_markers.specs.Simple.{Noting, noted_under, none_noted}
use Rattle.scene_world.specs.Rolls.{Roll, is_id, is_life, index_of, ids_in}
use Rattle.scene_world.proofs.RollLemmas.{is-id, id-marks, id-at-index, lives-index, ids-ascend}
use Rattle.scene_world.specs.Known.{known_at}
use Rattle.hibitset_sets.specs.BitSetEq.{both_ways}

-- what was lent of what is held is what can be read there
module _ {V : Type 0} (w : Holding V) (id asked : ResourceId) (at_id : asked ≡ id) (lent : Option (Bor V)) (copied : option_copied lent ≡ readable (w asked)) where
  pub lent-none : lent ≡ None → readable (w id) ≡ None
  lent-none is = ap (λ at. readable (w at)) (sym at_id) ∙ sym copied ∙ ap option_copied is

  pub lent-some : (value : Bor V) → lent ≡ Some value → readable (w id) ≡ Some value.now
  lent-some value is = ap (λ at. readable (w at)) (sym at_id) ∙ sym copied ∙ ap option_copied is

-- of ids that ascend, those among which all are that give something give what all give
given-among : {X : Type 0} (f : ℕ → Option X) (xs ys : List ℕ) → IdsAscend xs → IdsAscend ys → ((id : ℕ) → lives id xs ≡ true → lives id ys ≡ true) → ((id : ℕ) → lives id ys ≡ true → IsSome (f id) → lives id xs ≡ true)
    → filter_map f xs ≡ filter_map f ys
given-among f xs ys up other within gives = ap (filter_map f) same ∙ kept ys (λ id e. e)
  where
    test : ℕ → Bool
    test id = lives id xs

    same : xs ≡ filter test ys
    same = same-ids xs (filter test ys) up (AllPairs-filter (λ one other. one < other) test ys other) (λ id. both_ways (lives id xs) (lives id (filter test ys)) (λ e. lives-kept test id ys ∙ ap (λ b. b && test id) (within id e) ∙ e) (λ e. and-right (lives id ys) (test id) (sym (lives-kept test id ys) ∙ e)))
      where
        and-right : (a b : Bool) → (a && b) ≡ true → b ≡ true
        and-right true b e = e
        and-right false b e = absurd (false≢true e)

    kept : (some : List ℕ) → ((id : ℕ) → lives id some ≡ true → lives id ys ≡ true) → filter_map f (filter test some) ≡ filter_map f some
    kept [] known = refl
    kept (id ∷ some) known =
        by (test id) refl (f id) refl (known id (ap (λ b. b || lives id some) (eq-eqb id id refl))) (kept some (λ one e. known one (or_right (eqb id one) (lives one some) e)))
      where
        by : (b : Bool) → test id ≡ b → (o : Option _) → f id ≡ o → lives id ys ≡ true → filter_map f (filter test some) ≡ filter_map f some → filter_map f (cond (test id) (id ∷ filter test some) (filter test some)) ≡ cons_option (f id) (filter_map f some)
        by true is o at on later = ap (λ b. filter_map f (cond b (id ∷ filter test some) (filter test some))) is ∙ ap (cons_option (f id)) later
        by false is None at on later = ap (λ b. filter_map f (cond b (id ∷ filter test some) (filter test some))) is ∙ later ∙ ap (λ o. cons_option o (filter_map f some)) (sym at)
        by false is (Some x) at on later = absurd (false≢true (sym is ∙ gives id on (ap is_some at)))

module _ (roll : Roll) where
  -- the id that is known at an index has that index, and is known there
  pub known-index : (index id : ℕ) → known_at roll index ≡ Some id → index_of roll id ≡ Some index
  known-index index id e = by (roll.marker index) e
    where
      at : (m : ℕ) (b : Bool) → is_id index (index_of roll m) ≡ b → cond b (Some m) None ≡ Some id → index_of roll id ≡ Some index
      at m true is f = let same : m ≡ id = cc in ap (index_of roll) (sym same) ∙ is-id index (index_of roll m) is
      at m false is f = cc

      by : (o : Option ℕ) → option_and_then (λ m. cond (is_id index (index_of roll m)) (Some m) None) o ≡ Some id → index_of roll id ≡ Some index
      by None f = cc
      by (Some m) f = at m (is_id index (index_of roll m)) refl f

  pub index-known : (index id : ℕ) → index_of roll id ≡ Some index → known_at roll index ≡ Some id
  index-known index id e =
      ap (option_and_then (λ m. cond (is_id index (index_of roll m)) (Some m) None)) (id-marks roll id index (id-at-index roll id index e))
      ∙ ap (λ b. cond b (Some id) None) (ap (is_id index) e ∙ eq-eqb index index refl)

  abbrev found : List ℕ → List ℕ
  found indices = filter_map (known_at roll) indices

  -- an id that is found is known
  found-lives : (id : ℕ) (indices : List ℕ) → lives id (found indices) ≡ true → is_some (index_of roll id) ≡ true
  found-lives id [] e = absurd (false≢true e)
  found-lives id (index ∷ indices) e = by (found-lives id indices) (known_at roll index) refl e
    where
      at : (lives id (found indices) ≡ true → is_some (index_of roll id) ≡ true) → (m : ℕ) → known_at roll index ≡ Some m → (b : Bool) → eqb m id ≡ b → (b || lives id (found indices)) ≡ true → is_some (index_of roll id) ≡ true
      at later m known true is f = ap (λ one. is_some (index_of roll one)) (sym (eqb-true m id is)) ∙ ap is_some (known-index index m known)
      at later m known false is f = later f

      by : (lives id (found indices) ≡ true → is_some (index_of roll id) ≡ true) → (o : Option ℕ) → known_at roll index ≡ o → lives id (cons_option o (found indices)) ≡ true → is_some (index_of roll id) ≡ true
      by later None known f = later f
      by later (Some m) known f = at later m known (eqb m id) refl f

  -- an id that is known at one of them is found
  pub lives-found : (id index : ℕ) → known_at roll index ≡ Some id → (indices : List ℕ) → list_any (eqb index) indices ≡ true → lives id (found indices) ≡ true
  lives-found id index known [] e = absurd (false≢true e)
  lives-found id index known (first ∷ indices) e = by (eqb index first) refl e (lives-found id index known indices)
    where
      behind : (o : Option ℕ) → lives id (found indices) ≡ true → lives id (cons_option o (found indices)) ≡ true
      behind None f = f
      behind (Some m) f = or_right (eqb m id) (lives id (found indices)) f

      by : (b : Bool) → eqb index first ≡ b → (b || list_any (eqb index) indices) ≡ true → (list_any (eqb index) indices ≡ true → lives id (found indices) ≡ true)
          → lives id (cons_option (known_at roll first) (found indices)) ≡ true
      by true is f later =
          ap (λ o. lives id (cons_option o (found indices))) (ap (known_at roll) (sym (eqb-true index first is)) ∙ known)
          ∙ ap (λ b. b || lives id (found indices)) (eq-eqb id id refl)
      by false is f later = behind (known_at roll first) (later f)

  -- where each id that gives something stands at one of some indices, the ids that are known there give all that those who live give
  pub found-give : {X : Type 0} (f : ℕ → Option X) (indices : List ℕ) → ((id index : ℕ) → index_of roll id ≡ Some index → IsSome (f id) → list_any (eqb index) indices ≡ true)
      → filter_map f (ascending (found indices)) ≡ filter_map f (ids_in roll)
  found-give f indices gives =
      given-among f (ascending (found indices)) (ids_in roll) (in_order-ascends (found indices)) (ids-ascend roll)
      (λ id e. lives-index roll id ∙ found-lives id indices (sym (lives-ascending id (found indices)) ∙ e))
      (λ id e some. by id (index_of roll id) refl (sym (lives-index roll id) ∙ e) some)
    where
      by : (id : ℕ) (o : Option ℕ) → index_of roll id ≡ o → is_some o ≡ true → IsSome (f id) → lives id (ascending (found indices)) ≡ true
      by id None at there some = absurd (false≢true there)
      by id (Some index) at there some = lives-ascending id (found indices) ∙ lives-found id index (index-known index id at) indices (gives id index at some)

-- nothing is noted where there is no allocator
pub none-noted : {V : Type 0} (noting : V → Option Noting) (held : Option V) (id : ℕ) → option_and_then noting held ≡ None → noted_under (unwrap_or (option_and_then noting held) none_noted) id ≡ None
none-noted noting held id none = ap (λ o. noted_under (unwrap_or o none_noted) id) none ∙ slots.get-empty nat_cmp id

-- nobody lives where there are no entities
pub none-lives : {V : Type 0} (births : V → Option Births) (held : Option V) (entity : LifeAt) → option_and_then births held ≡ None
    → is_life entity.generation (living (unwrap_or (option_and_then births held) (none_born 0 0)) entity.id) ≡ false
none-lives births held entity none = ap (λ o. is_life entity.generation (living (unwrap_or o (none_born 0 0)) entity.id)) none ∙ nobody entity.generation entity.id
  where
    nobody : (life : Life) (index : ℕ) → is_life life (living (none_born 0 0) index) ≡ false
    nobody life index = ap (λ b. is_life life (living_of b None)) (set.contains-empty nat_cmp index)
