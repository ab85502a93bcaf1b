-- Changes in turn, as a walk for writing makes them.
use Rattle.std.proofs.Common.{◌≡◌, ℕ, Bool, true, false, ◌&&◌, ◌||◌, cond, List, [], ◌∷◌, Option, Some, None, MatchOption, IfSome, IfNone, is_some, unwrap_or, length, ◌≤◌, ◌<◌, arith, refl, sym, ap, ◌∙◌, subst}
use Rattle.std.specs.Prelude.{◌==◌}
use Rattle.std.specs.FinMap as map
use Rattle.shred_world.specs.declared.resource_id.ResourceId.{ResourceId}
use Rattle.shred_world.specs.ResourceIds.{id_of}
use Rattle.shred_world.specs.Worlds.{Slots, value_at, from_first_held, ChangesInTurn, is_of_kinds}
use Rattle.shred_world.proofs.IdLemmas.{ids_total, same_id-fields}

pub match-some : {V : Type 0} (A : Type 0) (B : V → Type 0) (o : Option V) (v : V) → o ≡ Some v → B v → MatchOption o A B
match-some A B o v is b = subst (λ o. MatchOption o A B) (sym is) b

-- the kind on which a walk stands comes first
pub stands-first : (held : List ℕ) (current : Option ℕ) (rest : List ℕ) → is_some current ≡ true → IfSome current (λ kind. held ≡ kind ∷ rest) → held ≡ unwrap_or current 0 ∷ rest
stands-first held None rest e first = cc
stands-first held (Some kind) rest e first = first

pub stands-nowhere : (held : List ℕ) (current : Option ℕ) → is_some current ≡ false → IfNone current (held ≡ []) → held ≡ []
stands-nowhere held None e end = end
stands-nowhere held (Some kind) e end = cc

not-head : (d k r : Bool) → (d && (k || r)) ≡ false → (k && d) ≡ false
not-head true true r e = cc
not-head true false r e = refl
not-head false true r e = refl
not-head false false r e = refl

not-rest : (d k r : Bool) → (d && (k || r)) ≡ false → (d && r) ≡ false
not-rest true true r e = cc
not-rest true false r e = e
not-rest false k r e = refl

module _ {V : Type 0} (change : V → V → Type 0) where
  -- the kinds up to the first that is held are passed over
  turns-first : (w : Slots V) (kinds : List ℕ) (w' : Slots V) → ChangesInTurn change w (from_first_held w kinds) w' → ChangesInTurn change w kinds w'
  turns-first w [] w' turns = turns
  turns-first w (kind ∷ kinds) w' turns =
      elim (value_at w (id_of kind 0)) as (λ o. value_at w (id_of kind 0) ≡ o → ChangesInTurn change w (cond (is_some o) (kind ∷ kinds) (from_first_held w kinds)) w' → MatchOption o (ChangesInTurn change w kinds w') (λ was. (now : V) × change was now × ChangesInTurn change (map.insert w (id_of kind 0) (Some now)) kinds w')) [
        | None ↦ λ is later. turns-first w kinds w' later
        | Some v ↦ λ is here. subst (λ o. MatchOption o (ChangesInTurn change w kinds w') (λ was. (now : V) × change was now × ChangesInTurn change (map.insert w (id_of kind 0) (Some now)) kinds w')) is here
      ] refl turns

  -- the change of one value, and then the rest
  one-turn : (w w1 : Slots V) (rest : List ℕ) (kind : ℕ) (w' : Slots V) (o : Option V) → MatchOption o (w1 ≡ w) (λ was. (now : V) × change was now × (w1 ≡ map.insert w (id_of kind 0) (Some now))) → ChangesInTurn change w1 rest w'
      → MatchOption o (ChangesInTurn change w rest w') (λ was. (now : V) × change was now × ChangesInTurn change (map.insert w (id_of kind 0) (Some now)) rest w')
  one-turn w w1 rest kind w' None same turns = subst (λ x. ChangesInTurn change x rest w') same turns
  one-turn w w1 rest kind w' (Some was) (now, changed, put) turns = (now, changed, subst (λ x. ChangesInTurn change x rest w') put turns)

  pub turns-step : (w w1 : Slots V) (kinds rest : List ℕ) (kind : ℕ) (w' : Slots V) → from_first_held w kinds ≡ kind ∷ rest → MatchOption (value_at w (id_of kind 0)) (w1 ≡ w) (λ was. (now : V) × change was now × (w1 ≡ map.insert w (id_of kind 0) (Some now)))
      → ChangesInTurn change w1 rest w' → ChangesInTurn change w kinds w'
  turns-step w w1 kinds rest kind w' found one turns =
      turns-first w kinds w' (subst (λ ks. ChangesInTurn change w ks w') (sym found) (one-turn w w1 rest kind w' (value_at w (id_of kind 0)) one turns))

  pub turns-end : (w : Slots V) (kinds : List ℕ) → from_first_held w kinds ≡ [] → ChangesInTurn change w kinds w
  turns-end w kinds end = turns-first w kinds w (subst (λ ks. ChangesInTurn change w ks w) (sym end) refl)

  -- an id that isn't one of these kinds' is as it was
  pub turns-others : (w : Slots V) (kinds : List ℕ) (w' : Slots V) → ChangesInTurn change w kinds w' → (id : ResourceId) → is_of_kinds kinds id ≡ false → map.get w' id ≡ map.get w id
  turns-others w [] w' turns id other = ap (λ m. map.get m id) turns
  turns-others w (kind ∷ kinds) w' turns id other =
      let later = not-rest (id.dynamic == 0) (id.kind == kind) _ other in
      let apart = not-head (id.dynamic == 0) (id.kind == kind) _ other in
      elim (value_at w (id_of kind 0)) as (λ o. MatchOption o (ChangesInTurn change w kinds w') (λ was. (now : V) × change was now × ChangesInTurn change (map.insert w (id_of kind 0) (Some now)) kinds w') → map.get w' id ≡ map.get w id) [
        | None ↦ λ rest. turns-others w kinds w' rest id later
        | Some was ↦ λ (now, changed, rest).
            turns-others (map.insert w (id_of kind 0) (Some now)) kinds w' rest id later
            ∙ map.get-insert ids_total w (id_of kind 0) (Some now) id
            ∙ ap (λ b. cond b (Some (Some now)) (map.get w id)) (same_id-fields id (id_of kind 0) ∙ apart)
      ] turns

  held-le : (w : Slots V) (kinds : List ℕ) → length (from_first_held w kinds) ≤ length kinds
  held-le w [] = omega arith
  held-le w (kind ∷ kinds) = let le = held-le w kinds in elim (is_some (value_at w (id_of kind 0))) as (λ b. length (cond b (kind ∷ kinds) (from_first_held w kinds)) ≤ length (kind ∷ kinds)) [ true ↦ omega arith | false ↦ omega arith ]

  pub held-shorter : (w : Slots V) (kinds rest : List ℕ) (kind : ℕ) → from_first_held w kinds ≡ kind ∷ rest → length rest < length kinds
  held-shorter w kinds rest kind found = let le = held-le w kinds in let long = ap length found in omega arith
