-- Facts on walks over kinds.
use Rattle.std.proofs.Common.{◌≡◌, ℕ, Bool, cond, List, [], ◌∷◌, map, Some, None, is_some, refl, sym, ap, ◌∙◌}
use Rattle.std.specs.Borrow.{Bor}
use Rattle.std.specs.Option.{option_map_or}
use Rattle.shred_world.specs.ResourceIds.{id_of}
use Rattle.shred_world.specs.Worlds.{Slots, value_at, held_kinds, values_of_kinds}
use Rattle.std.specs.Prelude.{◌==◌}
use Rattle.std.specs.List.{list_any}

-- whether a kind is registered, by another name of the kind
pub listed_by : (kinds : List ℕ) {k kind : ℕ} {b : Bool} → k ≡ kind → list_any (λ x. x == k) kinds ≡ b → list_any (λ x. x == kind) kinds ≡ b
listed_by kinds e h = ap (λ n. list_any (λ x. x == n) kinds) (sym e) ∙ h

-- the values of the kinds that are held, each found under its kind
pub values-are-held : {V : Type 0} (w : Slots V) (kinds : List ℕ) → map (λ v. Some v) (values_of_kinds w kinds) ≡ map (λ kind. value_at w (id_of kind 0)) (held_kinds w kinds)
values-are-held w [] = refl
values-are-held {V} w (kind ∷ kinds) =
    let rest = values-are-held w kinds in
    elim (value_at w (id_of kind 0)) as (λ o. value_at w (id_of kind 0) ≡ o → map (λ v. Some v) (option_map_or (λ v. v ∷ values_of_kinds w kinds) o (values_of_kinds w kinds)) ≡ map (λ k. value_at w (id_of k 0)) (cond (is_some o) (kind ∷ held_kinds w kinds) (held_kinds w kinds))) [
      | None ↦ λ is. rest
      | Some v ↦ λ is. (λ j. sym is j ∷ rest j)
    ] refl

pub map-some : {V : Type 0} (refs : List (Bor V)) → map (λ v. Some v.now) refs ≡ map (λ v. Some v) (map (λ v. v.now) refs)
map-some [] = refl
map-some (v ∷ refs) = ap (λ rest. Some v.now ∷ rest) (map-some refs)
