-- Lemmas on what is read of the items of a list, each behind its number.
use Rattle.std.proofs.Common.{◌≡◌, ◌<◌, ◌+◌, ℕ, List, [], ◌∷◌, ◌++◌, append-nil, take, get_or, map, length, Option, None, Some, refl, ap, sym, ◌∙◌}
use Rattle.std.specs.Prelude.{option_map}
use Rattle.std.specs.List.{cons_option}
use Rattle.std.proofs.lemmas.List.{take_more}
use Rattle.std.proofs.lemmas.List.Elements.{filter_map-append}
use Rattle.scene_world.specs.Putting.{each_there}

module _ {X Y : Type 0} where
  each-append : (read : X → Option Y) (items others : List (ℕ × X)) → each_there read (items ++ others) ≡ each_there read items ++ each_there read others
  each-append read items others = filter_map-append (λ item. option_map (λ y. (item.0, y)) (read item.1)) items others

  -- what is read alike of each is alike
  pub each-same : (read other : X → Option Y) → ((x : X) → read x ≡ other x) → (items : List (ℕ × X)) → each_there read items ≡ each_there other items
  each-same read other same [] = refl
  each-same read other same (item ∷ items) =
      ap (λ o. cons_option (option_map (λ y. (item.0, y)) o) (each_there read items)) (same item.1) ∙ ap (cons_option (option_map (λ y. (item.0, y)) (other item.1))) (each-same read other same items)

  -- where nothing is read of any, there is nothing
  pub each-none : (read : X → Option Y) → ((x : X) → read x ≡ None) → (items : List (ℕ × X)) → each_there read items ≡ []
  each-none read none [] = refl
  each-none read none (item ∷ items) = ap (λ o. cons_option (option_map (λ y. (item.0, y)) o) (each_there read items)) (none item.1) ∙ each-none read none items

  -- what is made of what is read
  pub each-mapped : {Z : Type 0} (f : Y → Z) (read : X → Option Y) (items : List (ℕ × X)) → each_there (λ x. option_map f (read x)) items ≡ map (λ one. (one.0, f one.1)) (each_there read items)
  each-mapped f read [] = refl
  each-mapped f read (item ∷ items) = by (each-mapped f read items) (read item.1)
    where
      by : each_there (λ x. option_map f (read x)) items ≡ map (λ one. (one.0, f one.1)) (each_there read items) → (o : Option Y)
          → cons_option (option_map (λ y. (item.0, y)) (option_map f o)) (each_there (λ x. option_map f (read x)) items) ≡ map (λ one. (one.0, f one.1)) (cons_option (option_map (λ y. (item.0, y)) o) (each_there read items))
      by later None = later
      by later (Some y) = ap (λ rest. (item.0, f y) ∷ rest) later

module _ {X Y Z : Type 0} (made : X → Option Z) (read : Y → Option Z) (done : List (ℕ × X)) (items : List (ℕ × Y)) (place : ℕ) (d : ℕ × Y) (within : place < length items) (so_far : each_there made done ≡ each_there read (take place items)) where
  front : each_there read (take (place + 1) items) ≡ each_there read (take place items) ++ each_there read (get_or items place d ∷ [])
  front = ap (each_there read) (take_more items place d within) ∙ each-append read (take place items) (get_or items place d ∷ [])

  -- one more, behind what was made of those before
  pub each-more : (x : X) → made x ≡ read (get_or items place d).1 → each_there made (done ++ ((get_or items place d).0, x) ∷ []) ≡ each_there read (take (place + 1) items)
  each-more x same =
      each-append made done (((get_or items place d).0, x) ∷ []) ∙ ap (λ before. before ++ each_there made (((get_or items place d).0, x) ∷ [])) so_far
      ∙ ap (λ o. each_there read (take place items) ++ cons_option (option_map (λ z. ((get_or items place d).0, z)) o) []) same ∙ sym front

  -- one of which nothing is read
  pub each-passed : read (get_or items place d).1 ≡ None → each_there made done ≡ each_there read (take (place + 1) items)
  each-passed none =
      so_far ∙ sym (front ∙ ap (λ o. each_there read (take place items) ++ cons_option (option_map (λ z. ((get_or items place d).0, z)) o) []) none ∙ append-nil (each_there read (take place items)))
