-- Facts on letting systems go one after the other.
use Rattle.std.proofs.Common.{◌≡◌, ℕ, ◌+◌, suc, List, [], ◌∷◌, length, map, refl, ap, sym, ◌∙◌, subst, arith, Option, Some, None}
use Rattle.std.specs.Option.{option_or, option_map}
use Rattle.shred_world.specs.Worlds.{Slots}
use Rattle.shred_stages.specs.declared.stop.Stop.{Stop}
use Rattle.shred_stages.specs.Setups.{DisposesEach}

or-assoc : {A : Type 0} (a b c : Option A) → option_or a (option_or b c) ≡ option_or (option_or a b) c
or-assoc None b c = refl
or-assoc (Some x) b c = refl

or-none : {A : Type 0} (a : Option A) → option_or a None ≡ a
or-none None = refl
or-none (Some x) = refl

pub empty-by-length : {A : Type 0} (xs : List A) → length xs ≡ 0 → xs ≡ []
empty-by-length [] e = refl
empty-by-length (x ∷ xs) e = cc

module _ {V S : Type 0} (disposes : S → Option Stop → Slots V → Slots V → Type 0) (all : List S) (start : Slots V) {T : Type 0} (system_of : T → S) where
  -- one more is let go
  pub dispose-next : (items others : List T) (one : T) (n : ℕ) (now next : Slots V) (first both : Option (ℕ × Stop)) (stop : Option Stop) (found : Option (ℕ × Stop))
      → ((later : Option (ℕ × Stop)) (w : Slots V) → DisposesEach disposes n (map system_of items) later now w → DisposesEach disposes 0 all (option_or first later) start w)
      → items ≡ one ∷ others → disposes (system_of one) stop now next → found ≡ option_map (λ why. (n, why)) stop → both ≡ option_or first found
      → (later : Option (ℕ × Stop)) (w : Slots V) → DisposesEach disposes (n + 1) (map system_of others) later next w → DisposesEach disposes 0 all (option_or both later) start w
  dispose-next items others one n now next first both stop found known is gone number told later w rest =
      let more : n + 1 ≡ suc n = omega arith in
      let P : ℕ → Type 0 = λ k. DisposesEach disposes k (map system_of others) later next w in
      let Q : List T → Type 0 = λ list. DisposesEach disposes n (map system_of list) (option_or found later) now w in
      let R : Option (ℕ × Stop) → Type 0 = λ o. DisposesEach disposes 0 all o start w in
      subst R (or-assoc first found later ∙ ap (λ o. option_or o later) (sym told))
      (known (option_or found later) w (subst Q (sym is) (stop, later, next, gone, subst P more rest, ap (λ o. option_or o later) number)))

  -- all are
  pub dispose-end : (items : List T) (n : ℕ) (now : Slots V) (first : Option (ℕ × Stop))
      → ((later : Option (ℕ × Stop)) (w : Slots V) → DisposesEach disposes n (map system_of items) later now w → DisposesEach disposes 0 all (option_or first later) start w)
      → items ≡ [] → DisposesEach disposes 0 all first start now
  dispose-end items n now first known is =
      let Q : List T → Type 0 = λ list. DisposesEach disposes n (map system_of list) None now now in
      let R : Option (ℕ × Stop) → Type 0 = λ o. DisposesEach disposes 0 all o start now in
      subst R (or-none first) (known None now (subst Q (sym is) (refl, refl)))

pub map-itself : {A : Type 0} (xs : List A) → map (λ x. x) xs ≡ xs
map-itself [] = refl
map-itself (x ∷ xs) = ap (λ list. x ∷ list) (map-itself xs)
