-- Which values have data under a map from entity to marker.
use Rattle.std.proofs.Common.{◌≡◌, ◌≢◌, ℕ, Bool, true, false, ◌↔◌, ◌⊎◌, List, [], ◌∷◌, ◌++◌, Option, Some, None, IsSome, is_some, option_map, inl, inr, refl, sym, ap, subst, ◌∙◌}
use Rattle.std.proofs.lemmas.Bool.{false≢true}
use Rattle.std.proofs.lemmas.Slice.Eq.{bytes_eq-Decides}
use Rattle.std.specs.Str.{bytes_eq}
use Rattle.specs_entity.specs.Life.{LifeAt}
use Rattle.specs_join.specs.Joins.{both, all_three}
use Rattle.specs_saveload.specs.Bearing.{IsAmong}
use Rattle.specs_saveload.specs.Saved.{named_in, plain_in}

told-apart : (one other : List ℕ) (test : Bool) → bytes_eq one other ≡ test → ((bytes_eq one other ≡ true) × (one ≡ other)) ⊎ ((bytes_eq one other ≡ false) × (one ≢ other))
told-apart one other true is = inl (is, (bytes_eq-Decides one other).0 is)
told-apart one other false is = inr (is, λ same. false≢true (sym is ∙ (bytes_eq-Decides one other).1 same))

-- two lists of bytes are one, or they differ
pub bytes-tell : (one other : List ℕ) → ((bytes_eq one other ≡ true) × (one ≡ other)) ⊎ ((bytes_eq one other ≡ false) × (one ≢ other))
bytes-tell one other = told-apart one other (bytes_eq one other) refl

-- of one entity
pub one-named : {M : Type 0} (names : LifeAt → Option M) (entity : LifeAt) → IsSome (names entity) ↔ ((other : LifeAt) → IsAmong other (entity ∷ []) → IsSome (names other))
one-named names entity = (λ some other among. elim among [ inl is ↦ subst (λ e. IsSome (names e)) is some | inr none ↦ absurd none ], λ all. all entity (inl (λ i. entity)))

-- the marker in an entity's data is its marker
pub one-stands : {M : Type 0} (name : Option M) (saved marker : M) → name ≡ Some saved → IsAmong marker (saved ∷ []) → name ≡ Some marker
one-stands name saved marker is (inl same) = is ∙ ap Some same
one-stands name saved marker is (inr none) = absurd none

some-mapped : {A B : Type 0} (f : A → B) (o : Option A) → is_some (option_map f o) ≡ is_some o
some-mapped f None = refl
some-mapped f (Some a) = refl

-- of a part, where there is one
pub option-named : {C D M : Type 0} (entities : C → List LifeAt) (plain : C → Option D) (names : LifeAt → Option M) → ((part : C) → IsSome (plain part) ↔ ((entity : LifeAt) → IsAmong entity (entities part) → IsSome (names entity)))
    → (part : Option C) → IsSome (plain_in plain part) ↔ ((entity : LifeAt) → IsAmong entity (named_in entities part) → IsSome (names entity))
option-named entities plain names named None = (λ some entity none. absurd none, λ all. refl)
option-named entities plain names named (Some part) = (
  λ some. (named part).0 (sym (some-mapped Some (plain part)) ∙ some),
  λ all. some-mapped Some (plain part) ∙ (named part).1 all,
)

-- ---- of two and of three

pub among-left : {X : Type 0} (item : X) (one other : List X) → IsAmong item one → IsAmong item (one ++ other)
among-left item [] other none = absurd none
among-left item (first ∷ rest) other (inl is) = inl is
among-left item (first ∷ rest) other (inr later) = inr (among-left item rest other later)

pub among-right : {X : Type 0} (item : X) (one other : List X) → IsAmong item other → IsAmong item (one ++ other)
among-right item [] other among = among
among-right item (first ∷ rest) other among = inr (among-right item rest other among)

pub among-either : {X : Type 0} (item : X) (one other : List X) → IsAmong item (one ++ other) → IsAmong item one ⊎ IsAmong item other
among-either item [] other among = inr among
among-either item (first ∷ rest) other (inl is) = inl (inl is)
among-either item (first ∷ rest) other (inr later) = elim (among-either item rest other later) [ inl left ↦ inl (inr left) | inr right ↦ inr right ]

first-some : {A B : Type 0} (one : Option A) (other : Option B) → IsSome (both one other) → IsSome one
first-some None other some = some
first-some (Some a) other some = refl

second-some : {A B : Type 0} (one : Option A) (other : Option B) → IsSome (both one other) → IsSome other
second-some None other some = absurd (false≢true some)
second-some (Some a) None some = some
second-some (Some a) (Some b) some = refl

both-some : {A B : Type 0} (one : Option A) (other : Option B) → IsSome one → IsSome other → IsSome (both one other)
both-some None other some some' = some
both-some (Some a) None some some' = some'
both-some (Some a) (Some b) some some' = refl

-- whether an entity is named by a list
abbrev AllNamed : {M : Type 0} → (LifeAt → Option M) → List LifeAt → Type 0
AllNamed names list = (entity : LifeAt) → IsAmong entity list → IsSome (names entity)

module _ {M : Type 0} (names : LifeAt → Option M) where
  joined : (one other : List LifeAt) → AllNamed names one → AllNamed names other → AllNamed names (one ++ other)
  joined one other all all' entity among = elim (among-either entity one other among) [ inl left ↦ all entity left | inr right ↦ all' entity right ]

  pub both-named : {A B : Type 0} (one : Option A) (other : Option B) (left right : List LifeAt) → (IsSome one ↔ ((entity : LifeAt) → IsAmong entity left → IsSome (names entity))) → (IsSome other ↔ ((entity : LifeAt) → IsAmong entity right → IsSome (names entity)))
      → IsSome (both one other) ↔ ((entity : LifeAt) → IsAmong entity (left ++ right) → IsSome (names entity))
  both-named one other left right named named' = (
    λ some. joined left right (named.0 (first-some one other some)) (named'.0 (second-some one other some)),
    λ all. both-some one other (named.1 (λ entity among. all entity (among-left entity left right among))) (named'.1 (λ entity among. all entity (among-right entity left right among))),
  )

  three-both : {A B C : Type 0} (first : Option A) (second : Option B) (third : Option C) → is_some (all_three first second third) ≡ is_some (both first (both second third))
  three-both None second third = refl
  three-both (Some a) None third = refl
  three-both (Some a) (Some b) None = refl
  three-both (Some a) (Some b) (Some c) = refl

  pub three-named : {A B C : Type 0} (first : Option A) (second : Option B) (third : Option C) (left middle right : List LifeAt) → (IsSome first ↔ ((entity : LifeAt) → IsAmong entity left → IsSome (names entity))) → (IsSome second ↔ ((entity : LifeAt) → IsAmong entity middle → IsSome (names entity)))
      → (IsSome third ↔ ((entity : LifeAt) → IsAmong entity right → IsSome (names entity))) → IsSome (all_three first second third) ↔ ((entity : LifeAt) → IsAmong entity (left ++ (middle ++ right)) → IsSome (names entity))
  three-named first second third left middle right one two three =
      let nested = both-named first (both second third) left (middle ++ right) one (both-named second third middle right two three) in (
        λ some. nested.0 (sym (three-both first second third) ∙ some),
        λ all. three-both first second third ∙ nested.1 all,
      )
