-- What the parts of a dense storage are after a write.
use Rattle.std.proofs.Common.{◌≡◌, ◌≢◌, ℕ, zero, suc, ◌<◌, Bool, true, false, cond, List, [], ◌∷◌, length, set, Option, Some, None, IsSome, is_some, slice_index, refl, sym, ap, ◌∙◌, arith, inl, inr, ◌⊎◌}
use Rattle.std.specs.List.{slice_get}
use Rattle.std.specs.Cmp.Derive.{both_true}
use Rattle.std.proofs.lemmas.Bool.{ltb-true, lt-ltb, eqb-true, eq-eqb, false≢true, and_parts, false_from_ne_true}
use Rattle.specs_layouts.specs.Parts.{Puts, HasNone}
use Rattle.specs_layouts.specs.Dense.{Dense, owns, dense_part, with_dense_part}

-- the index owns a place
pub record Owns (places owners : List ℕ) (index : ℕ) : Type 0 where
  pub inside : index < length places
  pub place : slice_index places index < length owners
  pub owner : slice_index owners (slice_index places index) ≡ index

pub told-or-not : {T : Type 0} (b : Bool) (part : Option T) → IsSome (cond b part None) → b ≡ true
told-or-not true part there = refl
told-or-not false part there = absurd (false≢true there)

pub owns-known : (places owners : List ℕ) (index : ℕ) → owns places owners index ≡ true → Owns places owners index
owns-known places owners index e =
    let first = and_parts _ _ e in
    let second = and_parts _ _ first.1 in
    record {
      inside = ltb-true _ _ first.0;
      place = ltb-true _ _ second.0;
      owner = eqb-true _ _ second.1;
    }

pub owns-told : (places owners : List ℕ) (index : ℕ) → Owns places owners index → owns places owners index ≡ true
owns-told places owners index h = both_true (lt-ltb _ _ h.inside) (both_true (lt-ltb _ _ h.place) (eq-eqb _ _ h.owner))

decided : (places owners : List ℕ) (index : ℕ) (b : Bool) → owns places owners index ≡ b → Owns places owners index ⊎ (Owns places owners index → ⊥)
decided places owners index true e = inl (owns-known places owners index e)
decided places owners index false e = inr (λ h. false≢true (sym e ∙ owns-told places owners index h))

pub owns-cases : (places owners : List ℕ) (index : ℕ) → Owns places owners index ⊎ (Owns places owners index → ⊥)
owns-cases places owners index = decided places owners index (owns places owners index) refl

pub dense_part-there : {T : Type 0} (s : Dense T) (index : ℕ) → Owns s.places s.owners index → dense_part s index ≡ slice_get s.parts (slice_index s.places index)
dense_part-there s index h = ap (λ b. cond b (slice_get s.parts (slice_index s.places index)) None) (owns-told s.places s.owners index h)

pub dense_part-none : {T : Type 0} (s : Dense T) (index : ℕ) → (Owns s.places s.owners index → ⊥) → dense_part s index ≡ None
dense_part-none s index never =
    ap (λ b. cond b (slice_get s.parts (slice_index s.places index)) None) (false_from_ne_true (owns s.places s.owners index) (λ e. never (owns-known s.places s.owners index e)))

pub dense_part-owner : {T : Type 0} (s : Dense T) (index : ℕ) → IsSome (dense_part s index) → Owns s.places s.owners index
dense_part-owner s index there = owns-known s.places s.owners index (told-or-not (owns s.places s.owners index) _ there)

pub slice_get-set_same : {T : Type 0} (parts : List T) (place : ℕ) (part : T) → IsSome (slice_get parts place) → slice_get (set parts place part) place ≡ Some part
slice_get-set_same [] place part there = absurd (false≢true there)
slice_get-set_same (first ∷ rest) zero part there = refl
slice_get-set_same (first ∷ rest) (suc place) part there = slice_get-set_same rest place part there

pub slice_get-set_other : {T : Type 0} (parts : List T) (place other : ℕ) (part : T) → other ≢ place → slice_get (set parts place part) other ≡ slice_get parts other
slice_get-set_other [] place other part apart = refl
slice_get-set_other (first ∷ rest) zero zero part apart = absurd (apart refl)
slice_get-set_other (first ∷ rest) zero (suc other) part apart = refl
slice_get-set_other (first ∷ rest) (suc place) zero part apart = refl
slice_get-set_other (first ∷ rest) (suc place) (suc other) part apart = slice_get-set_other rest place other part (λ e. apart (ap suc e))

pub with_dense_part-puts : {T : Type 0} (s : Dense T) (index : ℕ) (part : T) → IsSome (dense_part s index) → Puts (dense_part s) index (Some part) (dense_part (with_dense_part s index part))
with_dense_part-puts s index part there =
    let h = dense_part-owner s index there in
    let after = with_dense_part s index part in
    record {
      here = dense_part-there after index h ∙ slice_get-set_same s.parts (slice_index s.places index) part (sym (ap is_some (dense_part-there s index h)) ∙ there);
      others = λ other apart. elim (owns-cases s.places s.owners other) [
        | inl other_h ↦
            dense_part-there after other other_h
            ∙ slice_get-set_other s.parts (slice_index s.places index) (slice_index s.places other) part (λ e. apart (sym other_h.owner ∙ (ap (slice_index s.owners) e ∙ h.owner)))
            ∙ sym (dense_part-there s other other_h)
        | inr never ↦ dense_part-none after other never ∙ sym (dense_part-none s other never)
      ];
    }

pub dense-starts : {T : Type 0} (s : Dense T) → s.owners ≡ [] → HasNone (dense_part s)
dense-starts s none index = dense_part-none s index (λ h. absurd (omega (arith, h.place, ap length none)))
