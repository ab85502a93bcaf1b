-- How deletions are accepted along a walk over positions.
use Rattle.std.proofs.Common.{◌≡◌, ◌≢◌, ℕ, ◌<◌, ◌⊎◌, Bool, true, false, cond, eqb, ◌||◌, List, [], ◌∷◌, Option, Some, None, is_some, inl, inr, refl, sym, ap, ◌∙◌}
use Rattle.std.specs.FinSet as fin
use Rattle.std.specs.List.{list_any}
use Rattle.std.proofs.lemmas.Bool.{cases_eq, eq-eqb, eqb-true, true≢false, false≢true, or_right, and_parts, or_left, or_cases}
use Rattle.specs.specs.ForStorages.{walk, Births, deleted, living, both_ways}
use Rattle.specs.proofs.CallerLemmas.{any-walk, contains-with}
use Rattle.simulation.specs.declared.parts.Position.{Position}
use Rattle.simulation.specs.Steps.{Accepts, is_far, is_reaped}

module _ (position : ℕ → Option Position) (before : Births) where
  -- the deletions that are accepted while some indices are left to look at
  pub record Accepting (now : Births) (left : List ℕ) : Type 0 where
    pub same : now ≡ record before { deletions = now.deletions }
    pub kept : (index : ℕ) → fin.contains before.deletions index ≡ true → fin.contains now.deletions index ≡ true
    pub sound : (index : ℕ) → fin.contains now.deletions index ≡ true → (fin.contains before.deletions index || is_reaped (position index) (living before index)) ≡ true
    pub complete : (index : ℕ) → (fin.contains before.deletions index || is_reaped (position index) (living before index)) ≡ true → (fin.contains now.deletions index ≡ true) ⊎ (list_any (λ other. eqb index other) left ≡ true)

  far-some : (p : Option Position) → is_far p ≡ true → is_some p ≡ true
  far-some None e = cc
  far-some (Some p) e = refl

  pub accepting-start : (members : ℕ → Bool) → ((index : ℕ) → members index ≡ is_some (position index)) → ((index : ℕ) → members index ≡ true → index < 16777216) → Accepting before (walk members)
  accepting-start members agrees range = record {
    same = refl;
    kept = λ index was. was;
    sound = λ index is. or_left (fin.contains before.deletions index) _ is;
    complete = λ index is. elim (or_cases (fin.contains before.deletions index) _ is) [
      | inl was ↦ inl was
      | inr reaped ↦
          let far = (and_parts (is_far (position index)) _ reaped).0 in
          let member : members index ≡ true = agrees index ∙ far-some (position index) far in
          inr (any-walk members index (range index member) member)
    ];
  }

  pub accepting-next : (now next : Births) (id : ℕ) (rest : List ℕ) → Accepting now (id ∷ rest) → next ≡ cond (is_reaped (position id) (living now id)) (deleted now id) now → Accepting next rest
  accepting-next now next id rest so is = by (is_reaped (position id) (living now id)) refl
    where
      lives : (index : ℕ) → living now index ≡ living before index
      lives index = ap (λ (b : Births). living b index) so.same

      by : (b : Bool) → is_reaped (position id) (living now id) ≡ b → Accepting next rest
      by true reaped =
          let is_next : next ≡ deleted now id = is ∙ ap (λ b. cond b (deleted now id) now) reaped in
          let has : (index : ℕ) → fin.contains next.deletions index ≡ (eqb index id || fin.contains now.deletions index) = λ index. ap (λ (b : Births). fin.contains b.deletions index) is_next ∙ contains-with now.deletions id index in
          record {
            same = is_next ∙ (ap (λ (b : Births). record b { deletions = fin.insert now.deletions id }) so.same ∙ ap (λ s. record before { deletions = s }) (sym (ap (λ (b : Births). b.deletions) is_next)));
            kept = λ index was. has index ∙ or_right (eqb index id) _ (so.kept index was);
            sound = λ index member. elim (or_cases (eqb index id) _ (sym (has index) ∙ member)) [
              | inl here ↦ or_right (fin.contains before.deletions index) _ (ap (λ i. is_reaped (position i) (living before i)) (eqb-true index id here) ∙ ap (is_reaped (position id)) (sym (lives id)) ∙ reaped)
              | inr was ↦ so.sound index was
            ];
            complete = λ index wanted. elim (so.complete index wanted) [
              | inl was ↦ inl (has index ∙ or_right (eqb index id) _ was)
              | inr left ↦ elim (or_cases (eqb index id) _ left) [
                | inl here ↦ inl (has index ∙ or_left (eqb index id) _ here)
                | inr later ↦ inr later
              ]
            ];
          }
      by false stays =
          let is_next : next ≡ now = is ∙ ap (λ b. cond b (deleted now id) now) stays in
          let has : (index : ℕ) → fin.contains next.deletions index ≡ fin.contains now.deletions index = λ index. ap (λ (b : Births). fin.contains b.deletions index) is_next in
          record {
            same = is_next ∙ (so.same ∙ ap (λ s. record before { deletions = s }) (sym (ap (λ (b : Births). b.deletions) is_next)));
            kept = λ index was. has index ∙ so.kept index was;
            sound = λ index member. so.sound index (sym (has index) ∙ member);
            complete = λ index wanted. elim (so.complete index wanted) [
              | inl was ↦ inl (has index ∙ was)
              | inr left ↦ elim (or_cases (eqb index id) _ left) [
                | inl here ↦ elim (or_cases (fin.contains before.deletions index) _ wanted) [
                  | inl accepted ↦ inl (has index ∙ so.kept index accepted)
                  | inr reaped ↦ absurd (true≢false (sym (ap (λ i. is_reaped (position i) (living before i)) (sym (eqb-true index id here)) ∙ reaped) ∙ ap (is_reaped (position id)) (sym (lives id)) ∙ stays))
                ]
                | inr later ↦ inr later
              ]
            ];
          }

  pub accepting-end : (now : Births) → Accepting now [] → Accepts position before now
  accepting-end now so = record {
    same = so.same;
    deletions = λ index. both_ways (fin.contains now.deletions index) _ (so.sound index) (λ wanted. elim (so.complete index wanted) [
      | inl is ↦ is
      | inr none ↦ absurd (false≢true none)
    ]);
  }
