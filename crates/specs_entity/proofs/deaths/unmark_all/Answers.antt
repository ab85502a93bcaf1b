use Rattle.std.proofs.Common.{◌≡◌, ◌+◌, ◌∷◌, [], ℕ, List, drop, true, eqb, ap, sym, ◌∙◌, subst, arith, length-drop}
use Rattle.std.specs.FinSet as fin
use Rattle.std.specs.List.{list_any}
use Rattle.std.proofs.lemmas.Bool.{false≢true}
use Rattle.std.proofs.lemmas.List.{drop_more}
use Rattle.specs_entity.specs.Life.{LifeAt}
use Rattle.specs_entity.specs.Births.{indices_of}
use Rattle.specs_entity.proofs.BirthLemmas.{nil-length}
use Rattle.specs_entity.proofs.ListLemmas.{marks-less, unmarked-empty}
use Rattle.specs_entity.proofs.deaths.unmark_all.Goals as goal

pub loop-entity-preserved : goal.loop-entity-preserved
loop-entity-preserved c =
    let place = c.loop-entity.entity-index in
    let all : List LifeAt = c.args.entities.now in
    let item : LifeAt = c.entity-item.result in
    let s = c.loop-entity.marked.members in
    let ahead : drop place all ≡ item ∷ drop (place + 1) all = drop_more all place item c.loop-entity-test.true ∙ ap (λ x. x ∷ drop (place + 1) all) (sym c.entity-item.is) in
    let marks : (q : ℕ) → fin.contains s q ≡ true → list_any (λ other. eqb q other) (indices_of (item ∷ drop (place + 1) all)) ≡ true = subst (λ xs. (q : ℕ) → fin.contains s q ≡ true → list_any (λ other. eqb q other) (indices_of xs) ≡ true) ahead c.loop-entity.invariant.left in
    let gone : c.remove.new.self.members ≡ fin.remove s item.id = c.remove.ensures.members ∙ ap (λ (e : LifeAt). fin.remove s e.id) c.entity.view_is in
    record {
      left = λ q is. marks-less s (indices_of (drop (place + 1) all)) item.id marks q (sym (ap (λ m. fin.contains m q) gone) ∙ is);
      room = c.remove.ensures.room ∙ c.loop-entity.invariant.room;
    }

pub returns-clause-members : goal.returns-clause-members
returns-clause-members c =
    let place = c.loop-entity.entity-index in
    let all : List LifeAt = c.args.entities.now in
    let ended = c.loop-entity-test.false in
    let past : drop place all ≡ [] = nil-length (drop place all) (omega (arith, length-drop place all)) in
    unmarked-empty c.loop-entity.marked.members (λ q is. false≢true (sym (ap (λ xs. list_any (λ other. eqb q other) (indices_of xs)) past) ∙ c.loop-entity.invariant.left q is))
