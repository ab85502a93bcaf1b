use Rattle.std.proofs.Common.{◌≡◌, ◌+◌, ◌∷◌, [], ℕ, List, drop, get_or, true, eqb, ap, sym, ◌∙◌, subst, arith, length-drop}
use Rattle.std.specs.FinSet as set
use Rattle.std.specs.List.{list_any}
use Rattle.std.proofs.lemmas.Bool.{false≢true}
use Rattle.std.proofs.lemmas.List.{drop_more}
use Rattle.specs_entity.proofs.BirthLemmas.{nil-length}
use Rattle.specs_entity.proofs.ListLemmas.{marks-less, unmarked-empty}
use Rattle.specs_entity.proofs.least.unmark_each.Goals as goal

pub loop-index-preserved : goal.loop-index-preserved
loop-index-preserved c =
    let place = c.loop-index.index-index in
    let all : List ℕ = c.args.members.now in
    let item : ℕ = get_or all place 0 in
    let s = c.loop-index.marked.members in
    let ahead : drop place all ≡ item ∷ drop (place + 1) all = drop_more all place 0 (omega arith) in
    let marks : (other : ℕ) → set.contains s other ≡ true → list_any (eqb other) (item ∷ drop (place + 1) all) ≡ true =
    subst (λ xs. (other : ℕ) → set.contains s other ≡ true → list_any (eqb other) xs ≡ true) ahead c.loop-index.invariant.left in
    record {
      left = λ other is. marks-less s (drop (place + 1) all) item marks other (sym (ap (λ m. set.contains m other) c.remove.ensures.members) ∙ is);
      room = c.remove.ensures.room ∙ c.loop-index.invariant.room;
    }

pub returns-clause-members : goal.returns-clause-members
returns-clause-members c =
    let place = c.loop-index.index-index in
    let all : List ℕ = c.args.members.now in
    let ended = c.loop-index-test.false in
    let past : drop place all ≡ [] = nil-length (drop place all) (omega (arith, length-drop place all)) in
    unmarked-empty c.loop-index.marked.members (λ other is. false≢true (sym (ap (list_any (eqb other)) past) ∙ c.loop-index.invariant.left other is))
