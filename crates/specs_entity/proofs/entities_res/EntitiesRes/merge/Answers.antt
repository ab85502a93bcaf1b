use Rattle.std.proofs.Common.{◌≡◌, List, ℕ, None, cond, eqb, ap, sym, ◌∙◌, subst}
use Rattle.std.specs.List.{list_any}
use Rattle.std.specs.FinSet as fin
use Rattle.hibitset_sets.specs.Walk.{walk}
use Rattle.specs_entity.specs.Births.{Births, CanKill, all_buried, indices_of, living}
use Rattle.specs_entity.proofs.LawLemmas.{continues-through}
use Rattle.specs_entity.proofs.DeathLemmas.{CanKill-same, deleted-indices}
use Rattle.specs_entity.proofs.ListLemmas.{all_buried-lives, deletions-all_settled, deletions-done}
use Rattle.specs_entity.proofs.entities_res.EntitiesRes.merge.Goals as goal

pub bury_each-requires : goal.bury_each-requires
bury_each-requires c =
    let listed = CanKill-same (living c.args.self.now) (living c.settle_all.new.self) c.in_ok-deleted.deleted.items c.settle_all.ensures.lives c.in_ok-deleted.ensures.killable in
    record { killable = subst (CanKill (living c.settle_all.new.self)) (sym c.deref.ensures.value) listed }

pub returns-clause-ok : goal.returns-clause-ok
returns-clause-ok c =
    let before : Births = c.args.self.now in
    c.bury_each.ensures.value
    ∙ (ap (λ entities. all_buried c.settle_all.new.self (indices_of entities)) (c.deref.ensures.value ∙ c.in_ok-deleted.ensures.value)
    ∙ (ap (all_buried c.settle_all.new.self) (deleted-indices before)
    ∙ ap (λ (b : Births). all_buried b (walk (fin.contains before.deletions))) c.settle_all.ensures.value))

pub returns-clause-continues : goal.returns-clause-continues
returns-clause-continues c = continues-through _ _ _ c.settle_all.ensures.continues c.bury_each.ensures.continues

module _ (c : goal.After-bury_each) where
  abbrev before : Births
  before = c.args.self.now

  abbrev indices : List ℕ
  indices = indices_of c.deref.result.now

  -- which indices are buried
  named : (index : ℕ) → list_any (λ other. eqb index other) indices ≡ fin.contains before.deletions index
  named index = ap (λ entities. list_any (λ other. eqb index other) (indices_of entities)) c.deref.ensures.value ∙ c.in_ok-deleted.ensures.named index

pub returns-clause-lives : goal.returns-clause-lives
returns-clause-lives c = λ index.
    ap (λ (b : Births). living b index) c.bury_each.ensures.value
    ∙ (all_buried-lives c.settle_all.new.self (indices c) index
    ∙ (ap (λ b. cond b None (living c.settle_all.new.self index)) (named c index)
    ∙ ap (λ life. cond (fin.contains (before c).deletions index) None life) (c.settle_all.ensures.lives index)))

pub returns-clause-done : goal.returns-clause-done
returns-clause-done c =
    ap (λ (b : Births). b.deletions) c.bury_each.ensures.value
    ∙ deletions-done c.settle_all.new.self (indices c)
    (λ index is.
    named c index
    ∙ (sym (ap (λ s. fin.contains s index) (ap (λ (b : Births). b.deletions) c.settle_all.ensures.value ∙ deletions-all_settled (before c) (walk (fin.contains (before c).fresh)))) ∙ is))
