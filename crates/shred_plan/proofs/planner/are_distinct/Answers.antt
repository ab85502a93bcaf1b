use Rattle.std.proofs.Common.{◌≡◌, ◌+◌, ◌-◌, ◌<◌, eqb, get_or, sym, ap, subst, arith, inl, inr}
use Rattle.std.specs.List.{IsDistinct}
use Rattle.std.specs.List.Sorted.{IsPermutation, IsStrictlyIncreasing}
use Rattle.std.specs.Ordering.{nat_cmp, eq_by_cmp}
use Rattle.std.specs.Cmp.{nat_eq_equiv, unsigned_ties}
use Rattle.std.proofs.lemmas.Bool.{cases_lt}
use Rattle.std.proofs.lemmas.List.{get_or_read}
use Rattle.std.proofs.lemmas.List.Sorted.{IsPermutation-sym}
use Rattle.std.proofs.lemmas.Map.Keys.{sorted_from_strictly_increasing, IsDistinct-from_sorted, IsDistinct-IsPermutation}
use Rattle.shred_plan.proofs.planner.are_distinct.Goals as goal

pub loop-place-preserved : goal.loop-place-preserved
loop-place-preserved c = λ k h.
    let items = c.sort_unstable.new.self.items in
    let place = c.loop-place.place in
    let low : c.index.result.now ≡ get_or items (place - 1) 0 = get_or_read items (place - 1) _ (omega arith) c.index.ensures 0 in
    let high : c.index-in-loop-place.result.now ≡ get_or items place 0 = get_or_read items place _ (omega arith) c.index-in-loop-place.ensures 0 in
    elim (cases_lt (k + 1) place) as (λ _. get_or items k 0 < get_or items (k + 1) 0) [
      | inl before ↦ c.loop-place.invariant k before
      | inr last ↦
          let first : get_or items k 0 ≡ get_or items (place - 1) 0 = ap (λ n. get_or items n 0) (omega arith) in
          let second : get_or items (k + 1) 0 ≡ get_or items place 0 = ap (λ n. get_or items n 0) (omega arith) in
          omega arith
    ]

pub returns : goal.returns
returns c = λ yes.
    let items = c.sort_unstable.new.self.items in
    let numbers = c.args.numbers.now in
    let rising : IsStrictlyIncreasing items = λ k h. c.loop-place.invariant k (omega arith) in
    let apart : IsDistinct (eq_by_cmp nat_cmp) items = IsDistinct-from_sorted nat_cmp items (sorted_from_strictly_increasing items rising) in
    let differ : IsDistinct eqb items = subst (λ test. IsDistinct test items) (λ i x y. sym (unsigned_ties x y) i) apart in
    let same : IsPermutation numbers items = subst (λ list. IsPermutation list items) c.in_ok-sorted.ensures.items c.sort_unstable.ensures.permutation in
    IsDistinct-IsPermutation eqb nat_eq_equiv.symm items numbers (IsPermutation-sym numbers items same) differ
