use Rattle.std.proofs.Common.{◌≡◌, ℕ, Bool, true, false, ◌&&◌, ◌||◌, eqb, ltb, take, drop, OnErr, Result, Ok, Err, ap, sym, refl, ◌∙◌}
use Rattle.std.proofs.lemmas.Bool.{false≢true}
use Rattle.std.proofs.lemmas.List.Folds.{list_any-append}
use Rattle.hibitset_sets.specs.BitSet.{has_member}
use Rattle.specs_layouts.specs.Blocks.{is_named, all_events}
use Rattle.specs_layouts.proofs.BlockLemmas.{all-cut}
use Rattle.specs_layouts.proofs.blocks.index_all.Goals as goal

on-err : {T E : Type 0} (r : Result T E) (P : Type 0) → P → OnErr r P
on-err (Ok x) P p = tt
on-err (Err e) P p = p

more : (own low some others : Bool) → (own || (low && some)) ≡ true → (own || (low && (some || others))) ≡ true
more true low some others is = refl
more false true true others is = refl
more false true false others is = absurd (false≢true is)
more false false some others is = absurd (false≢true is)

pub returns-in_err-index_into-clause-err : goal.returns-in_err-index_into-clause-err
returns-in_err-index_into-clause-err g c =
    let index_of = g.E.IndexEvent.index_of in
    let same_at = g.E.IndexEvent.same_at in
    let blocks = c.args.blocks.now in
    let first = take c.loop-block.block-index blocks in
    let rest = drop c.loop-block.block-index blocks in
    let named : (i : ℕ) → is_named index_of (all_events index_of same_at blocks) i ≡ (is_named index_of (all_events index_of same_at first) i || is_named index_of (all_events index_of same_at rest) i) =
    λ i. ap (λ events. is_named index_of events i) (all-cut index_of same_at blocks c.loop-block.block-index) ∙ list_any-append (λ event. eqb (index_of event) i) (all_events index_of same_at first) (all_events index_of same_at rest) in
    on-err c.from_residual.result _
    (λ i member.
    let was = sym (c.loop-block.invariant i) ∙ (ap (λ s. has_member s i) (sym c.in_err-index_into.ensures.err) ∙ member) in
    ap (λ b. has_member c.args.into.now i || (ltb i 16777216 && b)) (named i)
    ∙ more (has_member c.args.into.now i) (ltb i 16777216) (is_named index_of (all_events index_of same_at first) i) (is_named index_of (all_events index_of same_at rest) i) was)
