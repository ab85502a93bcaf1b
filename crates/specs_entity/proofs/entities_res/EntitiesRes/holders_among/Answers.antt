use Rattle.std.proofs.Common.{◌≤◌, ◌<◌, inl, inr, ℕ, length, subst, sym, arith}
use Rattle.std.proofs.lemmas.List.{take_all}
use Rattle.specs_entity.specs.Closures.{IsPairAt, IsPaired}
use Rattle.specs_entity.proofs.ClosureLemmas.{any-kept, any-last, any-only}
use Rattle.specs_entity.proofs.entities_res.EntitiesRes.holders_among.Goals as goal

pub loop-pair-preserved : goal.loop-pair-preserved
loop-pair-preserved c =
    let births = c.args.self.now in
    let pairs = c.args.pairs.now in
    let place : ℕ = c.loop-pair.pair-index in
    let pair = c.pair-item.result in
    let inside : place < length pairs = omega arith in
    let was = c.loop-pair.invariant in
    let note = c.in_ok-note_pair.ensures in
    record {
      chained = note.chained;
      lives = note.lives;
      paired = λ holder target holds. elim (note.only holder target holds) [
        | inl old ↦ any-kept (IsPairAt births holder target) pairs place pair inside (was.paired holder target old)
        | inr new ↦ any-last (IsPairAt births holder target) pairs place pair inside (subst (IsPairAt births holder target) c.pair-item.is new)
      ];
      all = λ holder target paired. elim (any-only (IsPairAt births holder target) pairs place pair inside paired) [
        | inl old ↦ note.kept holder target (was.all holder target old)
        | inr new ↦ note.noted holder target (subst (IsPairAt births holder target) (sym c.pair-item.is) new)
      ];
    }

pub returns-clause-paired : goal.returns-clause-paired
returns-clause-paired c = λ holder target holds.
    let all : length c.args.pairs.now ≤ c.loop-pair.pair-index = omega arith in
    subst (λ l. IsPaired c.args.self.now l holder target) (take_all c.loop-pair.pair-index c.args.pairs.now all) (c.loop-pair.invariant.paired holder target holds)

pub returns-clause-all : goal.returns-clause-all
returns-clause-all c = λ holder target paired.
    let all : length c.args.pairs.now ≤ c.loop-pair.pair-index = omega arith in
    c.loop-pair.invariant.all holder target (subst (λ l. IsPaired c.args.self.now l holder target) (sym (take_all c.loop-pair.pair-index c.args.pairs.now all)) paired)
