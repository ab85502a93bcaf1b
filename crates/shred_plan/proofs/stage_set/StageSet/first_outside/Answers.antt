use Rattle.std.proofs.Common.{◌≡◌, ◌<◌, ◌-◌, ◌^◌, true, ap, arith, subst, inl, inr}
use Rattle.std.proofs.lemmas.Bool.{cases_lt}
use Rattle.shred_plan.specs.Index.{has_stage}
use Rattle.shred_plan.proofs.StageSetLemmas.{passed-present, stands-absent}
use Rattle.shred_plan.proofs.stage_set.StageSet.first_outside.Goals as goal

pub returns-then-bit-lt-WORD_STAGES-clause-passed : goal.returns-then-bit-lt-WORD_STAGES-clause-passed
returns-then-bit-lt-WORD_STAGES-clause-passed c = λ place from before.
    elim (cases_lt place c.loop-stage.stage) as (λ _. has_stage c.args.self.now place ≡ true) [
      | inl earlier ↦ c.loop-stage.invariant.2 place from earlier
      | inr later ↦
          passed-present c.args.self.now.words.items c.loop-stage.stage _ c.first_bit-bit.result (ap (λ n. 18446744073709551615 - n) c.word.ensures) (subst (λ n. n < 2 ^ 64) c.word.ensures c.word.type_inv)
          c.first_bit-bit.ensures.end c.first_bit-bit.ensures.passed c.min-next.result (omega arith) place later before
    ]

pub returns-then-bit-lt-WORD_STAGES-clause-found : goal.returns-then-bit-lt-WORD_STAGES-clause-found
returns-then-bit-lt-WORD_STAGES-clause-found c = λ below.
    stands-absent c.args.self.now.words.items c.loop-stage.stage _ c.first_bit-bit.result (ap (λ n. 18446744073709551615 - n) c.word.ensures) (subst (λ n. n < 2 ^ 64) c.word.ensures c.word.type_inv)
    c.if-bit-lt-WORD_STAGES.true (c.first_bit-bit.ensures.found c.if-bit-lt-WORD_STAGES.true) c.min-next.result (omega (arith, below))

pub loop-stage-preserved : goal.loop-stage-preserved
loop-stage-preserved c = (
  omega arith,
  omega arith,
  λ place from before.
      elim (cases_lt place c.loop-stage.stage) as (λ _. has_stage c.args.self.now place ≡ true) [
        | inl earlier ↦ c.loop-stage.invariant.2 place from earlier
        | inr later ↦
            passed-present c.args.self.now.words.items c.loop-stage.stage _ c.first_bit-bit.result (ap (λ n. 18446744073709551615 - n) c.word.ensures) (subst (λ n. n < 2 ^ 64) c.word.ensures c.word.type_inv)
            c.first_bit-bit.ensures.end c.first_bit-bit.ensures.passed c.min-next.result (omega arith) place later before
      ],
)
