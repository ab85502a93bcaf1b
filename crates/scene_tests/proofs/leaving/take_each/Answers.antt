use Rattle.std.proofs.Common.{◌+◌, List, ℕ, drop, get_or, subst}
use Rattle.std.proofs.lemmas.List.{drop_all, drop_more}
use Rattle.scene_basics.specs.Values.{Numbers, whole_at}
use Rattle.scene_tests.specs.Leaving.{AreThose}
use Rattle.scene_tests.proofs.LeavingLemmas.{still-there, none-left, taken-shown, refused-shown, nothing-shown}
use Rattle.scene_tests.proofs.leaving.take_each.Goals as goal

pub loop-index-init : goal.loop-index-init
loop-index-init c = record { those = c.requires; shown = nothing-shown c.args.numbers.now }

pub loop-index-preserved : goal.loop-index-preserved
loop-index-preserved c =
    let place = c.loop-index.index-index in
    let all : List ℕ = c.args.indices.now in
    let before : Numbers = c.loop-index.numbers in
    let after : Numbers = c.remove.new.self in
    record {
      those = still-there (whole_at before) (whole_at after) (get_or all place 0) (drop (place + 1) all) c.in_ok-remove.ensures.ok
          (subst (λ (indices : List ℕ). AreThose before indices) (drop_more all place 0 c.loop-index-test.true) c.loop-index.invariant.those);
      shown = taken-shown c.args.numbers.now before after (get_or all place 0) c.loop-index.invariant.shown c.in_ok-remove.ensures.ok c.in_ok-remove.ensures.events c.remove.ensures.emission;
    }

pub returns-in_err-remove-clause-shown : goal.returns-in_err-remove-clause-shown
returns-in_err-remove-clause-shown c =
    refused-shown c.args.numbers.now c.loop-index.numbers c.remove.new.self c.loop-index.invariant.shown c.in_err-remove.ensures.err c.in_err-remove.ensures.silent c.remove.ensures.emission

pub returns-clause-none : goal.returns-clause-none
returns-clause-none c =
    none-left (whole_at c.loop-index.numbers) (drop c.loop-index.index-index c.args.indices.now) (drop_all c.loop-index.index-index c.args.indices.now c.loop-index-test.false) c.loop-index.invariant.those
