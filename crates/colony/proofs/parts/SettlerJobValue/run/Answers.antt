use Rattle.std.proofs.Common.{◌≡◌, arith, Err, inl, None, Some, refl, sym}
use Rattle.std.specs.Result.{result_err}
use Rattle.specs.proofs.CallerLemmas.{last-turn}
use Rattle.colony.proofs.parts.SettlerJobValue.run.Goals as goal

pub returns-in_err-run : goal.returns-in_err-run
returns-in_err-run c =
    let failed : c.from_residual-in_err-run.result ≡ Err c.in_err-run.field-0.0 = grind arith in
    rw failed (inl (c.in_ok-entity.entity, c.allocate.new.self, c.in_ok-entity.ensures.ok, (Some c.in_err-run.field-0.0, c.run.new.world, c.in_err-run.ensures, (refl, refl))))

pub returns-in_err-run-2 : goal.returns-in_err-run-2
returns-in_err-run-2 c =
    let failed : c.from_residual-in_err-run-2.result ≡ Err c.in_err-run-2.field-0.0 = grind arith in
    rw failed (inl (c.in_ok-entity.entity, c.allocate.new.self, c.in_ok-entity.ensures.ok, (None, c.run.new.world, c.in_ok-run.ensures, (Some c.in_err-run-2.field-0.0, c.run-2.new.world, c.in_err-run-2.ensures, (refl, refl)))))

pub returns-in_err-run-3 : goal.returns-in_err-run-3
returns-in_err-run-3 c =
    let failed : c.from_residual-in_err-run-3.result ≡ Err c.in_err-run-3.field-0.0 = grind arith in
    rw failed (inl (c.in_ok-entity.entity, c.allocate.new.self, c.in_ok-entity.ensures.ok, (None, c.run.new.world, c.in_ok-run.ensures, (None, c.run-2.new.world, c.in_ok-run-2.ensures, (Some c.in_err-run-3.field-0.0, c.run-3.new.world, c.in_err-run-3.ensures, (refl, refl))))))

pub returns : goal.returns
returns c = inl (c.in_ok-entity.entity, c.allocate.new.self, c.in_ok-entity.ensures.ok, (None, c.run.new.world, c.in_ok-run.ensures, (None, c.run-2.new.world, c.in_ok-run-2.ensures, (None, c.run-3.new.world, c.in_ok-run-3.ensures, (result_err c.run-4.result, c.run-4.new.world, rw (sym c.new.ensures) c.run-4.ensures, last-turn (result_err c.run-4.result) c.run-4.new.world)))))
