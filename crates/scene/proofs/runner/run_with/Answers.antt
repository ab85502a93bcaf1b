use Rattle.std.proofs.Common.{Option, Some, None, Err, refl, ap, ◌∙◌}
use Rattle.std.specs.Prelude.{IfSome}
use Rattle.scene.proofs.runner.run_with.Goals as goal

-- what holds of each holds of what there may be
any-some : {X : Type 0} (o : Option X) (P : X → Type 0) → ((x : X) → P x) → IfSome o P
any-some None P each = tt
any-some (Some x) P each = each x

pub returns-in-Err-Read : goal.returns-in-Err-Read
returns-in-Err-Read g c = record {
  reports = tt;
  error = record { failed = c.read_bytes.ensures.read (c.in-Err-Read.is ∙ ap (λ error. Err error) c.in-Err-Read.field-0-is); untouched = refl };
  only_that = any-some (g.I.Read.remaining c.args.reader.now) _ (λ input refusal is. tt);
}
