use Rattle.std.proofs.Common.{◌+◌, ◌%◌, Some, is_some, sym, ap, subst}
use Rattle.std.specs.Option.{unwrap_or}
use Rattle.specs_layouts.specs.Dense.{dense_part, with_dense_part}
use Rattle.specs_layouts.specs.DenseLemmas.{with_dense_part-puts}
use Rattle.specs_layouts.specs.Parts.{Puts}
use Rattle.specs_tests.proofs.restricted.raise.Goals as goal

pub returns-clause-parts : goal.returns-clause-parts
returns-clause-parts g c index is =
    let inner = c.args.cursor.now.store.now.inner in
    let part = c.in-Ok.part.now in
    let there = c.in-Ok.ensures.part index is in
    let here = ap (λ at. unwrap_or at 0) (sym is) in
    (part, there, subst (λ at. Puts (dense_part inner) index (Some (record { 0 = (part.0 + 1) % 4294967296 })) (dense_part (with_dense_part inner at (record { 0 = (part.0 + 1) % 4294967296 })))) here (with_dense_part-puts inner index _ (ap is_some there)))
