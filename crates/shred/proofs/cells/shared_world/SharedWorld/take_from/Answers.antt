use Rattle.std.proofs.Common.{ap, sym, ◌∙◌, Some, None}
use Rattle.std.specs.FinMap as map
use Rattle.shred_world.proofs.CallerLemmas.{get-insert_here, insert-insert, insert_value_same}
use Rattle.shred.proofs.cells.shared_world.SharedWorld.take_from.Goals as goal

pub put_back-requires : goal.put_back-requires
put_back-requires g c =
    record { is_out = ap (λ w. map.get w c.args.id) c.in-Some.ensures.out ∙ get-insert_here c.args.world.now c.args.id None }

-- the value is where it was
pub returns-in-Err-clause-err_there : goal.returns-in-Err-clause-err_there
returns-in-Err-clause-err_there g c =
    c.put_back.ensures ∙ ap (λ w. map.insert w c.args.id (Some c.in-Err.field-0.value)) c.in-Some.ensures.out
    ∙ insert-insert c.args.world.now c.args.id None (Some c.in-Err.field-0.value)
    ∙ ap (λ v. map.insert c.args.world.now c.args.id (Some v)) c.in-Err.ensures.handed_back
    ∙ insert_value_same c.args.world.now c.args.id c.in-Some.value (sym c.in-Some.ensures.value)
