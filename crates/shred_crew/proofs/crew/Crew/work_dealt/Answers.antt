use Rattle.std.proofs.Common.{◌≡◌, subst}
use Rattle.std.specs.Arc.{arc_value}
use Rattle.shred_crew.specs.Deals.{IsWorkedOn}
use Rattle.shred_crew.specs.Lines.{AreWorkedOn}
use Rattle.shred_crew.proofs.crew.Crew.work_dealt.Goals as goal

pub returns-in-Ok-clause-works : goal.returns-in-Ok-clause-works
returns-in-Ok-clause-works g c =
    let same : arc_value c.in-Ok.shared ≡ c.args.shared = c.in-Ok.ensures.ok in
    let P : g.row.C.Denot → Type 0 = λ shared. AreWorkedOn (IsWorkedOn (g.T.Load.does shared)) c.args.rows.now.items c.work_row_list.new.rows.items in
    subst P same c.work_row_list.ensures.works

pub returns-in-Err-clause-works : goal.returns-in-Err-clause-works
returns-in-Err-clause-works g c =
    let P : g.row.C.Denot → Type 0 = λ shared. AreWorkedOn (IsWorkedOn (g.T.Load.does shared)) c.args.rows.now.items c.work_list_here.new.rows.items in
    subst P c.in-Err.ensures.value_returned c.work_list_here.ensures
