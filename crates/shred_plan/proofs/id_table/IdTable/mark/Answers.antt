use Rattle.std.proofs.Common.{◌||◌, ◌&&◌, ap, ◌∙◌}
use Rattle.std.specs.Prelude.{◌==◌}
use Rattle.std.specs.List.{list_any}
use Rattle.shred_plan.specs.Index.{has_for}
use Rattle.shred_plan.proofs.TableLemmas.{marked-both}
use Rattle.shred_plan.proofs.id_table.IdTable.mark.Goals as goal

pub returns : goal.returns
returns g c =
    let cmp = g.K.Ord.cmp in
    let same = g.K.PartialEq.eq in
    let number = c.args.number in
    let written = c.args.adding.now.writes in
    record {
      writers = λ id at.
          c.in_ok-mark_all.ensures id at
          ∙ ap (λ ids. has_for cmp c.args.self.now.writers id at || ((number == at) && list_any (λ other. same other id) ids)) c.writes.ensures;
      users = λ id at.
          let before = has_for cmp c.args.self.now.users id at in
          c.in_ok-mark_all-3.ensures id at
          ∙ ap (λ b. b || ((number == at) && list_any (λ other. same other id) c.reads.result.now)) (c.in_ok-mark_all-2.ensures id at)
          ∙ ap (λ ids. (before || ((number == at) && list_any (λ other. same other id) ids)) || ((number == at) && list_any (λ other. same other id) c.reads.result.now)) c.writes-2.ensures
          ∙ ap (λ ids. (before || ((number == at) && list_any (λ other. same other id) written)) || ((number == at) && list_any (λ other. same other id) ids)) c.reads.ensures
          ∙ marked-both before (number == at) (list_any (λ other. same other id) written) (list_any (λ other. same other id) c.args.adding.now.reads);
    }
