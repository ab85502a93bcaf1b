use Rattle.std.proofs.Common.{◌≡◌, ◌||◌, ◌&&◌, Some, None, true, sym, ap, ◌∙◌}
use Rattle.std.specs.Prelude.{◌==◌}
use Rattle.std.specs.Option.{IsSome, is_some, option_copied_mut}
use Rattle.std.specs.BTreeMap.{get_by}
use Rattle.std.proofs.lemmas.Bool.{not-false}
use Rattle.shred_plan.specs.Index.{has_for}
use Rattle.shred_plan.proofs.TableLemmas.{marked-known, marked-new}
use Rattle.shred_plan.proofs.id_table.mark.Goals as goal

pub returns-in-Some : goal.returns-in-Some
returns-in-Some g c =
    let table = c.args.table.now in
    let set = c.insert.new.self in
    let had : get_by (g.K.Ord.cmp c.args.id.now) table ≡ Some c.in-Some.stages.now = sym c.get_mut.ensures.value ∙ ap option_copied_mut c.in-Some.is in
    let some : IsSome (get_by (g.K.Ord.cmp c.args.id.now) table) = ap is_some had in
    marked-known g.K.Ord.cmp g.K.PartialEq.eq g.met.K.Ord.total g.met.K.Eq.laws g.met.K.Ord.matches_eq table (c.get_mut.follows.lender set) c.args.id.now c.in-Some.stages.now set c.args.stage
    had (((c.get_mut.follows.holds set).3 some).0) c.in_ok-insert.ensures

pub returns : goal.returns
returns g c = λ other place.
    let before = c.get_mut.follows.lender-at-none in
    let had : get_by (g.K.Ord.cmp c.args.id.now) before ≡ None =
    ap (get_by (g.K.Ord.cmp c.args.id.now)) c.get_mut.follows.holds-at-none ∙ sym c.get_mut.ensures.value ∙ ap option_copied_mut c.in_default.is in
    let equal : g.K.PartialEq.eq c.in_ok-key.key c.args.id.now ≡ true = not-false _ (sym c.ne.ensures ∙ c.if-ne.false) in
    marked-new g.K.Ord.cmp g.K.PartialEq.eq g.met.K.Ord.total g.met.K.Eq.laws g.met.K.Ord.matches_eq before c.insert-3.new.self c.in_ok-key.key c.args.id.now c.new-stages.result c.insert-2.new.self c.args.stage
    had equal (c.in_ok-insert-3.ensures.updates.0) c.new-stages.ensures c.in_ok-insert-2.ensures other place
    ∙ ap (λ table. has_for g.K.Ord.cmp table other place || ((c.args.stage == place) && g.K.PartialEq.eq c.args.id.now other)) c.get_mut.follows.holds-at-none
