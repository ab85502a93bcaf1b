use Rattle.std.proofs.Common.{◌≡◌, IfSome, length, map, nat_lt, false, sym, subst, ap, ◌∙◌, arith}
use Rattle.std.proofs.lemmas.Bool.Decides.{nat_tests}
use Rattle.std.proofs.lemmas.List.{length-map}
use Rattle.scene_model.specs.Scenes.{IdsAscend}
use Rattle.scene_document.proofs.IdLemmas.{in-order, none-double}
use Rattle.scene_document.proofs.ids.ids_of.Goals as goal

pub returns-in-Some-clause-ids : goal.returns-in-Some-clause-ids
returns-in-Some-clause-ids g c =
    let listed = map (λ entity. entity.id) c.args.entities.now in
    let same = subst (λ found. IfSome found (λ ids. ids.items ≡ listed)) c.in-Some.is c.in_ok-ids.ensures.ids in
    let up = subst (λ found. IfSome found (λ ids. IdsAscend ids.items)) c.in-Some.is c.in_ok-ids.ensures.ascend in
    same ∙ sym (in-order listed (subst IdsAscend same up))

pub returns-in-Some-clause-double : goal.returns-in-Some-clause-double
returns-in-Some-clause-double g c =
    let listed = map (λ entity. entity.id) c.args.entities.now in
    let same = subst (λ found. IfSome found (λ ids. ids.items ≡ listed)) c.in-Some.is c.in_ok-ids.ensures.ids in
    let up = subst (λ found. IfSome found (λ ids. IdsAscend ids.items)) c.in-Some.is c.in_ok-ids.ensures.ascend in
    let as_many : length c.in-Some.ids.items ≡ length c.args.entities.now = ap length same ∙ length-map c.args.entities.now (λ entity. entity.id) in
    let none : nat_lt (length c.in-Some.ids.items) (length c.args.entities.now) ≡ false = grind (arith, nat_tests) in
    none ∙ sym (none-double listed (subst IdsAscend same up))
