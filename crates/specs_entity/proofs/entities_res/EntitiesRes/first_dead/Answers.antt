use Rattle.std.proofs.Common.{◌≡◌, ◌≤◌, ◌<◌, ◌+◌, ℕ, ◌∷◌, [], length, suc, take, get_or, subst, sym, arith, rules}
use Rattle.std.specs.List.{All}
use Rattle.std.proofs.Math.Seq.{take-suc}
use Rattle.std.proofs.lemmas.List.{take_all}
use Rattle.std.proofs.lemmas.List.Elements.{All-append, All-cons, All-nil}
use Rattle.specs_entity.specs.Births.{IsAlive}
use Rattle.specs_entity.proofs.entities_res.EntitiesRes.first_dead.Goals as goal

pub returns : goal.returns
returns c =
    let all : length c.args.entities.now ≤ c.loop-place.place = omega arith in
    subst (All (IsAlive c.args.self.now)) (take_all c.loop-place.place c.args.entities.now all) c.loop-place.invariant

pub loop-place-preserved : goal.loop-place-preserved
loop-place-preserved c =
    let births = c.args.self.now in
    let all = c.args.entities.now in
    let place : ℕ = c.loop-place.place in
    let entity = c.index-entities-place.result in
    let inside : place < length all = omega arith in
    let alive : IsAlive births (get_or all place entity) = search rules in
    let next : suc place ≡ place + 1 = omega arith in
    subst (λ n. All (IsAlive births) (take n all)) next
    (subst (All (IsAlive births)) (sym (take-suc all place entity inside))
    (All-append (IsAlive births) (take place all) (get_or all place entity ∷ []) c.loop-place.invariant
    (All-cons (IsAlive births) (get_or all place entity) [] alive (All-nil (IsAlive births)))))
