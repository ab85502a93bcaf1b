use Rattle.std.proofs.Common.{◌≡◌, ◌<◌, ◌+◌, ◌∙◌, ◌++◌, suc, [], ◌∷◌, length, map, take, get_or, ap, sym, subst, rules, arith}
use Rattle.std.specs.List.{range_with_len}
use Rattle.std.proofs.Math.Seq.{take-suc}
use Rattle.std.proofs.lemmas.List.{length-take-le}
use Rattle.shred_crew.specs.Deals.{lists, put_at}
use Rattle.shred_crew.specs.Cuts.{groups_of, IsShared}
use Rattle.shred_crew.proofs.DealLemmas.{lists-length}
use Rattle.shred_crew.proofs.ShareLemmas.{share-none, share-more, shared-none, shared-more}
use Rattle.shred_crew.proofs.cutting.groups_of_each.Goals as goal

pub loop-group-init : goal.loop-group-init
loop-group-init c =
    let none = c.in_ok-made.ensures.value in
    record {
      value = none ∙ share-none 0 c.args.workers;
      shared = subst (IsShared 0) (sym none) (shared-none c.args.workers);
      count = c.in_ok-made.ensures.count;
    }

pub loop-group-preserved : goal.loop-group-preserved
loop-group-preserved c =
    let was = c.loop-group.invariant in
    let group = c.loop-group.group in
    let chosen = c.args.chosen.now in
    let worker = get_or chosen group 0 in
    let known : worker < c.args.workers = c.requires group 0 c.loop-group-test.true in
    let added : lists c.add.new.shares.items ≡ put_at (lists c.loop-group.made.items) worker group = search rules in
    let long : length (take group chosen) ≡ group = length-take-le group chosen (omega (arith, c.loop-group-test.true)) in
    let more : suc group ≡ group + 1 = omega arith in
    let next : take (group + 1) chosen ≡ take group chosen ++ worker ∷ [] = ap (λ n. take n chosen) (sym more) ∙ take-suc chosen group 0 c.loop-group-test.true in
    let count : length (lists c.loop-group.made.items) ≡ c.args.workers = lists-length c.loop-group.made.items ∙ was.count in
    record {
      value = added ∙ ap (λ shares. put_at shares worker group) was.value ∙ share-more (take group chosen) worker worker 0 c.args.workers group (omega arith) known long ∙ ap (λ list. map (groups_of list) (range_with_len 0 c.args.workers)) (sym next);
      shared = subst (IsShared (group + 1)) (sym added) (shared-more group worker (lists c.loop-group.made.items) was.shared (omega (arith, known, count)));
      count = search rules;
    }
