use Rattle.std.proofs.Common.{◌≡◌, ◌≤◌, ◌+◌, ◌∷◌, ◌++◌, ◌∙◌, suc, [], length, take, vec_capacity, ap, sym, rules, arith}
use Rattle.std.proofs.Math.Seq.{take-suc}
use Rattle.shred_crew.proofs.ZipLemmas.{zip-push}
use Rattle.shred_crew.proofs.deal.make_rows.Goals as goal

pub loop-share-preserved : goal.loop-share-preserved
loop-share-preserved g c =
    let was = c.loop-share.invariant in
    let more : suc c.loop-share.share-index ≡ c.loop-share.share-index + 1 = omega arith in
    let next : take (c.loop-share.share-index + 1) c.args.shares.now ≡ take c.loop-share.share-index c.args.shares.now ++ c.share-item.result ∷ [] =
    ap (λ n. take n c.args.shares.now) (sym more) ∙ take-suc c.args.shares.now c.loop-share.share-index c.share-item.result c.loop-share-test.true ∙ ap (λ one. take c.loop-share.share-index c.args.shares.now ++ one ∷ []) (sym c.share-item.is) in
    record {
      roomy = zip-push (λ share row. (row.items ≡ []) × (length share.items ≤ vec_capacity row)) (take c.loop-share.share-index c.args.shares.now) c.loop-share.rows.items (take (c.loop-share.share-index + 1) c.args.shares.now) c.push_reserved.new.self.items c.share-item.result c.in_ok-with_capacity.field-0
          next c.push_reserved.ensures.items was.roomy (search rules, search rules);
      room = search rules;
      few = search rules;
    }
