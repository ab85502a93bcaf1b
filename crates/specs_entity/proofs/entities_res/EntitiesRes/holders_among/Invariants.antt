use Rattle.std.proofs.Common.{ℕ, take}
use Rattle.specs_entity.specs.Closures.{IsPaired}
use Rattle.specs_entity.specs.Holders.{IsChained, AreLiving, Holds, end_in}
use Rattle.specs_entity.proofs.entities_res.EntitiesRes.holders_among.Given as goal

abbrev pub invariant-loop-pair : goal.invariant-loop-pair
invariant-loop-pair l = record {
  chained : IsChained (end_in l.holders.ends) l.holders.links.items;
  lives : AreLiving l.self l.holders.links.items;
  paired : (holder target : ℕ) → Holds l.holders.links.items holder target → IsPaired l.self (take l.pair-index l.pairs) holder target;
  all : (holder target : ℕ) → IsPaired l.self (take l.pair-index l.pairs) holder target → Holds l.holders.links.items holder target;
}
