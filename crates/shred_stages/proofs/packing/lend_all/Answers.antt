use Rattle.std.proofs.Common.{◌≡◌, ◌+◌, ◌++◌, ◌∷◌, [], ℕ, length, drop, ap, sym, ◌∙◌, subst, arith, rules, refl, length-append, vec_len, ◌-◌, take_all}
use Rattle.std.specs.Vec.Iter.{drain_items}
use Rattle.shred_world.specs.Bundles.{holding_of}
use Rattle.shred_stages.specs.Away.{systems_in}
use Rattle.shred_stages.proofs.LendingLemmas.{IsLoading, loading-start, loading-stand, loading-next, loading-done, few-next, drop-at, drop-none}
use Rattle.shred_stages.proofs.packing.lend_all.Goals as goal

pub loop-kit-init : goal.loop-kit-init
loop-kit-init g c =
    let stage = c.args.kits.now.items in
    let packs = c.args.packs.now.items in
    let slots = c.args.slots.now.items in
    let w = holding_of c.args.world.now in
    let none : length packs ≡ 0 = ap length c.requires.none in
    let long = c.args.kits.now.ok.0 in
    let all : drain_items c.drain-rest.result ≡ stage = c.drain-rest.ensures.rest ∙ take_all (vec_len c.args.kits.now - 0) stage (omega (arith, long)) in
    let many : length (drain_items c.drain-rest.result) ≡ length stage = ap length all in
    record {
      rest = all ∙ ap (λ k. drop k stage) (sym none);
      keeps = (refl, refl, refl);
      capacity = refl;
      few = omega (arith, many, none, c.requires.room);
      loading = let P : ℕ → Type 0 = λ k. IsLoading (systems_in slots) stage k packs slots w w in subst P (sym none) (loading-start stage packs slots w c.requires.none c.requires.there c.requires.free);
    }

pub lend-requires : goal.lend-requires
lend-requires g c =
    let was = c.loop-kit.invariant in
    let stage = c.args.kits.now.items in
    let k = length c.loop-kit.packs.items in
    let items : drain_items c.loop-kit.rest ≡ c.in-Some.kit ∷ drain_items c.next.new.self = search rules in
    let at = drop-at k stage c.in-Some.kit (drain_items c.next.new.self) (sym was.rest ∙ items) in
    record {
      placed = (loading-stand (systems_in c.args.slots.now.items) stage k c.loop-kit.packs.items c.loop-kit.slots.items (holding_of c.args.world.now) (holding_of c.loop-kit.world) c.in-Some.kit at.0 at.1 was.loading c.requires.seated).0;
    }

pub loop-kit-preserved : goal.loop-kit-preserved
loop-kit-preserved g c =
    let was = c.loop-kit.invariant in
    let stage = c.args.kits.now.items in
    let packs = c.loop-kit.packs.items in
    let packs2 = c.push_reserved.new.self.items in
    let k = length packs in
    let later = drain_items c.next.new.self in
    let slots = c.args.slots.now.items in
    let w = holding_of c.args.world.now in
    let items : drain_items c.loop-kit.rest ≡ c.in-Some.kit ∷ later = search rules in
    let at = drop-at k stage c.in-Some.kit later (sym was.rest ∙ items) in
    let more : packs2 ≡ packs ++ c.lend.result ∷ [] = c.push_reserved.ensures.items in
    let longer : length packs2 ≡ k + 1 = ap length more ∙ length-append packs (c.lend.result ∷ []) in
    record {
      rest = at.2 ∙ ap (λ n. drop n stage) (sym longer);
      keeps = search rules;
      capacity = c.push_reserved.ensures.capacity ∙ was.capacity;
      few = few-next packs packs2 (drain_items c.loop-kit.rest) later c.in-Some.kit c.lend.result _ items more was.few;
      loading = let P : ℕ → Type 0 = λ n. IsLoading (systems_in slots) stage n packs2 c.lend.new.slots.items w (holding_of c.lend.new.world) in
          subst P (sym longer)
          (loading-next (systems_in slots) stage k packs c.loop-kit.slots.items w (holding_of c.loop-kit.world) c.in-Some.kit at.0 at.1 was.loading c.requires.seated c.lend.result packs2 c.lend.new.slots.items (holding_of c.lend.new.world) more c.lend.ensures);
    }

pub returns-clause-loaded : goal.returns-clause-loaded
returns-clause-loaded g c =
    let was = c.loop-kit.invariant in
    let stage = c.args.kits.now.items in
    let k = length c.loop-kit.packs.items in
    let none : drain_items c.loop-kit.rest ≡ [] = search rules in
    loading-done (systems_in c.args.slots.now.items) stage k c.loop-kit.packs.items c.loop-kit.slots.items (holding_of c.args.world.now) (holding_of c.loop-kit.world) (drop-none k stage (sym was.rest ∙ none)) was.loading
