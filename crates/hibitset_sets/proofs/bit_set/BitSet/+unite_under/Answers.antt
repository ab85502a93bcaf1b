use Rattle.std.proofs.Common.{◌≡◌, suc, ◌+◌, ◌-◌, ◌*◌, refl, subst, arith, ◌∙◌}
use Rattle.hibitset_sets.specs.Assign.{UnitesUnder}
use Rattle.hibitset_sets.specs.BitSet.{has_member}
use Rattle.hibitset_sets.proofs.UniteLemmas.{word-at, top-in, word-room, united-zero, uniting-first, uniting-next, uniting-last}
use Rattle.hibitset_sets.proofs.bit_set.BitSet.+unite_under.Goals as goal

pub unite_word-requires : goal.unite_word-requires
unite_word-requires g t c =
    let set = c.args.rhs.now in
    let words = g.B.BitSetLike.words set in
    let few = c.requires.layer in
    let low = c.requires.number in
    word-room words (g.B.BitSetLike.members set) (g.met.B.BitSetLike.stands_over set) (g.met.B.BitSetLike.words_agree set) c.args.layer c.args.number few low c.if-layer-eq0.true
    c.get_from_layer-left.result c.args.self.now.room
    (word-at words c.args.layer c.args.number c.get_from_layer-left.result (top-in c.args.layer c.args.number low) c.get_from_layer-left.ensures)
    c.get_from_layer-left.type_inv c.requires.room

pub returns-then-layer-eq0-clause-members : goal.returns-then-layer-eq0-clause-members
returns-then-layer-eq0-clause-members g t c =
    let set = c.args.rhs.now in
    let words = g.B.BitSetLike.words set in
    let low = c.requires.number in
    united-zero words (g.B.BitSetLike.members set) (g.met.B.BitSetLike.stands_over set) (g.met.B.BitSetLike.words_agree set) c.args.layer c.args.number c.requires.layer low c.if-layer-eq0.true
    c.get_from_layer-left.result (word-at words c.args.layer c.args.number c.get_from_layer-left.result (top-in c.args.layer c.args.number low) c.get_from_layer-left.ensures)
    (has_member c.args.self.now) (has_member c.unite_word.new.self) c.unite_word.ensures.members

pub loop-left-init : goal.loop-left-init
loop-left-init g t c =
    let set = c.args.rhs.now in
    let words = g.B.BitSetLike.words set in
    let low = c.requires.number in
    record {
      room = refl;
      uniting = uniting-first words (g.B.BitSetLike.members set) (g.met.B.BitSetLike.stands_over set) (g.met.B.BitSetLike.words_agree set) c.args.layer c.args.number c.requires.layer low
          (has_member c.args.self.now) c.get_from_layer-left.result
          (word-at words c.args.layer c.args.number c.get_from_layer-left.result (top-in c.args.layer c.args.number low) c.get_from_layer-left.ensures);
    }

pub loop-left-preserved : goal.loop-left-preserved
loop-left-preserved g t c =
    let other = g.B.BitSetLike.members c.args.rhs.now in
    let place = c.take_bit-place.result.0 in
    let some = c.if-layer-eq0.false in
    let same : suc (c.args.layer - 1) ≡ c.args.layer = omega (arith, some) in
    record {
      room = c.unite_under.ensures.room ∙ c.loop-left.invariant.room;
      uniting = uniting-next other c.args.layer c.args.number (has_member c.args.self.now) (has_member c.loop-left.self) (has_member c.unite_under.new.self)
          c.loop-left.left place c.take_bit-place.result.1 c.take_bit-place.ensures c.loop-left.invariant.uniting
          (subst (λ layer. UnitesUnder other layer (64 * c.args.number + place) (has_member c.loop-left.self) (has_member c.unite_under.new.self)) same c.unite_under.ensures.members);
    }

pub returns-clause-members : goal.returns-clause-members
returns-clause-members g t c =
    let none : c.loop-left.left ≡ 0 = omega arith in
    uniting-last (g.B.BitSetLike.members c.args.rhs.now) c.args.layer c.args.number (has_member c.args.self.now) (has_member c.loop-left.self) c.loop-left.left none c.loop-left.invariant.uniting
