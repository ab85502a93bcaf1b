use Rattle.std.proofs.Common.{◌≡◌, ℕ, ◌+◌, ◌*◌, ◌/◌, Ok, Err, sym, ap, subst, ◌∙◌, arith}
use Rattle.specs_layouts.proofs.CallerLemmas.{shows-refl}
use Rattle.specs_join.specs.Tested.{EndsSo, in_word, in_group, IsRest}
use Rattle.specs_join.proofs.TestedLemmas.{done-none, done-same, done-next, stops-next, shows-both}
use Rattle.specs_join.proofs.WordsLemmas.{rest-first, rest-next, passed_words, words-first, words-last, words-there, words-before, words-next, words-below}
use Rattle.specs_join.proofs.join.words.change_group.Goals as goal

-- the word that is found is that of the set
test-is : (bits found word : ℕ) → bits ≡ found → in_word bits (word * 64 / 64) ≡ in_word found word
test-is bits found word is = let at : word * 64 / 64 ≡ word = omega arith in (λ j. in_word (is j) (at j))

pub loop-groups-init : goal.loop-groups-init
loop-groups-init g c =
    let layout = g.L.UnprotectedStorage in
    let set = c.args.set.now in
    let words = g.M.BitSetLike.words set in
    let has = g.M.BitSetLike.members set in
    let over = g.met.M.BitSetLike.stands_over set in
    let agree = g.met.M.BitSetLike.words_agree set in
    let top = c.args.top in
    let passed = passed_words words has over agree top c.requires.range in
    let groups : c.layer1-groups.result ≡ words 1 top = c.layer1-groups.ensures in
    record {
      rest = subst (λ left. IsRest (words 1 top) left) (sym groups) (rest-first (words 1 top));
      shows = shows-refl layout.part_at layout.events layout.emits c.args.parts.now;
      done = done-none layout.part_at layout.events layout.emits (g.C.Change.changed c.args.change.now) (g.R.Join.value_at c.args.values.now)
          (passed c.layer1-groups.result) c.args.parts.now
          (λ i. ap (λ left. passed left i) groups ∙ words-first words has over agree top c.requires.range i);
    }

pub change_word-requires-clause-ready : goal.change_word-requires-clause-ready
change_word-requires-clause-ready g c =
    let layout = g.L.UnprotectedStorage in
    let changed = g.C.Change.changed c.args.change.now in
    let items = g.R.Join.value_at c.args.values.now in
    let set = c.args.set.now in
    let words = g.M.BitSetLike.words set in
    let has = g.M.BitSetLike.members set in
    let over = g.met.M.BitSetLike.stands_over set in
    let agree = g.met.M.BitSetLike.words_agree set in
    let top = c.args.top in
    let low = c.requires.range in
    let left = c.loop-groups.groups in
    let place = c.take_bit-place.result.0 in
    let rest = c.take_bit-place.result.1 in
    let word = top * 64 + place in
    let takes = c.take_bit-place.ensures in
    let is = c.loop-groups.invariant.rest in
    let at : word ≡ 64 * top + place = omega arith in
    let test = in_word (words 0 word) word in
    let same : in_word c.layer0-bits.result (word * 64 / 64) ≡ test = test-is c.layer0-bits.result (words 0 word) word c.layer0-bits.ensures in
    λ index passes.
    let there = words-there words has over agree top low left place rest word is takes at index (ap (λ test. test index) (sym same) ∙ passes) in
    let ready = c.requires.ready index there in
    (c.loop-groups.invariant.done.parts.same index ∙ ready.0, ready.1)

pub loop-groups-preserved : goal.loop-groups-preserved
loop-groups-preserved g c =
    let layout = g.L.UnprotectedStorage in
    let changed = g.C.Change.changed c.args.change.now in
    let items = g.R.Join.value_at c.args.values.now in
    let set = c.args.set.now in
    let words = g.M.BitSetLike.words set in
    let has = g.M.BitSetLike.members set in
    let over = g.met.M.BitSetLike.stands_over set in
    let agree = g.met.M.BitSetLike.words_agree set in
    let top = c.args.top in
    let low = c.requires.range in
    let left = c.loop-groups.groups in
    let place = c.take_bit-place.result.0 in
    let rest = c.take_bit-place.result.1 in
    let word = top * 64 + place in
    let takes = c.take_bit-place.ensures in
    let is = c.loop-groups.invariant.rest in
    let at : word ≡ 64 * top + place = omega arith in
    let test = in_word (words 0 word) word in
    let same : in_word c.layer0-bits.result (word * 64 / 64) ≡ test = test-is c.layer0-bits.result (words 0 word) word c.layer0-bits.ensures in
    let before = words-before words has over agree top low left place rest word is takes at in
    let passed = passed_words words has over agree top low in
    let shown = c.loop-groups.invariant.shows in
    let done = c.loop-groups.invariant.done in
    let now = c.change_word.new.parts in
    let ends = subst (λ test. EndsSo layout.part_at layout.events layout.emits changed items test c.loop-groups.parts {R = g.row.C-Refusal.Denot} (Ok c.in-Ok.field-0) now) same
    (subst (λ result. EndsSo layout.part_at layout.events layout.emits changed items (in_word c.layer0-bits.result (word * 64 / 64)) c.loop-groups.parts result
    now) c.in-Ok.is c.change_word.ensures.ends) in
    record {
      rest = rest-next (words 1 top) left place rest is takes;
      shows = shows-both layout.part_at layout.events layout.emits changed items (passed left) test c.args.parts.now c.loop-groups.parts now before shown done
          c.change_word.ensures.shows;
      done = done-next layout.part_at layout.events layout.emits changed items (passed left) test c.args.parts.now c.loop-groups.parts now before shown done
          (passed rest) (words-next words has over agree top low left place rest word is takes at) ends;
    }

pub returns-in-Err : goal.returns-in-Err
returns-in-Err g c =
    let layout = g.L.UnprotectedStorage in
    let changed = g.C.Change.changed c.args.change.now in
    let items = g.R.Join.value_at c.args.values.now in
    let set = c.args.set.now in
    let words = g.M.BitSetLike.words set in
    let has = g.M.BitSetLike.members set in
    let over = g.met.M.BitSetLike.stands_over set in
    let agree = g.met.M.BitSetLike.words_agree set in
    let top = c.args.top in
    let low = c.requires.range in
    let left = c.loop-groups.groups in
    let place = c.take_bit-place.result.0 in
    let rest = c.take_bit-place.result.1 in
    let word = top * 64 + place in
    let takes = c.take_bit-place.ensures in
    let is = c.loop-groups.invariant.rest in
    let at : word ≡ 64 * top + place = omega arith in
    let test = in_word (words 0 word) word in
    let same : in_word c.layer0-bits.result (word * 64 / 64) ≡ test = test-is c.layer0-bits.result (words 0 word) word c.layer0-bits.ensures in
    let before = words-before words has over agree top low left place rest word is takes at in
    let passed = passed_words words has over agree top low in
    let shown = c.loop-groups.invariant.shows in
    let done = c.loop-groups.invariant.done in
    let now = c.change_word.new.parts in
    let ends = subst (λ test. EndsSo layout.part_at layout.events layout.emits changed items test c.loop-groups.parts (Err c.in-Err.error) now) same
    (subst (λ result. EndsSo layout.part_at layout.events layout.emits changed items (in_word c.layer0-bits.result (word * 64 / 64)) c.loop-groups.parts result
    now) c.in-Err.is c.change_word.ensures.ends) in
    record {
      shows = shows-both layout.part_at layout.events layout.emits changed items (passed left) test c.args.parts.now c.loop-groups.parts now before shown done
          c.change_word.ensures.shows;
      ends = stops-next layout.part_at layout.events layout.emits changed items (passed left) test c.args.parts.now c.loop-groups.parts now before shown done
          (in_group has top) c.in-Err.error (words-below words has over agree top low left place rest word is takes at)
          (words-there words has over agree top low left place rest word is takes at) ends;
    }

pub returns : goal.returns
returns g c =
    let layout = g.L.UnprotectedStorage in
    let set = c.args.set.now in
    let words = g.M.BitSetLike.words set in
    let has = g.M.BitSetLike.members set in
    let over = g.met.M.BitSetLike.stands_over set in
    let agree = g.met.M.BitSetLike.words_agree set in
    let top = c.args.top in
    let none : c.loop-groups.groups ≡ 0 = omega arith in
    record {
      shows = c.loop-groups.invariant.shows;
      ends = done-same layout.part_at layout.events layout.emits (g.C.Change.changed c.args.change.now) (g.R.Join.value_at c.args.values.now)
          (passed_words words has over agree top c.requires.range c.loop-groups.groups)
          (in_group has top) c.args.parts.now c.loop-groups.parts (words-last words has over agree top c.requires.range c.loop-groups.groups none) c.loop-groups.invariant.done;
    }
