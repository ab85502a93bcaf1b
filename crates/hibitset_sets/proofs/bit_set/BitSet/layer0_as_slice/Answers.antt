use Rattle.std.proofs.Common.{ap, ◌∙◌, slice_index}
use Rattle.std.specs.FinSet as set
use Rattle.hibitset_sets.specs.Words.{word_of}
use Rattle.hibitset_sets.proofs.LayoutLemmas.{words0, member-room}
use Rattle.hibitset_sets.proofs.bit_set.BitSet.layer0_as_slice.Goals as goal

pub returns-clause-words : goal.returns-clause-words
returns-clause-words c = λ w.
    ap (λ xs. slice_index xs w) c.as_slice.ensures.value
    ∙ words0 c.self.invariant w
    ∙ ap (λ s. word_of (set.contains s.members) 0 w) c.self.view_is

pub returns-clause-within : goal.returns-clause-within
returns-clause-within c = member-room c.self.inside.layer0.items _ c.self.view_is
