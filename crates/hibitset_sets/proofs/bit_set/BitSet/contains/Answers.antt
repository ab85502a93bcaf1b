use Rattle.std.proofs.Common.{◌≡◌, ◌/◌, ◌%◌, ◌^◌, ap, sym, ◌∙◌, arith, slice_index}
use Rattle.std.specs.FinSet as set
use Rattle.std.proofs.lemmas.List.{get_or_read}
use Rattle.std.proofs.lemmas.Bool.{le-ltb}
use Rattle.hibitset_sets.proofs.LayoutLemmas.{tested-member, contains-members_of, bit_of-past, member-room}
use Rattle.hibitset_sets.proofs.bit_set.BitSet.contains.Goals as goal

pub returns-then-place-len-clause-value : goal.returns-then-place-len-clause-value
returns-then-place-len-clause-value c =
    let v = c.self.inside.layer0 in
    tested-member v.items _ c.args.id _ _ c.self.view_is
    (get_or_read v.items _ _ (omega (arith, v.ok.0)) c.index.ensures 0 ∙ ap (slice_index v.items) c.offset-place.ensures)
    (c.mask.ensures ∙ ap (λ n. 2 ^ (n % 64)) (let e : c.args.id / 1 ≡ c.args.id = omega arith in e))

pub returns-then-place-len-clause-within : goal.returns-then-place-len-clause-within
returns-then-place-len-clause-within c = member-room c.self.inside.layer0.items _ c.self.view_is c.args.id

pub returns-else-place-len-clause-value : goal.returns-else-place-len-clause-value
returns-else-place-len-clause-value c =
    let v = c.self.inside.layer0 in
    le-ltb _ _ c.if-place-len.false
    ∙ sym (bit_of-past v.items c.args.id (omega (arith, v.ok.0)))
    ∙ sym (contains-members_of v.items c.args.id)
    ∙ ap (λ s. set.contains s.members c.args.id) c.self.view_is

pub returns-else-place-len-clause-within : goal.returns-else-place-len-clause-within
returns-else-place-len-clause-within c = member-room c.self.inside.layer0.items _ c.self.view_is c.args.id
