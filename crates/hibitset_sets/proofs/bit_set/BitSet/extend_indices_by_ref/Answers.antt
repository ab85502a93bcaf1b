use Rattle.std.proofs.Common.{[], ◌∷◌, ◌++◌, refl}
use Rattle.std.specs.declared.option.Option.TheVariants.{Some}
use Rattle.std.proofs.iter.Next.{Yields-more}
use Rattle.std.proofs.lemmas.List.Elements.{All-pop}
use Rattle.hibitset_sets.specs.Extend.{IsIndexRef}
use Rattle.hibitset_sets.proofs.bit_set.BitSet.extend_indices_by_ref.Goals as goal

pub add-requires : goal.add-requires
add-requires g c =
    let it = c.into_iter-i-iterator in
    let xs = c.loop-i.yielded in
    let x = c.in-Some.i in
    let more = Yields-more g.U.IntoIter.Iterator.next_gives it.result xs c.loop-i.i-iterator x c.next.new.self c.loop-i.yielded_by c.in-Some.ensures.steps in
    (All-pop IsIndexRef (xs ++ x ∷ []) xs (Some x) refl ((c.requires it.result it.ensures.into_iter_gives).2 (xs ++ x ∷ []) c.next.new.self more)).1
