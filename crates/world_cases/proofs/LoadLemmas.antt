-- Entities that are made one after the other for markers that are not known.
use Rattle.std.proofs.Common.{◌≡◌, ◌≢◌, ◌+◌, ◌<◌, ◌≤◌, Bool, true, false, cond, Option, Some, None, is_some, inl, inr, refl, sym, ap, subst, ◌∙◌, arith}
use Rattle.std.proofs.lemmas.Bool.{false≢true}
use Rattle.std.specs.FinSet as set
use Rattle.specs_entity.specs.Births.{Births, IsAlive, IsBorn, living_of, number_of, persistent_at}
use Rattle.specs_entity.specs.Life.{Life, LifeAt}
use Rattle.specs_layouts.specs.Masked.{Masked}
use Rattle.specs_layouts.specs.MaskedLends.{StorageMembers}
use Rattle.specs_markers.specs.Marking.{Retrieves, MakesMarked}

-- who lives has a number that its index has had
counted : (fresh : Bool) (last : Option Life) (life : Life) → living_of fresh last ≡ Some life → life.number ≤ number_of last + cond fresh 1 0
counted true last life is = let same = ap (number_of) is in omega (arith, same)
counted false None life is = absurd (false≢true (ap is_some is))
counted false (Some one) life is = of-lives one.lives refl
  where
    of-lives : (b : Bool) → one.lives ≡ b → life.number ≤ one.number + 0
    of-lives true lives = let same = ap number_of (sym (ap (λ c. cond c (Some one) None) lives) ∙ is) in omega (arith, same)
    of-lives false lives = absurd (false≢true (ap is_some (sym (ap (λ c. cond c (Some one) None) lives) ∙ is)))

-- one that lives, of a birth, was born
pub alive-born : (births : Births) (entity : LifeAt) → IsAlive births entity → entity.generation.lives ≡ true → 0 < entity.generation.number → IsBorn births entity
alive-born births entity alive lives some = (lives, some, counted (set.contains births.fresh entity.id) (persistent_at births entity.id) entity.generation alive)

module _ {A S M I : Type 0} (noted : A → I → Option LifeAt) (allocates : A → LifeAt → Option I → M → A → Type 0) (id_of : M → I) (s : StorageMembers S M) (id : I) (births births' : Births) (before after : A) (had has : Masked S) where
  -- what is not known is made
  pub is-made : (entity : LifeAt) → noted before id ≡ None → Retrieves noted allocates id_of s id births births' before after had has entity → MakesMarked noted allocates id_of s id births births' before after had has entity
  is-made entity unknown (inl found) = absurd (false≢true (ap is_some (sym unknown ∙ found.known.under)))
  is-made entity unknown (inr made) = made

  -- and found under its id
  pub made-noted : (entity : LifeAt) → MakesMarked noted allocates id_of s id births births' before after had has entity → noted after id ≡ Some entity
  made-noted entity made =
      ap (noted after) (sym made.given.given.named) ∙ (made.given.given.notes.here ∙ ap Some (sym made.born))

  -- each other id has what it had
  pub made-others : (entity : LifeAt) (other : I) → other ≢ id → MakesMarked noted allocates id_of s id births births' before after had has entity → noted after other ≡ noted before other
  made-others entity other apart made = made.given.given.notes.others other (λ is. apart (is ∙ made.given.given.named))

  -- it is born
  pub made-born : (entity : LifeAt) → MakesMarked noted allocates id_of s id births births' before after had has entity → IsBorn births' entity
  made-born entity made =
      alive-born births' entity made.alive (ap (λ (e : LifeAt). e.generation.lives) made.born)
      (let number = ap (λ (e : LifeAt). e.generation.number) made.born in omega (arith, number))

  -- one that was born before is another
  pub made-new : (entity other : LifeAt) → IsBorn births other → MakesMarked noted allocates id_of s id births births' before after had has entity → entity ≢ other
  made-new entity other born made is = made.new (subst (IsBorn births) (sym is) born)

module _ {A S M I : Type 0} (noted : A → I → Option LifeAt) (allocates : A → LifeAt → Option I → M → A → Type 0) (id_of : M → I) (s : StorageMembers S M) (births births' births'' : Births) (before between after : A) (had has left : Masked S) (unknown : (id : I) → noted before id ≡ None) where
  -- for two ids that are not known two entities are made, each of them found under its id
  pub two-made : (id other : I) (one two : LifeAt) → other ≢ id → Retrieves noted allocates id_of s id births births' before between had has one → Retrieves noted allocates id_of s other births' births'' between after has left two
      → (two ≢ one) × (noted after id ≡ Some one) × (noted after other ≡ Some two)
  two-made id other one two apart first second =
      let made = is-made noted allocates id_of s id births births' before between had has one (unknown id) first in
      let still = made-others noted allocates id_of s id births births' before between had has one other apart made ∙ unknown other in
      let next = is-made noted allocates id_of s other births' births'' between after has left two still second in (
        made-new noted allocates id_of s other births' births'' between after has left two one (made-born noted allocates id_of s id births births' before between had has one made) next,
        made-others noted allocates id_of s other births' births'' between after has left two id (λ is. apart (sym is)) next ∙ made-noted noted allocates id_of s id births births' before between had has one made,
        made-noted noted allocates id_of s other births' births'' between after has left two next,
      )
