-- Equality of `BitSet`s by members.
use Rattle.std.specs.Prelude.{◌≡◌, Bool, true, false, ◌&&◌, refl}
use Rattle.std.proofs.Common.{sym, ap, ◌∙◌}
use Rattle.std.specs.Ordering.{nat_cmp}
use Rattle.std.specs.Cmp.{IsPartialEquivalence, IsEquivalence, nat_cmp_total}
use Rattle.std.specs.FinSet as set
use Rattle.std.proofs.lemmas.Bool.{and_parts, and_from}
use Rattle.hibitset_sets.specs.BitSet.{SetWithRoom}

-- each member of one is a member of the other
abbrev pub same_members : SetWithRoom → SetWithRoom → Bool
same_members one other = set.is_subset other.members one.members && set.is_subset one.members other.members

and_swap : (a b : Bool) → (a && b) ≡ (b && a)
and_swap true true = refl
and_swap true false = refl
and_swap false true = refl
and_swap false false = refl

subset_trans : (one two three : set.FinSet nat_cmp) → set.is_subset one two ≡ true → set.is_subset two three ≡ true → set.is_subset one three ≡ true
subset_trans one two three first second =
    set.contains-is_subset nat_cmp_total one three (λ q member. set.is_subset-contains nat_cmp_total two three second q (set.is_subset-contains nat_cmp_total one two first q member))

subset_itself : (one : set.FinSet nat_cmp) → set.is_subset one one ≡ true
subset_itself one = set.contains-is_subset nat_cmp_total one one (λ q member. member)

same_trans : (one two three : SetWithRoom) → same_members one two ≡ true → same_members two three ≡ true → same_members one three ≡ true
same_trans one two three first second =
    let f = and_parts _ _ first in
    let s = and_parts _ _ second in
    and_from _ _ (subset_trans three.members two.members one.members s.0 f.0) (subset_trans one.members two.members three.members f.1 s.1)

same_swap : (one two : SetWithRoom) → same_members one two ≡ same_members two one
same_swap one two = and_swap (set.is_subset two.members one.members) (set.is_subset one.members two.members)

pub same_members-laws : IsPartialEquivalence same_members
same_members-laws = record { symm = same_swap; trans = same_trans }

pub both_ways : (a b : Bool) → (a ≡ true → b ≡ true) → (b ≡ true → a ≡ true) → a ≡ b
both_ways true b to from = sym (to refl)
both_ways false true to from = from refl
both_ways false false to from = refl

pub same_members-equivalence : IsEquivalence same_members
same_members-equivalence =
    record {
      refl = λ one. and_from _ _ (subset_itself one.members) (subset_itself one.members);
      symm = same_swap;
      congr = λ one two three same. both_ways _ _ (λ h. same_trans two one three (same_swap two one ∙ same) h) (λ h. same_trans one two three same h);
    }

-- the test is true exactly where the members are the same
pub same_members-is : (one two : SetWithRoom) → same_members one two ≡ true → one.members ≡ two.members
same_members-is one two same =
    let both = and_parts _ _ same in
    set.same_set nat_cmp_total set.nat_cmp-IsAntisymmetric _ _ (λ q. both_ways _ _ (set.is_subset-contains nat_cmp_total one.members two.members both.1 q) (set.is_subset-contains nat_cmp_total two.members one.members both.0 q))

pub is-same_members : (one two : SetWithRoom) → one.members ≡ two.members → same_members one two ≡ true
is-same_members one two is =
    and_from _ _ (ap (λ s. set.is_subset two.members s) is ∙ subset_itself two.members) (ap (λ s. set.is_subset s two.members) is ∙ subset_itself two.members)
