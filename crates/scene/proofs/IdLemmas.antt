-- Ids that compare alike are one.
use Rattle.std.proofs.Common.{◌≡◌, ℕ, Bool, true, refl}
use Rattle.std.specs.declared.cmp.Ordering.{Ordering}
use Rattle.std.specs.declared.cmp.Ordering.TheVariants.{Less, Equal, Greater}
use Rattle.std.specs.Ordering.{nat_cmp, is_eq, eq_by_cmp}
use Rattle.std.specs.Cmp.{IsEquivalence, nat_cmp_total, eq_by_cmp_equiv}
use Rattle.std.proofs.lemmas.Map.Lookups.{exact_unsigned}

-- whether two ids are one
abbrev pub same_key : ℕ → ℕ → Bool
same_key = eq_by_cmp nat_cmp

pub same_equiv : IsEquivalence same_key
same_equiv = eq_by_cmp_equiv nat_cmp_total

equal : (r : Ordering) → is_eq r ≡ true → r ≡ Equal
equal Less e = cc
equal Equal e = refl
equal Greater e = cc

-- the test decides equality
pub same-is : (a b : ℕ) → same_key a b ≡ true → a ≡ b
same-is a b e = exact_unsigned a b (equal _ e)

pub same-itself : (a : ℕ) → same_key a a ≡ true
same-itself a = same_equiv.refl a
