-- What the entries are after a change.
use Rattle.std.proofs.Common.{◌≡◌, ℕ, Bool, true, List, [], Option, Some, cond, IsSome, nat_eq, sym, ap, refl}
use Rattle.std.proofs.lemmas.Bool.{eqb-true, false≢true, false_from_ne_true}
use Rattle.std.proofs.lemmas.Cmp.{eq_by_cmp_equiv, nat_cmp_total, nat_eq_equiv}
use Rattle.std.proofs.lemmas.Map.{lookup-set_value}
use Rattle.std.specs.Cmp.{IsEquivalence}
use Rattle.std.specs.FinMap.{nat_cmp-IsAntisymmetric}
use Rattle.std.specs.Ordering.{nat_cmp, eq_by_cmp, is_eq}
use Rattle.std.specs.declared.cmp.Ordering.{Ordering}
use Rattle.std.specs.declared.cmp.Ordering.TheVariants.{Less, Equal, Greater}
use Rattle.std.specs.Map.{lookup, set_value}
use Rattle.specs_layouts.specs.Parts.{Puts, HasNone}
use Rattle.specs_layouts.specs.PartLemmas.{Puts-by_test}
use Rattle.specs_layouts.specs.Entries.{tree_part, with_tree_part, table_part, with_table_part}

module _ {T : Type 0} (eq : ℕ → ℕ → Bool) (laws : IsEquivalence eq) (exact : (x y : ℕ) → eq x y ≡ true → x ≡ y) where
  -- what an update of one index's entry leaves
  pub updates-put : (before after : List (ℕ × T)) (index : ℕ) (part : Option T) → ((q : ℕ) → lookup (eq q) after ≡ cond (eq index q) part (lookup (eq q) before)) → Puts (λ i. lookup (eq i) before) index part (λ i. lookup (eq i) after)
  updates-put before after index part reads =
      Puts-by_test (λ i. lookup (eq i) before) (λ i. lookup (eq i) after) (eq index) index part (laws.refl index) (λ other apart. false_from_ne_true (eq index other) (λ e. apart (sym (exact index other e)))) reads

  -- what a write of an entry leaves
  pub writes-put : (entries : List (ℕ × T)) (index : ℕ) (part : T) → IsSome (lookup (eq index) entries) → Puts (λ i. lookup (eq i) entries) index (Some part) (λ i. lookup (eq i) (set_value (eq index) entries part))
  writes-put entries index part there =
      updates-put entries (set_value (eq index) entries part) index (Some part) (λ q. lookup-set_value laws (eq index) (laws.congr index) q part entries there)

ranked_equal : (r : Ordering) → is_eq r ≡ true → r ≡ Equal
ranked_equal Less e = absurd (false≢true e)
ranked_equal Equal e = refl
ranked_equal Greater e = absurd (false≢true e)

pub exact_order : (x y : ℕ) → eq_by_cmp nat_cmp x y ≡ true → x ≡ y
exact_order x y e = nat_cmp-IsAntisymmetric x y (ranked_equal (nat_cmp x y) e)

pub with_tree_part-puts : {T : Type 0} (entries : List (ℕ × T)) (index : ℕ) (part : T) → IsSome (tree_part entries index) → Puts (tree_part entries) index (Some part) (tree_part (with_tree_part entries index part))
with_tree_part-puts = writes-put (eq_by_cmp nat_cmp) (eq_by_cmp_equiv nat_cmp_total) exact_order

pub with_table_part-puts : {T : Type 0} (entries : List (ℕ × T)) (index : ℕ) (part : T) → IsSome (table_part entries index) → Puts (table_part entries) index (Some part) (table_part (with_table_part entries index part))
with_table_part-puts = writes-put nat_eq nat_eq_equiv eqb-true

pub tree-starts : {T : Type 0} (entries : List (ℕ × T)) → entries ≡ [] → HasNone (tree_part entries)
tree-starts entries none index = ap (λ (es : List (ℕ × _)). tree_part es index) none

pub table-starts : {T : Type 0} (entries : List (ℕ × T)) → entries ≡ [] → HasNone (table_part entries)
table-starts entries none index = ap (λ (es : List (ℕ × _)). table_part es index) none
