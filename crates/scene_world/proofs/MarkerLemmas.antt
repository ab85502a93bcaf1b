-- What a note less makes of a table.
use Rattle.std.proofs.Common.{◌≡◌, ℕ, nat_eq, cond, List, None, sym, ap, ◌∙◌}
use Rattle.std.proofs.lemmas.Bool.{eqb-true}
use Rattle.std.proofs.lemmas.Cmp.{nat_cmp_total, nat_eq_equiv}
use Rattle.std.specs.FinMap as map
use Rattle.std.specs.Map.{lookup}
use Rattle.std.specs.Ordering.{eq_by_cmp, nat_cmp}
use Rattle.specs_entity.specs.Life.{LifeAt}
use Rattle.specs_markers.proofs.CallerLemmas.{at_numbers, same-test, get-number}

-- a table that reads as another with one entry less is the other's map without it
pub noted-less : (before after : List (ℕ × LifeAt)) (key : ℕ) → ((q : ℕ) → lookup (nat_eq q) after ≡ cond (nat_eq key q) None (lookup (nat_eq q) before)) → at_numbers after ≡ map.remove (at_numbers before) key
noted-less before after key reads =
    map.same_map nat_cmp_total map.nat_cmp-IsAntisymmetric _ _
    (λ q. get-number after q
    ∙ (reads q
    ∙ (ap (λ b. cond b None (lookup (nat_eq q) before)) (nat_eq_equiv.symm key q ∙ same-test nat_eq nat_cmp nat_eq_equiv eqb-true nat_cmp_total map.nat_cmp-IsAntisymmetric q key)
    ∙ (ap (cond (eq_by_cmp nat_cmp q key) None) (sym (get-number before q))
    ∙ sym (map.get-remove nat_cmp_total (at_numbers before) key q)))))
