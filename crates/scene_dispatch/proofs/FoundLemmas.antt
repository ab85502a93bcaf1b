-- Where the system of an entry stands among the staged ones.
use Rattle.std.proofs.Common.{◌≡◌, ℕ, suc, ◌+◌, Bool, true, false, not, cond, List, [], ◌∷◌, ◌++◌, length, Option, Some, None, refl, ap, sym, ◌∙◌, append_assoc, length-append, arith}
use Rattle.std.specs.Prelude.{slice_get, if◌then◌else◌}
use Rattle.std.proofs.lemmas.List.Sums.{sum_by-cons}
use Rattle.scene_model.specs.Rulebook.{Facts}
use Rattle.scene_model.specs.Scenes.{PlainSystem}
use Rattle.scene_document.specs.Drafts.{DraftEntry, DraftSystem, barrier, system}
use Rattle.scene_document.specs.Openings.{systems_at, with_facts, is_staged, is_staged_as, staged_list}
use Rattle.scene_dispatch.specs.Entries.{plain_system}
use Rattle.scene_dispatch.proofs.NumberLemmas.{staged_count}
use Rattle.scene_dispatch.proofs.PlaceLemmas.{get-seam}

-- the systems of entries, and then those of later ones
pub systems-append : (test : DraftSystem → Bool) (place end : ℕ) (early later : List DraftEntry) → end ≡ place + length early → systems_at test place (early ++ later) ≡ systems_at test place early ++ systems_at test end later
systems-append test place end [] later at = let e : place ≡ end = omega arith in ap (λ p. systems_at test p later) e
systems-append test place end (barrier ∷ early) later at = systems-append test (suc place) end early later (omega arith)
systems-append test place end (system one ∷ early) later at =
    let here : List PlainSystem = if test one then with_facts place one one.facts else [] in
    ap (λ list. here ++ list) (systems-append test (suc place) end early later (omega arith)) ∙ sym (append_assoc here (systems_at test (suc place) early) (systems_at test end later))

-- as many are listed as are staged
listed-staged : (place : ℕ) (entries : List DraftEntry) → length (staged_list place entries) ≡ staged_count entries
listed-staged place [] = refl
listed-staged place (barrier ∷ entries) =
    let rest = listed-staged (suc place) entries in
    let e = sum_by-cons (λ (e : DraftEntry). cond (is_staged e) 1 0) barrier entries in omega (arith, rest, e)
listed-staged place (system one ∷ entries) =
    length-append (if not one.local then with_facts place one one.facts else []) (staged_list (suc place) entries)
    ∙ ap (λ n. n + length (staged_list (suc place) entries)) (by one.local one.facts) ∙ ap (λ n. cond (is_staged (system one)) 1 0 + n) (listed-staged (suc place) entries)
    ∙ sym (sum_by-cons (λ (e : DraftEntry). cond (is_staged e) 1 0) (system one) entries)
  where
    by : (local : Bool) (facts : Option Facts) → length (if not local then with_facts place one facts else []) ≡ cond (is_staged_as local facts) 1 0
    by true None = refl
    by true (Some facts) = refl
    by false None = refl
    by false (Some facts) = refl

-- under the number of so many as are staged before an entry stands its system, where it is staged
pub stands-there : (all early later : List DraftEntry) (one : DraftSystem) (facts : Facts) (place number : ℕ) → all ≡ early ++ system one ∷ later → place ≡ suc (length early) → number ≡ staged_count early
    → one.local ≡ false → one.facts ≡ Some facts → slice_get (staged_list 1 all) number ≡ Some (plain_system place one facts)
stands-there all early later one facts place number is at counted staged known =
    ap (λ list. slice_get (staged_list 1 list) number) is
    ∙ ap (λ list. slice_get list number) (systems-append (λ one. not one.local) 1 place early (system one ∷ later) (omega arith))
    ∙ ap (λ b. slice_get (staged_list 1 early ++ ((if not b then with_facts place one one.facts else []) ++ staged_list (suc place) later)) number) staged
    ∙ ap (λ found. slice_get (staged_list 1 early ++ (with_facts place one found ++ staged_list (suc place) later)) number) known
    ∙ ap (λ n. slice_get (staged_list 1 early ++ plain_system place one facts ∷ staged_list (suc place) later) n) (counted ∙ sym (listed-staged 1 early))
    ∙ get-seam (staged_list 1 early) (staged_list (suc place) later) (plain_system place one facts)
