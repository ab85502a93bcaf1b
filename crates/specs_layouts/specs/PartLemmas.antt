-- Puts of a part, from a test of the index.
use Rattle.std.specs.Prelude.{◌≡◌, ◌≢◌, ℕ, Bool, true, false, Option}
use Rattle.std.proofs.Common.{cond, ap, ◌∙◌}
use Rattle.specs_layouts.specs.Parts.{Puts}

-- what is read under a test that passes at one index alone
pub Puts-by_test : {T : Type 0} (before after : ℕ → Option T) (test : ℕ → Bool) (index : ℕ) (part : Option T) → test index ≡ true → ((other : ℕ) → other ≢ index → test other ≡ false) → ((other : ℕ) → after other ≡ cond (test other) part (before other)) → Puts before index part after
Puts-by_test before after test index part here there reads =
    record {
      here = reads index ∙ ap (λ b. cond b part (before index)) here;
      others = λ other apart. reads other ∙ ap (λ b. cond b part (before other)) (there other apart);
    }
