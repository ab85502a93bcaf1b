-- Links that are chained by their targets.
use Rattle.std.proofs.Common.{◌≡◌, ◌≢◌, ◌<◌, ◌≤◌, ◌+◌, ◌-◌, ◌⊎◌, inl, inr, ℕ, Bool, true, false, cond, eqb, List, [], ◌∷◌, ◌++◌, length, Option, Some, refl, sym, ◌∙◌, ap, subst, arith}
use Rattle.std.specs.Option.{unwrap_or}
use Rattle.std.proofs.lemmas.Bool.{false≢true, eq-eqb, ne_eqb, cases_eq}
use Rattle.std.proofs.lemmas.List.{length-append, get_or_append_left}
use Rattle.std.proofs.Math.Seq.{get_or-append_seam}
use Rattle.shred_world.specs.Worlds.{Slots}
use Rattle.scene_world.specs.Standing.{Kinds}
use Rattle.scene_commands.specs.declared.holders.Link.{Link}
use Rattle.scene_commands.specs.declared.holders.Holders.{Holders}
use Rattle.scene_commands.specs.Links.{no_link, link_at, end_in, Holds, IsEnd, IsChained, IsNone, Grows, Covers}

-- what a table keeps for a target, where it may be another from now on
pub kept-end : (here : Bool) (end is : ℕ) (before : Option ℕ) → end ≡ is → unwrap_or (cond here (Some end) before) 0 ≡ cond here is (unwrap_or before 0)
kept-end true end is before same = same
kept-end false end is before same = refl

-- no link, and nothing kept for any target
pub chained-none : (ends : ℕ → ℕ) → ((target : ℕ) → ends target ≡ 0) → IsChained ends []
chained-none ends zeros = record {
  last = λ target. record {
    within = let zero = zeros target in omega (arith, zero);
    here = λ some. absurd (let zero = zeros target in omega (arith, some, zero));
    none = λ place low below. absurd (omega (arith, below));
  };
  before = λ place below. absurd (omega (arith, below));
}

module _ (links : List Link) (link : Link) where
  abbrev pub more : List Link
  more = links ++ link ∷ []

  long : length more ≡ length links + 1
  long = length-append links (link ∷ [])

  old-link : (place : ℕ) → place < length links → link_at more place ≡ link_at links place
  old-link place below = get_or_append_left links (link ∷ []) no_link place below

  new-link : link_at more (length links) ≡ link
  new-link = get_or-append_seam links link [] no_link

  last-or : (place : ℕ) → place < length more → (place < length links) ⊎ (place ≡ length links)
  last-or place below = elim (cases_eq place (length links)) [
    | inl here ↦ inr here
    | inr apart ↦ inl (let l = long in omega (arith, below, l, apart))
  ]

  end-kept : (target bound end : ℕ) → bound ≤ length links → IsEnd links target bound end → IsEnd more target bound end
  end-kept target bound end short is = record {
    within = is.within;
    here = λ some. ap (λ l. l.target) (old-link (end - 1) (let within = is.within in omega (arith, some, within, short))) ∙ is.here some;
    none = λ place low below same. is.none place low below (sym (ap (λ l. l.target) (old-link place (omega (arith, below, short)))) ∙ same);
  }

  module _ (ends later : ℕ → ℕ) (puts : (target : ℕ) → later target ≡ cond (eqb link.target target) (length links + 1) (ends target)) (before : link.before ≡ ends link.target) (is : IsChained ends links) where
    end-later : (target : ℕ) → (link.target ≡ target) ⊎ (link.target ≢ target) → IsEnd more target (length more) (later target)
    end-later target (inl same) =
        let at : later target ≡ length links + 1 = puts target ∙ ap (λ b. cond b (length links + 1) (ends target)) (eq-eqb link.target target same) in
        record {
          within = let l = long in omega (arith, at, l);
          here = λ some. ap (λ place. (link_at more place).target) (let step : later target - 1 ≡ length links = omega (arith, at) in step) ∙ ap (λ l. l.target) new-link ∙ same;
          none = λ place low below. absurd (let l = long in omega (arith, at, low, below, l));
        }
    end-later target (inr apart) =
        let at : later target ≡ ends target = puts target ∙ ap (λ b. cond b (length links + 1) (ends target)) (ne_eqb link.target target apart) in
        let old = end-kept target (length links) (ends target) (omega arith) (is.last target) in
        record {
          within = let within = old.within in let l = long in omega (arith, at, within, l);
          here = λ some. ap (λ end. (link_at more (end - 1)).target) at ∙ old.here (omega (arith, some, at));
          none = λ place low below same. elim (last-or place below) [
            | inl early ↦ old.none place (omega (arith, low, at)) early same
            | inr last ↦ apart (sym (ap (λ l. l.target) new-link) ∙ (ap (λ p. (link_at more p).target) (sym last) ∙ same))
          ];
        }

    before-later : (place : ℕ) → (place < length links) ⊎ (place ≡ length links) → IsEnd more (link_at more place).target place (link_at more place).before
    before-later place (inl early) =
        subst (λ l. IsEnd more l.target place l.before) (sym (old-link place early)) (end-kept _ place _ (omega (arith, early)) (is.before place early))
    before-later place (inr last) =
        subst (λ p. IsEnd more (link_at more p).target p (link_at more p).before) (sym last)
        (subst (λ l. IsEnd more l.target (length links) l.before) (sym new-link)
        (subst (IsEnd more link.target (length links)) (sym before) (end-kept link.target (length links) (ends link.target) (omega arith) (is.last link.target))))

    -- one link more, behind which its target's end stands from then on
    pub chained-more : IsChained later more
    chained-more = record {
      last = λ target. end-later target (cases_eq link.target target);
      before = λ place below. before-later place (last-or place below);
    }

  -- who holds on to whom: as before, and by this link
  pub holds-kept : (holder target : ℕ) → Holds links holder target → Holds more holder target
  holds-kept holder target holds =
      let same = old-link holds.0 holds.1 in
      (holds.0, (let below = holds.1 in let l = long in omega (arith, below, l)), ap (λ l. l.holder) same ∙ holds.2, ap (λ l. l.target) same ∙ holds.3)

  pub holds-last : (holder target : ℕ) → link.holder ≡ holder → link.target ≡ target → Holds more holder target
  holds-last holder target of to = (length links, (let l = long in omega (arith, l)), ap (λ l. l.holder) new-link ∙ of, ap (λ l. l.target) new-link ∙ to)

-- an index grows by nothing
pub grows-not : (holders : Holders) → IsChained (end_in holders.ends) holders.links.items → Grows holders holders
grows-not holders chained = record { chained = chained; kept = λ holder target holds. holds; made = refl }

-- and by what more comes behind
pub grows-further : (old mid new : Holders) → Grows old mid → Grows mid new → Grows old new
grows-further old mid new first then = record {
  chained = then.chained;
  kept = λ holder target holds. then.kept holder target (first.kept holder target holds);
  made = then.made ∙ first.made;
}

-- an index that nobody has needed yet covers each world
pub none-covers : {V : Type 0} (kinds : Kinds V) (holders : Holders) (w : Slots V) → IsNone holders → Covers kinds holders w
none-covers kinds holders w none = record { chained = none.chained; linked = λ made. absurd (false≢true (sym none.unmade ∙ made)) }
