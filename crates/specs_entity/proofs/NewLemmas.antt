-- What a birth brings: an entity that was never born before, which then lives.
use Rattle.std.proofs.Common.{All, ◌≡◌, ◌≢◌, ℕ, zero, suc, ◌+◌, ◌<◌, ◌≤◌, List, [], ◌∷◌, ◌++◌, Bool, true, false, cond, eqb, length, get_or, Option, Some, None, inl, inr, refl, sym, ap, ◌∙◌, subst, arith, get_or-set_same}
use Rattle.std.specs.Prelude.{◌==◌}
use Rattle.std.specs.FinSet as fin
use Rattle.std.specs.Cmp.{nat_eq_equiv}
use Rattle.std.specs.List.{IsDistinct, list_any}
use Rattle.std.proofs.lemmas.Bool.{cases_eq, eq-eqb, or_right}
use Rattle.std.proofs.lemmas.List.{map-append}
use Rattle.std.proofs.lemmas.List.Elements.{All-nil, All-push, All-weaker, All-map}
use Rattle.std.proofs.lemmas.List.Folds.{list_any_none}
use Rattle.std.proofs.lemmas.Map.Keys.{IsDistinct-push}
use Rattle.std.proofs.lemmas.Option.{same_Some, none-some}
use Rattle.specs_entity.specs.Life.{Life, LifeAt}
use Rattle.specs_entity.specs.Births.{Births, persistent_at, living, living_of, alive_of, count, number_of, next_life, with_next_taken, next_index, newborn, allocated, created, IndicesAreSpent, IsBorn, IsAlive, Continues, AreNew, CanCreate, all_created, newborns, indices_of, LivesOn, BringsToLife, AreFresh}
use Rattle.specs_entity.specs.Layout.{AreBirths}
use Rattle.specs_entity.proofs.CreateLemmas.{AreBirths-all_created}
use Rattle.specs_entity.proofs.LawLemmas.{continues-through}
use Rattle.hibitset_sets.proofs.CallerLemmas.{contains-with}
use Rattle.specs_entity.proofs.ListLemmas.{CanKill-nil}
use Rattle.specs_entity.proofs.BirthLemmas.{not-equal, more-none, next-taken, dead-lasting, living-lasting, living-fresh, count-lasting, count-fresh, living-with_life, count-with_life, living-freshened, fresh-same, fresh-other}

pub born-stays : (before after : Births) (entity : LifeAt) → Continues before after → IsBorn before entity → IsBorn after entity
born-stays before after entity goes born = (born.0, born.1, (let more = goes.births entity.id in let low = born.2 in omega arith))

at-either : (b : Bool) (lasts : List (Option Life)) (other : ℕ) → get_or (cond b (lasts ++ None ∷ []) lasts) other None ≡ get_or lasts other None
at-either true lasts other = more-none lasts other
at-either false lasts other = refl

module _ (births : Births) (kept : AreBirths births) (left : ¬ (IndicesAreSpent births)) where
  taken-at : (other : ℕ) → persistent_at (with_next_taken births) other ≡ persistent_at births other
  taken-at other = at-either (length births.cache == 0) births.persistent other

  pub taken-lives : (other : ℕ) → living (with_next_taken births) other ≡ living births other
  taken-lives other = ap (living_of (fin.contains births.fresh other)) (taken-at other)

  taken-count : (other : ℕ) → count (with_next_taken births) other ≡ count births other
  taken-count other = ap (λ last. number_of last + cond (fin.contains births.fresh other) 1 0) (taken-at other)

  unfresh : fin.contains births.fresh (next_index births) ≡ false
  unfresh = dead-lasting (with_next_taken births) (next_index births) (next-taken births kept left).free.dead

  pub is-new : IsBorn births (newborn births) → ⊥
  is-new born =
      let n : count births (next_index births) ≡ number_of (persistent_at births (next_index births)) + 0 = count-lasting births (next_index births) unfresh in
      let low = born.2 in
      absurd (omega arith)

  -- where only the next index has one birth more, and that lives, nothing is lost
  begun-continues : (after : Births) → living after (next_index births) ≡ Some (newborn births).generation → count after (next_index births) ≡ number_of (persistent_at births (next_index births)) + 1
      → ((other : ℕ) → other ≢ next_index births → living after other ≡ living births other) → ((other : ℕ) → other ≢ next_index births → count after other ≡ count births other) → Continues births after
  begun-continues after lives counts lives_else counts_else =
      let index : ℕ = next_index births in
      let n : count births index ≡ number_of (persistent_at births index) + 0 = count-lasting births index unfresh in
      record {
        births = λ other. elim (cases_eq other index) [
          | inl e ↦ subst (λ q. count births q ≤ count after q) (sym e) (omega arith)
          | inr ne ↦ let same = counts_else other ne in omega arith
        ];
        lives = λ other life is. elim (cases_eq other index) [
          | inl e ↦
              let this : life.number ≡ number_of (persistent_at births index) + 1 = ap (λ (l : Life). l.number) (same_Some life (newborn births).generation (sym is ∙ ap (living after) e ∙ lives)) in
              let here : count births other ≡ number_of (persistent_at births index) + 0 = ap (count births) e ∙ n in
              inr (omega arith)
          | inr ne ↦ inl (sym (lives_else other ne) ∙ is)
        ];
      }

  allocated-last : persistent_at (allocated births) (next_index births) ≡ Some (newborn births).generation
  allocated-last = get_or-set_same (with_next_taken births).persistent (next_index births) (Some (newborn births).generation) None (next-taken births kept left).free.used

  pub allocated-lives : IsAlive (allocated births) (newborn births)
  allocated-lives = living-lasting (allocated births) (next_index births) unfresh ∙ ap alive_of allocated-last

  pub allocate-continues : Continues births (allocated births)
  allocate-continues =
      begun-continues (allocated births) allocated-lives
      (let lasting : count (allocated births) (next_index births) ≡ number_of (persistent_at (allocated births) (next_index births)) + 0 = count-lasting (allocated births) (next_index births) unfresh in
      let number : number_of (persistent_at (allocated births) (next_index births)) ≡ number_of (persistent_at births (next_index births)) + 1 = ap number_of allocated-last in
      omega arith)
      (λ other ne. living-with_life (with_next_taken births) (next_index births) (newborn births).generation other ne ∙ taken-lives other)
      (λ other ne. count-with_life (with_next_taken births) (next_index births) (newborn births).generation other ne ∙ taken-count other)

  pub created-lives : IsAlive (created births) (newborn births)
  created-lives = living-fresh (created births) (next_index births) (fresh-same (with_next_taken births) (next_index births)) ∙ ap (λ last. Some (next_life last)) (taken-at (next_index births))

  pub create-continues : Continues births (created births)
  create-continues =
      begun-continues (created births) created-lives
      (count-fresh (created births) (next_index births) (fresh-same (with_next_taken births) (next_index births)) ∙ ap (λ last. number_of last + 1) (taken-at (next_index births)))
      (λ other ne. living-freshened (with_next_taken births) (next_index births) other ne ∙ taken-lives other)
      (λ other ne. ap (λ b. number_of (persistent_at (with_next_taken births) other) + cond b 1 0) (fresh-other (with_next_taken births) (next_index births) other ne) ∙ taken-count other)

-- ---- births in a row

next-low : (births : Births) → AreBirths births → ¬ (IndicesAreSpent births) → next_index births < 16777216
next-low births kept left =
    let taken = next-taken births kept left in
    let used = taken.kept.used in
    let most = taken.kept.indices in
    let free = taken.free.used in
    omega arith

other-index : (births : Births) (kept : AreBirths births) (left : ¬ (IndicesAreSpent births)) (entity : LifeAt) → IsAlive births entity → entity.id ≢ next_index births
other-index births kept left entity alive here =
    none-some entity.generation
    (sym (next-taken births kept left).free.dead ∙ taken-lives births kept left (next_index births) ∙ ap (living births) (sym here) ∙ alive)

-- who lives before a birth lives after it
pub still-lives : (births : Births) (kept : AreBirths births) (left : ¬ (IndicesAreSpent births)) → LivesOn births (created births)
still-lives births kept left entity alive =
    living-freshened (with_next_taken births) (next_index births) entity.id (other-index births kept left entity alive)
    ∙ (taken-lives births kept left entity.id ∙ alive)

-- where the newborn lives, and each other index is as it was
brings : (births : Births) (entity : LifeAt) (after : Births) → IsAlive after entity → ((other : ℕ) → other ≢ entity.id → living after other ≡ living births other) → BringsToLife births entity after
brings births entity after alive others index =
    elim (cases_eq index entity.id) [
      | inl e ↦ ap (living after) e ∙ alive ∙ sym (ap (λ b. cond b (Some entity.generation) (living births index)) (eq-eqb index entity.id e))
      | inr ne ↦ others index ne ∙ sym (ap (λ b. cond b (Some entity.generation) (living births index)) (not-equal index entity.id ne))
    ]

pub created-brings : (births : Births) (kept : AreBirths births) (left : ¬ (IndicesAreSpent births)) → BringsToLife births (newborn births) (created births)
created-brings births kept left =
    brings births (newborn births) (created births) (created-lives births kept left)
    (λ other ne. living-freshened (with_next_taken births) (next_index births) other ne ∙ taken-lives births kept left other)

pub continues-same : (births : Births) → Continues births births
continues-same births = record { births = λ index. omega arith; lives = λ index life is. inl is }

pub all_created-continues : (number : ℕ) (births : Births) → AreBirths births → CanCreate number births → Continues births (all_created number births)
all_created-continues zero births kept can = continues-same births
all_created-continues (suc more) births kept can =
    continues-through births (all_created more births) (created (all_created more births)) (all_created-continues more births kept can.0)
    (create-continues (all_created more births) (AreBirths-all_created more births kept can.0) can.1)

pub newborns-new : (number : ℕ) (births : Births) → AreBirths births → CanCreate number births → AreNew births (newborns number births) (all_created number births)
newborns-new zero births kept can =
    record {
      unborn = All-nil (λ (e : LifeAt). ¬ (IsBorn births e));
      range = All-nil (λ (e : LifeAt). e.id < 16777216);
      live = CanKill-nil (living births);
    }
newborns-new (suc more) births kept can =
    let before : Births = all_created more births in
    let there : AreBirths before = AreBirths-all_created more births kept can.0 in
    let earlier = newborns-new more births kept can.0 in
    let list = newborns more births in
    let one = newborn before in
    let apart : list_any (λ other. eqb one.id other) (indices_of list) ≡ false =
    list_any_none (λ other. eqb one.id other) (indices_of list)
    (All-map (λ index. eqb one.id index ≡ false) (λ (e : LifeAt). e.id) list
    (All-weaker (λ (e : LifeAt). living before e.id ≡ Some e.generation) (λ (e : LifeAt). eqb one.id e.id ≡ false) (λ e lives. not-equal one.id e.id (λ same. other-index before there can.1 e lives (sym same))) list earlier.live.alive)) in
    record {
      unborn = All-push (λ (e : LifeAt). ¬ (IsBorn births e)) list one earlier.unborn (λ born. is-new before there can.1 (born-stays births before one (all_created-continues more births kept can.0) born));
      range = All-push (λ (e : LifeAt). e.id < 16777216) list one earlier.range (next-low before there can.1);
      live = record {
        alive = All-push (λ (e : LifeAt). living (created before) e.id ≡ Some e.generation) list one
            (All-weaker (λ (e : LifeAt). living before e.id ≡ Some e.generation) (λ (e : LifeAt). living (created before) e.id ≡ Some e.generation) (λ e lives. still-lives before there can.1 e lives) list earlier.live.alive)
            (created-lives before there can.1);
        apart = subst (IsDistinct eqb) (sym (map-append (λ (e : LifeAt). e.id) list (one ∷ []))) (IsDistinct-push nat_eq_equiv (indices_of list) one.id earlier.live.apart apart);
      };
    }

pub all_created-live_on : (number : ℕ) (births : Births) → AreBirths births → CanCreate number births → LivesOn births (all_created number births)
all_created-live_on zero births kept can entity alive = alive
all_created-live_on (suc more) births kept can entity alive =
    still-lives (all_created more births) (AreBirths-all_created more births kept can.0) can.1 entity (all_created-live_on more births kept can.0 entity alive)

-- a fresh birth stays so by the next
fresh-stays : (births : Births) (index : ℕ) → fin.contains births.fresh index ≡ true → fin.contains (created births).fresh index ≡ true
fresh-stays births index is = contains-with births.fresh (next_index births) index ∙ or_right (eqb index (next_index births)) _ is

newborns-fresh-all : (number : ℕ) (births : Births) → All (λ (e : LifeAt). fin.contains (all_created number births).fresh e.id ≡ true) (newborns number births)
newborns-fresh-all zero births = All-nil (λ (e : LifeAt). fin.contains births.fresh e.id ≡ true)
newborns-fresh-all (suc more) births =
    let before : Births = all_created more births in
    All-push (λ (e : LifeAt). fin.contains (created before).fresh e.id ≡ true) (newborns more births) (newborn before)
    (All-weaker (λ (e : LifeAt). fin.contains before.fresh e.id ≡ true) (λ (e : LifeAt). fin.contains (created before).fresh e.id ≡ true) (λ e is. fresh-stays before e.id is) (newborns more births) (newborns-fresh-all more births))
    (fresh-same (with_next_taken before) (next_index before))

pub newborns-fresh : (number : ℕ) (births : Births) → AreBirths births → CanCreate number births → AreFresh (all_created number births) (newborns number births)
newborns-fresh number births kept can =
    record { fresh = newborns-fresh-all number births; apart = (newborns-new number births kept can).live.apart }
